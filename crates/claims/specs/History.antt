-- Which write the bytes of each copy carry: the history of a page, told by the messages of a run and by which of them
-- were accepted. It sees no table and no store. Which copies are current it knows from the accepted messages that set
-- and remove the mark, and of MOST RECENT it knows nothing.
use Rattle.std.specs.Prelude.{ℕ, ◌+◌, Bool, true, false, ◌&&◌, cond, List, [], ◌∷◌, ◌++◌, map, take, drop, get_or, set, eqb}
use Rattle.tables.specs.Model.{null_frame}
use Rattle.steps.specs.declared.Kind.{Kind}
use Rattle.steps.specs.declared.Kind.TheVariants.{Create, DeletePage, Grant, Read, Write, MakeCopy, DeleteCopy, SetCurrent, RemoveCurrent, LookPage, LookFrame, Retire}
use Rattle.steps.specs.declared.Call.{Call}
use Rattle.steps.specs.Kinds.{page, has}
use Rattle.steps.specs.Stores.{splice, zeros}
use Rattle.steps.specs.Steps.{Outcome, refuse, accept}
use Rattle.messages.specs.Run.{Sent, asked, bytes_of}

-- ---- what it knows

-- an accepted write to a page: the number of its message, the first of a run being 1, and the page's bytes after it
pub record PageWrite : Type 0 where
  pub message : ℕ
  pub bytes : List ℕ

-- none yet: "the bytes 64 zeros"
abbrev pub unwritten : PageWrite
unwritten = record { message = 0; bytes = zeros }

-- a copy: the frame that it was made on, 255 for none; whether it is current; and the write that its bytes carry
pub record CopyHistory : Type 0 where
  pub frame : ℕ
  pub current : Bool
  pub carries : PageWrite

abbrev pub null_history : CopyHistory
null_history = record { frame = null_frame; current = false; carries = unwritten }

-- a page: whether it stands, its copies in their order, and the last accepted write to it
pub record PageHistory : Type 0 where
  pub stands : Bool
  pub copies : List CopyHistory
  pub last : PageWrite

abbrev pub absent_history : PageHistory
absent_history = record { stands = false; copies = []; last = unwritten }

-- ---- after an accepted call

abbrev pub copy_of : PageHistory → ℕ → CopyHistory
copy_of h k = get_or h.copies k null_history

abbrev pub with_copy_histories : PageHistory → List CopyHistory → PageHistory
with_copy_histories h cs = record { stands = h.stands; copies = cs; last = h.last }

-- "the page stands with one null copy": it begins with no write
abbrev pub begun : PageHistory
begun = record { stands = true; copies = null_history ∷ []; last = unwritten }

abbrev pub taking : PageWrite → CopyHistory → CopyHistory
taking w c = record { frame = c.frame; current = c.current; carries = cond c.current w c.carries }

-- message number n writes the bytes bs from offset o on: the current copies carry this write, the others what they
-- carried
abbrev pub wrote : ℕ → ℕ → List ℕ → PageHistory → PageHistory
wrote n o bs h =
    let w : PageWrite = record { message = n; bytes = splice h.last.bytes o bs } in
    record { stands = h.stands; copies = map (taking w) h.copies; last = w }

-- a copy of copy k on frame f carries what its source does; it takes the place of a null copy, and else "goes to the
-- end"
abbrev pub copied_to : ℕ → ℕ → PageHistory → PageHistory
copied_to k f h =
    let new : CopyHistory = record { frame = f; current = false; carries = (copy_of h k).carries } in
    with_copy_histories h (cond (eqb (copy_of h k).frame null_frame) (set h.copies k new) (h.copies ++ (new ∷ [])))

-- copy k goes, and "closes the gap"
abbrev pub dropped : ℕ → PageHistory → PageHistory
dropped k h = with_copy_histories h (take k h.copies ++ drop (k + 1) h.copies)

-- copy k is set current, or no more
abbrev pub switched : ℕ → Bool → PageHistory → PageHistory
switched k b h =
    with_copy_histories h
    (set h.copies k (record { frame = (copy_of h k).frame; current = b; carries = (copy_of h k).carries }))

-- an accepted call c of the page with history h, in message number n; a write has the bytes bs
unfoldable pub followed : Kind → ℕ → Call → List ℕ → PageHistory → PageHistory
followed Create n c bs h = begun
followed DeletePage n c bs h = absent_history
followed Grant n c bs h = h
followed Read n c bs h = h
followed Write n c bs h = wrote n c.offset bs h
followed MakeCopy n c bs h = copied_to c.copy c.frame h
followed DeleteCopy n c bs h = dropped c.copy h
followed SetCurrent n c bs h = switched c.copy true h
followed RemoveCurrent n c bs h = switched c.copy false h
followed LookPage n c bs h = h
followed LookFrame n c bs h = h
followed Retire n c bs h = h

-- ---- after a message

-- whether a call is one of page q
abbrev pub is_of : ℕ → Call → Bool
is_of q c = has page c.kind && eqb c.page q

abbrev pub followed_in : ℕ → ℕ → Outcome Call → List ℕ → PageHistory → PageHistory
followed_in q n (refuse m) bs h = h
followed_in q n (accept c) bs h = cond (is_of q c) (followed c.kind n c bs h) h

-- the history of page q after message number n, which was refused or accepted
unfoldable pub history_after : ℕ → ℕ → Sent → Bool → PageHistory → PageHistory
history_after q n x refused h = cond refused h (followed_in q n (asked x) (bytes_of x) h)
