-- Request [7]: what `SameBut` takes for the same; a pair of files on the right kernel; and wrong kernels that leak
-- contents. Computed.
use Rattle.std.specs.Prelude.{ℕ, ◌≡◌, refl, Bool, true, false, ◌&&◌, length, take, get_or, set, replicate, eqb}
use Rattle.std.proofs.Common.{ap, true≢false}
use mathlib.Core.List.{List, [], ◌∷◌, ◌++◌, map, flatten}
use Rattle.tables.specs.declared.Tables.{Tables}
use Rattle.tables.specs.Model.{fresh_copy, fresh_tables, page_at}
use Rattle.tables.specs.Changes.{new_copy, change_to, after}
use Rattle.steps.specs.declared.Call.{Call}
use Rattle.steps.specs.Kinds.{kind_number, names, kinds, code, among, argument, call_of}
use Rattle.steps.specs.Stores.{part, block, zeros}
use Rattle.steps.specs.Steps.{Outcome, refuse, accept, copy_at}
use Rattle.steps.specs.Effects.{bit, State, joined, Result}
use Rattle.messages.specs.Messages.{parse}
use Rattle.messages.specs.Replies.{reply}
use Rattle.messages.specs.Run.{Sent, cut, whole, asked, bytes_of, split, messages_of}
use Rattle.theorems.specs.Cases.{run_on, replies_of, refused_with, laid_reply, right_turn}
use Rattle.theorems.specs.Impostors.{Kernel, turns_by, except, state₄}
use Rattle.theorems.specs.Hidden.{covered, SameBut, reply_covered, taken_covered}

-- ---- what counts as the same messages

-- writes of a byte: one, one by a station without right, one of it 65 times and one without it, refused 4, and one cut
-- short
abbrev pub writes_of : ℕ → List ℕ
writes_of b =
    (0 ∷ 6 ∷ 1 ∷ 5 ∷ 3 ∷ 5 ∷ 0 ∷ b ∷ []) ++ (0 ∷ 6 ∷ 1 ∷ 5 ∷ 4 ∷ 5 ∷ 0 ∷ b ∷ [])
    ++ (0 ∷ 70 ∷ 1 ∷ 5 ∷ 3 ∷ 5 ∷ 0 ∷ replicate 65 b) ++ (0 ∷ 5 ∷ 1 ∷ 5 ∷ 3 ∷ 5 ∷ 0 ∷ [])
    ++ (0 ∷ 7 ∷ 1 ∷ 5 ∷ 3 ∷ 5 ∷ 0 ∷ b ∷ [])

pub same_writes : SameBut (messages_of (writes_of 0)) (messages_of (writes_of 255))
unfolding messages_of split covered
same_writes = refl

-- of a message cut short, whatever it is and however long
pub same_cut : SameBut (messages_of (0 ∷ [])) (messages_of (0 ∷ 9 ∷ 1 ∷ 1 ∷ 3 ∷ []))
unfolding messages_of split
same_cut = refl

-- one message, after its length
abbrev pub one_sent : List ℕ → List Sent
one_sent m = whole m ∷ []

-- how long the first message is, and a byte of it
abbrev pub long_at : List Sent → ℕ
long_at [] = 0
long_at (cut ∷ xs) = 0
long_at (whole m ∷ xs) = length m

abbrev pub byte_at : ℕ → List Sent → ℕ
byte_at i [] = 0
byte_at i (cut ∷ xs) = 0
byte_at i (whole m ∷ xs) = get_or m i 0

-- another offset; a byte more; a byte of a message of version 2, and an argument of a read
pub not_offset : SameBut (one_sent (1 ∷ 5 ∷ 3 ∷ 5 ∷ 0 ∷ 9 ∷ [])) (one_sent (1 ∷ 5 ∷ 3 ∷ 5 ∷ 1 ∷ 9 ∷ [])) → ⊥
unfolding covered
not_offset e = true≢false (ap (λ (xs : List Sent). eqb (byte_at 4 xs) 0) e)

pub not_longer : SameBut (one_sent (1 ∷ 5 ∷ 3 ∷ 5 ∷ 0 ∷ 9 ∷ [])) (one_sent (1 ∷ 5 ∷ 3 ∷ 5 ∷ 0 ∷ 9 ∷ 9 ∷ [])) → ⊥
unfolding covered
not_longer e = true≢false (ap (λ (xs : List Sent). eqb (long_at xs) 6) e)

pub not_foreign : SameBut (one_sent (2 ∷ 5 ∷ 3 ∷ 5 ∷ 0 ∷ 9 ∷ [])) (one_sent (2 ∷ 5 ∷ 3 ∷ 5 ∷ 0 ∷ 8 ∷ [])) → ⊥
not_foreign e = true≢false (ap (λ (xs : List Sent). eqb (byte_at 5 xs) 9) e)

pub not_read : SameBut (one_sent (1 ∷ 4 ∷ 3 ∷ 5 ∷ 0 ∷ 9 ∷ [])) (one_sent (1 ∷ 4 ∷ 3 ∷ 5 ∷ 0 ∷ 8 ∷ [])) → ⊥
not_read e = true≢false (ap (λ (xs : List Sent). eqb (byte_at 5 xs) 9) e)

-- ---- a pair of files

-- Page 5 is created, and station 4 writes a byte, which it may not; the page is copied to frame 0, set current and
-- copied to frame 1, all zeros; then its owner writes the byte, and what placement can see of that follows: a look, a
-- copy to frame 2, and after a read the first copy deleted, and another look.
abbrev pub file_of : ℕ → List ℕ
file_of b =
    (0 ∷ 4 ∷ 1 ∷ 1 ∷ 3 ∷ 5 ∷ []) ++ (0 ∷ 6 ∷ 1 ∷ 5 ∷ 4 ∷ 5 ∷ 0 ∷ b ∷ []) ++ (0 ∷ 5 ∷ 1 ∷ 6 ∷ 5 ∷ 0 ∷ 0 ∷ [])
    ++ (0 ∷ 4 ∷ 1 ∷ 8 ∷ 5 ∷ 0 ∷ []) ++ (0 ∷ 5 ∷ 1 ∷ 6 ∷ 5 ∷ 0 ∷ 1 ∷ []) ++ (0 ∷ 6 ∷ 1 ∷ 5 ∷ 3 ∷ 5 ∷ 0 ∷ b ∷ [])
    ++ (0 ∷ 3 ∷ 1 ∷ 10 ∷ 5 ∷ []) ++ (0 ∷ 5 ∷ 1 ∷ 6 ∷ 5 ∷ 0 ∷ 2 ∷ []) ++ (0 ∷ 6 ∷ 1 ∷ 4 ∷ 3 ∷ 5 ∷ 0 ∷ 2 ∷ [])
    ++ (0 ∷ 4 ∷ 1 ∷ 7 ∷ 5 ∷ 0 ∷ []) ++ (0 ∷ 3 ∷ 1 ∷ 10 ∷ 5 ∷ [])

-- a write of equal bytes, with P = 2 and S = 1; and one of another byte, on stores that differ in every byte
abbrev pub equal_written : List ℕ
equal_written = file_of 0

abbrev pub other_written : List ℕ
other_written = file_of 9

abbrev pub other_stores : State
other_stores = record { tables = fresh_tables 2 1; fast = replicate 128 0; slow = replicate 64 0 }

pub same_files : SameBut (messages_of equal_written) (messages_of other_written)
unfolding messages_of split covered
same_files = refl

-- the replies, of which only the read's data differ
abbrev pub replies_with : ℕ → List (List ℕ)
replies_with b =
    laid_reply 0 ∷ refused_with 10 ∷ laid_reply 64 ∷ laid_reply 0 ∷ laid_reply 64 ∷ laid_reply 1
    ∷ (0 ∷ 11 ∷ 1 ∷ 0 ∷ 0 ∷ 0 ∷ 2 ∷ 0 ∷ 1 ∷ 1 ∷ 1 ∷ 0 ∷ 0 ∷ []) ∷ laid_reply 64
    ∷ (0 ∷ 6 ∷ 1 ∷ 0 ∷ 0 ∷ 0 ∷ b ∷ 0 ∷ []) ∷ laid_reply 64
    ∷ (0 ∷ 11 ∷ 1 ∷ 0 ∷ 0 ∷ 0 ∷ 2 ∷ 1 ∷ 0 ∷ 0 ∷ 2 ∷ 0 ∷ 1 ∷ []) ∷ []

pub equal_replies : replies_of state₄ equal_written ≡ replies_with 0
unfolding run_on
equal_replies = refl

pub other_replies : replies_of other_stores other_written ≡ replies_with 9
unfolding run_on
other_replies = refl

-- what is seen of them is the same
pub replies_hide : taken_covered (messages_of equal_written) (flatten (replies_with 0))
    ≡ taken_covered (messages_of other_written) (flatten (replies_with 9))
unfolding taken_covered messages_of split parse names kinds code among argument call_of covered flatten
replies_hide = refl

-- ---- wrong kernels: a byte that differs in what is seen of their replies

-- page 5 with copies on frames 0 and 1, of which the first is CURRENT and both are MOST RECENT, as the first five
-- messages of that file leave it
abbrev pub standing : Tables
standing =
    after (fresh_tables 2 1) (change_to 5 (record {
      rights = set (replicate 16 1) 3 2;
      copies =
          set (set (replicate 8 fresh_copy) 0 (record { frame = 0; current = true; recent = true })) 1
          (new_copy 1 true);
      owner = 3;
      n = 2;
    }) 255)

pub five_leave : (run_on state₄ (take 34 equal_written)).final.tables ≡ standing
unfolding run_on
five_leave = refl

-- contents: all zeros, and two copies that differ in every byte from these and from each other
abbrev pub zeroed : State
zeroed = record { tables = standing; fast = replicate 128 0; slow = replicate 64 0 }

abbrev pub filled : State
filled = record { tables = standing; fast = replicate 64 9 ++ replicate 64 8; slow = replicate 64 7 }

-- byte i of the reply to message m, both counted from 0, with the data of a read covered
abbrev pub seen_by : Kernel → State → List Sent → ℕ → ℕ → ℕ
seen_by k s xs m i = get_or (get_or (map (reply_covered 70) (turns_by k s xs)) m []) i 0

-- the same byte with the one contents and with the other
abbrev pub sees : Kernel → List Sent → ℕ → ℕ → ℕ × ℕ
sees k xs m i = (seen_by k zeroed xs m i, seen_by k filled xs m i)

-- the owner writes a 0, equal to what is stored in the first of these; a look at the page
abbrev pub zero_written : Sent
zero_written = whole (1 ∷ 5 ∷ 3 ∷ 5 ∷ 0 ∷ 0 ∷ [])

abbrev pub looked : Sent
looked = whole (1 ∷ 10 ∷ 5 ∷ [])

-- whether two lists of bytes are the same
unfoldable pub same_bytes : List ℕ → List ℕ → Bool
same_bytes [] [] = true
same_bytes [] (b ∷ l) = false
same_bytes (a ∷ k) [] = false
same_bytes (a ∷ k) (b ∷ l) = eqb a b && same_bytes k l

abbrev pub of_kind : ℕ → Call → Bool
of_kind n c = eqb (kind_number c.kind) n

-- what copy k of page 5 holds
abbrev pub held_by : State → ℕ → List ℕ
held_by s k = block (joined s) (copy_at (page_at s.tables 5) k).frame

-- whether a write changes no byte of the first copy
abbrev pub is_equal : State → Sent → Call → Bool
is_equal s x c = of_kind 5 c && same_bytes (part (held_by s 0) c.offset (length (bytes_of x))) (bytes_of x)

-- the right outcome, with other bytes laid, or with other data
abbrev pub with_laid : ℕ → Outcome Result → Outcome Result
with_laid n (refuse m) = refuse m
with_laid n (accept r) = accept (record { state = r.state; moved = r.moved; laid = n; data_out = r.data_out })

abbrev pub with_data : List ℕ → Outcome Result → Outcome Result
with_data l (refuse m) = refuse m
with_data l (accept r) = accept (record { state = r.state; moved = r.moved; laid = r.laid; data_out = l })

-- a write that spares stale marks when the bytes are equal
abbrev pub spares_equal : Kernel
spares_equal s x =
    except (is_equal s x) (λ c. accept (record { state = s; moved = false; laid = 1; data_out = [] })) s x (asked x)

-- MOST RECENT of the second copy, in the look: the last byte of 13
pub spares_leaks : sees spares_equal (zero_written ∷ looked ∷ []) 1 12 ≡ (1, 0)
unfolding turns_by right_turn parse names kinds code among argument call_of covered reply same_bytes part fresh_tables
    after
spares_leaks = refl

-- a make copy of an all-zero page that lays nothing
abbrev pub lays_no_zeros : Kernel
lays_no_zeros s x =
    except (λ c. of_kind 6 c && same_bytes (held_by s c.copy) zeros) (λ c. with_laid 0 (right_turn s x)) s x (asked x)

pub lays_leaks : sees lays_no_zeros (whole (1 ∷ 6 ∷ 5 ∷ 0 ∷ 2 ∷ []) ∷ []) 0 5 ≡ (0, 64)
unfolding turns_by right_turn parse names kinds code among argument call_of covered reply same_bytes part fresh_tables
    after
lays_leaks = refl

-- a delete that counts 64 only where the frame was not zeros already
abbrev pub counts_change : Kernel
counts_change s x =
    except (λ c. of_kind 7 c && same_bytes (held_by s c.copy) zeros) (λ c. with_laid 0 (right_turn s x)) s x (asked x)

pub counts_leaks : sees counts_change (whole (1 ∷ 7 ∷ 5 ∷ 0 ∷ []) ∷ []) 0 5 ≡ (0, 64)
unfolding turns_by right_turn parse names kinds code among argument call_of covered reply same_bytes part fresh_tables
    after
counts_leaks = refl

-- a look that tells whether two copies are equal, and nothing else
abbrev pub tells_equal : Kernel
tells_equal s x =
    except (of_kind 10) (λ c. with_data (bit (same_bytes (held_by s 0) (held_by s 1)) ∷ []) (right_turn s x)) s x
    (asked x)

pub tells_leaks : sees tells_equal (looked ∷ []) 0 6 ≡ (1, 0)
unfolding turns_by right_turn parse names kinds code among argument call_of covered reply same_bytes part fresh_tables
    after
tells_leaks = refl

-- bytes laid, and with them a tally, that count changed bytes
abbrev pub lays_changed : Kernel
lays_changed s x = except (is_equal s x) (λ c. with_laid 0 (right_turn s x)) s x (asked x)

pub changed_leaks : sees lays_changed (zero_written ∷ []) 0 5 ≡ (0, 1)
unfolding turns_by right_turn parse names kinds code among argument call_of covered reply same_bytes part fresh_tables
    after
changed_leaks = refl

-- replies to refused writes that echo a byte, in the place of the number
abbrev pub echoed : Sent → Outcome Result → Outcome Result
echoed x (refuse n) = refuse (get_or (bytes_of x) 0 n)
echoed x (accept r) = accept r

abbrev pub echoing : Kernel
echoing s x = except (of_kind 5) (λ c. echoed x (right_turn s x)) s x (asked x)

-- station 4 writes a byte, which it may not
abbrev pub written_by4 : ℕ → List Sent
written_by4 b = whole (1 ∷ 5 ∷ 4 ∷ 5 ∷ 0 ∷ b ∷ []) ∷ []

pub echo_leaks : (seen_by echoing zeroed (written_by4 0) 0 3 ≡ 0) × (seen_by echoing filled (written_by4 9) 0 3 ≡ 9)
unfolding turns_by right_turn parse names kinds code among argument call_of covered reply fresh_tables after
echo_leaks = (refl, refl)
