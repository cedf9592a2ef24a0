-- Document 01, "The steps": the table of kinds. Of each kind: what its calls name, the form of its replies' data, and
-- its number. The lengths of its messages, the places of its arguments and what 7 is tested for follow.
use Rattle.std.specs.Prelude.{ℕ, ◌+◌, ◌-◌, Bool, false, ◌||◌, cond, List, [], ◌∷◌, ◌++◌, length, get_or, ltb, eqb}
use Rattle.steps.specs.declared.Kind.{Kind}
use Rattle.steps.specs.declared.Kind.TheVariants.{Create, DeletePage, Grant, Read, Write, MakeCopy, DeleteCopy, SetCurrent, RemoveCurrent, LookPage, LookFrame, Retire}
use Rattle.steps.specs.declared.Data.{Data}
use Rattle.steps.specs.declared.Call.{Call}

-- what a call may name; `other` is the other station of a grant, and `bytes` are a write's
pub data Name : Type 0 where
  station : Name
  page : Name
  other : Name
  right : Name
  offset : Name
  count : Name
  bytes : Name
  copy : Name
  frame : Name

-- "create (station, page)" and so on, in the order of the arguments
unfoldable pub names : Kind → List Name
names Create = station ∷ page ∷ []
names DeletePage = station ∷ page ∷ []
names Grant = station ∷ page ∷ other ∷ right ∷ []
names Read = station ∷ page ∷ offset ∷ count ∷ []
names Write = station ∷ page ∷ offset ∷ bytes ∷ []
names MakeCopy = page ∷ copy ∷ frame ∷ []
names DeleteCopy = page ∷ copy ∷ []
names SetCurrent = page ∷ copy ∷ []
names RemoveCurrent = page ∷ copy ∷ []
names LookPage = page ∷ []
names LookFrame = frame ∷ []
-- document 02, request [5]: "retire (frame)"
names Retire = frame ∷ []

-- what the data of its accepted reply are: "then the bytes of a read or look"
unfoldable pub tells : Kind → Data
tells Create = Data.Empty
tells DeletePage = Data.Empty
tells Grant = Data.Empty
tells Read = Data.Bytes
tells Write = Data.Empty
tells MakeCopy = Data.Empty
tells DeleteCopy = Data.Empty
tells SetCurrent = Data.Empty
tells RemoveCurrent = Data.Empty
tells LookPage = Data.Copies
tells LookFrame = Data.Holder
tells Retire = Data.Empty

-- "a kind byte .. as numbered above", 1 to 12
abbrev pub kind_number : Kind → ℕ
kind_number Create = 1
kind_number DeletePage = 2
kind_number Grant = 3
kind_number Read = 4
kind_number Write = 5
kind_number MakeCopy = 6
kind_number DeleteCopy = 7
kind_number SetCurrent = 8
kind_number RemoveCurrent = 9
kind_number LookPage = 10
kind_number LookFrame = 11
kind_number Retire = 12

-- "4. read (station, page, offset, count)"
abbrev pub is_read : Kind → Bool
is_read k = eqb (kind_number k) (kind_number Read)

-- document 02, request [5]: "Kind 12, retire (frame)"
abbrev pub is_retire : Kind → Bool
is_retire k = eqb (kind_number k) (kind_number Retire)

-- the kinds in the order of their numbers
unfoldable pub kinds : List Kind
kinds =
    Create ∷ DeletePage ∷ Grant ∷ Read ∷ Write ∷ MakeCopy ∷ DeleteCopy ∷ SetCurrent ∷ RemoveCurrent ∷ LookPage
    ∷ LookFrame ∷ Retire ∷ []

-- 3: a byte that is no kind's number
abbrev pub is_unknown : ℕ → Bool
is_unknown number = eqb number 0 || ltb (length kinds) number

-- the kind with this number; an unknown number gives Create, and `parse` and the writer test `is_unknown` before
abbrev pub kind_of : ℕ → Kind
kind_of number = get_or kinds (number - 1) Create

-- ---- what follows

unfoldable pub code : Name → ℕ
code station = 0
code page = 1
code other = 2
code right = 3
code offset = 4
code count = 5
code bytes = 6
code copy = 7
code frame = 8

abbrev pub same_name : Name → Name → Bool
same_name x y = eqb (code x) (code y)

unfoldable pub among : Name → List Name → Bool
among x [] = false
among x (y ∷ ys) = same_name x y || among x ys

-- whether calls of kind k name x
abbrev pub has : Name → Kind → Bool
has x k = among x (names k)

-- "So L is ..": the version, the kind, and a byte for each argument; "write ends with 1 to 64 bytes"
abbrev pub least_length : Kind → ℕ
least_length k = 2 + length (names k)

abbrev pub most_length : Kind → ℕ
most_length k = least_length k + cond (has bytes k) 63 0

-- "then the arguments in the order above, one byte each": the argument x among the bytes bs from index i on; 0 where
-- there is none
unfoldable pub argument : Name → ℕ → List Name → List ℕ → ℕ
argument x i [] bs = 0
argument x i (y ∷ ys) bs = cond (same_name x y) (get_or bs i 0) (argument x (i + 1) ys bs)

-- the call of kind k with the arguments bs
unfoldable pub call_of : Kind → List ℕ → Call
call_of k bs =
    record {
      kind = k;
      station = argument station 0 (names k) bs;
      page = argument page 0 (names k) bs;
      other = argument other 0 (names k) bs;
      right = argument right 0 (names k) bs;
      offset = argument offset 0 (names k) bs;
      count = argument count 0 (names k) bs;
      copy = argument copy 0 (names k) bs;
      frame = argument frame 0 (names k) bs;
    }

-- the bytes of x in a message of call c; a write has the bytes bs
unfoldable pub value : Name → Call → List ℕ → List ℕ
value station c bs = c.station ∷ []
value page c bs = c.page ∷ []
value other c bs = c.other ∷ []
value right c bs = c.right ∷ []
value offset c bs = c.offset ∷ []
value count c bs = c.count ∷ []
value bytes c bs = bs
value copy c bs = c.copy ∷ []
value frame c bs = c.frame ∷ []

-- "the arguments in the order above, one byte each; write ends with 1 to 64 bytes"
unfoldable pub values : List Name → Call → List ℕ → List ℕ
values [] c bs = []
values (x ∷ xs) c bs = value x c bs ++ values xs c bs
