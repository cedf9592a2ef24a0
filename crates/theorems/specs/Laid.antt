-- Document 01: "Every accepted reply states the bytes laid"; document 02, request [2]: "Each filled frame counts 64
-- bytes laid". The number that a call states is `bytes_laid` of its work: the frames that `stored` lays into times the
-- bytes laid into each, and 64 for a frame filled besides.
use Rattle.std.specs.Prelude.{ℕ, ◌≡◌, List, length}
use Rattle.tables.specs.Model.{page_at}
use Rattle.steps.specs.declared.Call.{Call}
use Rattle.steps.specs.declared.Work.{Work}
use Rattle.steps.specs.declared.Plan.{Plan}
use Rattle.steps.specs.Steps.{Outcome, refuse, accept, no_work, page_for, decide_any}
use Rattle.steps.specs.Effects.{bytes_laid, State, joined, step, laid_by}

-- of what a call comes to
abbrev pub work_of : Outcome Plan → Work
work_of (refuse n) = no_work
work_of (accept plan) = plan.work

-- the work of a call, which `stored` carries out; of a refused one `no_work`, which lays nothing
abbrev pub work_for : State → Call → List ℕ → Work
work_for s c bs = work_of (decide_any s.tables (length s.fast) (length s.slow) c (length bs))

-- of any call on any tables and stores
abbrev pub BytesCounted : Type 0
BytesCounted =
    (s : State) (c : Call) (bs : List ℕ)
    → laid_by (step s c bs) ≡ bytes_laid (page_at s.tables (page_for c)) (work_for s c bs) bs (joined s)
