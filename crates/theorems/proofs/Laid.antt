-- The bytes laid that a call states are those that its work lays: what is known of every plan says so of the accepted.
use mathlib.Core.Path.{◌≡◌, refl}
use Rattle.tables.specs.Model.{page_at}
use Rattle.steps.specs.declared.Plan.{Plan}
use Rattle.steps.specs.Steps.{Outcome, refuse, accept, mapped, page_for}
use Rattle.steps.specs.Effects.{laid_frames, bytes_laid, joined, carried_out, step, laid_by}
use Rattle.steps.proofs.DecideLaws.{IfAccepted, if_accepted}
use Rattle.steps.proofs.StepLaws.{joined_long, Sure, sure}
use Rattle.theorems.specs.Laid.{work_of, BytesCounted}

pub bytes_counted : BytesCounted
unfolding step laid_frames
bytes_counted s c bs = go _ (sure s c bs)
  where
    go : (o : Outcome Plan) → IfAccepted (Sure s c bs) o
        → laid_by (mapped (carried_out s c bs) o) ≡ bytes_laid (page_at s.tables (page_for c)) (work_of o) bs (joined s)
    go (refuse n) k = refl
    go (accept plan) (if_accepted u) = u.plan_ok.laid_is bs (joined s) refl (joined_long u.good)
