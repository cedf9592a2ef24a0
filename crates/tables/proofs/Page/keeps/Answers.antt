-- `Page::keeps`, after a write: what `all_stay_recent` tests by a fold.
use mathlib.Core.Path.{◌∙◌}
use Rattle.tables.specs.Keep.{stays_recent, leaves_record}
use Rattle.tables.proofs.ListLaws.{all_folded}
use Rattle.tables.proofs.Page.keeps.Goals as goal

pub returns-in-Staled : goal.returns-in-Staled
unfolding leaves_record
returns-in-Staled c = rw c.in-Staled.is (c.all_stay_recent.ensures ∙ all_folded stays_recent c.args.self.copies)
