-- `Tables::holder`, which so tells whether the frame is free.
use Rattle.tables.specs.declared.Holder.TheVariants.{Retired}
use Rattle.tables.proofs.HolderLaws.{told_free}
use Rattle.tables.proofs.Tables.holder.Goals as goal

pub returns-then-retired_at-clause-result_value : goal.returns-then-retired_at-clause-result_value
returns-then-retired_at-clause-result_value c = told_free _ _ {h = Retired} (rw (← c.retired_at.ensures, c.if-retired_at.true))

pub returns-clause-result_value : goal.returns-clause-result_value
returns-clause-result_value c = told_free _ _ (rw (← c.retired_at.ensures, c.if-retired_at.false) c.search.ensures.case)
