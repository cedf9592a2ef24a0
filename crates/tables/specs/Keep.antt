-- The edits that are seen at a glance to leave a page's record as it is, so that the tables need not be moved: what the
-- exported `keeps` says, and with it whether a decision has a change. Such an edit leaves the record (`leaves_same`):
-- on sound tables, and in `step`, `answer`, `run` and `fill` on any, no number, reply or table rests on `keeps`. What
-- `settle` makes of a decision on tables with a wrong register does: where there is no change, that register stays.
use Rattle.std.specs.Prelude.{ℕ, Bool, true, false, not, ◌&&◌, ◌||◌, List, length, get_or, leb}
use Rattle.tables.specs.declared.Copy.{Copy}
use Rattle.tables.specs.declared.Page.{Page}
use Rattle.tables.specs.declared.Edit.{Edit}
use Rattle.tables.specs.declared.Edit.TheVariants.{Kept, Created, Deleted, Granted, Staled, Placed, Added, Removed, Marked}
use Rattle.tables.specs.Lists.{all}
use Rattle.tables.specs.Model.{zero_copy}

abbrev pub stays_recent : Copy → Bool
stays_recent c = c.current || not c.recent

abbrev pub agree : Bool → Bool → Bool
agree a b = (a && b) || (not a && not b)

abbrev pub current_is : List Copy → ℕ → Bool → Bool
current_is cs k current = leb (length cs) k || agree (get_or cs k zero_copy).current current

-- whether the code may leave the record as it is
unfoldable pub leaves_record : Page → Edit → Bool
leaves_record g Kept = true
leaves_record g (Created station) = false
leaves_record g Deleted = false
leaves_record g (Granted station right) = false
leaves_record g Staled = all stays_recent g.copies
leaves_record g (Placed frame) = false
leaves_record g (Added frame recent) = false
leaves_record g (Removed k) = false
leaves_record g (Marked k current) = current_is g.copies k current
