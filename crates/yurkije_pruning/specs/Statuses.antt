-- The numbers of groups that are not pruned, and where they are told.
use Rattle.std.specs.Prelude.{ℕ, Option, Some, None}
use Rattle.vortex_errors.specs.Errors.{number_of}
use Rattle.vortex_arrow.specs.declared.error.ArrowError.TheVariants as arrow
use Rattle.vortex_pruning.specs.declared.groups.GroupError.{GroupError}
use Rattle.vortex_pruning.specs.declared.groups.GroupError.TheVariants as group
use Rattle.yurkije_columns.specs.Statuses.{arrow_status}
use Rattle.yurkije_pruning.specs.declared.error.PartFault.{PartFault}
use Rattle.yurkije_pruning.specs.declared.error.PartFault.TheVariants as fault
use Rattle.yurkije_pruning.specs.declared.error.PruneError.{PruneError}
use Rattle.yurkije_pruning.specs.declared.error.PruneError.TheVariants as error
use Rattle.yurkije_pruning.specs.declared.statuses.Place.{Place}

abbrev pub part_status : PartFault → ℕ
part_status fault.UnknownKind = 102
part_status fault.OtherType = 11
part_status (fault.OtherLength rows) = 2
part_status (fault.Unread e) = arrow_status e

abbrev pub group_status : GroupError → ℕ
group_status (group.Statistics g f) = 132
group_status (group.Refused e) = number_of e

abbrev pub prune_status : PruneError → ℕ
prune_status error.NoCondition = 3
prune_status (error.Missing k) = 11
prune_status (error.Unasked k) = 11
prune_status (error.Column k p f) = part_status f
prune_status (error.Groups e) = group_status e

-- the item of a column that is wrong
abbrev pub item_told : PartFault → Option ℕ
item_told (fault.Unread (arrow.UnexpectedNull r)) = Some r
item_told (fault.Unread (arrow.InvalidValue r f)) = Some r
item_told (fault.Unread (arrow.NotUtf8 r)) = Some r
item_told f = None

-- the field whose statistics are wrong, and the group
abbrev pub place_told : PruneError → Place
place_told (error.Missing k) = record { field = Some k; group = None }
place_told (error.Unasked k) = record { field = Some k; group = None }
place_told (error.Column k p f) = record { field = Some k; group = item_told f }
place_told (error.Groups (group.Statistics g f)) = record { field = Some f; group = Some g }
place_told e = record { field = None; group = None }
