-- The words in which groups that are not pruned are told.
use Rattle.std.specs.Prelude.{◌++◌, ℕ, List, codes}
use Rattle.std.specs.Fmt.{decimal}
use Rattle.vortex_errors.specs.Errors.{error_text}
use Rattle.vortex_types.specs.LogicalTypes.{Fields}
use Rattle.vortex_arrow.specs.Texts.{arrow_text}
use Rattle.vortex_pruning.specs.declared.groups.GroupError.{GroupError}
use Rattle.vortex_pruning.specs.declared.groups.GroupError.TheVariants as group
use Rattle.yurkije_columns.specs.Messages.{name_of_field}
use Rattle.yurkije_pruning.specs.declared.error.Part.{Part}
use Rattle.yurkije_pruning.specs.declared.error.Part.TheVariants as part
use Rattle.yurkije_pruning.specs.declared.error.PartFault.{PartFault}
use Rattle.yurkije_pruning.specs.declared.error.PartFault.TheVariants as fault
use Rattle.yurkije_pruning.specs.declared.error.PruneError.{PruneError}
use Rattle.yurkije_pruning.specs.declared.error.PruneError.TheVariants as error

abbrev pub part_name : Part → List ℕ
part_name part.Low = codes "low"
part_name part.High = codes "high"
part_name part.Nulls = codes "nulls"

-- of a field of that number and name
abbrev pub field_words : ℕ → List ℕ → List ℕ → List ℕ
field_words k name words =
    codes "field " ++ (decimal k ++ (codes " (" ++ (name ++ words)))

-- of a part of its statistics
abbrev pub named_words : ℕ → List ℕ → List ℕ → List ℕ → List ℕ
named_words k name p words = field_words k name (codes "), " ++ (p ++ (codes ": " ++ words)))

-- of statistics of n groups
abbrev pub part_words : ℕ → List ℕ → List ℕ → ℕ → PartFault → List ℕ
part_words k name p n fault.UnknownKind = named_words k name p (codes "no kind has that number")
part_words k name p n fault.OtherType = named_words k name p (codes "of another type")
part_words k name p n (fault.OtherLength rows) =
    named_words k name p (decimal rows ++ (codes " items for " ++ (decimal n ++ codes " groups")))
part_words k name p n (fault.Unread e) = named_words k name p (arrow_text e)

abbrev pub group_words : Fields → GroupError → List ℕ
group_words scope (group.Statistics g f) =
    field_words f (name_of_field scope f)
    (codes "), group " ++ (decimal g ++ codes ": statistics contradict themselves"))
group_words scope (group.Refused e) = error_text e

abbrev pub prune_words : Fields → ℕ → PruneError → List ℕ
prune_words scope n error.NoCondition = codes "the answer is no truth value"
prune_words scope n (error.Missing k) =
    field_words k (name_of_field scope k) (codes "): no statistics")
prune_words scope n (error.Unasked k) =
    codes "statistics " ++ (decimal k ++ codes ": there is no field for them")
prune_words scope n (error.Column k p f) =
    part_words k (name_of_field scope k) (part_name p) n f
prune_words scope n (error.Groups e) = group_words scope e
