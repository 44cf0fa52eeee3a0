use Rattle.std.proofs.Common.{take}
use Rattle.vortex_types.specs.LogicalTypes.{field_type}
use Rattle.vortex_types.specs.TypeOf.{struct_fields}
use Rattle.vortex_pruning.specs.Groups.{AllFrom}
use Rattle.yurkije_columns.specs.Kinds.{number_at}
use Rattle.yurkije_pruning.specs.Lent.{IsField}
use Rattle.yurkije_pruning.proofs.fields.read_statistics.Given as goal

-- the fields so far
abbrev pub invariant-loop-k : goal.invariant-loop-k
invariant-loop-k l =
    AllFrom (λ k s f. IsField (field_type k (struct_fields l.scope)) (number_at l.kinds k) l.groups s f) 0
    (take l.k l.lent) l.fields.items
