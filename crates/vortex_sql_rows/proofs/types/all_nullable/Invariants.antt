use Rattle.std.proofs.Common.{◌≡◌, true, take}
use Rattle.std.specs.List.{list_all}
use Rattle.vortex_types.specs.LogicalTypes.{is_nullable}
use Rattle.vortex_types.specs.TypeOf.{type_of}
use Rattle.vortex_sql_rows.proofs.types.all_nullable.Given as goal

-- each so far
abbrev pub invariant-loop-dtype : goal.invariant-loop-dtype
invariant-loop-dtype l = list_all (λ t. is_nullable (type_of t)) (take l.dtype-index l.types) ≡ true
