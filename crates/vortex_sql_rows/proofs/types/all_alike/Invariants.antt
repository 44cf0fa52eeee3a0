use Rattle.std.proofs.Common.{◌≡◌, true, take}
use Rattle.std.specs.List.{list_all}
use Rattle.vortex_types.specs.TypeEquality.{alike_types}
use Rattle.vortex_types.specs.TypeOf.{type_of}
use Rattle.vortex_sql_rows.proofs.types.all_alike.Given as goal

-- each so far
abbrev pub invariant-loop-dtype : goal.invariant-loop-dtype
invariant-loop-dtype l =
    list_all (λ t. alike_types (type_of l.first) (type_of t)) (take l.dtype-index l.rest) ≡ true
