use Rattle.std.proofs.Common.{◌≡◌, true, take}
use Rattle.std.specs.List.{list_all}
use Rattle.vortex_types.specs.TypeOf.{type_of}
use Rattle.vortex_sql_rows.specs.Types.{is_kind}
use Rattle.vortex_sql_rows.proofs.types.all_of_kind.Given as goal

-- each so far
abbrev pub invariant-loop-dtype : goal.invariant-loop-dtype
invariant-loop-dtype l = list_all (λ t. is_kind l.kind (type_of t)) (take l.dtype-index l.types) ≡ true
