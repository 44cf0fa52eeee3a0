use Rattle.std.proofs.Common.{◌≡◌, map, take}
use Rattle.std.specs.Prelude.{unwrap_or}
use Rattle.vortex_columns.proofs.column.options.values_or.Given as goal

abbrev pub invariant-loop-row : goal.invariant-loop-row
invariant-loop-row g l =
    l.values.items ≡ map (λ o. unwrap_or o l.under_null) (take l.row-index l.rows)
