use Rattle.std.proofs.Common.{take}
use Rattle.std.specs.Prelude.{All}
use Rattle.vortex_columns.specs.ColumnView.{AreTyped}
use Rattle.vortex_rewriting.proofs.laws.types_invariant.Given as goal

-- the columns so far have rows of their types
abbrev pub invariant-loop-column : goal.invariant-loop-column
invariant-loop-column l = All (λ c. AreTyped c.dtype c.rows) (take l.column-index l.columns)
