use Rattle.vortex_columns.specs.Made.{borrowed_texts}
use Rattle.vortex_sql_calls.specs.Columns.{AreTexts}
use Rattle.vortex_sql_calls.proofs.column.text_values.Given as goal

-- the texts of the cells so far
abbrev pub invariant-loop-i : goal.invariant-loop-i
invariant-loop-i l = AreTexts l.cells l.i (borrowed_texts l.values.items)
