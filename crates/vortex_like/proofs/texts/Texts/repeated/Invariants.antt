use Rattle.std.proofs.Common.{◌≡◌, ℕ, ◌<◌, false}
use Rattle.vortex_types.specs.Values.{text, is_null}
use Rattle.vortex_columns.specs.ColumnView.{row}
use Rattle.vortex_like.specs.TextRows.{texts_of, text_at}
use Rattle.vortex_like.proofs.texts.Texts.repeated.Given as goal

-- the rows so far are null or have the first text
abbrev pub invariant-loop-i : goal.invariant-loop-i
invariant-loop-i l = (k : ℕ) → k < l.i → is_null (row l.column.rows k) ≡ false
    → row l.column.rows k ≡ text (text_at (texts_of l.self) l.first)
