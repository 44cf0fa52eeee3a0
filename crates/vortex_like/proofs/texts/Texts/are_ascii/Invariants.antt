use Rattle.std.proofs.Common.{◌≡◌, ◌<◌, ℕ, false}
use Rattle.std.specs.Str.{IsAscii}
use Rattle.vortex_types.specs.Values.{is_null}
use Rattle.vortex_columns.specs.ColumnView.{row}
use Rattle.vortex_like.specs.TextRows.{texts_of, text_at}
use Rattle.vortex_like.proofs.texts.Texts.are_ascii.Given as goal

-- the texts so far are ASCII
abbrev pub invariant-loop-i : goal.invariant-loop-i
invariant-loop-i l =
    (k : ℕ) → k < l.i → is_null (row l.column.rows k) ≡ false
    → IsAscii (text_at (texts_of l.self) k)
