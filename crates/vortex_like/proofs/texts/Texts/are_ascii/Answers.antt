use Rattle.std.proofs.Common.{◌≡◌, ℕ, false, arith}
use Rattle.std.specs.Str.{IsAscii}
use borrow.Author.Count.{below_more}
use Rattle.vortex_types.specs.Values.{is_null}
use Rattle.vortex_columns.specs.ColumnView.{row}
use Rattle.vortex_like.specs.TextRows.{texts_of, text_at}
use Rattle.vortex_like.proofs.texts.Texts.are_ascii.Goals as goal

pub loop-i-preserved : goal.loop-i-preserved
loop-i-preserved c =
    below_more
    (λ (k : ℕ). is_null (row c.args.column.now.rows k) ≡ false
    → IsAscii (text_at (texts_of c.args.self.now) k))
    c.loop-i.i c.loop-i.invariant (c.is_ascii_at.ensures c.if-not-is_ascii_at.false)

pub returns : goal.returns
returns c e i h = c.loop-i.invariant i (omega (arith, h, c.loop-i-test.false, c.len-i-end.ensures))
