use Rattle.std.proofs.Common.{arith, length, ◌<◌}
use Rattle.vortex_columns.specs.ValidityView.{validity_of}
use Rattle.vortex_like.proofs.RowLemmas.{like_answers, row_is_text}
use Rattle.vortex_like.proofs.execute.like_rows.Goals as goal

pub returns : goal.returns
returns c =
    let l = c.args.input.now in
    let r = c.args.pattern.now in
    like_answers c.args.options l r c.in_ok-bits.bits (validity_of c.in_ok-validity.validity)
    c.try_bool.result (row_is_text l c.requires.input c.dtype.ensures.typed)
    (λ i lt.
    let other : i < length r.rows = omega (arith, c.requires.lengths) in
    row_is_text r c.requires.pattern c.dtype-2.ensures.typed i other)
    c.in_ok-bits.ensures c.in_ok-validity.ensures c.try_bool.ensures
