use Rattle.std.proofs.Common.{◌≡◌, ◌∙◌, ◌&&◌, sym, ap, subst, arith, length}
use Rattle.vortex_columns.specs.ColumnView.{row}
use Rattle.vortex_columns.specs.ValidityView.{is_valid_row, FitsRows}
use Rattle.vortex_columns.specs.ValidRows.{valid_view}
use Rattle.vortex_columns.specs.declared.valid_rows.ValidRows.{ValidRows}
use Rattle.vortex_arrow.proofs.Selected.{told_true, bit_true, null_true}
use Rattle.vortex_arrow.proofs.true_words.true_words.Goals as goal

pub returns-in-None : goal.returns-in-None
returns-in-None c = record {
  there = λ i lt. tt;
  each = λ i lt. sym (c.is_true_throughout-bit.ensures i lt);
}

pub returns-in-Every : goal.returns-in-Every
returns-in-Every c =
    let rows = c.args.column.now.rows in
    let count = c.in-Some.ensures.1.count in
    record {
      there = λ i lt. c.shifted.ensures.there i (omega (arith, count, lt));
      each = λ i lt.
          c.shifted.ensures.each i (omega (arith, count, lt))
          ∙ bit_true (row rows i) _ (c.in-Some.ensures.1.each i (omega (arith, count, lt)))
          (sym (ap (λ (v : ValidRows). is_valid_row (valid_view v) i) c.in-Every.is)
          ∙ c.valid_rows.ensures.rows.each i lt);
    }

pub returns-in-No : goal.returns-in-No
returns-in-No c = record {
  there = λ i lt. tt;
  each = λ i lt.
      null_true (row c.args.column.now.rows i)
      (sym (ap (λ (v : ValidRows). is_valid_row (valid_view v) i) c.in-No.is)
      ∙ c.valid_rows.ensures.rows.each i lt);
}

pub returns-in-Listed : goal.returns-in-Listed
returns-in-Listed c =
    let rows = c.args.column.now.rows in
    let count = c.in-Some.ensures.1.count in
    let fits : length c.in-Listed.valid.now ≡ length rows =
    subst (λ (v : ValidRows). FitsRows (valid_view v) (length rows)) c.in-Listed.is
    c.valid_rows.ensures.rows.fits in
    record {
      there = λ i lt. (
        c.shifted-in-Listed.ensures.there i (omega (arith, count, lt)),
        c.shifted-in-Listed-2.ensures.there i (omega (arith, fits, lt)),
      );
      each = λ i lt.
          (λ k. c.shifted-in-Listed.ensures.each i (omega (arith, count, lt)) k
          && c.shifted-in-Listed-2.ensures.each i (omega (arith, fits, lt)) k)
          ∙ told_true (row rows i) _ _ (c.in-Some.ensures.1.each i (omega (arith, count, lt)))
          (sym (ap (λ (v : ValidRows). is_valid_row (valid_view v) i) c.in-Listed.is)
          ∙ c.valid_rows.ensures.rows.each i lt);
    }
