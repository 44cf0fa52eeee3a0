use Rattle.std.proofs.Common.{◌≡◌, ◌∙◌, ◌<◌, Bool, List, ℕ, length, sym, ap, subst, arith, rules}
use Rattle.std.specs.List.{HoldsAt}
use Rattle.std.specs.Str.{IsAscii}
use Rattle.vortex_errors.proofs.Answering.{AnswersUnlessMemory-weaker}
use Rattle.vortex_columns.specs.ColumnView.{row}
use Rattle.vortex_like.specs.EachPattern.{AreBothValid, IsCompiled}
use Rattle.vortex_like.specs.Patterns.{PatternView}
use Rattle.vortex_like.specs.Rows.{AreTold, IsLikeBit, AreLikeBits}
use Rattle.vortex_like.specs.TextRows.{texts_of, text_at}
use Rattle.vortex_views.specs.BorrowedValue.{row_value}
use Rattle.vortex_like.proofs.RowLemmas.{told_more}
use Rattle.vortex_like.proofs.EachRow.{row_like}
use Rattle.vortex_like.proofs.KeptPatterns.{kept_is}
use Rattle.vortex_like.proofs.each_pattern.each_bits.Goals as goal

pub returns : goal.returns
returns g c =
    let columns = c.args.columns in
    let end : c.loop-i.i ≡ length columns.texts.now.rows = omega arith in
    AnswersUnlessMemory-weaker c.from_bools.result _ _
    (λ (bits : List Bool) e.
    subst
    (λ (bs : List Bool). AreLikeBits columns.options columns.texts.now columns.patterns.now bs)
    (sym (e ∙ c.as_slice-2.ensures.value))
    (subst
    (λ (n : ℕ).
    AreTold n
    (λ i b.
    IsLikeBit columns.options (row columns.texts.now.rows i) (row columns.patterns.now.rows i) b)
    c.loop-i.bits.items)
    end c.loop-i.invariant.1))
    c.from_bools.ensures

pub said-requires-clause-ascii : goal.said-requires-clause-ascii
said-requires-clause-ascii g c =
    let columns = c.args.columns in
    let i = c.loop-i.i in
    let valid : AreBothValid columns i = search rules in
    let lt : i < length columns.texts.now.rows = omega arith in
    let own = c.pattern_at-own.result.now in
    let there : HoldsAt (λ p. p ≡ own) c.turn_to.new.kept.items c.in_ok-at.at =
    rw c.as_slice.ensures.value at c.pattern_at-own.ensures in
    let is =
    kept_is (IsCompiled columns.options columns.ascii) own (row_value c.row-row.result) c.in_ok-at.at
    c.turn_to.new.kept.items c.in_ok-at.ensures.patterns c.in_ok-at.ensures.place there in
    λ e.
    subst (λ (bs : List ℕ). IsAscii bs) (sym c.bytes.ensures)
    (c.requires.ascii (sym (ap (λ (p : PatternView). p.ascii_haystack) is.0) ∙ e) i lt valid.0)

pub loop-i-preserved : goal.loop-i-preserved
loop-i-preserved g c =
    let columns = c.args.columns in
    let i = c.loop-i.i in
    let valid : AreBothValid columns i = search rules in
    let lt : i < length columns.texts.now.rows = omega arith in
    let other : i < length columns.patterns.now.rows = omega arith in
    let own = c.pattern_at-own.result.now in
    let there : HoldsAt (λ p. p ≡ own) c.turn_to.new.kept.items c.in_ok-at.at =
    rw c.as_slice.ensures.value at c.pattern_at-own.ensures in
    let is =
    kept_is (IsCompiled columns.options columns.ascii) own (row_value c.row-row.result) c.in_ok-at.at
    c.turn_to.new.kept.items c.in_ok-at.ensures.patterns c.in_ok-at.ensures.place there in (
      c.push_reserved-in-loop-i.ensures.capacity ∙ c.loop-i.invariant.0,
      rw c.push_reserved-in-loop-i.ensures.items
          (told_more i _ c.loop-i.bits.items c.said.result c.loop-i.invariant.1
          (row_like columns.options (row columns.texts.now.rows i) (row columns.patterns.now.rows i)
          own.pattern _ (text_at (texts_of c.args.patterns) i) _
          (g.R.RowTexts.bytes_at c.args.texts.now i) _ columns.ascii c.said.result
          (c.requires.texts i lt) (c.requires.patterns.each i other) valid.0 valid.1
          c.said.ensures is.0 is.1
          c.row-row.ensures c.bytes.ensures)),
      c.in_ok-at.ensures.patterns,
      omega (arith, c.in_ok-at.ensures.place.0),
      c.in_ok-at.ensures.place,
    )
