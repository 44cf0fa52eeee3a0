use Rattle.std.proofs.Common.{◌≡◌, ◌∙◌, sym, ap, subst, refl, Option, Some, List, ℕ}
use Rattle.std.specs.Borrow.{Bor}
use Rattle.vortex_types.specs.LogicalTypes.{is_nullable}
use Rattle.vortex_types.specs.Values.{is_null}
use Rattle.vortex_types.specs.ScalarView.{ScalarView}
use Rattle.vortex_columns.specs.ColumnView.{ColumnView, constant_column}
use Rattle.vortex_arrow.specs.declared.column.ArrowColumn.{ArrowColumn}
use Rattle.vortex_arrow.specs.declared.column.ArrowValues.TheVariants as arrow
use Rattle.vortex_arrow.specs.Columns.{arrow_column, validity_from, IsWellFormed}
use Rattle.vortex_arrow.specs.Refusals.{TellsOf}
use Rattle.yurkije_lent.specs.Operands.{HasNullsOf}
use Rattle.yurkije_lent.proofs.Dropped.{some_of, matched_of, none_of}
use Rattle.yurkije_lent.proofs.LentRows.{same_nulls, constant_nulls}
use Rattle.yurkije_lent.proofs.validity.marks.Goals as goal

pub returns-in_default : goal.returns-in_default
returns-in_default c =
    let column = c.args.column.now in
    let s = c.bool.result in
    let nullable =
    ap (λ (x : ScalarView). is_nullable x.dtype) c.bool.ensures
    ∙ c.lent_nullability-nullability.ensures in
    some_of (λ (d : ColumnView). d ≡ constant_column s column.length)
    (HasNullsOf (arrow_column column))
    (λ d is.
    subst (HasNullsOf (arrow_column column)) (sym is)
    (constant_nulls column s (none_of column.validity c.in_default.not-Some) nullable
    (ap (λ (x : ScalarView). is_null x.value) c.bool.ensures)))
    c.constant.result c.ok.result c.ok.ensures.value c.constant.ensures

pub returns : goal.returns
returns c =
    let column = c.args.column.now in
    let bits = c.in-Some.bits in
    let truths : ArrowColumn =
    record {
      nullable = column.nullable;
      length = column.length;
      offset = column.offset;
      validity = Some bits;
      values = arrow.Bool bits;
    } in
    matched_of (λ (d : ColumnView). IsWellFormed truths × (d ≡ arrow_column truths))
    (HasNullsOf (arrow_column column))
    (λ d made.
    subst (HasNullsOf (arrow_column column)) (sym made.1)
    (same_nulls column truths
    (ap (λ (v : Option (Bor (List ℕ))). validity_from column.nullable v column.offset column.length)
    (sym c.in-Some.is))
    refl refl))
    (TellsOf truths) c.to_column.result c.ok-2.result c.ok-2.ensures.value
    c.to_column.ensures.answer
