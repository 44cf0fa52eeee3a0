-- When two columns are equal: equal types, nullability included, and equal values row by row. The
-- storage form, and bytes under nulls, do not matter.
use Rattle.std.specs.Prelude.{◌≡◌, Bool, true, false, ◌&&◌, List, refl}
use Rattle.std.proofs.Common.{ap, sym, ◌∙◌}
use Rattle.std.specs.Bool.{Decides}
use Rattle.std.specs.Cmp.{IsEquivalence, on_equiv, decided, Equal-is}
use Rattle.std.specs.Cmp.Lexicographic.{pointwise, pointwise_decides}
use Rattle.std.specs.Ordering.{is_eq}
use Rattle.vortex_types.specs.LogicalTypes.{LogicalType}
use Rattle.vortex_types.specs.TypeEquality.{type_eq, type_eq-decides}
use Rattle.vortex_types.specs.Values.{Value}
use Rattle.vortex_types.specs.Order.{compare_values}
use Rattle.vortex_types.specs.OrderLaws.{equals_are_same}
use Rattle.vortex_columns.specs.ColumnView.{ColumnView}

abbrev pub value_eq : Value → Value → Bool
value_eq v w = is_eq (compare_values v w)

abbrev pub rows_eq : List Value → List Value → Bool
rows_eq = pointwise value_eq

abbrev pub columns_eq : ColumnView → ColumnView → Bool
columns_eq a b = type_eq a.dtype b.dtype && rows_eq a.rows b.rows

value_eq-decides : (v w : Value) → Decides (value_eq v w) (v ≡ w)
value_eq-decides v w = (
  λ h. equals_are_same.same v w ((Equal-is _).0 h),
  λ e. ap (λ x. is_eq (compare_values v x)) (sym e)
      ∙ (Equal-is _).1 (equals_are_same.equal v),
)

-- the part of a column that equality compares
abbrev Asked : Type 0
Asked = LogicalType × List Value

abbrev asked_eq : Asked → Asked → Bool
asked_eq a b = type_eq a.0 b.0 && rows_eq a.1 b.1

both : (b c : Bool) → b && c ≡ true → (b ≡ true) × (c ≡ true)
both true c h = (refl, h)
both false c h = cc

asked_eq-decides : (a b : Asked) → Decides (asked_eq a b) (a ≡ b)
asked_eq-decides a b =
    let types = type_eq-decides a.0 b.0 in
    let rows = pointwise_decides value_eq-decides a.1 b.1 in (
      λ h. let p = both (type_eq a.0 b.0) _ h in λ i. ((types.0 p.0) i, (rows.0 p.1) i),
      λ e. ap (λ x. x && rows_eq a.1 b.1) (types.1 (ap (λ x. x.0) e)) ∙ rows.1 (ap (λ x. x.1) e),
    )

pub columns_eq-laws : IsEquivalence columns_eq
columns_eq-laws = on_equiv (λ c. (c.dtype, c.rows)) (decided asked_eq asked_eq-decides)
