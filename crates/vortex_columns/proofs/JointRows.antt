-- Rows that are valid on both sides, and the valid rows of a storage.
use Rattle.std.proofs.Common.{◌≡◌, ◌<◌, Bool, true, false, length, refl, sym, ap, ◌∙◌}
use Rattle.std.proofs.Common.{[], arith}
use Rattle.std.specs.Prelude.{◌||◌, not}
use Rattle.std.proofs.lemmas.List.Elements.{All-get_or}
use Rattle.vortex_types.specs.LogicalTypes.{is_nullable}
use Rattle.vortex_types.specs.Typing.{HasType}
use Rattle.vortex_types.specs.Values.{null, is_null}
use Rattle.vortex_types.proofs.NullValues.{not_null}
use Rattle.vortex_columns.specs.ColumnView.{ColumnView, row, AreTyped}
use Rattle.vortex_columns.specs.ValidityView.{non_nullable}
use Rattle.vortex_columns.specs.ValidRows.{IsJointValidity, either_nullable}

-- where neither type has null, every row is valid
pub valid_everywhere : (l r : ColumnView) → length l.rows ≡ length r.rows
    → AreTyped l.dtype l.rows → AreTyped r.dtype r.rows → either_nullable l r ≡ false
    → IsJointValidity (either_nullable l r) l r (record { form = non_nullable; bits = [] })
valid_everywhere l r lengths left right e = record {
  nullability = sym e;
  fits = tt;
  each = λ i lt.
      let other : i < length r.rows = omega (arith, lengths) in
      sym
      (ap (λ (b : Bool). not (b || is_null (row r.rows i)))
      (not_null l.dtype (row l.rows i) (All-get_or (HasType l.dtype) l.rows i null lt left)
      (neither.0))
      ∙ ap not
      (not_null r.dtype (row r.rows i) (All-get_or (HasType r.dtype) r.rows i null other right)
      (neither.1)));
}
  where
    by : (a b : Bool) → a || b ≡ false → (a ≡ false) × (b ≡ false)
    by true b h = cc
    by false b h = (refl, h)

    neither : (is_nullable l.dtype ≡ false) × (is_nullable r.dtype ≡ false)
    neither = by (is_nullable l.dtype) (is_nullable r.dtype) e
