-- The rows of a column of Bool, unchanged.
use Rattle.std.proofs.Common.{◌≡◌, ℕ, ◌<◌, true, false, List, length, refl, sym, arith, cond}
use Rattle.std.specs.Prelude.{Bool, None, not, slice_index_or}
use Rattle.vortex_types.specs.LogicalTypes.{LogicalType, bool_type, is_bool_type}
use Rattle.vortex_types.specs.Values.{Value, null, truth, number, text, bytes, list, is_null}
use Rattle.vortex_types.specs.Values.{truth_of}
use Rattle.vortex_types.specs.Typing.{HasType}
use Rattle.vortex_columns.specs.ColumnView.{ColumnView, row, AreBits}

-- a value that is no truth value is null
null_of_bool : (n : Bool) (v : Value) → HasType (bool_type n) v → truth_of v ≡ None → null ≡ v
null_of_bool n null h e = refl
null_of_bool n (truth b) h e = cc
null_of_bool n (number z) h e = absurd h
null_of_bool n (text bs) h e = absurd h
null_of_bool n (bytes bs) h e = absurd h
null_of_bool n (list vs) h e = absurd h

pub only_null : (t : LogicalType) (v : Value) → is_bool_type t ≡ true → HasType t v
    → truth_of v ≡ None → null ≡ v
only_null (bool_type n) v b h e = null_of_bool n v h e
only_null t v b h e = cc

-- a row that is not null is its bit
pub kept_row : (c : ColumnView) (bits : List Bool) → AreBits c bits → (i : ℕ) → i < length c.rows
    → cond (not (is_null (row c.rows i))) (truth (slice_index_or bits i false)) null
    ≡ row c.rows i
kept_row c bits are i lt = by (row c.rows i) (are.each i (omega (arith, are.count)))
  where
    by : (v : Value) → (is_null v ≡ false → v ≡ truth (slice_index_or bits i false))
        → cond (not (is_null v)) (truth (slice_index_or bits i false)) null ≡ v
    by null h = refl
    by (truth b) h = sym (h refl)
    by (number z) h = sym (h refl)
    by (text bs) h = sym (h refl)
    by (bytes bs) h = sym (h refl)
    by (list vs) h = sym (h refl)
