-- Rows that are copied into a caller's buffers.
use Rattle.std.proofs.Common.{◌≡◌, ℕ, ◌<◌, Bool, true, false, cond, not, List, length}
use Rattle.std.proofs.Common.{refl}
use Rattle.std.proofs.lemmas.List.FromFn.{fill_by_all}
use Rattle.vortex_types.specs.Values.{Value, null, truth, number, text, bytes, list, is_null}
use Rattle.vortex_bits.specs.Bits.{bit_of}
use Rattle.vortex_columns.specs.ColumnView.{row, IsUnlessNull}
use Rattle.vortex_arrow.specs.Layouts.{Layout, value_at}
use Rattle.vortex_arrow.specs.Written.{rows_of}

null_or : (v w : Value) (b : Bool) → b ≡ not (is_null v) → (is_null v ≡ false → v ≡ w)
    → v ≡ cond b w null
null_or null w true e h = cc
null_or null w false e h = refl
null_or (truth x) w true e h = h refl
null_or (truth x) w false e h = absurd (cc)
null_or (number x) w true e h = h refl
null_or (number x) w false e h = absurd (cc)
null_or (text x) w true e h = h refl
null_or (text x) w false e h = absurd (cc)
null_or (bytes x) w true e h = h refl
null_or (bytes x) w false e h = absurd (cc)
null_or (list x) w true e h = h refl
null_or (list x) w false e h = absurd (cc)

-- a validity and a layout say the rows
pub copied_rows : (rows : List Value) (validity : List ℕ) (l : Layout)
    → ((i : ℕ) → i < length rows → bit_of validity i ≡ not (is_null (row rows i)))
    → ((i : ℕ) → i < length rows → IsUnlessNull (row rows i) (value_at l i))
    → rows ≡ rows_of validity l (length rows)
copied_rows rows validity l valid values =
    fill_by_all (λ i. cond (bit_of validity i) (value_at l i) null) rows (length rows) null refl
    (λ i h. null_or (row rows i) (value_at l i) (bit_of validity i) (valid i h) (values i h))
