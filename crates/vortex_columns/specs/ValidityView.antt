-- The view of a `Validity`: its form, and the bits of an array.
use Rattle.std.specs.Prelude.{◌≡◌, ℕ, ◌<◌, Bool, true, false, List, [], length, slice_index_or}
use Rattle.vortex_columns.specs.declared.validity.Validity.{Validity}
use Rattle.vortex_columns.specs.declared.validity.Validity.TheVariants as validity

-- how a column marks its null rows: it can have none, it has none, all are null, or by a list of
-- bits
pub data ValidityForm : Type 0 where
  non_nullable : ValidityForm
  all_valid : ValidityForm
  all_invalid : ValidityForm
  array : ValidityForm

pub record ValidityView : Type 0 where
  pub form : ValidityForm
  pub bits : List Bool

abbrev pub validity_of : Validity → ValidityView
validity_of validity.NonNullable = record { form = non_nullable; bits = [] }
validity_of validity.AllValid = record { form = all_valid; bits = [] }
validity_of validity.AllInvalid = record { form = all_invalid; bits = [] }
validity_of (validity.Array bits) = record { form = array; bits = bits }

-- whether a type of this validity has null
abbrev pub form_allows_null : ValidityForm → Bool
form_allows_null non_nullable = false
form_allows_null f = true

-- a set bit is a valid row
abbrev pub is_valid_by : ValidityForm → List Bool → ℕ → Bool
is_valid_by non_nullable bits i = true
is_valid_by all_valid bits i = true
is_valid_by all_invalid bits i = false
is_valid_by array bits i = slice_index_or bits i false

abbrev pub is_valid_row : ValidityView → ℕ → Bool
is_valid_row v i = is_valid_by v.form v.bits i

-- an array of bits has one for each row
abbrev pub FitsRowsBy : ValidityForm → List Bool → ℕ → Type 0
FitsRowsBy array bits n = length bits ≡ n
FitsRowsBy f bits n = Unit {0}

abbrev pub FitsRows : ValidityView → ℕ → Type 0
FitsRows v n = FitsRowsBy v.form v.bits n

-- an array of bits has one for this row
abbrev pub ReachesBy : ValidityForm → List Bool → ℕ → Type 0
ReachesBy array bits i = i < length bits
ReachesBy f bits i = Unit {0}

abbrev pub Reaches : ValidityView → ℕ → Type 0
Reaches v i = ReachesBy v.form v.bits i
