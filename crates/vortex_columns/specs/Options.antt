-- Columns of optional values: null where there is none.
use Rattle.std.specs.Borrow.{Bor}
use Rattle.std.specs.Prelude.{ℕ, ℤ, Bool, true, List, [], map, Option, Some, None, is_some}
use Rattle.vortex_types.specs.declared.dtype.PType.{PType}
use Rattle.vortex_types.specs.LogicalTypes.{LogicalType, bool_type, integer_type, text_type}
use Rattle.vortex_types.specs.Values.{Value, null, truth, number, text}
use Rattle.vortex_columns.specs.ColumnView.{ColumnView}
use Rattle.vortex_columns.specs.ValidityView.{array, ValidityView}

abbrev pub option_row : {A : Type 0} → (A → Value) → Option A → Value
option_row f (Some x) = f x
option_row f None = null

-- a set bit for each value that is present
abbrev pub option_validity : {A : Type 0} → List (Option A) → ValidityView
option_validity xs = record { form = array; bits = map is_some xs }

abbrev pub option_column : {A : Type 0} → LogicalType → (A → Value) → List (Option A) → ColumnView
option_column t f xs =
    record { dtype = t; rows = map (option_row f) xs; constant = None; form = array }

abbrev pub optional_bools : List (Option Bool) → ColumnView
optional_bools = option_column (bool_type true) truth

abbrev pub optional_ints : {A : Type 0} → PType → (A → ℤ) → List (Option A) → ColumnView
optional_ints p f = option_column (integer_type p true) (λ x. number (f x))

-- the bytes of a text, and no bytes for none
abbrev pub option_text : Option (Bor (List ℕ)) → List ℕ
option_text (Some t) = t.now
option_text None = []

abbrev pub optional_texts : List (Option (Bor (List ℕ))) → ColumnView
optional_texts = option_column (text_type true) (λ t. text t.now)
