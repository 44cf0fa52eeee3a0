-- The values of rows that are given as Rust's values: null for none.
use Rattle.std.specs.Borrow.{Bor}
use Rattle.std.specs.Prelude.{ℕ, ℤ, Bool, List, Option}
use Rattle.vortex_types.specs.Values.{Value, truth, number, text}
use Rattle.vortex_columns.specs.Options.{option_row}

abbrev pub bool_row : Option Bool → Value
bool_row = option_row truth

abbrev pub int_row : {A : Type 0} → (A → ℤ) → Option A → Value
int_row f = option_row (λ x. number (f x))

abbrev pub text_row : Option (Bor (List ℕ)) → Value
text_row = option_row (λ t. text t.now)
