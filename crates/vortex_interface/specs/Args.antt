-- The view of a call's inputs, and the input of an index.
use Rattle.std.specs.Prelude.{◌≡◌, ◌≤◌, ℕ, List, All, length, refl}
use Rattle.std.specs.Coded.{Coded, code_by, coded×, coded_ℕ, coded_list}
use Rattle.vortex_errors.specs.declared.error.VortexError.{VortexError}
use Rattle.vortex_errors.specs.declared.error.VortexError.TheVariants.{IndexOutOfBounds}
use Rattle.vortex_columns.specs.ColumnView.{ColumnView, coded_column}

pub record ArgsView : Type 0 where
  pub columns : List ColumnView
  pub row_count : ℕ

abbrev pub coded_args : Coded ArgsView
coded_args =
    let parts = coded× (coded_list coded_column) coded_ℕ in
    code_by (List ColumnView × ℕ) parts
    (λ a. (a.columns, a.row_count)) (λ p. record { columns = p.0; row_count = p.1 }) (λ _. refl)

-- each column has that many rows
abbrev pub AreOfLength : ℕ → List ColumnView → Type 0
AreOfLength n cs = All (λ c. length c.rows ≡ n) cs

-- the error for an index past the inputs
abbrev pub PastInputs : List ColumnView → ℕ → VortexError → Type 0
PastInputs inputs i e = (length inputs ≤ i) × (e ≡ IndexOutOfBounds i (length inputs))
