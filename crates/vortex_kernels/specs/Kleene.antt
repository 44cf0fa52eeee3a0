-- Kleene's And and Or in bits.
use Rattle.std.specs.Prelude.{◌≡◌, ◌&&◌, ◌||◌, ℕ, ◌<◌, List, length, is_some, Bool, true, false}
use Rattle.std.specs.Prelude.{Option, refl}
use Rattle.std.specs.Int.RustNames.{bit_and, bit_or}
use Rattle.vortex_operators.specs.declared.operators.Operator.{Operator}
use Rattle.vortex_operators.specs.declared.operators.Operator.TheVariants.{And, Or}
use Rattle.vortex_operators.specs.Operators.{is_boolean, IsNotBoolean}
use Rattle.vortex_errors.specs.declared.error.VortexError.{VortexError}
use Rattle.vortex_columns.specs.ValidityView.{ValidityView}
use Rattle.vortex_operators.specs.Kleene.{kleene}
use Rattle.vortex_types.specs.LogicalTypes.{bool_type}
use Rattle.vortex_types.specs.Values.{truth_or_null}
use Rattle.vortex_columns.specs.ColumnView.{ColumnView}
use Rattle.vortex_kernels.specs.Rows.{HasRows}
use Rattle.vortex_kernels.specs.Truths.{present, IsValueOf, truth_at}

-- the values of 64 rows, whatever is under nulls
abbrev pub value_word : Operator → ℕ → ℕ → ℕ
value_word And a b = bit_and a b
value_word op a b = bit_or a b

-- truth values or nulls in n rows of Bool
abbrev pub HasTruthRows : Bool → ℕ → (ℕ → Option Bool) → ColumnView → Type 0
HasTruthRows nullable n truth = HasRows (bool_type nullable) n (λ i. truth_or_null (truth i))

-- in each of n rows the table's result for two truth values or nulls
abbrev pub HasKleeneRows : Operator → Bool → ℕ → (ℕ → Option Bool) → (ℕ → Option Bool) → ColumnView
    → Type 0
HasKleeneRows op nullable n left right = HasTruthRows nullable n (λ i. kleene op (left i) (right i))

-- there is a truth value in each row of bits
abbrev pub HaveTruths : List Bool → ValidityView → Type 0
HaveTruths bits v = (i : ℕ) → i < length bits → is_some (truth_at bits v i) ≡ true

pub record AnswersKleene (op : Operator) (nullable : Bool) (n : ℕ) (left right : ℕ → Option Bool)
    (c : ColumnView) : Type 0 where
  pub operator : is_boolean op ≡ true
  pub rows : HasKleeneRows op nullable n left right c

-- an operator that is neither And nor Or
abbrev pub RefusesOperator : Operator → VortexError → Type 0
RefusesOperator op e = (is_boolean op ≡ false) × IsNotBoolean op e

-- both formulas give the truth value where there is one
pub and_says : (p q a b : Bool) → IsValueOf (a && b) (kleene And (present p a) (present q b))
and_says true true true true = refl
and_says true true true false = refl
and_says true true false b = refl
and_says true false true b = tt
and_says true false false b = refl
and_says false true a true = tt
and_says false true true false = refl
and_says false true false false = refl
and_says false false a b = tt

pub or_says : (p q a b : Bool) → IsValueOf (a || b) (kleene Or (present p a) (present q b))
or_says true true true b = refl
or_says true true false true = refl
or_says true true false false = refl
or_says true false true b = refl
or_says true false false b = tt
or_says false true a false = tt
or_says false true true true = refl
or_says false true false true = refl
or_says false false a b = tt
