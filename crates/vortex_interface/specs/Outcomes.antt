-- The outcome of a function in one row: a value or a fault; and the column or error for all rows.
use Rattle.std.specs.Prelude.{◌≡◌, ℕ, ◌<◌, List, Option, Some, ⊤, length, map}
use Rattle.vortex_errors.specs.declared.error.VortexError.{VortexError}
use Rattle.vortex_errors.specs.declared.error.VortexError.TheVariants as error
use Rattle.vortex_errors.specs.declared.error.NumericOperator.{NumericOperator}
use Rattle.vortex_types.specs.LogicalTypes.{LogicalType}
use Rattle.vortex_types.specs.Values.{Value, null}
use Rattle.vortex_types.specs.Typing.{HasType}
use Rattle.vortex_columns.specs.ColumnView.{ColumnView, row}

-- an overflow or a zero divisor, by its operator, or a number of a caller's own
pub data Fault : Type 0 where
  arithmetic : NumericOperator → Fault
  custom : ℕ → Fault

pub data Outcome : Type 0 where
  gives : Value → Outcome
  faults : Fault → Outcome

-- the error for a fault: E7 or E10
abbrev pub error_of : Fault → VortexError
error_of (arithmetic o) = error.Arithmetic o
error_of (custom n) = error.Custom n

abbrev pub GivesValue : Outcome → Type 0
GivesValue (gives v) = ⊤
GivesValue (faults f) = ⊥

abbrev pub GivesType : LogicalType → Outcome → Type 0
GivesType t (gives v) = HasType t v
GivesType t (faults f) = ⊤

abbrev pub GivesNull : Outcome → Type 0
GivesNull (gives v) = v ≡ null
GivesNull (faults f) = ⊤

-- the error is the fault of one of the rows
pub record IsRowFault (n : ℕ) (outcome : ℕ → Outcome) (e : VortexError) : Type 0 where
  pub at : ℕ
  pub below : at < n
  pub fault : Fault
  pub here : outcome at ≡ faults fault
  pub told : e ≡ error_of fault

-- a call over columns: its types, and the values in one row
abbrev pub types_in : List ColumnView → List LogicalType
types_in = map (λ c. c.dtype)

abbrev pub values_at : List ColumnView → ℕ → List Value
values_at cs i = map (λ c. row c.rows i) cs

abbrev pub call_row : (List LogicalType → List Value → Outcome) → List ColumnView → ℕ → Outcome
call_row means cs i = means (types_in cs) (values_at cs i)

-- the column has the return type of the call, the number of rows, and in each row the value of the
-- call
pub record HasCallRows (return_type : List LogicalType → Option LogicalType)
    (means : List LogicalType → List Value → Outcome) (cs : List ColumnView) (n : ℕ)
    (c : ColumnView) : Type 0 where
  pub dtype : return_type (types_in cs) ≡ Some c.dtype
  pub count : length c.rows ≡ n
  pub each : (i : ℕ) → i < n → call_row means cs i ≡ gives (row c.rows i)

abbrev pub IsCallFault : (List LogicalType → List Value → Outcome) → List ColumnView → ℕ
    → VortexError → Type 0
IsCallFault means cs n e = IsRowFault n (call_row means cs) e
