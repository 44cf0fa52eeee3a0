-- And, Or and Not over whole columns.
use Rattle.std.specs.Prelude.{◌≡◌, ◌||◌, ◌&&◌, Bool, true, false, length, is_some}
use Rattle.vortex_errors.specs.declared.error.VortexError.{VortexError}
use Rattle.vortex_errors.specs.declared.error.VortexError.TheVariants.{TypeMismatch}
use Rattle.vortex_errors.specs.declared.error.MismatchPlace.TheVariants as place
use Rattle.vortex_types.specs.LogicalTypes.{bool_type, is_nullable, is_bool_type}
use Rattle.vortex_columns.specs.ColumnView.{ColumnView, row}
use Rattle.vortex_operators.specs.declared.operators.Operator.{Operator}
use Rattle.vortex_operators.specs.Operators.{is_boolean, IsNotBoolean}
use Rattle.vortex_operators.specs.OperatorValues.{boolean_value, not_value}
use Rattle.vortex_operators.specs.Kleene.{kleene}
use Rattle.vortex_types.specs.Values.{truth_of}
use Rattle.vortex_columns.specs.ValidityView.{ValidityView}
use Rattle.vortex_kernels.specs.Rows.{HasRows}
use Rattle.vortex_columns.specs.ValidRows.{either_nullable}
use Rattle.vortex_columns.specs.ValidRows.{IsValidity}

abbrev pub are_bools : ColumnView → ColumnView → Bool
are_bools l r = is_bool_type l.dtype && is_bool_type r.dtype

-- in each row Kleene's table of the two rows, nullable if either side is
abbrev pub HasBooleanRows : Operator → ColumnView → ColumnView → ColumnView → Type 0
HasBooleanRows op l r =
    HasRows (bool_type (is_nullable l.dtype || is_nullable r.dtype)) (length l.rows)
    (λ i. boolean_value op (row l.rows i) (row r.rows i))

-- Not of each row, of the input's type
abbrev pub HasNotRows : ColumnView → ColumnView → Type 0
HasNotRows c = HasRows c.dtype (length c.rows) (λ i. not_value (row c.rows i))

-- the rows with a truth value by Kleene's table
abbrev pub IsKleeneValidity : Operator → ColumnView → ColumnView → ValidityView → Type 0
IsKleeneValidity op l r =
    IsValidity (either_nullable l r) (length l.rows)
    (λ i. is_some (kleene op (truth_of (row l.rows i)) (truth_of (row r.rows i))))

-- first the error for an operator that is neither And nor Or, then for columns that are not both of
-- Bool
pub data RefusesBoolean (op : Operator) (l r : ColumnView) (e : VortexError) : Type 0 where
  no_operator : is_boolean op ≡ false → IsNotBoolean op e → RefusesBoolean op l r e
  no_bools : is_boolean op ≡ true → are_bools l r ≡ false → e ≡ TypeMismatch place.Boolean
      → RefusesBoolean op l r e

pub record AnswersBoolean (op : Operator) (l r c : ColumnView) : Type 0 where
  pub operator : is_boolean op ≡ true
  pub bools : are_bools l r ≡ true
  pub rows : HasBooleanRows op l r c
