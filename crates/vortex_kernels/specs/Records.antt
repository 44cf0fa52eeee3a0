-- The order of records by their fields, and which rows are null, as read by words.
use Rattle.std.specs.Prelude.{◌≡◌, ℕ, zero, suc, ◌-◌, ◌<◌, List, length, Bool, false, not}
use Rattle.std.specs.Prelude.{slice_index_or}
use Rattle.std.specs.Ordering.{ordering_then}
use Rattle.std.specs.declared.cmp.Ordering.{Ordering}
use Rattle.std.specs.declared.cmp.Ordering.TheVariants.{Equal}
use Rattle.vortex_types.specs.Values.{Value, is_null}
use Rattle.vortex_types.specs.LogicalTypes.{LogicalType, struct_type, field_count}
use Rattle.vortex_types.specs.Order.{compare_values}
use Rattle.vortex_bits.specs.Forms.{shifted_there, shifted_bit}
use Rattle.vortex_columns.specs.ColumnView.{row, value_in}
use Rattle.vortex_operators.specs.declared.operators.CompareOperator.{CompareOperator}
use Rattle.vortex_operators.specs.OperatorValues.{holds}
use Rattle.vortex_kernels.specs.declared.validity_words.ValidityWords.{ValidityWords}
use Rattle.vortex_kernels.specs.declared.validity_words.ValidityWords.TheVariants.{Same, Listed}

-- the order of that many fields from field k on: of the first different ones
abbrev pub order_from : ℕ → ℕ → Value → Value → Ordering
order_from k zero v w = Equal
order_from k (suc m) v w =
    ordering_then (compare_values (value_in k v) (value_in k w)) (order_from (suc k) m v w)

-- for each row whether the comparison is true for the last m of n fields, where neither side is
-- null
pub record HoldByLast (op : CompareOperator) (n m : ℕ) (ls rs : List Value) (bits : List Bool)
    : Type 0 where
  pub count : length bits ≡ length ls
  pub each : (i : ℕ) → i < length ls → is_null (row ls i) ≡ false → is_null (row rs i) ≡ false
      → slice_index_or bits i false ≡ holds op (order_from (n - m) m (row ls i) (row rs i))

abbrev pub presence_there : ValidityWords → ℕ → Type 0
presence_there (Same b) i = Unit {0}
presence_there (Listed bits) i = shifted_there bits i

abbrev pub presence_bit : ValidityWords → ℕ → Bool
presence_bit (Same b) i = b.bit
presence_bit (Listed bits) i = shifted_bit bits i

-- marks exactly the null rows
pub record AreValidityWords (rows : List Value) (p : ValidityWords) : Type 0 where
  pub there : (i : ℕ) → i < length rows → presence_there p i
  pub each : (i : ℕ) → i < length rows → presence_bit p i ≡ not (is_null (row rows i))

-- a struct type of that many fields
abbrev pub IsRecordType : ℕ → LogicalType → Type 0
IsRecordType n (struct_type fs m) = field_count fs ≡ n
IsRecordType n t = ⊥
