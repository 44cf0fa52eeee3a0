-- The values of cells, which are texts or null, by type, and the columns of them.
use Rattle.std.specs.Prelude.{◌==◌, ℕ, zero, suc, ℤ, pos, negsuc, ◌+◌, ◌-◌, ◌*◌, ◌&&◌, nat_le}
use Rattle.std.specs.Prelude.{nat_lt, map, List, [], ◌∷◌, length, Bool, true, false, Option, Some}
use Rattle.std.specs.Prelude.{None, is_some, codes, if◌then◌else◌}
use Rattle.std.specs.List.{list_all}
use Rattle.std.specs.Option.{option_and_then, option_map}
use Rattle.std.specs.Char.{is_ascii_digit}
use Rattle.std.specs.Str.{bytes_eq}
use Rattle.vortex_types.specs.LogicalTypes.{LogicalType, bool_type, integer_type, text_type}
use Rattle.vortex_types.specs.LogicalTypes.{is_nullable}
use Rattle.vortex_types.specs.declared.dtype.PType.{PType}
use Rattle.vortex_types.specs.ScalarView.{ScalarView}
use Rattle.vortex_cells.specs.Ranges.{in_range}
use Rattle.vortex_types.specs.Values.{Value, null, truth, number, text}
use Rattle.vortex_columns.specs.ColumnView.{ColumnView}
use Rattle.vortex_views.specs.Placing.{most_bytes, most_buffers, buffers_needed}
use Rattle.vortex_columns.specs.ValidityView.{array, non_nullable}

abbrev pub decimal_from : ℕ → List ℕ → ℕ
decimal_from n [] = n
decimal_from n (d ∷ ds) = decimal_from (10 * n + (d - 48)) ds

-- the number of digits, at least one
abbrev pub digits_of : List ℕ → Option ℕ
digits_of w =
    if nat_lt 0 (length w) && list_all is_ascii_digit w then Some (decimal_from 0 w) else None

abbrev pub negative : ℕ → ℤ
negative zero = pos 0
negative (suc n) = negsuc n

-- digits, optionally after a minus sign
abbrev pub integer_of : List ℕ → Option ℤ
integer_of [] = None
integer_of (b ∷ bs) =
    if b == 45 then option_map negative (digits_of bs) else option_map pos (digits_of (b ∷ bs))

abbrev pub number_where : Bool → ℤ → Option Value
number_where fits z = if fits then Some (number z) else None

-- a number in the range of the type
abbrev pub number_of : PType → List ℕ → Option Value
number_of p w = option_and_then (λ z. number_where (in_range p z) z) (integer_of w)

abbrev pub truth_of_word : List ℕ → Option Value
truth_of_word w =
    if bytes_eq w (codes "true") then Some (truth true)
    else (if bytes_eq w (codes "false") then Some (truth false)
    else None)

-- the value of a text, if it is one of the type's
abbrev pub value_of_text : LogicalType → List ℕ → Option Value
value_of_text (bool_type n) w = truth_of_word w
value_of_text (integer_type p n) w = number_of p w
value_of_text (text_type n) w = Some (text w)
value_of_text t w = None

-- a cell is a text, or none for null: its value
abbrev pub cell_value : LogicalType → Option (List ℕ) → Option Value
cell_value t None = if is_nullable t then Some null else None
cell_value t (Some w) = value_of_text t w

-- the result for cells, if cells have the type
abbrev pub if_cells : {A : Type 0} → LogicalType → Option A → Option A
if_cells (bool_type n) o = o
if_cells (integer_type p n) o = o
if_cells (text_type n) o = o
if_cells t o = None

abbrev pub with_first : {A : Type 0} → Option A → Option (List A) → Option (List A)
with_first None xs = None
with_first (Some x) None = None
with_first (Some x) (Some xs) = Some (x ∷ xs)

-- all elements, if none is missing
abbrev pub all_some : {A : Type 0} → List (Option A) → Option (List A)
all_some [] = Some []
all_some (o ∷ os) = with_first o (all_some os)

abbrev pub cell_values : LogicalType → List (Option (List ℕ)) → Option (List Value)
cell_values t cs = all_some (map (cell_value t) cs)

-- the bytes of a text; none for other values
abbrev pub text_bytes : Value → List ℕ
text_bytes (text bs) = bs
text_bytes v = []

-- a text of a column has at most 4,294,967,295 bytes, and its texts need no more buffers than a
-- column has
abbrev pub texts_fit : List (List ℕ) → Bool
texts_fit ts =
    list_all (λ t. nat_le (length t) most_bytes) ts && nat_le (buffers_needed ts) most_buffers

abbrev pub fit_column : List Value → Bool
fit_column vs = texts_fit (map text_bytes vs)

abbrev pub column_of : LogicalType → List Value → ColumnView
column_of t vs =
    record {
      dtype = t;
      rows = vs;
      constant = None;
      form = if is_nullable t then array else non_nullable;
    }

abbrev pub column_where : LogicalType → List Value → Option ColumnView
column_where t vs = if fit_column vs then Some (column_of t vs) else None

-- the column and the literal of cells
abbrev pub column_from : LogicalType → List (Option (List ℕ)) → Option ColumnView
column_from t cs = option_and_then (column_where t) (cell_values t cs)

abbrev pub column_of_cells : LogicalType → List (Option (List ℕ)) → Option ColumnView
column_of_cells t cs = if_cells t (column_from t cs)

abbrev pub literal_of_cell : LogicalType → Option (List ℕ) → Option ScalarView
literal_of_cell t c =
    if_cells t (option_map (λ v. record { dtype = t; value = v }) (cell_value t c))

-- whether the cell has a value of the type
abbrev pub cell_fits : LogicalType → Option (List ℕ) → Bool
cell_fits t c = is_some (if_cells t (cell_value t c))
