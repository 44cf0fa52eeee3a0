-- Fields that are read one by one, as bytes.
use Rattle.std.proofs.Common.{◌≡◌, ◌∙◌, Bool, true, false, Option, Some, None, List, [], ◌∷◌, ◌++◌, ℕ}
use Rattle.std.proofs.Common.{ℤ, ◌+◌, ◌<◌, map, take, length, get_or, refl, sym, ap}
use Rattle.std.proofs.Common.{if◌then◌else◌}
use Rattle.std.specs.Prelude.{is_some, unwrap_or, IsUtf8}
use Rattle.std.specs.Option.{option_and_then}
use Rattle.std.specs.Str.{is_utf8}
use Rattle.std.proofs.lemmas.Bool.{false_from_ne_true}
use Rattle.std.proofs.lemmas.Str.{IsUtf8-from_is_utf8, is_utf8-from_IsUtf8}
use Rattle.vortex_types.specs.LogicalTypes.{LogicalType, bool_type, integer_type, text_type}
use Rattle.vortex_types.specs.LogicalTypes.{is_nullable}
use Rattle.vortex_types.specs.Values.{Value}
use Rattle.vortex_types.specs.declared.dtype.PType.{PType}
use Rattle.vortex_cells.specs.Ranges.{in_range}
use Rattle.vortex_cells.specs.CellValues.{integer_of, number_where, number_of, value_of_text, cell_value}
use Rattle.vortex_cells.specs.CellValues.{cell_values, text_bytes, all_some, with_first, if_cells}
use Rattle.vortex_cells.specs.CellValues.{column_where, column_from, column_of_cells}
use Rattle.vortex_cells.specs.Cells.{item_or_null, AreCells}
use Rattle.vortex_cells.specs.Fields.{field_cell, field_value, field_values, column_of_fields}
use Rattle.vortex_cells.proofs.AllSome.{none_first}
use Rattle.vortex_cells.proofs.CellRows.{value_read, is_there}
use Rattle.vortex_cells.proofs.IntegerTexts.{integer_text}

-- bytes that are a text have its value
pub token_text : (t : LogicalType) (bs w : List ℕ) → w ≡ bs → IsUtf8 bs
    → value_of_text t w ≡ field_value t (Some bs)
token_text t bs w same readable =
    ap (value_of_text t) same
    ∙ sym
    (ap (λ b. option_and_then (cell_value t) (if b then Some (Some bs) else None))
    (is_utf8-from_IsUtf8 bs readable))

-- and others have none
pub none_said : (t : LogicalType) (bs : List ℕ) → ¬ (IsUtf8 bs) → None ≡ field_value t (Some bs)
none_said t bs unreadable =
    sym
    (ap (λ b. option_and_then (cell_value t) (if b then Some (Some bs) else None))
    (false_from_ne_true (is_utf8 bs) (λ e. unreadable (IsUtf8-from_is_utf8 bs e))))

-- bytes that are no text are no integer
no_integer : (bs : List ℕ) → is_utf8 bs ≡ false → integer_of bs ≡ None
no_integer bs unreadable = by (integer_of bs) refl
  where
    by : (o : Option ℤ) → integer_of bs ≡ o → o ≡ None
    by None e = refl
    by (Some z) e = let readable = is_utf8-from_IsUtf8 bs (integer_text bs z e) in cc

no_number : (p : PType) (bs : List ℕ) → is_utf8 bs ≡ false → number_of p bs ≡ None
no_number p bs unreadable =
    ap (option_and_then (λ z. number_where (in_range p z) z)) (no_integer bs unreadable)

-- so bytes have the same integer as the cell
pub integer_said : (p : PType) (n : Bool) (bs : List ℕ)
    → number_of p bs ≡ field_value (integer_type p n) (Some bs)
integer_said p n bs = by (is_utf8 bs) refl
  where
    by : (b : Bool) → is_utf8 bs ≡ b → number_of p bs ≡ field_value (integer_type p n) (Some bs)
    by true e =
        sym
        (ap (λ b. option_and_then (cell_value (integer_type p n)) (if b then Some (Some bs) else None))
        e)
    by false e =
        no_number p bs e
        ∙ sym
        (ap (λ b. option_and_then (cell_value (integer_type p n)) (if b then Some (Some bs) else None))
        e)

there_in : {X : Type 0} (value : X → Value) (item : Option X) (t : LogicalType) (n : Bool)
    (c : Option (Option (List ℕ)))
    → is_nullable t ≡ n → option_and_then (cell_value t) c ≡ Some (item_or_null value item)
    → n ≡ false → is_some item ≡ true
there_in value item t n None nullable e plain = cc
there_in value item t n (Some c) nullable e plain = is_there value item t n c nullable e plain

-- one more field of those found at the elements of a list
pub field_read : {X W : Type 0} (t : LogicalType) (n : Bool) (value : X → Value)
    (field : W → Option (List ℕ)) (places : List W) (i : ℕ) (d : W) (items : List X)
    (valid : List Bool) (item : Option X) (blank : X)
    → is_nullable t ≡ n → i < length places
    → AreCells n (map value items) valid (field_values t (map field (take i places)))
    → field_value t (field (get_or places i d)) ≡ Some (item_or_null value item)
    → text_bytes (value blank) ≡ []
    → AreCells n (map value (items ++ unwrap_or item blank ∷ [])) (valid ++ is_some item ∷ [])
    (field_values t (map field (take (i + 1) places)))
field_read t n value field places i d items valid item blank nullable lt h e fit =
    value_read (field_value t) n value field places i d items valid item blank lt h e
    (there_in value item t n (field_cell (field (get_or places i d))) nullable e) fit

-- the values of fields are those of their cells
first_said : (t : LogicalType) (o : Option (Option (List ℕ))) (cs : Option (List (Option (List ℕ))))
    → with_first (option_and_then (cell_value t) o) (option_and_then (cell_values t) cs)
    ≡ option_and_then (cell_values t) (with_first o cs)
first_said t None cs = refl
first_said t (Some c) None = none_first (cell_value t c)
first_said t (Some c) (Some cs) = refl

values_said : (t : LogicalType) (fs : List (Option (List ℕ)))
    → field_values t fs ≡ option_and_then (cell_values t) (all_some (map field_cell fs))
values_said t [] = refl
values_said t (f ∷ fs) =
    ap (with_first (field_value t f)) (values_said t fs)
    ∙ first_said t (field_cell f) (all_some (map field_cell fs))

pub written_column : (t : LogicalType) (fs : List (Option (List ℕ)))
    → option_and_then (column_where t) (field_values t fs)
    ≡ option_and_then (column_from t) (all_some (map field_cell fs))
written_column t fs =
    ap (option_and_then (column_where t)) (values_said t fs) ∙ by (all_some (map field_cell fs))
  where
    by : (o : Option (List (Option (List ℕ))))
        → option_and_then (column_where t) (option_and_then (cell_values t) o)
        ≡ option_and_then (column_from t) o
    by None = refl
    by (Some cs) = refl

none_of : {A : Type 0} (t : LogicalType) → if_cells {A = A} t None ≡ None
none_of (bool_type n) = refl
none_of (integer_type p n) = refl
none_of (text_type n) = refl
none_of t = refl

-- the column of fields is the column of their cells
pub column_of_their_cells : (t : LogicalType) (fs : List (Option (List ℕ)))
    → column_of_fields t fs ≡ option_and_then (column_of_cells t) (all_some (map field_cell fs))
column_of_their_cells t fs = by (all_some (map field_cell fs))
  where
    by : (o : Option (List (Option (List ℕ))))
        → if_cells t (option_and_then (column_from t) o) ≡ option_and_then (column_of_cells t) o
    by None = none_of t
    by (Some cs) = refl
