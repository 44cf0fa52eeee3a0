-- Fields that are read one by one as stored values, and the column made of them.
use Rattle.std.proofs.Common.{◌≡◌, ◌∙◌, ℕ, ◌+◌, ◌<◌, Bool, true, false, Option, Some, None, Result}
use Rattle.std.proofs.Common.{List, [], ◌∷◌, ◌++◌, ℤ, pos, map, take, length, get_or, refl, sym, ap}
use Rattle.std.proofs.Common.{subst, option_map, if◌then◌else◌}
use Rattle.std.specs.Prelude.{is_some, unwrap_or, slice_index_or}
use Rattle.std.specs.Option.{option_and_then}
use Rattle.std.proofs.lemmas.List.{length-map}
use Rattle.vortex_errors.specs.declared.error.VortexError.{VortexError}
use Rattle.vortex_errors.specs.declared.error.VortexError.TheVariants.{InvalidColumn}
use Rattle.vortex_errors.specs.Answers.{AnswersWhere, AnswersUnlessMemory}
use Rattle.vortex_errors.proofs.Answering.{answers_where}
use Rattle.vortex_types.specs.LogicalTypes.{integer_type}
use Rattle.vortex_types.specs.declared.dtype.PType.{PType}
use Rattle.vortex_types.specs.Values.{Value, null, number}
use Rattle.vortex_columns.specs.ColumnView.{ColumnView}
use Rattle.vortex_columns.specs.Made.{int_column}
use Rattle.vortex_columns.specs.ValidityView.{ValidityView, FitsRows}
use Rattle.vortex_cells.specs.CellValues.{column_where}
use Rattle.vortex_cells.specs.Cells.{item_or_null, AreCells, cells_validity}
use Rattle.vortex_cells.proofs.CellRows.{value_read, made_is, numbers_at, all_fit, fits_cells, column_made}
use Rattle.vortex_logical.specs.declared.kind.Kind.{Kind}
use Rattle.vortex_logical.specs.Cells.{stored_of_text}
use Rattle.vortex_logical_cells.specs.StoredFields.{stored_value, stored_values}

-- a value is null only where null is allowed
there : {X : Type 0} (k : Kind) (n : Bool) (f : X → ℤ) (field : Option (List ℕ)) (item : Option X)
    → stored_value k n field ≡ Some (item_or_null (λ x. number (f x)) item) → n ≡ false
    → is_some item ≡ true
there k n f field (Some x) e plain = refl
there k n f None None e plain = absurd (cc (sym e ∙ ap (λ b. if b then Some null else None) plain))
there k n f (Some bs) None e plain = absurd (by (stored_of_text k bs) e)
  where
    by : (o : Option ℤ) → option_map (λ z. number z) o ≡ Some null → ⊥
    by None h = cc
    by (Some z) h = cc

-- one more field
pub stored_read : {X W : Type 0} (k : Kind) (n : Bool) (f : X → ℤ) (field : W → Option (List ℕ))
    (places : List W) (i : ℕ) (d : W) (items : List X) (valid : List Bool) (item : Option X)
    (blank : X)
    → i < length places
    → AreCells n (map (λ x. number (f x)) items) valid
    (stored_values k n (map field (take i places)))
    → stored_value k n (field (get_or places i d)) ≡ Some (item_or_null (λ x. number (f x)) item)
    → AreCells n (map (λ x. number (f x)) (items ++ unwrap_or item blank ∷ []))
    (valid ++ is_some item ∷ []) (stored_values k n (map field (take (i + 1) places)))
stored_read k n f field places i d items valid item blank lt h e =
    value_read (stored_value k n) n (λ x. number (f x)) field places i d items valid item blank lt h
    e (there k n f (field (get_or places i d)) item e) refl

-- the column of stored integers
pub stored_column : {X : Type 0} (p : PType) (f : X → ℤ) (n : Bool) (xs : List X)
    (valid : List Bool) (said : Option (List Value)) (v : ValidityView)
    (made : Result ColumnView VortexError)
    → AreCells n (map (λ x. number (f x)) xs) valid said → v ≡ cells_validity n valid
    → AnswersWhere made (FitsRows v (length xs)) (λ c. c ≡ int_column p f xs v) InvalidColumn
    → AnswersUnlessMemory made
    (λ c. Some c ≡ option_and_then (column_where (integer_type p n)) said)
stored_column {X} p f n xs valid said v made cells validity h =
    let value = λ (x : X). number (f x) in
    let vs = map value xs in
    let counted = length-map xs value in
    let fits : FitsRows v (length xs) =
    subst (λ (u : ValidityView). FitsRows u (length xs)) (sym validity)
    (subst (λ (m : ℕ). FitsRows (cells_validity n valid) m) counted
    (fits_cells n vs valid cells.items.count)) in
    answers_where made (FitsRows v (length xs)) (λ c. c ≡ int_column p f xs v)
    (λ c. Some c ≡ option_and_then (column_where (integer_type p n)) said) InvalidColumn fits
    (λ c e.
    column_made (integer_type p) n vs valid said v c refl cells validity
    (all_fit value (λ x. refl) xs)
    (made_is (integer_type p) v (length xs) (λ i. number (slice_index_or (map f xs) i (pos 0))) vs
    c (sym counted) (numbers_at f xs) e))
    h
