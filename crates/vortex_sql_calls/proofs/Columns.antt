-- Rows of cells.
use Rattle.std.proofs.Common.{◌≡◌, ℕ, ◌<◌, Bool, true, false, List, length, refl, sym, ap, ◌∙◌}
use Rattle.std.proofs.Common.{cond, subst, [], ◌∷◌, ◌++◌, ◌+◌, arith, nat_lt, map, length-append}
use Rattle.std.specs.Prelude.{not, Result, ℤ, pos, slice_index_or}
use Rattle.std.proofs.lemmas.List.{get_or_append_left, length-map}
use Rattle.std.proofs.lemmas.List.FromFn.{get_or-map-range_with_len, length-map-range_with_len}
use Rattle.std.proofs.Math.Seq.{get_or-append_seam}
use Rattle.std.proofs.lemmas.Bool.{ltb-true, ltb-false}
use Rattle.vortex_errors.proofs.Answering.{answers_where}
use Rattle.vortex_types.specs.declared.dtype.PType.{PType}
use Rattle.vortex_columns.specs.Made.{int_column, text_rows}
use Rattle.vortex_errors.specs.declared.error.VortexError.{VortexError}
use Rattle.vortex_errors.specs.declared.error.VortexError.TheVariants.{InvalidColumn}
use Rattle.vortex_errors.specs.Answers.{AnswersUnlessMemory, AnswersWhere}
use Rattle.vortex_bits.specs.Rows.{AreRows}
use Rattle.vortex_types.specs.LogicalTypes.{LogicalType, bool_type, integer_type, text_type}
use Rattle.vortex_types.specs.LogicalTypes.{is_nullable}
use Rattle.vortex_types.specs.Typing.{HasType, FitsPType}
use Rattle.vortex_types.specs.Values.{Value, null, truth, number, text, is_null}
use Rattle.vortex_types.proofs.NullValues.{not_null}
use Rattle.vortex_columns.specs.declared.cell.Cell.{Cell}
use Rattle.vortex_columns.specs.ColumnView.{ColumnView, row, IsIntegerType}
use Rattle.vortex_columns.specs.Stored.{bool_column}
use Rattle.vortex_columns.specs.ValidRows.{IsValidity}
use Rattle.vortex_columns.specs.ValidityView.{ValidityView, FitsRows, is_valid_row}
use Rattle.vortex_kernels.specs.Rows.{HasRows}
use Rattle.vortex_kernels.proofs.RowLemmas.{bool_answers}
use Rattle.vortex_sql_rows.specs.Shapes.{is_true}
use Rattle.vortex_sql_calls.specs.Columns.{cell_row, AreCellsOf, AreNumbers, AreTexts}

pub plain_valid : (t : LogicalType) (cells : List Cell) → AreCellsOf t cells
    → is_nullable t ≡ false → (i : ℕ) → i < length cells → true ≡ not (is_null (cell_row cells i))
plain_valid t cells typed plain i lt =
    sym (ap not (not_null t (cell_row cells i) (typed i lt) plain))

truth_row : (n : Bool) (v : Value) → HasType (bool_type n) v
    → cond (not (is_null v)) (truth (is_true v)) null ≡ v
truth_row n null h = refl
truth_row n (truth x) h = refl
truth_row n v h = absurd h

pub bool_cells : (t : LogicalType) (cells : List Cell) (bits : List Bool) (v : ValidityView)
    (r : Result ColumnView VortexError) → t ≡ bool_type (is_nullable t) → AreCellsOf t cells
    → IsValidity (is_nullable t) (length cells) (λ i. not (is_null (cell_row cells i))) v
    → AreRows (length cells) (λ i. is_true (cell_row cells i)) bits
    → AnswersWhere r (FitsRows v (length bits)) (λ d. d ≡ bool_column bits v) InvalidColumn
    → AnswersUnlessMemory r (HasRows t (length cells) (cell_row cells))
bool_cells t cells bits v r bool typed valid are answered =
    subst (λ (u : LogicalType). AnswersUnlessMemory r (HasRows u (length cells) (cell_row cells)))
    (sym bool)
    (bool_answers (is_nullable t) (length cells) (λ i. not (is_null (cell_row cells i)))
    (cell_row cells) bits v r are.count valid
    (λ i lt. ap (λ b. cond (not (is_null (cell_row cells i))) (truth b) null) (are.each i lt)
    ∙ truth_row (is_nullable t) (cell_row cells i)
    (subst (λ (u : LogicalType). HasType u (cell_row cells i)) bool (typed i lt)))
    answered)

pub no_numbers : (cells : List Cell) → AreNumbers cells 0 []
no_numbers cells = record { count = refl; each = λ k lt. absurd (omega (arith, lt)) }

pub numbers_more : (cells : List Cell) (i : ℕ) (zs : List ℤ) (y : ℤ) → AreNumbers cells i zs
    → ((z : ℤ) → cell_row cells i ≡ number z → y ≡ z) → AreNumbers cells (i + 1) (zs ++ y ∷ [])
numbers_more cells i zs y a h = record {
  count = length-append zs (y ∷ []) ∙ ap (λ n. n + 1) a.count;
  each = λ k lt z e. by k lt z e (nat_lt k i) refl;
}
  where
    by : (k : ℕ) → k < i + 1 → (z : ℤ) → cell_row cells k ≡ number z → (b : Bool) → nat_lt k i ≡ b
        → slice_index_or (zs ++ y ∷ []) k (pos 0) ≡ z
    by k lt z e true x =
        let below : k < i = ltb-true k i x in
        get_or_append_left zs (y ∷ []) (pos 0) k (omega (arith, below, a.count))
        ∙ a.each k below z e
    by k lt z e false x =
        let same : k ≡ i = omega (arith, ltb-false k i x, lt) in
        ap (λ n. slice_index_or (zs ++ y ∷ []) n (pos 0)) (same ∙ sym a.count)
        ∙ get_or-append_seam zs y [] (pos 0)
        ∙ h z (subst (λ n. cell_row cells n ≡ number z) same e)

integer_dtype : (p : PType) (t : LogicalType) → IsIntegerType p t
    → integer_type p (is_nullable t) ≡ t
integer_dtype p (integer_type q n) h = ap (λ x. integer_type x n) (sym h)
integer_dtype p t h = absurd h

-- a number of the type lies in its range
pub number_fits : (p : PType) (t : LogicalType) (z : ℤ) → IsIntegerType p t → HasType t (number z)
    → FitsPType p z
number_fits p (integer_type q n) z h k = subst (λ x. FitsPType x z) h k
number_fits p t z h k = absurd h

-- a cell of an integer type is null or its number
number_row : (p : PType) (t : LogicalType) (v : Value) (y : ℤ) → IsIntegerType p t → HasType t v
    → ((z : ℤ) → v ≡ number z → y ≡ z) → cond (not (is_null v)) (number y) null ≡ v
number_row p (integer_type q n) null y h k e = refl
number_row p (integer_type q n) (number z) y h k e = ap number (e z refl)
number_row p (integer_type q n) v y h k e = absurd k
number_row p t v y h k e = absurd h

module _ {A : Type 0} (p : PType) (number_of : A → ℤ) (t : LogicalType) (cells : List Cell)
    (xs : List A) (v : ValidityView) (integers : IsIntegerType p t) (typed : AreCellsOf t cells)
    (valid : IsValidity (is_nullable t) (length cells) (λ i. not (is_null (cell_row cells i))) v)
    (are : AreNumbers cells (length cells) (map number_of xs))
  where
    as_many : length xs ≡ length cells
    as_many = sym (length-map xs number_of) ∙ are.count

    int_row : (i : ℕ) → i < length cells
        → cond (is_valid_row v i) (number (slice_index_or (map number_of xs) i (pos 0))) null
        ≡ cell_row cells i
    int_row i lt =
        ap (λ b. cond b (number (slice_index_or (map number_of xs) i (pos 0))) null) (valid.each i lt)
        ∙ number_row p t (cell_row cells i) (slice_index_or (map number_of xs) i (pos 0)) integers
        (typed i lt) (λ z e. are.each i lt z e)

    made : (d : ColumnView) → d ≡ int_column p number_of xs v
        → HasRows t (length cells) (cell_row cells) d
    made d e = record {
      dtype =
          ap (λ (x : ColumnView). x.dtype) e ∙ ap (integer_type p) valid.nullability
          ∙ integer_dtype p t integers;
      count =
          ap (λ (x : ColumnView). length x.rows) e ∙ length-map-range_with_len at 0 (length xs)
          ∙ as_many;
      each = λ i lt.
          ap (λ (x : ColumnView). row x.rows i) e
          ∙ get_or-map-range_with_len at 0 (length xs) i i null (omega (arith, as_many, lt))
          (omega arith)
          ∙ int_row i lt;
    }
      where
        at : ℕ → Value
        at k = cond (is_valid_row v k) (number (slice_index_or (map number_of xs) k (pos 0))) null

    pub int_cells : (r : Result ColumnView VortexError)
        → AnswersWhere r (FitsRows v (length xs)) (λ d. d ≡ int_column p number_of xs v)
        InvalidColumn
        → AnswersUnlessMemory r (HasRows t (length cells) (cell_row cells))
    int_cells r answered =
        answers_where r (FitsRows v (length xs)) (λ d. d ≡ int_column p number_of xs v)
        (HasRows t (length cells) (cell_row cells)) InvalidColumn
        (subst (λ (m : ℕ). FitsRows v m) (sym as_many) valid.fits) made answered

pub no_texts : (cells : List Cell) → AreTexts cells 0 []
no_texts cells = record { count = refl; each = λ k lt. absurd (omega (arith, lt)) }

pub texts_more : (cells : List Cell) (i : ℕ) (ts : List (List ℕ)) (y : List ℕ) → AreTexts cells i ts
    → ((bs : List ℕ) → cell_row cells i ≡ text bs → y ≡ bs) → AreTexts cells (i + 1) (ts ++ y ∷ [])
texts_more cells i ts y a h = record {
  count = length-append ts (y ∷ []) ∙ ap (λ n. n + 1) a.count;
  each = λ k lt z e. by k lt z e (nat_lt k i) refl;
}
  where
    by : (k : ℕ) → k < i + 1 → (z : List ℕ) → cell_row cells k ≡ text z → (b : Bool)
        → nat_lt k i ≡ b → slice_index_or (ts ++ y ∷ []) k [] ≡ z
    by k lt z e true x =
        let below : k < i = ltb-true k i x in
        get_or_append_left ts (y ∷ []) [] k (omega (arith, below, a.count))
        ∙ a.each k below z e
    by k lt z e false x =
        let same : k ≡ i = omega (arith, ltb-false k i x, lt) in
        ap (λ n. slice_index_or (ts ++ y ∷ []) n []) (same ∙ sym a.count)
        ∙ get_or-append_seam ts y [] []
        ∙ h z (subst (λ n. cell_row cells n ≡ text z) same e)

text_row : (n : Bool) (v : Value) (y : List ℕ) → HasType (text_type n) v
    → ((z : List ℕ) → v ≡ text z → y ≡ z) → cond (not (is_null v)) (text y) null ≡ v
text_row n null y k e = refl
text_row n (text z) y k e = ap text (e z refl)
text_row n v y k e = absurd k

pub text_cells : (t : LogicalType) (cells : List Cell) (ts : List (List ℕ)) (v : ValidityView)
    → t ≡ text_type (is_nullable t) → AreCellsOf t cells
    → IsValidity (is_nullable t) (length cells) (λ i. not (is_null (cell_row cells i))) v
    → AreTexts cells (length cells) ts → (d : ColumnView) → d ≡ text_rows ts v
    → HasRows t (length cells) (cell_row cells) d
text_cells t cells ts v is typed valid are d e = record {
  dtype =
      ap (λ (x : ColumnView). x.dtype) e ∙ ap text_type valid.nullability ∙ sym is;
  count =
      ap (λ (x : ColumnView). length x.rows) e ∙ length-map-range_with_len at 0 (length ts)
      ∙ are.count;
  each = λ i lt.
      ap (λ (x : ColumnView). row x.rows i) e
      ∙ get_or-map-range_with_len at 0 (length ts) i i null (omega (arith, are.count, lt))
      (omega arith)
      ∙ ap (λ b. cond b (text (slice_index_or ts i [])) null) (valid.each i lt)
      ∙ text_row (is_nullable t) (cell_row cells i) (slice_index_or ts i [])
      (subst (λ (u : LogicalType). HasType u (cell_row cells i)) is (typed i lt))
      (λ z x. are.each i lt z x);
}
  where
    at : ℕ → Value
    at k = cond (is_valid_row v k) (text (slice_index_or ts k [])) null
