-- Rows of truth values built one by one, and the column made of them.
use Rattle.std.proofs.Common.{◌≡◌, ℕ, zero, suc, ◌<◌, Bool, true, false, Option}
use Rattle.std.proofs.Common.{Some, None, List, [], ◌∷◌, ◌++◌, length, get_or, refl, sym, ap, subst}
use Rattle.std.proofs.Common.{◌∙◌, arith, cond}
use Rattle.std.specs.Prelude.{not, is_some, Result, slice_index_or}
use Rattle.std.proofs.lemmas.List.FromFn.{get_or-map-range_with_len, length-map-range_with_len}
use Rattle.vortex_types.specs.LogicalTypes.{LogicalType, null_type, bool_type, integer_type}
use Rattle.vortex_types.specs.LogicalTypes.{text_type, bytes_type, struct_type, list_type}
use Rattle.vortex_types.specs.LogicalTypes.{fixed_size_list_type, map_type, is_bool_type}
use Rattle.vortex_types.specs.LogicalTypes.{is_nullable}
use Rattle.vortex_types.specs.Values.{Value, null, truth, number, text, bytes, list, is_null}
use Rattle.vortex_types.specs.Values.{truth_or_null, truth_of}
use Rattle.vortex_types.specs.Typing.{HasType}
use Rattle.std.proofs.lemmas.List.Elements.{All-get_or}
use Rattle.vortex_columns.specs.ColumnView.{ColumnView, row, AreBits, AreTyped}
use Rattle.vortex_columns.specs.ValidityView.{ValidityView, is_valid_row, FitsRows}
use Rattle.vortex_errors.specs.declared.error.VortexError.{VortexError}
use Rattle.vortex_errors.specs.declared.error.VortexError.TheVariants.{InvalidColumn}
use Rattle.vortex_errors.specs.Answers.{AnswersUnlessMemory, AnswersWhere}
use Rattle.vortex_errors.proofs.Answering.{answers_where}
use Rattle.vortex_columns.specs.Stored.{bool_column}
use Rattle.vortex_kernels.specs.Rows.{HasRows}
use Rattle.vortex_bits.specs.Rows.{AreRows}
use Rattle.vortex_operators.specs.OperatorValues.{not_value}
use Rattle.vortex_columns.specs.ValidRows.{IsValidity}
use Rattle.vortex_kernels.specs.Kleene.{HasTruthRows}
use Rattle.vortex_kernels.specs.Truths.{IsValueOf}

module _ {A : Type 0} (other : A) where
  pub get_or-last : (xs : List A) (x : A) → get_or (xs ++ x ∷ []) (length xs) other ≡ x
  get_or-last [] x = refl
  get_or-last (y ∷ ys) x = get_or-last ys x

  pub get_or-before : (xs : List A) (x : A) (k : ℕ) → k < length xs
      → get_or (xs ++ x ∷ []) k other ≡ get_or xs k other
  get_or-before [] x k h = absurd (omega arith)
  get_or-before (y ∷ ys) x zero h = refl
  get_or-before (y ∷ ys) x (suc k) h = get_or-before ys x k (omega arith)

-- rows given by another function of the same values
pub same_rows : (m n : ℕ) (f h : ℕ → Bool) (bits : List Bool) → m ≡ n
    → ((i : ℕ) → i < n → f i ≡ h i) → AreRows m f bits → AreRows n h bits
same_rows m n f h bits e same are = record {
  count = are.count ∙ e;
  each = λ i lt. are.each i (omega (arith, e)) ∙ same i lt;
}

pub bool_dtype : (t : LogicalType) → is_bool_type t ≡ true → t ≡ bool_type (is_nullable t)
bool_dtype (bool_type n) h = refl
bool_dtype null_type h = cc
bool_dtype (integer_type p n) h = cc
bool_dtype (text_type n) h = cc
bool_dtype (bytes_type n) h = cc
bool_dtype (struct_type fs n) h = cc
bool_dtype (list_type t n) h = cc
bool_dtype (fixed_size_list_type t s n) h = cc
bool_dtype (map_type k v n) h = cc

-- a truth value given by a bool, or null
pub value_row : (o : Option Bool) (b : Bool) → IsValueOf b o
    → cond (is_some o) (truth b) null ≡ truth_or_null o
value_row None b h = refl
value_row (Some v) b h = ap truth h

-- the column of such bits, null where a row is not valid
pub bool_rows : (nullable : Bool) (n : ℕ) (valid : ℕ → Bool) (f : ℕ → Value) (bits : List Bool)
    (v : ValidityView) (c : ColumnView)
    → length bits ≡ n → IsValidity nullable n valid v
    → ((i : ℕ) → i < n → cond (valid i) (truth (slice_index_or bits i false)) null ≡ f i)
    → c ≡ bool_column bits v → HasRows (bool_type nullable) n f c
bool_rows nullable n valid f bits v c count h rows e = record {
  dtype = ap (λ (d : ColumnView). d.dtype) e ∙ ap bool_type h.nullability;
  count =
      ap (λ (d : ColumnView). length d.rows) e
      ∙ length-map-range_with_len
      (λ k. cond (is_valid_row v k) (truth (slice_index_or bits k false)) null) 0 (length bits)
      ∙ count;
  each = λ i lt.
      ap (λ (d : ColumnView). row d.rows i) e
      ∙ get_or-map-range_with_len
      (λ k. cond (is_valid_row v k) (truth (slice_index_or bits k false)) null) 0 (length bits)
      i i null (omega (arith, count)) (omega arith)
      ∙ ap (λ b. cond b (truth (slice_index_or bits i false)) null) (h.each i lt)
      ∙ rows i lt;
}

pub bool_answers : (nullable : Bool) (n : ℕ) (valid : ℕ → Bool) (f : ℕ → Value) (bits : List Bool)
    (v : ValidityView) (r : Result ColumnView VortexError)
    → length bits ≡ n → IsValidity nullable n valid v
    → ((i : ℕ) → i < n → cond (valid i) (truth (slice_index_or bits i false)) null ≡ f i)
    → AnswersWhere r (FitsRows v (length bits)) (λ c. c ≡ bool_column bits v) InvalidColumn
    → AnswersUnlessMemory r (HasRows (bool_type nullable) n f)
bool_answers nullable n valid f bits v r count h rows answered =
    answers_where r (FitsRows v (length bits)) (λ c. c ≡ bool_column bits v)
    (HasRows (bool_type nullable) n f) InvalidColumn
    (subst (λ (m : ℕ). FitsRows v m) (sym count) h.fits)
    (λ c e. bool_rows nullable n valid f bits v c count h rows e)
    answered

-- bits equal to the truth values where present, with the rows that have one
pub truth_answers : (nullable : Bool) (n : ℕ) (f : ℕ → Option Bool) (bits : List Bool)
    (v : ValidityView) (r : Result ColumnView VortexError)
    → length bits ≡ n → IsValidity nullable n (λ i. is_some (f i)) v
    → ((i : ℕ) → i < n → IsValueOf (slice_index_or bits i false) (f i))
    → AnswersWhere r (FitsRows v (length bits)) (λ c. c ≡ bool_column bits v) InvalidColumn
    → AnswersUnlessMemory r (HasTruthRows nullable n f)
truth_answers nullable n f bits v r count valid values answered =
    bool_answers nullable n (λ i. is_some (f i)) (λ i. truth_or_null (f i)) bits v r count valid
    (λ i lt. value_row (f i) (slice_index_or bits i false) (values i lt)) answered

-- a row that is negated where it is not null
pub not_row : (c : ColumnView) (xs bits : List Bool) → AreBits c xs
    → AreRows (length xs) (λ i. not (slice_index_or xs i false)) bits → (i : ℕ)
    → i < length c.rows
    → cond (not (is_null (row c.rows i))) (truth (slice_index_or bits i false)) null
    ≡ not_value (row c.rows i)
not_row c xs bits are told i lt = by (row c.rows i) (are.each i (omega (arith, are.count)))
  where
    turned : slice_index_or bits i false ≡ not (slice_index_or xs i false)
    turned = told.each i (omega (arith, are.count))

    by : (v : Value) → (is_null v ≡ false → v ≡ truth (slice_index_or xs i false))
        → cond (not (is_null v)) (truth (slice_index_or bits i false)) null ≡ not_value v
    by null h = refl
    by (truth b) h = ap truth turned ∙ sym (ap not_value (h refl))
    by (number z) h = ap truth turned ∙ sym (ap not_value (h refl))
    by (text bs) h = ap truth turned ∙ sym (ap not_value (h refl))
    by (bytes bs) h = ap truth turned ∙ sym (ap not_value (h refl))
    by (list vs) h = ap truth turned ∙ sym (ap not_value (h refl))

-- a row of non-nullable Bool has a truth value
typed_some : (t : LogicalType) (v : Value) → is_bool_type t ≡ true → is_nullable t ≡ false
    → HasType t v → is_some (truth_of v) ≡ true
typed_some (bool_type n) null b f h = cc
typed_some (bool_type n) (truth x) b f h = refl
typed_some (bool_type n) (number z) b f h = absurd h
typed_some (bool_type n) (text bs) b f h = absurd h
typed_some (bool_type n) (bytes bs) b f h = absurd h
typed_some (bool_type n) (list vs) b f h = absurd h
typed_some null_type v b f h = cc
typed_some (integer_type p n) v b f h = cc
typed_some (text_type n) v b f h = cc
typed_some (bytes_type n) v b f h = cc
typed_some (struct_type fs n) v b f h = cc
typed_some (list_type t n) v b f h = cc
typed_some (fixed_size_list_type t s n) v b f h = cc
typed_some (map_type k w n) v b f h = cc

pub row_some : (c : ColumnView) → is_bool_type c.dtype ≡ true → is_nullable c.dtype ≡ false
    → AreTyped c.dtype c.rows → (i : ℕ) → i < length c.rows
    → is_some (truth_of (row c.rows i)) ≡ true
row_some c bool plain typed i lt =
    typed_some c.dtype (row c.rows i) bool plain
    (All-get_or (HasType c.dtype) c.rows i null lt typed)
