-- Rows of truth values that are built one by one, and the column made of them.
use Rattle.std.proofs.Common.{◌≡◌, ◌⊎◌, inl, inr, ℕ, zero, suc, ◌+◌, ◌<◌, Bool, true, false, List}
use Rattle.std.proofs.Common.{[]}
use Rattle.std.proofs.Common.{◌∷◌, ◌++◌, length, get_or, refl, sym, ap, subst, ◌∙◌, arith, cond}
use Rattle.std.proofs.Common.{length-append}
use Rattle.std.specs.Prelude.{◌||◌, not, slice_index_or, Result}
use Rattle.std.proofs.lemmas.List.FromFn.{get_or-map-range_with_len, length-map-range_with_len}
use Rattle.std.proofs.lemmas.List.Elements.{All-get_or}
use Rattle.vortex_errors.specs.declared.error.VortexError.{VortexError}
use Rattle.vortex_errors.specs.declared.error.VortexError.TheVariants.{InvalidColumn}
use Rattle.vortex_errors.specs.Answers.{AnswersUnlessMemory, AnswersWhere}
use Rattle.vortex_types.specs.LogicalTypes.{LogicalType, null_type, bool_type, integer_type}
use Rattle.vortex_types.specs.LogicalTypes.{text_type, bytes_type, struct_type, list_type}
use Rattle.vortex_types.specs.LogicalTypes.{fixed_size_list_type, map_type, is_text_type}
use Rattle.vortex_types.specs.ScalarView.{ScalarView}
use Rattle.vortex_types.specs.Typing.{HasType, OrNull, IsText}
use Rattle.vortex_columns.specs.ValidityView.{ValidityView, is_valid_row, FitsRows}
use Rattle.vortex_types.specs.Values.{Value, null, truth, number, text, bytes, list, is_null}
use Rattle.vortex_errors.proofs.Answering.{answers_where, AnswersUnlessMemory-weaker}
use Rattle.vortex_columns.specs.ColumnView.{ColumnView, row, AreTyped, constant_column}
use Rattle.vortex_columns.specs.Stored.{bool_column}
use Rattle.vortex_columns.specs.ValidRows.{IsJointValidity, either_nullable}
use Rattle.vortex_columns.specs.Cells.{cell_value}
use Rattle.vortex_columns.specs.declared.cell.Cell.{Cell}
use Rattle.vortex_columns.specs.declared.cell.Cell.TheVariants.{Null, Bool as BoolCell, Int, Text}
use Rattle.vortex_columns.specs.declared.cell.Cell.TheVariants.{Bytes, Sequence}
use denote.Bor.{Bor}
use Rattle.vortex_like.specs.declared.options.LikeOptions.{LikeOptions}
use Rattle.vortex_like.specs.Patterns.{like, like_value}
use Rattle.vortex_like.specs.Rows.{AreTold, IsLikeBit, AreLikeBits, HasLikeRows}
use Rattle.vortex_like.specs.Rows.{IsConstantOf}

module _ {A : Type 0} (other : A) where
  get_or-last : (xs : List A) (x : A) → get_or (xs ++ x ∷ []) (length xs) other ≡ x
  get_or-last [] x = refl
  get_or-last (y ∷ ys) x = get_or-last ys x

  get_or-before : (xs : List A) (x : A) (k : ℕ) → k < length xs
      → get_or (xs ++ x ∷ []) k other ≡ get_or xs k other
  get_or-before [] x k h = absurd (omega arith)
  get_or-before (y ∷ ys) x zero h = refl
  get_or-before (y ∷ ys) x (suc k) h = get_or-before ys x k (omega arith)

-- one more bit
pub told_more : (n : ℕ) (tells : ℕ → Bool → Type 0) (bits : List Bool) (b : Bool)
    → AreTold n tells bits → tells n b → AreTold (n + 1) tells (bits ++ b ∷ [])
told_more n tells bits b h told = record {
  count = omega (arith, length-append bits (b ∷ []), h.count);
  each = λ k lt. by k (last_or_before k lt);
}
  where
    last_or_before : (k : ℕ) → k < n + 1 → (k < n) ⊎ (k ≡ n)
    last_or_before k lt = grind arith

    by : (k : ℕ) → (k < n) ⊎ (k ≡ n) → tells k (slice_index_or (bits ++ b ∷ []) k false)
    by k (inl lt) =
        subst (λ (x : Bool). tells k x)
        (sym (get_or-before false bits b k (omega (arith, h.count)))) (h.each k lt)
    by k (inr q) = rw (q, ← h.count, get_or-last) (rw h.count told)

-- a row of a column of texts is null or a text
abbrev pub IsNullOrText : Value → Type 0
IsNullOrText null = Unit {0}
IsNullOrText (text bs) = Unit {0}
IsNullOrText v = ⊥

or_null_text : (n : Bool) (v : Value) → OrNull n IsText v → IsNullOrText v
or_null_text n null h = tt
or_null_text n (truth b) h = h
or_null_text n (number z) h = h
or_null_text n (text bs) h = tt
or_null_text n (bytes bs) h = h
or_null_text n (list vs) h = h

typed_text : (t : LogicalType) (v : Value) → is_text_type t ≡ true → HasType t v → IsNullOrText v
typed_text (text_type n) v e h = or_null_text n v h
typed_text (bool_type n) v e h = cc
typed_text null_type v e h = cc
typed_text (integer_type p n) v e h = cc
typed_text (bytes_type n) v e h = cc
typed_text (struct_type fs n) v e h = cc
typed_text (list_type t n) v e h = cc
typed_text (fixed_size_list_type t s n) v e h = cc
typed_text (map_type k w n) v e h = cc

pub row_is_text : (c : ColumnView) → is_text_type c.dtype ≡ true → AreTyped c.dtype c.rows
    → (i : ℕ) → i < length c.rows → IsNullOrText (row c.rows i)
row_is_text c e typed i lt = typed_text c.dtype (row c.rows i) e
    (All-get_or (HasType c.dtype) c.rows i null lt typed)

-- a bit under a joint validity is the value
bit_value : (options : LikeOptions) (v w : Value) (b : Bool) → IsNullOrText v → IsNullOrText w
    → IsLikeBit options v w b
    → cond (not (is_null v || is_null w)) (truth b) null ≡ like_value options v w
bit_value options null w b hv hw h = refl
bit_value options (text bs) null b hv hw h = refl
bit_value options (text bs) (text pattern) b hv hw h = ap truth h
bit_value options (text bs) (truth x) b hv hw h = absurd hw
bit_value options (text bs) (number x) b hv hw h = absurd hw
bit_value options (text bs) (bytes x) b hv hw h = absurd hw
bit_value options (text bs) (list x) b hv hw h = absurd hw
bit_value options (truth x) w b hv hw h = absurd hv
bit_value options (number x) w b hv hw h = absurd hv
bit_value options (bytes x) w b hv hw h = absurd hv
bit_value options (list x) w b hv hw h = absurd hv

like_column : (options : LikeOptions) (l r : ColumnView) (bits : List Bool) (v : ValidityView)
    (c : ColumnView) → ((i : ℕ) → i < length l.rows → IsNullOrText (row l.rows i))
    → ((i : ℕ) → i < length l.rows → IsNullOrText (row r.rows i))
    → AreLikeBits options l r bits → IsJointValidity (either_nullable l r) l r v
    → c ≡ bool_column bits v → HasLikeRows options l r c
like_column options l r bits v c left right told valid e = record {
  dtype = ap (λ (d : ColumnView). d.dtype) e ∙ ap bool_type valid.nullability;
  count =
      ap (λ (d : ColumnView). length d.rows) e
      ∙ length-map-range_with_len
      (λ k. cond (is_valid_row v k) (truth (slice_index_or bits k false)) null) 0 (length bits)
      ∙ told.count;
  each = λ i lt.
      ap (λ (d : ColumnView). row d.rows i) e
      ∙ get_or-map-range_with_len
      (λ k. cond (is_valid_row v k) (truth (slice_index_or bits k false)) null) 0 (length bits)
      i i null (omega (arith, told.count)) (omega arith)
      ∙ ap (λ b. cond b (truth (slice_index_or bits i false)) null) (valid.each i lt)
      ∙ bit_value options (row l.rows i) (row r.rows i) (slice_index_or bits i false) (left i lt)
      (right i lt) (told.each i lt);
}

pub like_answers : (options : LikeOptions) (l r : ColumnView) (bits : List Bool) (v : ValidityView)
    (result : Result ColumnView VortexError)
    → ((i : ℕ) → i < length l.rows → IsNullOrText (row l.rows i))
    → ((i : ℕ) → i < length l.rows → IsNullOrText (row r.rows i))
    → AreLikeBits options l r bits → IsJointValidity (either_nullable l r) l r v
    → AnswersWhere result (FitsRows v (length bits)) (λ c. c ≡ bool_column bits v) InvalidColumn
    → AnswersUnlessMemory result (HasLikeRows options l r)
like_answers options l r bits v result left right told valid answered =
    answers_where result (FitsRows v (length bits)) (λ c. c ≡ bool_column bits v)
    (HasLikeRows options l r) InvalidColumn
    (subst (λ (m : ℕ). FitsRows v m) (sym told.count) valid.fits)
    (λ c e. like_column options l r bits v c left right told valid e)
    answered

-- the rows of a constant column
pub constant_row : (s : ScalarView) (c : ColumnView) → c ≡ constant_column s (length c.rows)
    → IsConstantOf s.value c
constant_row s c e i h =
    ap (λ (d : ColumnView). row d.rows i) e
    ∙ get_or-map-range_with_len (λ k. s.value) 0 (length c.rows) i i null h (omega arith)

-- the cell of a value that is null or a text is no other kind
pub null_cell : (c : Cell) (v : Value) → cell_value c ≡ v → IsNullOrText v
    → ((borrowed : Bor (List ℕ)) → c ≡ Text borrowed → ⊥) → is_null v ≡ true
null_cell c null e h none = refl
null_cell Null (text bs) e h none = cc
null_cell (BoolCell b) (text bs) e h none = cc
null_cell (Int z) (text bs) e h none = cc
null_cell (Text borrowed) (text bs) e h none = absurd (none borrowed refl)
null_cell (Bytes borrowed) (text bs) e h none = cc
null_cell (Sequence s) (text bs) e h none = cc
null_cell c (truth b) e h none = absurd h
null_cell c (number z) e h none = absurd h
null_cell c (bytes bs) e h none = absurd h
null_cell c (list vs) e h none = absurd h

-- the same text and the same pattern in each row
pub constant_like : (options : LikeOptions) (l r : ColumnView) (bs ps : List ℕ) (b n : Bool)
    (s : ScalarView) (m : ℕ) (result : Result ColumnView VortexError)
    → length l.rows ≡ length r.rows → IsConstantOf (text bs) l → IsConstantOf (text ps) r
    → b ≡ like options bs ps → n ≡ either_nullable l r
    → s ≡ record { dtype = bool_type n; value = truth b } → m ≡ length l.rows
    → AnswersUnlessMemory result (λ c. c ≡ constant_column s m)
    → AnswersUnlessMemory result (HasLikeRows options l r)
constant_like options l r bs ps b n s m result lengths left right found nullable scalar count h =
    AnswersUnlessMemory-weaker result (λ c. c ≡ constant_column s m) (HasLikeRows options l r)
    (λ c e. record {
      dtype =
          ap (λ (d : ColumnView). d.dtype) e ∙ ap (λ (t : ScalarView). t.dtype) scalar
          ∙ ap bool_type nullable;
      count =
          ap (λ (d : ColumnView). length d.rows) e
          ∙ length-map-range_with_len (λ k. s.value) 0 m ∙ count;
      each = λ i lt.
          let other : i < length r.rows = omega arith in
          ap (λ (d : ColumnView). row d.rows i) e
          ∙ get_or-map-range_with_len (λ k. s.value) 0 m i i null (omega arith) (omega arith)
          ∙ ap (λ (t : ScalarView). t.value) scalar ∙ ap truth found
          ∙ sym (ap (λ (w : Value). like_value options (row l.rows i) w) (right i other)
          ∙ ap (λ (v : Value). like_value options v (text ps)) (left i lt));
    }) h
