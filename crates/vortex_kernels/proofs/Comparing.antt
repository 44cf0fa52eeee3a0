-- Rows compared one by one, and the column of the results.
use Rattle.std.proofs.Common.{◌≡◌, ℕ, ◌<◌, Bool, true, false, List, [], length, refl, sym, ap}
use Rattle.std.proofs.Common.{subst, ◌∙◌, arith, cond}
use Rattle.std.specs.Prelude.{◌||◌, nat_eq, not, ℤ, Option, Some, None, IfSome, MatchOption}
use Rattle.std.specs.Prelude.{slice_index_or}
use Rattle.std.specs.declared.cmp.Ordering.{Ordering}
use Rattle.std.specs.Prelude.{Result}
use Rattle.vortex_errors.specs.declared.error.VortexError.{VortexError}
use Rattle.vortex_errors.specs.Answers.{AnswersUnlessMemory}
use Rattle.vortex_errors.proofs.Answering.{AnswersUnlessMemory-weaker}
use Rattle.vortex_kernels.specs.PairOrders.{int_orders, int_orders_with, bit_orders}
use Rattle.vortex_kernels.specs.PairOrders.{bit_orders_with, byte_order, byte_orders}
use Rattle.vortex_kernels.specs.PairOrders.{byte_orders_with}
use Rattle.std.proofs.lemmas.List.FromFn.{get_or-map-range_with_len, length-map-range_with_len}
use Rattle.vortex_types.specs.Values.{Value, null, truth, number, text, bytes, list, truth_of}
use Rattle.vortex_types.specs.Values.{is_null}
use Rattle.vortex_types.specs.LogicalTypes.{LogicalType, null_type, bool_type, integer_type}
use Rattle.vortex_types.specs.LogicalTypes.{text_type, bytes_type, struct_type, list_type}
use Rattle.vortex_types.specs.LogicalTypes.{fixed_size_list_type, map_type, is_text_type}
use Rattle.vortex_types.specs.TypeEquality.{alike_types}
use Rattle.vortex_types.specs.Typing.{HasType}
use Rattle.vortex_types.specs.Order.{compare_values}
use Rattle.vortex_types.specs.ScalarView.{ScalarView, compare_scalars}
use Rattle.vortex_types.proofs.NullValues.{null_is}
use Rattle.vortex_columns.specs.ColumnView.{ColumnView, row, constant_column, is_bytes_like}
use Rattle.vortex_columns.specs.ColumnView.{bytes_value, HasBytes, AreBytes, AreInts, AreBits}
use Rattle.vortex_operators.specs.declared.operators.CompareOperator.{CompareOperator}
use Rattle.vortex_bits.specs.Rows.{AreRows}
use Rattle.vortex_kernels.proofs.RowLemmas.{same_rows}
use Rattle.vortex_kernels.specs.Rows.{HasRows}
use Rattle.vortex_operators.specs.OperatorValues.{holds, comparison_value, comparison_type}
use Rattle.vortex_kernels.specs.Comparison.{compared_scalar, are_comparable, is_null_scalar}
use Rattle.vortex_kernels.specs.Comparison.{is_settled, AnswersCompare, AreHeld, IsConstantOf}
use Rattle.vortex_kernels.specs.Comparison.{IsConstantBytes, IsOrderAt, AreComparisons}

-- the orders decide the comparisons
held_compares : (op : CompareOperator) (order : ℕ → Ordering) (ls rs : List Value)
    (bits : List Bool)
    → ((i : ℕ) → i < length ls → IsOrderAt ls rs i (order i)) → AreHeld op order (length ls) bits
    → AreComparisons op ls rs bits
held_compares op order ls rs bits orders h = record {
  count = h.count;
  each = λ i lt p q. h.each i lt ∙ ap (holds op) (orders i lt p q);
}

pub answers_compare : (op : CompareOperator) (order : ℕ → Ordering) (ls rs : List Value)
    (r : Result (List Bool) VortexError)
    → ((i : ℕ) → i < length ls → IsOrderAt ls rs i (order i))
    → AnswersUnlessMemory r (AreHeld op order (length ls))
    → AnswersUnlessMemory r (AreComparisons op ls rs)
answers_compare op order ls rs r orders =
    AnswersUnlessMemory-weaker r (AreHeld op order (length ls)) (AreComparisons op ls rs)
    (λ bits h. held_compares op order ls rs bits orders h)

-- a formula over words equals the comparison of the order
pub answers_held : (op : CompareOperator) (order : ℕ → Ordering) (says : ℕ → Bool) (m n : ℕ)
    (r : Result (List Bool) VortexError) → m ≡ n → ((i : ℕ) → says i ≡ holds op (order i))
    → AnswersUnlessMemory r (AreRows m says) → AnswersUnlessMemory r (AreHeld op order n)
answers_held op order says m n r e same =
    AnswersUnlessMemory-weaker r (AreRows m says) (AreHeld op order n)
    (λ bits are. same_rows m n says (λ i. holds op (order i)) bits e (λ i lt. same i) are)

-- the rows of a constant column
pub constant_row : (s : ScalarView) (c : ColumnView) → c ≡ constant_column s (length c.rows)
    → IsConstantOf s.value c
constant_row s c e i h =
    ap (λ (d : ColumnView). row d.rows i) e
    ∙ get_or-map-range_with_len (λ k. s.value) 0 (length c.rows) i i null h (omega arith)

pub truth_is : (v : Value) → IfSome (truth_of v) (λ b. v ≡ truth b)
truth_is null = tt
truth_is (truth b) = refl
truth_is (number z) = tt
truth_is (text bs) = tt
truth_is (bytes bs) = tt
truth_is (list vs) = tt

pub constant_truth : (s : ScalarView) (c : ColumnView) → c ≡ constant_column s (length c.rows)
    → IfSome (truth_of s.value) (λ b. IsConstantOf (truth b) c)
constant_truth s c e = by (truth_of s.value) (truth_is s.value)
  where
    by : (o : Option Bool) → IfSome o (λ b. s.value ≡ truth b)
        → IfSome o (λ b. IsConstantOf (truth b) c)
    by None h = tt
    by (Some b) h = λ i lt. constant_row s c e i lt ∙ h

-- the number of a constant column, as an integer of a type that holds it
pub fitting_constant : {A : Type 0} (number_of : A → ℤ) (Fits : Type 0) (z : ℤ) (c : ColumnView)
    (o : Option A)
    → MatchOption o (¬ Fits) (λ x. Fits × (number_of x ≡ z)) → IsConstantOf (number z) c
    → IfSome o (λ x. IsConstantOf (number (number_of x)) c)
fitting_constant number_of Fits z c None held rows = tt
fitting_constant number_of Fits z c (Some x) held rows = λ i lt. rows i lt ∙ ap number (sym held.1)

-- numbers and truth values in the rows compare as the rows do
module _ (l r : ColumnView) (same : length l.rows ≡ length r.rows) where
  pub ints_order : (xs ys : List ℤ) → AreInts l xs → AreInts r ys
      → (i : ℕ) → i < length l.rows → IsOrderAt l.rows r.rows i (int_orders xs ys i)
  ints_order xs ys a b i lt p q =
      λ j. compare_values (sym (a.each i (omega (arith, a.count)) p) j)
      (sym (b.each i (omega (arith, b.count, same)) q) j)

  pub ints_order_with : (xs : List ℤ) (z : ℤ) → AreInts l xs → IsConstantOf (number z) r
      → (i : ℕ) → i < length l.rows → IsOrderAt l.rows r.rows i (int_orders_with xs z i)
  ints_order_with xs z a b i lt p q =
      λ j. compare_values (sym (a.each i (omega (arith, a.count)) p) j)
      (sym (b i (omega (arith, same))) j)

  pub bits_order : (xs ys : List Bool) → AreBits l xs → AreBits r ys
      → (i : ℕ) → i < length l.rows → IsOrderAt l.rows r.rows i (bit_orders xs ys i)
  bits_order xs ys a b i lt p q =
      λ j. compare_values (sym (a.each i (omega (arith, a.count)) p) j)
      (sym (b.each i (omega (arith, b.count, same)) q) j)

  pub bits_order_with : (xs : List Bool) (z : Bool) → AreBits l xs → IsConstantOf (truth z) r
      → (i : ℕ) → i < length l.rows → IsOrderAt l.rows r.rows i (bit_orders_with xs z i)
  bits_order_with xs z a b i lt p q =
      λ j. compare_values (sym (a.each i (omega (arith, a.count)) p) j)
      (sym (b i (omega (arith, same))) j)

-- the comparison of two values, from what is known of each
pub comparison_at : (op : CompareOperator) (v w : Value) (b : Bool)
    → (is_null v ≡ false → is_null w ≡ false → b ≡ holds op (compare_values v w))
    → cond (not (is_null v || is_null w)) (truth b) null ≡ comparison_value op v w
comparison_at op v w b h = by (is_null v) (is_null w) refl refl
  where
    by : (p q : Bool) → is_null v ≡ p → is_null w ≡ q
        → cond (not (p || q)) (truth b) null
        ≡ cond (p || q) null (truth (holds op (compare_values v w)))
    by true q e g = refl
    by false true e g = refl
    by false false e g = ap truth (h e g)

-- one scalar in each row
pub constant_has_rows : (s : ScalarView) (n : ℕ) (c : ColumnView) → c ≡ constant_column s n
    → HasRows s.dtype n (λ i. s.value) c
constant_has_rows s n c e = record {
  dtype = ap (λ (d : ColumnView). d.dtype) e;
  count = ap (λ (d : ColumnView). length d.rows) e ∙ length-map-range_with_len (λ k. s.value) 0 n;
  each =
      λ i h. ap (λ (d : ColumnView). row d.rows i) e
      ∙ get_or-map-range_with_len (λ k. s.value) 0 n i i null h (omega arith);
}

-- a function of one scalar's value, in each row
pub constant_image : (f : Value → Value) (c : ColumnView) (s t : ScalarView)
    → c ≡ constant_column s (length c.rows) → t ≡ record { dtype = s.dtype; value = f s.value }
    → (d : ColumnView) → d ≡ constant_column t (length c.rows)
    → HasRows c.dtype (length c.rows) (λ i. f (row c.rows i)) d
constant_image f c s t is image d e =
    let h = constant_has_rows t (length c.rows) d e in
    record {
      dtype =
          h.dtype ∙ ap (λ (x : ScalarView). x.dtype) image
          ∙ sym (ap (λ (x : ColumnView). x.dtype) is);
      count = h.count;
      each =
          λ i lt. h.each i lt ∙ ap (λ (x : ScalarView). x.value) image
          ∙ ap f (sym (constant_row s c is i lt));
    }

-- two scalars of which neither is null
pub scalars_compared : (op : CompareOperator) (a b : ScalarView) (o : Ordering)
    → is_null a.value ≡ false → is_null b.value ≡ false → compare_scalars a b ≡ Some o
    → (are_comparable a b ≡ true) × (comparison_value op a.value b.value ≡ truth (holds op o))
scalars_compared op a b o p q e = by (alike_types a.dtype b.dtype) refl e
  where
    by : (x : Bool) → alike_types a.dtype b.dtype ≡ x
        → cond x (Some (compare_values a.value b.value)) None ≡ Some o
        → (are_comparable a b ≡ true) × (comparison_value op a.value b.value ≡ truth (holds op o))
    by true h g =
        let same : compare_values a.value b.value ≡ o = cc in
        ((λ i. (p i || q i) || h i), (λ i. cond (p i || q i) null (truth (holds op (same i)))))
    by false h g = cc

-- the rows of a constant null
pub null_rows : (s : ScalarView) (c : ColumnView) → c ≡ constant_column s (length c.rows)
    → is_null s.value ≡ true → IsConstantOf null c
null_rows s c e h i lt = constant_row s c e i lt ∙ null_is s.value h

-- decided early, or of types that agree, where two scalars are comparable
settled_or : (z p q x : Bool) → ((p || q) || x) ≡ true → ((z || (p || q)) || x) ≡ true
settled_or true p q x h = refl
settled_or false p q x h = h

-- two constants
pub constants_compared : (op : CompareOperator) (l r : ColumnView) (a b s : ScalarView)
    (d : ColumnView)
    → 0 < length l.rows → length l.rows ≡ length r.rows → l ≡ constant_column a (length l.rows)
    → r ≡ constant_column b (length r.rows) → are_comparable a b ≡ true → s ≡ compared_scalar op a b
    → HasRows s.dtype (length l.rows) (λ i. s.value) d → AnswersCompare op l r d
constants_compared op l r a b s d some same e g comparable is h = record {
  lengths = same;
  accepted = accepted;
  rows = record {
    dtype = h.dtype ∙ (λ i. (is i).dtype) ∙ sym (λ i. comparison_type (e i).dtype (g i).dtype);
    count = h.count;
    each = λ k lt.
        h.each k lt
        ∙ (λ i. (is i).value)
        ∙ sym
        (λ i.
        comparison_value op (constant_row a l e k lt i)
        (constant_row b r g k (omega (arith, same)) i));
  };
}
  where
    accepted : (is_settled l r || alike_types l.dtype r.dtype) ≡ true
    accepted =
        (λ i.
        (nat_eq (length l.rows) 0
        || (is_null_scalar (e i).constant || is_null_scalar (g i).constant))
        || alike_types (e i).dtype (g i).dtype)
        ∙ settled_or (nat_eq (length l.rows) 0) (is_null a.value) (is_null b.value)
        (alike_types a.dtype b.dtype) comparable

-- texts, and byte strings, compare by their bytes
bytes_compare : (t u : LogicalType) (xs ys : List ℕ) → is_bytes_like t ≡ true
    → is_bytes_like u ≡ true → is_text_type t ≡ is_text_type u
    → compare_values (bytes_value t xs) (bytes_value u ys) ≡ byte_order xs ys
bytes_compare (text_type n) (text_type m) xs ys h k e = refl
bytes_compare (bytes_type n) (bytes_type m) xs ys h k e = refl
bytes_compare t u xs ys h k e = cc

module _ (l r : ColumnView) (same : length l.rows ≡ length r.rows)
    (kind : is_text_type l.dtype ≡ is_text_type r.dtype) where
  pub bytes_order : (xs ys : List (List ℕ)) → HasBytes l × AreBytes l xs
      → HasBytes r × AreBytes r ys → (i : ℕ) → i < length l.rows
      → IsOrderAt l.rows r.rows i (byte_orders xs ys i)
  bytes_order xs ys a b i lt p q =
      sym (bytes_compare l.dtype r.dtype (slice_index_or xs i []) (slice_index_or ys i [])
      a.0.bytes_like b.0.bytes_like kind)
      ∙ (λ j. compare_values (sym (a.1.each i (omega (arith, a.1.count)) p) j)
      (sym (b.1.each i (omega (arith, b.1.count, same)) q) j))

  pub bytes_order_with : (xs : List (List ℕ)) (bs : List ℕ) → HasBytes l × AreBytes l xs
      → IsConstantBytes r bs → (i : ℕ) → i < length l.rows
      → IsOrderAt l.rows r.rows i (byte_orders_with xs bs i)
  bytes_order_with xs bs a b i lt p q =
      sym (bytes_compare l.dtype r.dtype (slice_index_or xs i []) bs a.0.bytes_like b.like kind)
      ∙ (λ j. compare_values (sym (a.1.each i (omega (arith, a.1.count)) p) j)
      (sym (b.rows i (omega (arith, same))) j))

typed_text : (t : LogicalType) (bs : List ℕ) → HasType t (text bs)
    → (bytes_value t bs ≡ text bs) × (is_bytes_like t ≡ true)
typed_text (text_type n) bs h = (refl, refl)
typed_text null_type bs h = absurd h
typed_text (bool_type n) bs h = absurd h
typed_text (integer_type p n) bs h = absurd h
typed_text (bytes_type n) bs h = absurd h
typed_text (struct_type fs n) bs h = absurd h
typed_text (list_type t n) bs h = absurd h
typed_text (fixed_size_list_type t s n) bs h = absurd h
typed_text (map_type k v n) bs h = absurd h

typed_bytes : (t : LogicalType) (bs : List ℕ) → HasType t (bytes bs)
    → (bytes_value t bs ≡ bytes bs) × (is_bytes_like t ≡ true)
typed_bytes (bytes_type n) bs h = (refl, refl)
typed_bytes null_type bs h = absurd h
typed_bytes (bool_type n) bs h = absurd h
typed_bytes (integer_type p n) bs h = absurd h
typed_bytes (text_type n) bs h = absurd h
typed_bytes (struct_type fs n) bs h = absurd h
typed_bytes (list_type t n) bs h = absurd h
typed_bytes (fixed_size_list_type t s n) bs h = absurd h
typed_bytes (map_type k v n) bs h = absurd h

pub constant_text : (s : ScalarView) (c : ColumnView) (bs : List ℕ)
    → c ≡ constant_column s (length c.rows) → HasType s.dtype s.value → s.value ≡ text bs
    → IsConstantBytes c bs
constant_text s c bs e h is =
    let typed = typed_text s.dtype bs (subst (HasType s.dtype) is h) in
    let same : c.dtype ≡ s.dtype = ap (λ (d : ColumnView). d.dtype) e in
    record {
      like = ap is_bytes_like same ∙ typed.1;
      rows =
          λ i lt. constant_row s c e i lt ∙ is ∙ sym (ap (λ t. bytes_value t bs) same ∙ typed.0);
    }

pub constant_bytes : (s : ScalarView) (c : ColumnView) (bs : List ℕ)
    → c ≡ constant_column s (length c.rows) → HasType s.dtype s.value → s.value ≡ bytes bs
    → IsConstantBytes c bs
constant_bytes s c bs e h is =
    let typed = typed_bytes s.dtype bs (subst (HasType s.dtype) is h) in
    let same : c.dtype ≡ s.dtype = ap (λ (d : ColumnView). d.dtype) e in
    record {
      like = ap is_bytes_like same ∙ typed.1;
      rows =
          λ i lt. constant_row s c e i lt ∙ is ∙ sym (ap (λ t. bytes_value t bs) same ∙ typed.0);
    }
