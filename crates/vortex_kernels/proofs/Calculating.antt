-- Rows calculated one by one, and the column of the results.
use Rattle.std.proofs.Common.{◌≡◌, ◌⊎◌, inl, inr, ℕ, ◌+◌, ◌<◌, Bool, true, false, Option, Some}
use Rattle.std.proofs.Common.{None, List, [], ◌∷◌, ◌++◌, length, map, refl, sym, ap, subst, ◌∙◌}
use Rattle.std.proofs.Common.{arith, length-append, cond}
use Rattle.std.specs.Prelude.{ℤ, pos, not, ◌||◌, ◌≤ℤ◌, int_lt, Result, slice_index_or}
use Rattle.std.specs.Prelude.{MatchOption, IsSome, IfNone, IfSome, is_some}
use Rattle.std.specs.Bool.{FalseIff}
use Rattle.std.proofs.lemmas.Int.{ints}
use Rattle.std.proofs.lemmas.List.{length-map}
use Rattle.std.proofs.lemmas.List.FromFn.{get_or-map-range_with_len, length-map-range_with_len}
use Rattle.vortex_types.specs.declared.dtype.PType.{PType}
use Rattle.vortex_errors.specs.declared.error.NumericOperator.{NumericOperator}
use Rattle.vortex_errors.specs.declared.error.VortexError.{VortexError}
use Rattle.vortex_errors.specs.declared.error.VortexError.TheVariants.{Arithmetic, InvalidColumn}
use Rattle.vortex_errors.specs.Answers.{Answers, AnswersWhere}
use Rattle.vortex_errors.proofs.Answering.{answers_where, Answers-weaker}
use Rattle.vortex_types.proofs.NullValues.{null_is}
use Rattle.vortex_types.specs.LogicalTypes.{LogicalType, null_type, bool_type, integer_type}
use Rattle.vortex_types.specs.LogicalTypes.{text_type, bytes_type, struct_type, list_type}
use Rattle.vortex_types.specs.LogicalTypes.{fixed_size_list_type, map_type, is_nullable}
use Rattle.vortex_types.specs.ScalarView.{ScalarView}
use Rattle.vortex_types.specs.Typing.{HasType, FitsPType, least_of, greatest_of}
use Rattle.vortex_columns.specs.ValidityView.{ValidityView, is_valid_row, FitsRows}
use Rattle.vortex_types.specs.Values.{Value, null, truth, number, text, bytes, list, is_null}
use Rattle.vortex_columns.specs.ColumnView.{ColumnView, row, constant_column, IsUnlessNull}
use Rattle.vortex_columns.specs.ColumnView.{IsIntegerType}
use Rattle.vortex_columns.specs.Made.{int_column}
use Rattle.vortex_columns.specs.Cells.{cell_value}
use Rattle.vortex_columns.specs.declared.cell.Cell.{Cell}
use Rattle.vortex_columns.specs.declared.cell.Cell.TheVariants as cell
use Rattle.vortex_checked.specs.Exact.{is_outside}
use Rattle.vortex_operators.specs.Arithmetic.{held, arithmetic_value}
use Rattle.vortex_operators.specs.Arithmetic.{integer_of_both}
use Rattle.vortex_kernels.specs.ArithmeticIntegers.{FitsResult, AnswersExact}
use Rattle.vortex_columns.specs.ValidRows.{either_nullable}
use Rattle.vortex_columns.specs.ValidRows.{IsJointValidity}
use Rattle.vortex_kernels.specs.Numeric.{HasNumericRows, AnswersNumeric}
use Rattle.vortex_kernels.specs.Numeric.{RefusesNumeric, faulty, IsExactOf}
use Rattle.vortex_kernels.specs.Numeric.{row_results, AreResults, TellsFaults}
use Rattle.vortex_kernels.specs.Numeric.{FitWhereValid, FaultsAt, IsNullColumn}
use Rattle.vortex_kernels.proofs.RowLemmas.{get_or-last, get_or-before}
use Rattle.vortex_kernels.proofs.Comparing.{constant_row}

last_or_before : (n k : ℕ) → k < n + 1 → (k < n) ⊎ (k ≡ n)
last_or_before n k lt = grind arith

-- one more result
pub results_more : (p : PType) (exact : ℕ → Option ℤ) (n : ℕ) (ns : List ℤ) (o : Option ℤ) (z : ℤ)
    → AreResults p exact n ns → o ≡ exact n → AnswersExact p o z
    → AreResults p exact (n + 1) (ns ++ z ∷ [])
results_more p exact n ns o z h same answered = record {
  count = omega (arith, length-append ns (z ∷ []), h.count);
  each = λ k lt. by k (last_or_before n k lt);
}
  where
    by : (k : ℕ) → (k < n) ⊎ (k ≡ n)
        → AnswersExact p (exact k) (slice_index_or (ns ++ z ∷ []) k (pos 0))
    by k (inl lt) =
        subst (λ (x : ℤ). AnswersExact p (exact k) x)
        (sym (get_or-before (pos 0) ns z k (omega (arith, h.count)))) (h.each k lt)
    by k (inr q) =
        rw (q, ← h.count, get_or-last)
        (rw h.count (subst (λ (x : Option ℤ). AnswersExact p x z) same answered))

-- one more row's flag
pub tells_more : (p : PType) (exact : ℕ → Option ℤ) (n : ℕ) (told e joined : Bool) (o : Option ℤ)
    → TellsFaults p exact n told → o ≡ exact n → FalseIff e (FitsResult p o)
    → joined ≡ (told || e) → TellsFaults p exact (n + 1) joined
tells_more p exact n told e joined o h same fault is none i lt =
    by told e h fault (sym is ∙ none) (last_or_before n i lt)
  where
    by : (t f : Bool) → TellsFaults p exact n t → FalseIff f (FitsResult p o) → (t || f) ≡ false
        → (i < n) ⊎ (i ≡ n) → FitsResult p (exact i)
    by true f k fits neither q = cc
    by false true k fits neither q = cc
    by false false k fits neither (inl lt) = k refl i lt
    by false false k fits neither (inr q) = rw q (subst (FitsResult p) same fits)

-- the integer type holds the result, or the row faults
pub within_not : (least greatest z : ℤ) → (least ≤ℤ z) × (z ≤ℤ greatest)
    → is_outside least greatest z ≡ false
within_not least greatest z h = by (int_lt z least) (int_lt greatest z) refl refl
  where
    by : (p q : Bool) → int_lt z least ≡ p → int_lt greatest z ≡ q
        → is_outside least greatest z ≡ false
    by true q e f = absurd (omega (arith, ints, h.0, e))
    by false true e f = absurd (omega (arith, ints, h.1, f))
    by false false e f = λ i. e i || f i

pub inside_is : (least greatest z : ℤ) → is_outside least greatest z ≡ false
    → (least ≤ℤ z) × (z ≤ℤ greatest)
inside_is least greatest z h = by (int_lt z least) (int_lt greatest z) refl refl h
  where
    by : (p q : Bool) → int_lt z least ≡ p → int_lt greatest z ≡ q → (p || q) ≡ false
        → (least ≤ℤ z) × (z ≤ℤ greatest)
    by true q e f k = cc
    by false true e f k = cc
    by false false e f k = (omega (arith, ints, e), omega (arith, ints, f))

pub held_result : (p : PType) (o : Option ℤ) (z : ℤ) → FitsResult p o → AnswersExact p o z
    → held p o ≡ Some (number z)
held_result p None z fits answered = absurd fits
held_result p (Some y) z fits answered =
    ap (λ b. cond b None (Some (number y))) (within_not (least_of p) (greatest_of p) y fits)
    ∙ ap (λ x. Some (number x)) (same (answered fits))
  where
    same : Some y ≡ Some z → y ≡ z
    same e = cc

pub held_none : (p : PType) (o : Option ℤ) → ¬ FitsResult p o → held p o ≡ None
held_none p None fault = refl
held_none p (Some z) fault = by (is_outside (least_of p) (greatest_of p) z) refl
  where
    by : (b : Bool) → is_outside (least_of p) (greatest_of p) z ≡ b
        → cond b None (Some (number z)) ≡ None
    by true e = refl
    by false e = absurd (fault (inside_is (least_of p) (greatest_of p) z e))

-- a null operand is no fault
pub null_right : (op : NumericOperator) (p : PType) (v : Value)
    → arithmetic_value op p v null ≡ Some null
null_right op p null = refl
null_right op p (truth b) = refl
null_right op p (number z) = refl
null_right op p (text bs) = refl
null_right op p (bytes bs) = refl
null_right op p (list vs) = refl

-- the value of a row, from what is known of each side
value_at : (op : NumericOperator) (p : PType) (exact : ℤ → ℤ → Option ℤ) → IsExactOf op exact
    → (a b z : ℤ) (v w : Value) → IsUnlessNull v (number a) → IsUnlessNull w (number b)
    → (is_null v ≡ false → is_null w ≡ false → FitsResult p (exact a b))
    → AnswersExact p (exact a b) z
    → arithmetic_value op p v w ≡ Some (cond (not (is_null v || is_null w)) (number z) null)
value_at op p exact is a b z v w left right fits answered = by (is_null v) (is_null w) refl refl
  where
    by : (x y : Bool) → is_null v ≡ x → is_null w ≡ y
        → arithmetic_value op p v w ≡ Some (cond (not (is_null v || is_null w)) (number z) null)
    by true y e f =
        (λ i. arithmetic_value op p (null_is v e i) w)
        ∙ sym (λ i. Some (cond (not (e i || is_null w)) (number z) null))
    by false true e f =
        (λ i. arithmetic_value op p v (null_is w f i))
        ∙ null_right op p v
        ∙ sym (λ i. Some (cond (not (e i || f i)) (number z) null))
    by false false e f =
        (λ i. arithmetic_value op p (left e i) (right f i))
        ∙ sym (ap (held p) (is a b))
        ∙ held_result p (exact a b) z (fits e f) answered
        ∙ sym (λ i. Some (cond (not (e i || f i)) (number z) null))

module _ (op : NumericOperator) (p : PType) (exact : ℤ → ℤ → Option ℤ) (left right : ℕ → ℤ)
    (l r : ColumnView) (is : IsExactOf op exact)
    (on_left : (i : ℕ) → i < length l.rows → IsUnlessNull (row l.rows i) (number (left i)))
    (on_right : (i : ℕ) → i < length l.rows → IsUnlessNull (row r.rows i) (number (right i)))
    (types : integer_of_both l.dtype r.dtype ≡ Some p) (lengths : length l.rows ≡ length r.rows)
  where
    -- the column of such results, null where a row is not valid
    numeric_made : {A : Type 0} (f : A → ℤ) (xs : List A) (v : ValidityView) (c : ColumnView)
        → AreResults p (row_results exact left right) (length l.rows) (map f xs)
        → FitWhereValid p (row_results exact left right) l r (length l.rows)
        → IsJointValidity (either_nullable l r) l r v → c ≡ int_column p f xs v
        → HasNumericRows op p l r c
    numeric_made f xs v c results fits h e =
        let cell : ℕ → Value =
        λ k. cond (is_valid_row v k) (number (slice_index_or (map f xs) k (pos 0))) null in
        let count : length xs ≡ length l.rows = sym (length-map xs f) ∙ results.count in
        record {
          dtype = ap (λ (d : ColumnView). d.dtype) e ∙ ap (integer_type p) h.nullability;
          count =
              ap (λ (d : ColumnView). length d.rows) e
              ∙ length-map-range_with_len cell 0 (length xs)
              ∙ count;
          each =
              λ i lt.
              value_at op p exact is (left i) (right i) (slice_index_or (map f xs) i (pos 0))
              (row l.rows i) (row r.rows i) (on_left i lt) (on_right i lt)
              (λ q s. fits i lt (q, s)) (results.each i lt)
              ∙ ap Some
              (sym
              (ap (λ (d : ColumnView). row d.rows i) e
              ∙ get_or-map-range_with_len cell 0 (length xs) i i null (omega (arith, count, lt))
              (omega arith)
              ∙ ap (λ b. cond b (number (slice_index_or (map f xs) i (pos 0))) null)
              (h.each i lt)));
        }

    pub numeric_answers : {A : Type 0} (f : A → ℤ) (xs : List A) (v : ValidityView)
        (a : Result ColumnView VortexError)
        → AreResults p (row_results exact left right) (length l.rows) (map f xs)
        → FitWhereValid p (row_results exact left right) l r (length l.rows)
        → IsJointValidity (either_nullable l r) l r v
        → AnswersWhere a (FitsRows v (length xs)) (λ c. c ≡ int_column p f xs v) InvalidColumn
        → Answers a (AnswersNumeric op l r) (RefusesNumeric op l r)
    numeric_answers f xs v a results fits h answered =
        let count : length xs ≡ length l.rows = sym (length-map xs f) ∙ results.count in
        Answers-weaker a (AnswersNumeric op l r) (AnswersNumeric op l r) (λ e. ⊥)
        (RefusesNumeric op l r) (λ c k. k) (λ e k. absurd k)
        (answers_where a (FitsRows v (length xs)) (λ c. c ≡ int_column p f xs v)
        (AnswersNumeric op l r) InvalidColumn
        (subst (λ (m : ℕ). FitsRows v m) (sym count) h.fits)
        (λ c e.
        record {
          ptype = p;
          accepted = types;
          lengths = lengths;
          rows = numeric_made f xs v c results fits h e;
        })
        answered)

    -- a row that faults
    row_refuses : (i : ℕ) → FaultsAt p (row_results exact left right) l r i
        → RefusesNumeric op l r (Arithmetic op)
    row_refuses i h =
        faulty p i types lengths h.inside
        ((λ j.
        arithmetic_value op p (on_left i h.inside h.valid.0 j) (on_right i h.inside h.valid.1 j))
        ∙ sym (ap (held p) (is (left i) (right i)))
        ∙ held_none p (exact (left i) (right i)) h.fault)
        refl

    pub found_refuses : (F : Type 0) (o : Option ℕ) → is_some o ≡ true
        → MatchOption o F (FaultsAt p (row_results exact left right) l r)
        → RefusesNumeric op l r (Arithmetic op)
    found_refuses F None some h = cc
    found_refuses F (Some i) some h = row_refuses i h

pub none_found : {A : Type 0} (F : Type 0) (Q : A → Type 0) (o : Option A) → is_some o ≡ false
    → MatchOption o F Q → F
none_found F Q None none h = h
none_found F Q (Some x) none h = cc

pub some_is : {A : Type 0} (P : A → Type 0) (o : Option A) (x : A) → o ≡ Some x → IfSome o P → P x
some_is P None x e h = cc
some_is P (Some y) x e h =
    let same : y ≡ x = cc in
    subst P same h

-- a flag that equals the default
pub no_fault : (unlike same fault : Bool) → unlike ≡ not same → same ≡ not fault → unlike ≡ false
    → fault ≡ false
no_fault unlike same false e f h = refl
no_fault unlike same true e f h =
    let turned : unlike ≡ true = e ∙ ap not f in
    cc

-- a constant column of integers that has no integer is null
typed_null : (p : PType) (t : LogicalType) (v : Value) → IsIntegerType p t → HasType t v
    → ((z : ℤ) → v ≡ number z → ¬ FitsPType p z) → (is_nullable t ≡ true) × (v ≡ null)
typed_null p (integer_type q n) null is typed none = (typed, refl)
typed_null p (integer_type q n) (number z) is typed none =
    absurd (none z refl (subst (λ (x : PType). FitsPType x z) is typed))
typed_null p (integer_type q n) (truth b) is typed none = absurd typed
typed_null p (integer_type q n) (text bs) is typed none = absurd typed
typed_null p (integer_type q n) (bytes bs) is typed none = absurd typed
typed_null p (integer_type q n) (list vs) is typed none = absurd typed
typed_null p null_type v is typed none = absurd is
typed_null p (bool_type n) v is typed none = absurd is
typed_null p (text_type n) v is typed none = absurd is
typed_null p (bytes_type n) v is typed none = absurd is
typed_null p (struct_type fs n) v is typed none = absurd is
typed_null p (list_type t n) v is typed none = absurd is
typed_null p (fixed_size_list_type t s n) v is typed none = absurd is
typed_null p (map_type k v' n) v is typed none = absurd is

pub null_column_is : (p : PType) (s : ScalarView) (c : ColumnView)
    → c ≡ constant_column s (length c.rows) → IsIntegerType p c.dtype → HasType s.dtype s.value
    → ((z : ℤ) → s.value ≡ number z → ¬ FitsPType p z) → IsNullColumn c
null_column_is p s c e is typed none =
    let same : c.dtype ≡ s.dtype = ap (λ (d : ColumnView). d.dtype) e in
    let h = typed_null p s.dtype s.value (subst (IsIntegerType p) same is) typed none in
    record {
      nullable = ap is_nullable same ∙ h.0;
      rows = λ i lt. constant_row s c e i lt ∙ h.1;
    }

pub null_where_none : {A : Type 0} (p : PType) (z : ℤ) (s : ScalarView) (c : ColumnView)
    → c ≡ constant_column s (length c.rows) → HasType s.dtype s.value → s.value ≡ number z
    → (o : Option A) (Q : A → Type 0)
    → MatchOption o (¬ FitsPType p z) (λ x. FitsPType p z × Q x)
    → IfNone o (IsSome c.constant → IsIntegerType p c.dtype → IsNullColumn c)
null_where_none p z s c e typed is None Q fault =
    λ some integers.
    null_column_is p s c e integers typed
    (λ y k.
    let same : z ≡ y = cc (is, k) in
    subst (λ (x : ℤ). ¬ FitsPType p x) same fault)
null_where_none p z s c e typed is (Some x) Q found = tt

-- the cell of a value that is no integer has no number
pub cell_number : (k : Cell) → ((x : ℤ) → k ≡ cell.Int x → ⊥) → (z : ℤ)
    → cell_value k ≡ number z → ⊥
cell_number cell.Null none z e = cc
cell_number (cell.Bool b) none z e = cc
cell_number (cell.Int y) none z e = none y refl
cell_number (cell.Text bs) none z e = cc
cell_number (cell.Bytes bs) none z e = cc
cell_number (cell.Sequence s) none z e = cc
