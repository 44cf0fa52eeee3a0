-- Rows calculated one by one, and the column of the results.
use Rattle.std.proofs.Common.{◌≡◌, ◌⊎◌, inl, inr, ℕ, ◌+◌, ◌<◌, Bool, true, false, List, [], ◌∷◌}
use Rattle.std.proofs.Common.{◌++◌, length, map, refl, sym, ap, subst, ◌∙◌, arith, length-append}
use Rattle.std.proofs.Common.{cond, ℤ, pos, negsuc, Some, None, Option, SFits, w64}
use Rattle.std.specs.Prelude.{not, ◌||◌, IfSome, IsSome, Result, slice_index_or, slice_get}
use Rattle.std.proofs.lemmas.List.{get_or_push, get_or_append_left, map-id}
use Rattle.std.proofs.lemmas.Int.{ints}
use Rattle.std.proofs.lemmas.List.FromFn.{get_or-map-range_with_len, length-map-range_with_len}
use Rattle.vortex_errors.specs.declared.error.VortexError.{VortexError}
use Rattle.vortex_errors.specs.declared.error.VortexError.TheVariants.{InvalidColumn}
use Rattle.vortex_errors.specs.Answers.{AnswersUnlessMemory, AnswersWhere}
use Rattle.vortex_errors.proofs.Answering.{answers_where}
use Rattle.vortex_types.specs.declared.dtype.PType.TheVariants.{I64}
use Rattle.vortex_types.specs.LogicalTypes.{LogicalType, integer_type, is_nullable}
use Rattle.vortex_types.specs.ScalarView.{ScalarView}
use Rattle.vortex_types.specs.Typing.{FitsPType}
use Rattle.vortex_types.specs.Values.{Value, null, number, is_null}
use Rattle.vortex_types.proofs.NullValues.{null_is}
use Rattle.vortex_columns.specs.ColumnView.{ColumnView, row, constant_column, IsUnlessNull}
use Rattle.vortex_columns.specs.Made.{int_column}
use Rattle.vortex_columns.specs.ValidityView.{ValidityView, is_valid_row, FitsRows}
use Rattle.vortex_columns.specs.ValidRows.{either_nullable, IsJointValidity}
use Rattle.vortex_interface.specs.Outcomes.{gives, types_in, HasCallRows}
use Rattle.vortex_sql_rows.specs.Row.{row_gives, row_type, row_means}
use Rattle.vortex_sql_rows.specs.Types.{are_taken, answer_type}
use Rattle.vortex_sql_floats.specs.declared.floats.FloatOperator.{FloatOperator}
use Rattle.vortex_sql_floats.specs.ArithmeticRows.{arithmetic, operator_row}
use Rattle.vortex_sql_float_columns.specs.KeyedRows.{AreKeys, HasFloatRows}

last_or_before : (n k : ℕ) → k < n + 1 → (k < n) ⊎ (k ≡ n)
last_or_before n k lt = grind arith

-- one more row
pub keys_more : (op : FloatOperator) (left right : ℕ → ℤ) (n : ℕ) (keys : List ℤ) (z : ℤ)
    → AreKeys op left right n keys → arithmetic op (left n) (right n) ≡ gives (number z)
    → AreKeys op left right (n + 1) (keys ++ z ∷ [])
keys_more op left right n keys z h here = record {
  count = omega (arith, length-append keys (z ∷ []), h.count);
  each = λ k lt. by k (last_or_before n k lt);
}
  where
    by : (k : ℕ) → (k < n) ⊎ (k ≡ n)
        → arithmetic op (left k) (right k)
        ≡ gives (number (slice_index_or (keys ++ z ∷ []) k (pos 0)))
    by k (inl lt) =
        h.each k lt
        ∙ ap (λ y. gives (number y))
        (sym (get_or_append_left keys (z ∷ []) (pos 0) k (omega (arith, h.count, lt))))
    by k (inr q) =
        ap (λ j. arithmetic op (left j) (right j)) q
        ∙ here
        ∙ ap (λ y. gives (number y)) (sym (get_or_push keys z (pos 0) k (h.count ∙ sym q)))

-- the value of a row, from what is known of each side
value_at : (op : FloatOperator) (a b z : ℤ) (v w : Value) → IsUnlessNull v (number a)
    → IsUnlessNull w (number b) → arithmetic op a b ≡ gives (number z)
    → row_gives (operator_row op) I64 (v ∷ w ∷ [])
    ≡ gives (cond (not (is_null v || is_null w)) (number z) null)
value_at op a b z v w left right here = by (is_null v) (is_null w) refl refl
  where
    Told : Value → Value → Type 0
    Told x y =
        row_gives (operator_row op) I64 (x ∷ y ∷ [])
        ≡ gives (cond (not (is_null x || is_null y)) (number z) null)

    none_right : (x : Value) → Told x null
    none_right null = refl
    none_right x = refl

    by : (p q : Bool) → is_null v ≡ p → is_null w ≡ q → Told v w
    by true q e f = subst (λ x. Told x w) (sym (null_is v e)) refl
    by false true e f = subst (λ y. Told v y) (sym (null_is w f)) (none_right v)
    by false false e f =
        subst (λ x. Told x w) (sym (left e)) (subst (λ y. Told (number a) y) (sym (right f)) here)

module _ (op : FloatOperator) (left right : ℕ → ℤ) (l r : ColumnView)
    (on_left : (i : ℕ) → i < length l.rows → IsUnlessNull (row l.rows i) (number (left i)))
    (on_right : (i : ℕ) → i < length l.rows → IsUnlessNull (row r.rows i) (number (right i)))
  where
    float_rows : (keys : List ℤ) (v : ValidityView) (c : ColumnView)
        → AreKeys op left right (length l.rows) keys
        → IsJointValidity (either_nullable l r) l r v → c ≡ int_column I64 (λ x. x) keys v
        → HasFloatRows op l r c
    float_rows keys v c are h e =
        let cell : ℕ → Value =
        λ k. cond (is_valid_row v k) (number (slice_index_or (map (λ x. x) keys) k (pos 0))) null in
        record {
          dtype = ap (λ (d : ColumnView). d.dtype) e ∙ ap (integer_type I64) h.nullability;
          count =
              ap (λ (d : ColumnView). length d.rows) e
              ∙ length-map-range_with_len cell 0 (length keys)
              ∙ are.count;
          each = λ i lt.
              value_at op (left i) (right i) (slice_index_or keys i (pos 0)) (row l.rows i)
              (row r.rows i) (on_left i lt) (on_right i lt) (are.each i lt)
              ∙ ap gives
              (sym
              (ap (λ (d : ColumnView). row d.rows i) e
              ∙ get_or-map-range_with_len cell 0 (length keys) i i null
              (omega (arith, are.count, lt)) (omega arith)
              ∙ ap (λ b. cond b (number (slice_index_or (map (λ x. x) keys) i (pos 0))) null)
              (h.each i lt)
              ∙ ap (λ zs. cond (not (is_null (row l.rows i) || is_null (row r.rows i)))
              (number (slice_index_or zs i (pos 0))) null) (map-id keys)));
        }

    pub float_answers : (keys : List ℤ) (v : ValidityView) (a : Result ColumnView VortexError)
        → AreKeys op left right (length l.rows) keys
        → IsJointValidity (either_nullable l r) l r v
        → AnswersWhere a (FitsRows v (length keys)) (λ c. c ≡ int_column I64 (λ x. x) keys v)
        InvalidColumn
        → AnswersUnlessMemory a (HasFloatRows op l r)
    float_answers keys v a are h answered =
        answers_where a (FitsRows v (length keys)) (λ c. c ≡ int_column I64 (λ x. x) keys v)
        (HasFloatRows op l r) InvalidColumn
        (subst (λ (m : ℕ). FitsRows v m) (sym are.count) h.fits)
        (λ c e. float_rows keys v c are h e) answered

or_false : (b : Bool) → (b || false) ≡ b
or_false true = refl
or_false false = refl

some_type : (b : Bool) (t : LogicalType) → IsSome (cond b (Some t) None)
    → cond b (Some t) None ≡ Some t
some_type true t h = refl
some_type false t h = cc

-- the column of a call of two columns
pub call_rows : (op : FloatOperator) (cs : List ColumnView) (l r c : ColumnView) (n : ℕ)
    → slice_get cs 0 ≡ Some l → slice_get cs 1 ≡ Some r → length cs ≡ 2 → length l.rows ≡ n
    → IsSome (row_type (operator_row op) (types_in cs)) → HasFloatRows op l r c
    → HasCallRows (row_type (operator_row op)) (row_means (operator_row op)) cs n c
call_rows op [] l r c n a b two count some h = cc
call_rows op (x ∷ []) l r c n a b two count some h = cc
call_rows op (x ∷ y ∷ z ∷ zs) l r c n a b two count some h = absurd (omega (arith, two))
call_rows op (x ∷ y ∷ []) l r c n a b two count some h =
    subst (λ (u : ColumnView). HasCallRows (row_type (operator_row op)) (row_means (operator_row op))
    (u ∷ y ∷ []) n c) (sym first)
    (subst (λ (u : ColumnView). HasCallRows (row_type (operator_row op))
    (row_means (operator_row op)) (l ∷ u ∷ []) n c) (sym second) by)
  where
    first : x ≡ l
    first = cc

    second : y ≡ r
    second = cc

    ts : List LogicalType
    ts = l.dtype ∷ r.dtype ∷ []

    taken : IsSome (row_type (operator_row op) ts)
    taken =
        subst (λ (u : ColumnView). IsSome (row_type (operator_row op) (l.dtype ∷ u.dtype ∷ [])))
        second
        (subst (λ (u : ColumnView). IsSome (row_type (operator_row op) (u.dtype ∷ y.dtype ∷ [])))
        first some)

    by : HasCallRows (row_type (operator_row op)) (row_means (operator_row op)) (l ∷ r ∷ []) n c
    by = record {
      dtype =
          some_type (are_taken (operator_row op).types.takes ts)
          (answer_type (operator_row op).types ts) taken
          ∙ ap (λ b. Some (integer_type I64 (is_nullable l.dtype || b)))
          (or_false (is_nullable r.dtype))
          ∙ ap Some (sym h.dtype);
      count = h.count ∙ count;
      each = λ i lt. h.each i (omega (arith, lt, count));
    }

pub constant_row : (s : ScalarView) (n i : ℕ) → i < n → row (constant_column s n).rows i ≡ s.value
constant_row s n i lt = get_or-map-range_with_len (λ j. s.value) 0 n i i null lt (omega arith)

pub weaker_some : {A : Type 0} (o : Option A) (P Q : A → Type 0) → ((a : A) → P a → Q a)
    → IfSome o P → IfSome o Q
weaker_some None P Q f h = h
weaker_some (Some a) P Q f h = f a h

pub held : (z : ℤ) → FitsPType I64 z → SFits w64 z
held (pos n) h = record { sfits = omega (arith, ints, h.1) }
held (negsuc n) h = record { sfits = omega (arith, ints, h.0) }
