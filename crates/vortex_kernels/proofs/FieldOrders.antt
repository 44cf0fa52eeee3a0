-- Records compared a field at a time: the words mean, and the first different field decides.
use Rattle.std.proofs.Common.{◌≡◌, ℕ, zero, suc, ◌<◌, ◌^◌, ◌-◌, ◌+◌, Bool, true, false, cond}
use Rattle.std.proofs.Common.{List, length, refl, sym, ap, ◌∙◌, arith, bit_and, bit_or, w64}
use Rattle.std.specs.Prelude.{◌&&◌, ◌||◌, not, slice_index_or}
use Rattle.std.specs.Int.{bit_not}
use Rattle.std.specs.Ordering.{ordering_then, is_eq, bool_cmp}
use Rattle.std.specs.declared.cmp.Ordering.{Ordering}
use Rattle.std.specs.declared.cmp.Ordering.TheVariants.{Less, Equal, Greater}
use Rattle.vortex_bits.specs.Bits.{bit}
use Rattle.vortex_bits.specs.Rows.{AreRows}
use Rattle.vortex_bits.proofs.WordLogic.{and_bit, or_bit, not_bit}
use Rattle.vortex_types.specs.Values.{Value, null, truth, number, text, bytes, list, Values}
use Rattle.vortex_types.specs.Values.{no_values, value, value_count, is_null}
use Rattle.vortex_types.specs.LogicalTypes.{LogicalType, null_type, bool_type, integer_type}
use Rattle.vortex_types.specs.LogicalTypes.{text_type, bytes_type, struct_type, list_type}
use Rattle.vortex_types.specs.LogicalTypes.{fixed_size_list_type, map_type, Fields, no_fields}
use Rattle.vortex_types.specs.LogicalTypes.{field, field_count}
use Rattle.vortex_types.specs.Typing.{HasType, HaveFields}
use Rattle.vortex_types.specs.Order.{compare_values, compare_lists}
use Rattle.vortex_types.proofs.NullValues.{null_is}
use Rattle.std.proofs.lemmas.List.Elements.{All-get_or}
use Rattle.vortex_columns.specs.ColumnView.{ColumnView, row, IsField, value_in, AreTyped}
use Rattle.vortex_operators.specs.declared.operators.CompareOperator.{CompareOperator}
use Rattle.vortex_operators.specs.OperatorValues.{holds}
use Rattle.vortex_kernels.specs.Comparison.{AreHeld, AreComparisons}
use Rattle.vortex_kernels.specs.PairOrders.{row_orders}
use Rattle.vortex_kernels.specs.Records.{order_from, HoldByLast, IsRecordType}

-- ---- words

choose : (b x y : Bool) → ((x && b) || (y && not b)) ≡ cond b x y
choose true true true = refl
choose true true false = refl
choose true false true = refl
choose true false false = refl
choose false true true = refl
choose false true false = refl
choose false false true = refl
choose false false false = refl

pub chosen_bit : (by set unset j : ℕ) → by < 2 ^ 64 → j < 64
    → bit (bit_or (bit_and set by) (bit_and unset (bit_not w64 by))) j
    ≡ cond (bit by j) (bit set j) (bit unset j)
chosen_bit by set unset j fits lt =
    or_bit (bit_and set by) (bit_and unset (bit_not w64 by)) j
    ∙ (λ i. and_bit set by j i || and_bit unset (bit_not w64 by) j i)
    ∙ ap (λ b. (bit set j && bit by j) || (bit unset j && b)) (not_bit by j fits lt)
    ∙ choose (bit by j) (bit set j) (bit unset j)

-- ---- nulls

null_below : (w : Value) → is_null w ≡ false → compare_values null w ≡ Less
null_below null e = cc
null_below (truth b) e = refl
null_below (number z) e = refl
null_below (text bs) e = refl
null_below (bytes bs) e = refl
null_below (list vs) e = refl

above_null : (v : Value) → is_null v ≡ false → compare_values v null ≡ Greater
above_null null e = cc
above_null (truth b) e = refl
above_null (number z) e = refl
above_null (text bs) e = refl
above_null (bytes bs) e = refl
above_null (list vs) e = refl

-- where either value is null, nullness decides their order
pub nulls_least : (op : CompareOperator) (v w : Value) (p q b s : Bool) → p ≡ not (is_null v)
    → q ≡ not (is_null w)
    → (is_null v ≡ false → is_null w ≡ false → b ≡ holds op (compare_values v w))
    → s ≡ holds op (bool_cmp p q) → cond (p && q) b s ≡ holds op (compare_values v w)
nulls_least op v w p q b s pe qe h se =
    ap (cond (p && q) b) se
    ∙ (λ i. cond (pe i && qe i) b (holds op (bool_cmp (pe i) (qe i))))
    ∙ by (is_null v) (is_null w) refl refl
  where
    by : (m n : Bool) → is_null v ≡ m → is_null w ≡ n
        → cond (not (is_null v) && not (is_null w)) b
        (holds op (bool_cmp (not (is_null v)) (not (is_null w))))
        ≡ holds op (compare_values v w)
    by m n e g =
        (λ i. cond (not (e i) && not (g i)) b (holds op (bool_cmp (not (e i)) (not (g i)))))
        ∙ then m n e g
      where
        then : (m n : Bool) → is_null v ≡ m → is_null w ≡ n
            → cond (not m && not n) b (holds op (bool_cmp (not m) (not n)))
            ≡ holds op (compare_values v w)
        then false false e g = h e g
        then true true e g = sym (λ i. holds op (compare_values (null_is v e i) (null_is w g i)))
        then true false e g =
            sym (ap (λ x. holds op (compare_values x w)) (null_is v e) ∙ ap (holds op) (null_below w g))
        then false true e g =
            sym (ap (λ x. holds op (compare_values v x)) (null_is w g) ∙ ap (holds op) (above_null v e))

pub nulls_least_rows : (op : CompareOperator) (ls rs : List Value) (p q s : ℕ → Bool)
    (says : Bool → Bool → Bool) (values bits : List Bool)
    → length ls ≡ length rs → ((i : ℕ) → i < length ls → p i ≡ not (is_null (row ls i)))
    → ((i : ℕ) → i < length ls → q i ≡ not (is_null (row rs i)))
    → AreComparisons op ls rs values
    → ((i : ℕ) → i < length ls → s i ≡ slice_index_or values i false)
    → ((a b : Bool) → says a b ≡ holds op (bool_cmp a b))
    → AreRows (length ls) (λ i. cond (p i && q i) (s i) (says (p i) (q i))) bits
    → AreHeld op (row_orders ls rs) (length ls) bits
nulls_least_rows op ls rs p q s says values bits same left right held reads formula are = record {
  count = are.count;
  each = λ i lt. are.each i lt
      ∙ nulls_least op (row ls i) (row rs i) (p i) (q i) (s i) (says (p i) (q i)) (left i lt)
      (right i lt) (λ e g. reads i lt ∙ held.each i lt e g) (formula (p i) (q i));
}

-- ---- different fields, and the rest

same_choice : (op : CompareOperator) (o : Ordering) (e r u x : Bool) → e ≡ is_eq o → r ≡ x
    → (is_eq o ≡ false → u ≡ holds op o) → cond e r u ≡ cond (is_eq o) x (holds op o)
same_choice op o e r u x is rest unequal = ap (λ b. cond b r u) is ∙ by o unequal
  where
    by : (o : Ordering) → (is_eq o ≡ false → u ≡ holds op o)
        → cond (is_eq o) r u ≡ cond (is_eq o) x (holds op o)
    by Less h = h refl
    by Equal h = rest
    by Greater h = h refl

pub joined_rows : (op : CompareOperator) (order : ℕ → Ordering) (n : ℕ) (eq rs un x : ℕ → Bool)
    (bits : List Bool)
    → ((i : ℕ) → i < n → eq i ≡ is_eq (order i)) → ((i : ℕ) → i < n → rs i ≡ x i)
    → ((i : ℕ) → i < n → is_eq (order i) ≡ false → un i ≡ holds op (order i))
    → AreRows n (λ i. cond (eq i) (rs i) (un i)) bits
    → AreRows n (λ i. cond (is_eq (order i)) (x i) (holds op (order i))) bits
joined_rows op order n eq rs un x bits equal rest unequal are = record {
  count = are.count;
  each = λ i lt. are.each i lt
      ∙ same_choice op (order i) (eq i) (rs i) (un i) (x i) (equal i lt) (rest i lt) (unequal i lt);
}

-- a comparison that only tests whether they differ
pub unequal_alike : (op : CompareOperator) (o : Ordering) (b : Bool) → b ≡ holds op Less
    → holds op Less ≡ holds op Greater → is_eq o ≡ false → b ≡ holds op o
unequal_alike op Less b e same h = e
unequal_alike op Equal b e same h = cc
unequal_alike op Greater b e same h = e ∙ same

then_choice : (op : CompareOperator) (o p : Ordering) (b : Bool) → b ≡ holds op p
    → cond (is_eq o) b (holds op o) ≡ holds op (ordering_then o p)
then_choice op Less p b h = refl
then_choice op Equal p b h = h
then_choice op Greater p b h = refl

then_equal : (o : Ordering) → ordering_then o Equal ≡ o
then_equal Less = refl
then_equal Equal = refl
then_equal Greater = refl

-- ---- fields

module _ (op : CompareOperator) (l r d e : ColumnView) (n m : ℕ) (lt : m < n)
    (same : length l.rows ≡ length r.rows) (left : IsField (n - 1 - m) l d)
    (right : IsField (n - 1 - m) r e) where
  pub same_fields : length d.rows ≡ length e.rows
  same_fields = omega (arith, left.count, right.count, same)

  field_order : (i : ℕ) → i < length l.rows → is_null (row l.rows i) ≡ false
      → is_null (row r.rows i) ≡ false
      → row_orders d.rows e.rows i
      ≡ compare_values (value_in (n - 1 - m) (row l.rows i)) (value_in (n - 1 - m) (row r.rows i))
  field_order i h p q =
      λ j. compare_values (left.each i h p j) (right.each i (omega (arith, same)) q j)

  place : n - 1 - m ≡ n - (m + 1)
  place = omega arith

  after : suc (n - (m + 1)) ≡ n - m
  after = omega (arith, lt)

  one_more : suc m ≡ m + 1
  one_more = omega arith

  pub hold_last : (bits : List Bool) → m ≡ 0
      → AreHeld op (row_orders d.rows e.rows) (length d.rows) bits
      → HoldByLast op n (m + 1) l.rows r.rows bits
  hold_last bits none held = record {
    count = held.count ∙ left.count;
    each = λ i h p q. held.each i (omega (arith, left.count))
        ∙ ap (holds op)
        (field_order i h p q
        ∙ (λ j. compare_values (value_in (place j) (row l.rows i)) (value_in (place j) (row r.rows i)))
        ∙ sym
        (then_equal
        (compare_values (value_in (n - (m + 1)) (row l.rows i))
        (value_in (n - (m + 1)) (row r.rows i))))
        ∙ ap (λ k. order_from (n - (m + 1)) (suc k) (row l.rows i) (row r.rows i)) (sym none)
        ∙ ap (λ k. order_from (n - (m + 1)) k (row l.rows i) (row r.rows i)) one_more);
  }

  pub hold_more : (rest bits : List Bool) → HoldByLast op n m l.rows r.rows rest
      → AreRows (length d.rows) (λ i. cond (is_eq (row_orders d.rows e.rows i))
      (slice_index_or rest i false) (holds op (row_orders d.rows e.rows i))) bits
      → HoldByLast op n (m + 1) l.rows r.rows bits
  hold_more rest bits told held = record {
    count = held.count ∙ left.count;
    each = λ i h p q. held.each i (omega (arith, left.count))
        ∙ then_choice op (row_orders d.rows e.rows i)
        (order_from (n - m) m (row l.rows i) (row r.rows i)) (slice_index_or rest i false)
        (told.each i h p q)
        ∙ ap (λ o. holds op (ordering_then o (order_from (n - m) m (row l.rows i) (row r.rows i))))
        (field_order i h p q
        ∙ (λ j. compare_values (value_in (place j) (row l.rows i)) (value_in (place j) (row r.rows i))))
        ∙ ap (λ k. holds op
        (ordering_then
        (compare_values (value_in (n - (m + 1)) (row l.rows i))
        (value_in (n - (m + 1)) (row r.rows i)))
        (order_from k m (row l.rows i) (row r.rows i)))) (sym after)
        ∙ ap (λ k. holds op (order_from (n - (m + 1)) k (row l.rows i) (row r.rows i))) one_more;
  }

-- ---- records

shifted_place : (m k : ℕ) (v : Value) (vs : Values) (w : Value) (ws : Values)
    → order_from (suc k) m (list (value v vs)) (list (value w ws))
    ≡ order_from k m (list vs) (list ws)
shifted_place zero k v vs w ws = refl
shifted_place (suc m) k v vs w ws =
    λ i. ordering_then (compare_values (value_in k (list vs)) (value_in k (list ws)))
    (shifted_place m (suc k) v vs w ws i)

lists_by_places : (vs ws : Values) (n : ℕ) → value_count vs ≡ n → value_count ws ≡ n
    → compare_lists vs ws ≡ order_from 0 n (list vs) (list ws)
lists_by_places no_values no_values zero e g = refl
lists_by_places no_values ws (suc n) e g = cc
lists_by_places vs no_values (suc n) e g = cc
lists_by_places (value v vs) ws zero e g = cc
lists_by_places vs (value w ws) zero e g = cc
lists_by_places (value v vs) (value w ws) (suc n) e g =
    λ i. ordering_then (compare_values v w)
    ((lists_by_places vs ws n (omega (arith, e)) (omega (arith, g))
    ∙ sym (shifted_place n 0 v vs w ws)) i)

abbrev IsListOf : ℕ → Value → Type 0
IsListOf n (list vs) = value_count vs ≡ n
IsListOf n v = ⊥

fields_counted : (fs : Fields) (vs : Values) → HaveFields fs vs → value_count vs ≡ field_count fs
fields_counted no_fields no_values h = refl
fields_counted no_fields (value v vs) h = absurd h
fields_counted (field name t fs) no_values h = absurd h
fields_counted (field name t fs) (value v vs) h = ap suc (fields_counted fs vs h.1)

counted : (t : LogicalType) (v : Value) (n : ℕ) → IsRecordType n t → HasType t v
    → is_null v ≡ false → IsListOf n v
counted (struct_type fs m) null n is h e = cc
counted (struct_type fs m) (list vs) n is h e = fields_counted fs vs h ∙ is
counted (struct_type fs m) (truth b) n is h e = absurd h
counted (struct_type fs m) (number z) n is h e = absurd h
counted (struct_type fs m) (text bs) n is h e = absurd h
counted (struct_type fs m) (bytes bs) n is h e = absurd h
counted null_type v n is h e = absurd is
counted (bool_type m) v n is h e = absurd is
counted (integer_type p m) v n is h e = absurd is
counted (text_type m) v n is h e = absurd is
counted (bytes_type m) v n is h e = absurd is
counted (list_type t m) v n is h e = absurd is
counted (fixed_size_list_type t s m) v n is h e = absurd is
counted (map_type k w m) v n is h e = absurd is

by_places : (n : ℕ) (v w : Value) → IsListOf n v → IsListOf n w
    → compare_values v w ≡ order_from 0 n v w
by_places n (list vs) (list ws) a b = lists_by_places vs ws n a b
by_places n (list vs) null a b = absurd b
by_places n (list vs) (truth c) a b = absurd b
by_places n (list vs) (number z) a b = absurd b
by_places n (list vs) (text bs) a b = absurd b
by_places n (list vs) (bytes bs) a b = absurd b
by_places n null w a b = absurd a
by_places n (truth c) w a b = absurd a
by_places n (number z) w a b = absurd a
by_places n (text bs) w a b = absurd a
by_places n (bytes bs) w a b = absurd a

pub all_fields : (op : CompareOperator) (n : ℕ) (l r : ColumnView) (bits : List Bool)
    → length l.rows ≡ length r.rows → IsRecordType n l.dtype → IsRecordType n r.dtype
    → AreTyped l.dtype l.rows → AreTyped r.dtype r.rows → HoldByLast op n n l.rows r.rows bits
    → AreComparisons op l.rows r.rows bits
all_fields op n l r bits same left right lt rt held = record {
  count = held.count;
  each = λ i h p q. held.each i h p q
      ∙ ap (holds op)
      (ap (λ k. order_from k n (row l.rows i) (row r.rows i)) none_before
      ∙ sym
      (by_places n (row l.rows i) (row r.rows i)
      (counted l.dtype (row l.rows i) n left (All-get_or (HasType l.dtype) l.rows i null h lt) p)
      (counted r.dtype (row r.rows i) n right
      (All-get_or (HasType r.dtype) r.rows i null (omega (arith, same)) rt) q)));
}
  where
    none_before : n - n ≡ 0
    none_before = omega arith
