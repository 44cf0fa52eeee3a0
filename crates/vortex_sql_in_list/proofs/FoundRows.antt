-- Rows that are looked up, as `in_list` says.
use Rattle.std.proofs.Common.{◌≡◌, ◌<◌, ℕ, Bool, true, false, ◌||◌, ◌&&◌, not, cond, List, []}
use Rattle.std.proofs.Common.{◌∷◌, length, drop, map, refl, sym, subst, zero, suc, ap, ◌∙◌, Some, pos, ℤ, arith}
use Rattle.std.specs.Prelude.{slice_get, slice_index_or}
use Rattle.std.specs.List.{list_any}
use Rattle.std.proofs.lemmas.List.{length-map}
use Rattle.vortex_types.specs.LogicalTypes.{LogicalType}
use Rattle.vortex_types.specs.Values.{Value, null, number, truth, is_null}
use Rattle.vortex_columns.specs.ColumnView.{ColumnView, row, IsUnlessNull, AreInts}
use Rattle.vortex_interface.specs.Outcomes.{values_at}
use Rattle.vortex_kernels.specs.Rows.{HasRows}
use Rattle.vortex_sets.specs.ItemSets.{is_member}
use Rattle.vortex_sql_choices.specs.InList.{is_same, in_list, listed}
use Rattle.vortex_sql_in_list.specs.InLists.{AreListed, AreItems, in_values}

-- where a value is not null: a member, else null where the list has one
abbrev found : Bool → Bool → Value
found m n = cond m (truth true) (cond n null (truth false))

told : (m n b : Bool) → b ≡ m → cond (not n || m) (truth b) null ≡ found m n
told true true b e = ap truth e
told true false b e = ap truth e
told false true b e = refl
told false false b e = ap truth e

pub found_row : (vs : List Value) (n : Bool) (v w : Value) (b : Bool) → IsUnlessNull v w
    → b ≡ is_member vs w
    → cond (not (is_null v) && (not n || is_member vs w)) (truth b) null ≡ in_values vs n v
found_row vs n v w b h e = by (is_null v) refl
  where
    side : Bool → Value
    side x = cond (not x && (not n || is_member vs w)) (truth b) null

    by : (x : Bool) → is_null v ≡ x → side (is_null v) ≡ in_values vs n v
    by true k = ap side k ∙ sym (ap (λ x. cond x null (found (is_member vs v) n)) k)
    by false k =
        ap side k ∙ told (is_member vs w) n b e
        ∙ sym
        (ap (λ x. cond x null (found (is_member vs v) n)) k
        ∙ ap (λ u. found (is_member vs u) n) (h k))

-- a row of the first input is looked up in the others
listed_row : (vs : List Value) (n : Bool) (ws : List Value) (v : Value) → AreListed vs n ws
    → in_values vs n v ≡ listed v ws
listed_row vs n ws v a = by (is_null v) refl
  where
    by : (x : Bool) → is_null v ≡ x → in_values vs n v ≡ listed v ws
    by true k =
        ap (λ x. cond x null (found (is_member vs v) n)) k
        ∙ sym
        (ap (λ x. cond x null (found (list_any (is_same v) ws) (list_any is_null ws))) k)
    by false k =
        ap (λ m. cond (is_null v) null (found m n)) (sym (a.has v k))
        ∙ ap (λ m. cond (is_null v) null (found (list_any (is_same v) ws) m)) (sym a.null)

in_list_of : (cs : List ColumnView) (c : ColumnView) (i : ℕ) (vs : List Value) (n : Bool)
    → slice_get cs 0 ≡ Some c → AreListed vs n (drop 1 (values_at cs i))
    → in_values vs n (row c.rows i) ≡ in_list (values_at cs i)
in_list_of [] c i vs n e a = cc
in_list_of (d ∷ ds) c i vs n e a =
    listed_row vs n (values_at ds i) (row c.rows i) a
    ∙ ap (λ v. listed v (values_at ds i)) (ap (λ (x : ColumnView). row x.rows i) (sym same))
  where
    same : d ≡ c
    same = cc

pub looked_up_rows : (cs : List ColumnView) (c made : ColumnView) (rows : ℕ) (vs : List Value)
    (n : Bool) (t u : LogicalType) → slice_get cs 0 ≡ Some c → length c.rows ≡ rows
    → ((i : ℕ) → i < rows → AreListed vs n (drop 1 (values_at cs i))) → t ≡ u
    → HasRows u (length c.rows) (λ i. in_values vs n (row c.rows i)) made
    → HasRows t rows (λ i. in_list (values_at cs i)) made
looked_up_rows cs c made rows vs n t u first count listed same is = record {
  dtype = is.dtype ∙ sym same;
  count = is.count ∙ count;
  each = λ i lt.
      is.each i (omega (arith, lt, count)) ∙ in_list_of cs c i vs n first (listed i lt);
}

-- integers of rows as values
number_at : {X : Type 0} (f : X → ℤ) (xs : List X) (i : ℕ) → i < length xs
    → slice_index_or (map (λ x. number (f x)) xs) i null
    ≡ number (slice_index_or (map f xs) i (pos 0))
number_at f [] i l = absurd (omega (arith, l))
number_at f (x ∷ xs) zero l = refl
number_at f (x ∷ xs) (suc i) l = number_at f xs i (omega (arith, l))

pub int_items : {X : Type 0} (f : X → ℤ) (c : ColumnView) (xs : List X) → AreInts c (map f xs)
    → AreItems c (map (λ x. number (f x)) xs)
int_items f c xs h = record {
  count = length-map xs (λ x. number (f x)) ∙ sym (length-map xs f) ∙ h.count;
  each = λ i lt.
      let within : i < length xs = omega (arith, lt, length-map xs (λ x. number (f x))) in
      subst (IsUnlessNull (row c.rows i)) (sym (number_at f xs i within))
      (h.each i (omega (arith, within, length-map xs f)));
}
