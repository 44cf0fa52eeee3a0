-- The items of a list, one by one.
use Rattle.std.proofs.Common.{◌≡◌, ◌≤◌, ◌<◌, ◌+◌, ℕ, Bool, true, false, ◌||◌, List, []}
use Rattle.std.proofs.Common.{◌∷◌, ◌++◌, length, take, drop, refl, sym, subst, ap, ◌∙◌, arith}
use Rattle.std.proofs.Common.{Option, Some, None, IfSome}
use Rattle.std.specs.Prelude.{slice_get}
use Rattle.std.specs.List.{list_any}
use Rattle.std.proofs.lemmas.List.{length-map, length-take}
use Rattle.std.proofs.lemmas.List.Folds.{list_any-append}
use Rattle.std.proofs.lemmas.List.FromFn.{get_or-map-range_with_len}
use Rattle.vortex_types.specs.ScalarView.{ScalarView}
use Rattle.vortex_types.specs.Values.{Value, null, is_null, truth, number, text, bytes, list}
use Rattle.vortex_columns.specs.ColumnView.{ColumnView, row, constant_column}
use Rattle.vortex_interface.specs.Outcomes.{values_at}
use Rattle.vortex_sql_choices.specs.InList.{is_same}
use Rattle.vortex_sql_rows.proofs.Maps.{one_more}
use Rattle.vortex_sql_in_list.specs.InLists.{AddsItem, AreListed, item_value}

pub weaker_some : {A : Type 0} (o : Option A) (P Q : A → Type 0) → ((a : A) → P a → Q a)
    → IfSome o P → IfSome o Q
weaker_some None P Q f h = h
weaker_some (Some a) P Q f h = f a h

pub constant_row : (s : ScalarView) (n i : ℕ) → i < n → row (constant_column s n).rows i ≡ s.value
constant_row s n i lt = get_or-map-range_with_len (λ j. s.value) 0 n i i null lt (omega arith)

pub none_listed : (cs : List ColumnView) (i : ℕ) → AreListed [] false (drop 1 (values_at (take 1 cs) i))
none_listed [] i = record { has = λ v e. refl; null = refl }
none_listed (c ∷ cs) i = record { has = λ v e. refl; null = refl }

or_false : (b : Bool) → (b || false) ≡ b
or_false true = refl
or_false false = refl

or_true : (b : Bool) → (b || true) ≡ true
or_true true = refl
or_true false = refl

after_first : {A : Type 0} (xs : List A) (x : A) → 0 < length xs
    → drop 1 (xs ++ x ∷ []) ≡ drop 1 xs ++ x ∷ []
after_first [] x lt = absurd (omega (arith, lt))
after_first (y ∷ ys) x lt = refl

-- a value that is not null is not the same as null
other_than_null : (v : Value) → is_null v ≡ false → is_same v null ≡ false
other_than_null null e = cc
other_than_null (truth b) e = refl
other_than_null (number z) e = refl
other_than_null (text bs) e = refl
other_than_null (bytes bs) e = refl
other_than_null (list vs) e = refl

value_listed : (vs : List Value) (n : Bool) (ws : List Value) (v : Value) → is_null v ≡ false
    → AreListed vs n ws → AreListed (vs ++ v ∷ []) n (ws ++ v ∷ [])
value_listed vs n ws v some h = record {
  has = λ y e.
      list_any-append (is_same y) ws (v ∷ [])
      ∙ ap (λ b. b || (is_same y v || false)) (h.has y e)
      ∙ sym (list_any-append (is_same y) vs (v ∷ []));
  null =
      list_any-append is_null ws (v ∷ [])
      ∙ ap (λ b. list_any is_null ws || (b || false)) some ∙ or_false (list_any is_null ws)
      ∙ h.null;
}

null_listed : (vs : List Value) (n : Bool) (ws : List Value) → AreListed vs n ws
    → AreListed vs true (ws ++ null ∷ [])
null_listed vs n ws h = record {
  has = λ y e.
      list_any-append (is_same y) ws (null ∷ [])
      ∙ ap (λ b. list_any (is_same y) ws || (b || false)) (other_than_null y e)
      ∙ or_false (list_any (is_same y) ws) ∙ h.has y e;
  null = list_any-append is_null ws (null ∷ []) ∙ or_true (list_any is_null ws);
}

module _ (cs : List ColumnView) (k : ℕ) (c : ColumnView) (some : 1 ≤ k) (lt : k < length cs)
    (here : slice_get cs k ≡ Some c) where
  next_item : (i : ℕ) → drop 1 (values_at (take (k + 1) cs) i)
      ≡ drop 1 (values_at (take k cs) i) ++ row c.rows i ∷ []
  next_item i =
      ap (drop 1) (one_more (λ d. row d.rows i) cs k c lt here)
      ∙ after_first (values_at (take k cs) i) (row c.rows i)
      (omega (arith, some, lt, length-map (take k cs) (λ d. row d.rows i), length-take k cs))

  pub next_listed : {A : Type 0} (f : A → Value) (some : (x : A) → is_null (f x) ≡ false)
      (item : Option A) (i : ℕ) (old new : List Value) (was is : Bool)
      → AddsItem f item old new was is → row c.rows i ≡ item_value f item
      → AreListed old was (drop 1 (values_at (take k cs) i))
      → AreListed new is (drop 1 (values_at (take (k + 1) cs) i))
  next_listed {A = A} f some item i old new was is adds here_is h =
      subst (λ ws. AreListed new is ws) (sym (next_item i ∙ ap (λ v. before ++ v ∷ []) here_is))
      (by item adds)
    where
      before : List Value
      before = drop 1 (values_at (take k cs) i)

      by : (x : Option A) → AddsItem f x old new was is
          → AreListed new is (before ++ item_value f x ∷ [])
      by None a =
          subst (λ xs. AreListed xs is (before ++ null ∷ [])) (sym a.0)
          (subst (λ n. AreListed old n (before ++ null ∷ [])) (sym a.1)
          (null_listed old was before h))
      by (Some x) a =
          subst (λ xs. AreListed xs is (before ++ f x ∷ [])) (sym a.0)
          (subst (λ n. AreListed (old ++ f x ∷ []) n (before ++ f x ∷ [])) (sym a.1)
          (value_listed old was before (f x) (some x) h))
