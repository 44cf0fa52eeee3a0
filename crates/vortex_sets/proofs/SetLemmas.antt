-- Sets in buckets: what is found is a member, and members are found.
use Rattle.std.proofs.Common.{◌≡◌, ◌+◌, ◌*◌, ◌<◌, ℕ, zero, suc, Bool, true, false}
use Rattle.std.proofs.Common.{◌||◌, List, [], ◌∷◌, ◌++◌, map, length, get_or, set, refl, sym, ◌%◌, ◌/◌, ◌^◌}
use Rattle.std.proofs.Common.{ap, ◌∙◌, arith, inl, inr, nat_eq}
use Rattle.std.specs.Cmp.{Equal-is}
use Rattle.std.specs.List.{list_all}
use Rattle.std.specs.Str.{bytes_eq}
use Rattle.std.proofs.lemmas.Bool.Decides.{Decides-eqb}
use Rattle.std.proofs.lemmas.Map.Text.{is_eq-slice_cmp}
use Rattle.std.proofs.lemmas.Bool.{and_parts, and_from, or_left, or_right, or_cases}
use Rattle.std.proofs.lemmas.Nat.{and_le_r}
use Rattle.vortex_sets.specs.ItemSets.{bucket_of, has_at, is_at, is_found, is_member, is_same_item}
use Rattle.vortex_sets.specs.ItemSets.{fnv, text_key}
use Rattle.vortex_types.specs.Order.{compare_values}
use Rattle.vortex_types.specs.OrderLaws.{equals_are_same}
use Rattle.vortex_types.specs.Values.{Value, text}

module _ {X : Type 0} (p : X → Bool) where
  pub all_set : (xs : List X) (i : ℕ) (x : X) → list_all p xs ≡ true → p x ≡ true
      → list_all p (set xs i x) ≡ true
  all_set [] i x h k = h
  all_set (y ∷ ys) zero x h k = and_from (p x) _ k (and_parts (p y) _ h).1
  all_set (y ∷ ys) (suc i) x h k =
      let both = and_parts (p y) _ h in and_from (p y) _ both.0 (all_set ys i x both.1 k)

  pub all_pushed : (xs : List X) (x : X) → list_all p xs ≡ true → p x ≡ true
      → list_all p (xs ++ x ∷ []) ≡ true
  all_pushed [] x h k = and_from (p x) _ k refl
  all_pushed (y ∷ ys) x h k =
      let both = and_parts (p y) _ h in and_from (p y) _ both.0 (all_pushed ys x both.1 k)

same : (v w : Value) → is_same_item v w ≡ true → v ≡ w
same v w e = equals_are_same.same v w ((Equal-is (compare_values v w)).0 e)

same_self : (v : Value) → is_same_item v v ≡ true
same_self v = (Equal-is (compare_values v v)).1 (equals_are_same.equal v)

-- texts are the same where their bytes are
pub same_texts : (a b : List ℕ) → bytes_eq a b ≡ is_same_item (text a) (text b)
same_texts a b = sym (is_eq-slice_cmp a b)

-- texts with different keys differ
pub different_keys : (a b : List ℕ) (k l : ℕ) → k ≡ fnv a → l ≡ fnv b → (k ≡ l → ⊥)
    → nat_eq k l ≡ is_same_item (text a) (text b)
different_keys a b k l ka lb differ =
    unequal (nat_eq k l) refl ∙ sym (apart (is_same_item (text a) (text b)) refl)
  where
    unequal : (x : Bool) → nat_eq k l ≡ x → nat_eq k l ≡ false
    unequal false e = e
    unequal true e = absurd (differ ((Decides-eqb k l).0 e))

    apart : (x : Bool) → is_same_item (text a) (text b) ≡ x
        → is_same_item (text a) (text b) ≡ false
    apart false e = e
    apart true e = absurd (differ (ka ∙ ap text_key (same (text a) (text b) e) ∙ sym lb))

-- an item is a member
pub item_member : {X : Type 0} (f : X → Value) (xs : List X) (i : ℕ) (d : X) → i < length xs
    → is_member (map f xs) (f (get_or xs i d)) ≡ true
item_member f [] i d l = absurd (omega (arith, l))
item_member f (y ∷ ys) zero d l = or_left _ _ (same_self (f y))
item_member f (y ∷ ys) (suc i) d l = or_right _ _ (item_member f ys i d (omega (arith, l)))

module _ {X : Type 0} (f : X → Value) where
  -- what holds of each item holds of a member
  of_member : (q : Value → Bool) (xs : List X) (v : Value) → list_all (λ x. q (f x)) xs ≡ true
      → is_member (map f xs) v ≡ true → q v ≡ true
  of_member q [] v h m = cc
  of_member q (y ∷ ys) v h m =
      let both = and_parts (q (f y)) _ h in
      elim (or_cases (is_same_item v (f y)) _ m) [
        | inl e ↦ ap q (same v (f y) e) ∙ both.0
        | inr e ↦ of_member q ys v both.1 e
      ]

  at_slot : (q : Value → Bool) (xs : List X) (i : ℕ) (v : Value)
      → list_all (λ y. q (f y)) xs ≡ true → i < length xs → is_at (map f xs) i v ≡ true
      → q v ≡ true
  at_slot q [] i v h l e = absurd (omega (arith, l))
  at_slot q (y ∷ ys) zero v h l e = ap q (same v (f y) e) ∙ (and_parts (q (f y)) _ h).0
  at_slot q (y ∷ ys) (suc i) v h l e =
      at_slot q ys i v (and_parts (q (f y)) _ h).1 (omega (arith, l)) e

  among : (q : Value → Bool) (xs : List X) (i : ℕ) (v : Value)
      → list_all (λ y. q (f y)) xs ≡ true → i + 3 < length xs → has_at (map f xs) i v ≡ true
      → q v ≡ true
  among q xs i v h l e =
      elim (or_cases (is_at (map f xs) i v || is_at (map f xs) (i + 1) v) _ e) [
        | inl a ↦ elim (or_cases (is_at (map f xs) i v) _ a) [
          | inl b ↦ at_slot q xs i v h (omega (arith, l)) b
          | inr b ↦ at_slot q xs (i + 1) v h (omega (arith, l)) b
        ]
        | inr a ↦ elim (or_cases (is_at (map f xs) (i + 2) v) _ a) [
          | inl b ↦ at_slot q xs (i + 2) v h (omega (arith, l)) b
          | inr b ↦ at_slot q xs (i + 3) v h (omega (arith, l)) b
        ]
      ]

  -- where each slot has an item and each item is found, a value is found exactly if it is a member
  pub found_is_member : (key : Value → ℕ) (items slots : List X) (last : ℕ)
      → length slots ≡ 4 * last + 4
      → list_all (λ y. is_member (map f items) (f y)) slots ≡ true
      → list_all (λ x. is_found key last (map f slots) (f x)) items ≡ true
      → (v : Value) → is_found key last (map f slots) v ≡ is_member (map f items) v
  found_is_member key items slots last room sound complete v =
      both (is_found key last (map f slots) v) (is_member (map f items) v)
      (among (is_member (map f items)) slots (4 * bucket_of last (key v)) v sound
      (omega (arith, room, and_le_r (((key v * 0x9e37_79b9_7f4a_7c15) % 2 ^ 64) / 2 ^ 40) last)))
      (of_member (is_found key last (map f slots)) items v complete)
    where
      both : (a b : Bool) → (a ≡ true → b ≡ true) → (b ≡ true → a ≡ true) → a ≡ b
      both true b h k = sym (h refl)
      both false true h k = k refl
      both false false h k = refl
