-- The last items, which a call takes.
use Rattle.std.proofs.Common.{◌≡◌, ℕ, ◌+◌, ◌<◌, true, false, List, [], ◌∷◌, ◌++◌, length, map, take, drop}
use Rattle.std.proofs.Common.{reverse, refl, ap, sym, subst, ◌∙◌, arith}
use Rattle.std.specs.Prelude.{nat_le}
use Rattle.std.proofs.lemmas.Bool.{le-leb, lt-leb}
use Rattle.std.proofs.lemmas.List.{length-append, length-map, length-drop, length-reverse}
use Rattle.std.proofs.lemmas.List.{map-append, reverse-append, reverse-reverse, take-append-drop}
use Rattle.vortex_expressions.specs.declared.item.Item as held
use Rattle.vortex_expressions.specs.Outcomes.{Outcome, answers, missing, and_then}
use Rattle.vortex_expressions.specs.Items.{Item, item_in}
use Rattle.vortex_expressions.specs.Stacks.{stack_in, pushed, last_items, with_last}
use Rattle.vortex_expressions.specs.Answering.{StopsBy}
use Rattle.vortex_expressions.specs.declared.refusal.BindStop.{BindStop}
use Rattle.vortex_expressions.proofs.Stopping.{stops_first}

front_is : {A : Type 0} (xs ys : List A) → take (length xs) (xs ++ ys) ≡ xs
front_is [] ys = refl
front_is (x ∷ xs) ys = ap (λ zs. x ∷ zs) (front_is xs ys)

rest_is : {A : Type 0} (xs ys : List A) → drop (length xs) (xs ++ ys) ≡ ys
rest_is [] ys = refl
rest_is (x ∷ xs) ys = rest_is xs ys

last_split : (is st : List Item) → last_items (length is) (is ++ st) ≡ answers (reverse is, st)
last_split is st =
    let enough : nat_le (length is) (length (is ++ st)) ≡ true =
    le-leb (length is) (length (is ++ st)) (omega (arith, length-append is st)) in
    rw enough
    (ap (λ zs. answers (reverse (take (length is) (is ++ st)), zs)) (rest_is is st)
    ∙ ap (λ zs. answers (reverse zs, st)) (front_is is st))

pub last_taken : (f : List Item → Outcome Item) (is st : List Item)
    → with_last f (length is) (is ++ st) ≡ pushed st (f (reverse is))
last_taken f is st = ap (λ o. and_then o (λ p. pushed p.1 (f p.0))) (last_split is st)

-- a call on the last items, and what it returns
module _ (f : List Item → Outcome Item) (n m : ℕ) (st is rest : List Item) (same : m ≡ n)
    (taken : last_items n st ≡ answers (is, rest)) where
  last_call : with_last f m st ≡ pushed rest (f is)
  last_call =
      ap (λ k. with_last f k st) same ∙ ap (λ o. and_then o (λ p. pushed p.1 (f p.0))) taken

  pub last_made : (i : Item) → f is ≡ answers i → with_last f m st ≡ answers (i ∷ rest)
  last_made i h = last_call ∙ ap (pushed rest) h

  pub last_stopped : (s : BindStop) → StopsBy (f is) s → StopsBy (with_last f m st) s
  last_stopped s h =
      subst (λ (o : Outcome (List Item)). StopsBy o s) (sym last_call)
      (stops_first (f is) (λ i. answers (i ∷ rest)) s h)

-- of a stack, whose last item is at the end
module _ (items : List held.Item) where
  counted : length (stack_in items) ≡ length items
  counted = length-reverse (map item_in items) ∙ length-map items item_in

  pub too_few : (n : ℕ) → length items < n → last_items n (stack_in items) ≡ missing
  too_few n h =
      let few : nat_le n (length (stack_in items)) ≡ false =
      lt-leb n (length (stack_in items)) (omega (arith, h, counted)) in
      rw few refl

  module _ (kept n : ℕ) (all : kept + n ≡ length items) where
    cut : stack_in items ≡ reverse (map item_in (drop kept items)) ++ stack_in (take kept items)
    cut = ap stack_in (sym (take-append-drop kept items))
        ∙ ap reverse (map-append item_in (take kept items) (drop kept items))
        ∙ reverse-append (map item_in (take kept items)) (map item_in (drop kept items))

    count : length (reverse (map item_in (drop kept items))) ≡ n
    count = length-reverse (map item_in (drop kept items))
        ∙ length-map (drop kept items) item_in
        ∙ length-drop kept items ∙ omega (arith, all)

    pub last_of : last_items n (stack_in items)
        ≡ answers (map item_in (drop kept items), stack_in (take kept items))
    last_of =
        ap (last_items n) cut
        ∙ ap (λ m. last_items m
        (reverse (map item_in (drop kept items)) ++ stack_in (take kept items))) (sym count)
        ∙ last_split (reverse (map item_in (drop kept items))) (stack_in (take kept items))
        ∙ ap (λ is. answers (is, stack_in (take kept items)))
        (reverse-reverse (map item_in (drop kept items)))
