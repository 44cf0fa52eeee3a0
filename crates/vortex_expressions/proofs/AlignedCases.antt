-- Cases in a common kind, one case after another.
use Rattle.std.proofs.Common.{◌≡◌, ℕ, List, [], ◌∷◌, ◌++◌, map, drop, take, length, get_or, ◌≤◌, ◌<◌, ◌-◌}
use Rattle.std.proofs.Common.{◌∙◌, sym, ap, refl, subst, append_assoc, arith}
use Rattle.std.proofs.lemmas.List.{take_all, map-append}
use Rattle.vortex_logical.specs.declared.kind.Kind.{Kind}
use Rattle.vortex_logical.specs.declared.operand.Operand.{Operand}
use Rattle.vortex_expressions.specs.declared.item.Item as held
use Rattle.vortex_expressions.specs.Outcomes.{Outcome, answers, refuses, missing, and_then}
use Rattle.vortex_expressions.specs.Items.{Item, item_in}
use Rattle.vortex_expressions.specs.Applied.{values_of}
use Rattle.vortex_expressions.specs.Functions.{aligned_item, aligned_cases}

-- what is left after the cases is a value
pub few_values : (xs : List held.Item) → length xs < 2
    → values_of (map item_in xs) ≡ map item_in xs
few_values [] lt = refl
few_values (y ∷ []) lt = refl
few_values (y ∷ z ∷ ys) lt = absurd (omega (arith, lt))

module _ (k : Kind) (a : Operand) where
  -- a condition and a value more
  pub aligned_step : (xs : List held.Item) (c v q w : held.Item) (js new : List held.Item)
      (x : Outcome (List Item)) → 2 ≤ length xs → c ≡ get_or xs 0 c → v ≡ get_or xs 1 v
      → item_in q ≡ item_in c → aligned_item k a (item_in v) ≡ answers (item_in w)
      → new ≡ (js ++ q ∷ []) ++ w ∷ []
      → x ≡ and_then (aligned_cases k a (map item_in xs)) (λ ks. answers (map item_in js ++ ks))
      → x
      ≡ and_then (aligned_cases k a (map item_in (take (length xs - 2) (drop 2 xs))))
      (λ ks. answers (map item_in new ++ ks))
  aligned_step [] c v q w js new x two d e f g same h = absurd (omega (arith, two))
  aligned_step (y ∷ []) c v q w js new x two d e f g same h = absurd (omega (arith, two))
  aligned_step (y ∷ z ∷ ys) c v q w js new x two d e f g same h =
      let all : length (y ∷ z ∷ ys) - 2 ≡ length ys = omega arith in
      let rest : take (length (y ∷ z ∷ ys) - 2) ys ≡ ys =
      ap (λ (n : ℕ). take n ys) all ∙ take_all (length ys) ys (omega arith) in
      let first : item_in q ≡ item_in y = f ∙ ap item_in d in
      let made : aligned_item k a (item_in z) ≡ answers (item_in w) =
      subst (λ (u : held.Item). aligned_item k a (item_in u) ≡ answers (item_in w)) e g in
      subst (λ (zs : List held.Item). x ≡ and_then (aligned_cases k a (map item_in zs))
      (λ ks. answers (map item_in new ++ ks))) (sym rest)
      (h ∙ by (aligned_item k a (item_in z)) made first)
    where
      held_now : item_in q ≡ item_in y
          → map item_in new ≡ (map item_in js ++ item_in y ∷ []) ++ item_in w ∷ []
      held_now first =
          ap (map item_in) same ∙ map-append item_in (js ++ q ∷ []) (w ∷ [])
          ∙ ap (λ (us : List Item). us ++ item_in w ∷ []) (map-append item_in js (q ∷ []))
          ∙ ap (λ (u : Item). (map item_in js ++ u ∷ []) ++ item_in w ∷ []) first

      joined : item_in q ≡ item_in y → (ks : List Item)
          → map item_in js ++ (item_in y ∷ item_in w ∷ ks) ≡ map item_in new ++ ks
      joined first ks =
          sym (ap (λ (us : List Item). us ++ ks) (held_now first)
          ∙ append_assoc (map item_in js ++ item_in y ∷ []) (item_in w ∷ []) ks
          ∙ append_assoc (map item_in js) (item_in y ∷ []) (item_in w ∷ ks))

      over : (o : Outcome (List Item)) → item_in q ≡ item_in y
          → and_then (and_then o (λ ks. answers (item_in y ∷ item_in w ∷ ks)))
          (λ ks. answers (map item_in js ++ ks))
          ≡ and_then o (λ ks. answers (map item_in new ++ ks))
      over (answers ks) first = ap answers (joined first ks)
      over (refuses r) first = refl
      over missing first = refl

      by : (o : Outcome Item) → o ≡ answers (item_in w) → item_in q ≡ item_in y
          → and_then (and_then o (λ j. and_then (aligned_cases k a (map item_in ys))
          (λ ks. answers (item_in y ∷ j ∷ ks)))) (λ ks. answers (map item_in js ++ ks))
          ≡ and_then (aligned_cases k a (map item_in ys))
          (λ ks. answers (map item_in new ++ ks))
      by o made first = rw made (over (aligned_cases k a (map item_in ys)) first)
