-- Items with their types, up to an index.
use Rattle.std.proofs.Common.{◌≡◌, ℕ, List, [], ◌∷◌, ◌++◌, map, drop, Option, Some, None, Bool, true}
use Rattle.std.proofs.Common.{false, ◌∙◌, sym, ap, refl, option_map, Bor}
use Rattle.std.specs.Option.{option_copied}
use Rattle.std.proofs.Common.{append_assoc, ◌≤◌, ◌-◌, length, get_or, take, subst, arith}
use Rattle.std.proofs.lemmas.List.{take_all, map-append}
use Rattle.vortex_types.specs.LogicalTypes.{LogicalType}
use Rattle.vortex_expressions.specs.declared.item.Item as held
use Rattle.vortex_expressions.specs.Outcomes.{Outcome, answers, refuses, missing, and_then}
use Rattle.vortex_expressions.specs.Items.{Item, Tree, item_in, all_settled, settled}
use Rattle.vortex_expressions.specs.Truths.{truth_settled}
use Rattle.vortex_expressions.specs.Applied.{cases_settled}
use Rattle.vortex_expressions.specs.Calls.{joined_item, equal_cases, conditions_of}
use Rattle.vortex_syntax.specs.declared.step.WrittenOperator.TheVariants as written

abbrev pub SoFar : Option LogicalType → List held.Item → ℕ → List Tree → Type 0
SoFar o xs n ts =
    all_settled o (map item_in xs)
    ≡ and_then (all_settled o (map item_in (drop n xs))) (λ us. answers (ts ++ us))

-- a condition and a value more
pub pair_settled : (o : Option LogicalType) (c v : Item) (is : List Item) (ts : List Tree)
    (a b : Tree) (x : Outcome (List Tree)) → truth_settled c ≡ answers a
    → settled o v ≡ answers b
    → x ≡ and_then (cases_settled o (c ∷ v ∷ is)) (λ us. answers (ts ++ us))
    → x ≡ and_then (cases_settled o is) (λ us. answers (((ts ++ a ∷ []) ++ b ∷ []) ++ us))
pair_settled o c v is ts a b x e f h = h ∙ by (truth_settled c) (settled o v) e f
  where
    joined : (us : List Tree) → ts ++ (a ∷ b ∷ us) ≡ ((ts ++ a ∷ []) ++ b ∷ []) ++ us
    joined us = sym (append_assoc (ts ++ a ∷ []) (b ∷ []) us ∙ append_assoc ts (a ∷ []) (b ∷ us))

    over : (y : Outcome (List Tree))
        → and_then (and_then y (λ us. answers (a ∷ b ∷ us))) (λ us. answers (ts ++ us))
        ≡ and_then y (λ us. answers (((ts ++ a ∷ []) ++ b ∷ []) ++ us))
    over (answers us) = ap answers (joined us)
    over (refuses r) = refl
    over missing = refl

    by : (p q : Outcome Tree) → p ≡ answers a → q ≡ answers b
        → and_then (and_then p (λ a. and_then q (λ b. and_then (cases_settled o is)
        (λ us. answers (a ∷ b ∷ us))))) (λ us. answers (ts ++ us))
        ≡ and_then (cases_settled o is) (λ us. answers (((ts ++ a ∷ []) ++ b ∷ []) ++ us))
    by p q e f = rw e (rw f (over (cases_settled o is)))

-- and the items that are left after them
pub cases_step : (o : Option LogicalType) (xs : List held.Item) (c v : held.Item)
    (ts new : List Tree) (a b : Tree) (x : Outcome (List Tree)) → 2 ≤ length xs
    → c ≡ get_or xs 0 c → v ≡ get_or xs 1 v
    → truth_settled (item_in c) ≡ answers a → settled o (item_in v) ≡ answers b
    → new ≡ (ts ++ a ∷ []) ++ b ∷ []
    → x ≡ and_then (cases_settled o (map item_in xs)) (λ us. answers (ts ++ us))
    → x
    ≡ and_then (cases_settled o (map item_in (take (length xs - 2) (drop 2 xs))))
    (λ us. answers (new ++ us))
cases_step o [] c v ts new a b x two d e f g same h = absurd (omega (arith, two))
cases_step o (y ∷ []) c v ts new a b x two d e f g same h = absurd (omega (arith, two))
cases_step o (y ∷ z ∷ ys) c v ts new a b x two d e f g same h =
    let all : length (y ∷ z ∷ ys) - 2 ≡ length ys = omega arith in
    let rest : take (length (y ∷ z ∷ ys) - 2) ys ≡ ys =
    ap (λ (n : ℕ). take n ys) all ∙ take_all (length ys) ys (omega arith) in
    subst (λ (zs : List held.Item). x ≡ and_then (cases_settled o (map item_in zs))
    (λ us. answers (new ++ us))) (sym rest)
    (subst (λ (us : List Tree). x ≡ and_then (cases_settled o (map item_in ys))
    (λ vs. answers (us ++ vs))) (sym same)
    (pair_settled o (item_in y) (item_in z) (map item_in ys) ts a b x
    (subst (λ (w : held.Item). truth_settled (item_in w) ≡ answers a) d f)
    (subst (λ (w : held.Item). settled o (item_in w) ≡ answers b) e g) h))

-- the same of a condition that is made, and of the value after it
pub equal_step : (p : held.Item) (xs : List held.Item) (c v l r i w : held.Item)
    (js new : List held.Item) (x : Outcome (List Item)) → 2 ≤ length xs
    → c ≡ get_or xs 0 c → v ≡ get_or xs 1 v
    → item_in l ≡ item_in p → item_in r ≡ item_in c → item_in w ≡ item_in v
    → joined_item written.Equal (item_in l) (item_in r) ≡ answers (item_in i)
    → new ≡ (js ++ i ∷ []) ++ w ∷ []
    → x ≡ and_then (equal_cases (item_in p) (map item_in xs)) (λ ks. answers (map item_in js ++ ks))
    → x
    ≡ and_then (equal_cases (item_in p) (map item_in (take (length xs - 2) (drop 2 xs))))
    (λ ks. answers (map item_in new ++ ks))
equal_step p [] c v l r i w js new x two d e f g m n same h = absurd (omega (arith, two))
equal_step p (y ∷ []) c v l r i w js new x two d e f g m n same h = absurd (omega (arith, two))
equal_step p (y ∷ z ∷ ys) c v l r i w js new x two d e f g m n same h =
    let all : length (y ∷ z ∷ ys) - 2 ≡ length ys = omega arith in
    let rest : take (length (y ∷ z ∷ ys) - 2) ys ≡ ys =
    ap (λ (n : ℕ). take n ys) all ∙ take_all (length ys) ys (omega arith) in
    let last : item_in w ≡ item_in z = m ∙ ap item_in e in
    let made : joined_item written.Equal (item_in p) (item_in y) ≡ answers (item_in i) =
    subst (λ (u : Item). joined_item written.Equal (item_in p) u ≡ answers (item_in i))
    (g ∙ ap item_in d)
    (subst (λ (u : Item). joined_item written.Equal u (item_in r) ≡ answers (item_in i)) f n) in
    subst (λ (zs : List held.Item). x ≡ and_then (equal_cases (item_in p) (map item_in zs))
    (λ ks. answers (map item_in new ++ ks))) (sym rest)
    (h ∙ by (joined_item written.Equal (item_in p) (item_in y)) made last)
  where
    held_now : item_in w ≡ item_in z
        → map item_in new ≡ (map item_in js ++ item_in i ∷ []) ++ item_in z ∷ []
    held_now last =
        ap (map item_in) same ∙ map-append item_in (js ++ i ∷ []) (w ∷ [])
        ∙ ap (λ (us : List Item). us ++ item_in w ∷ []) (map-append item_in js (i ∷ []))
        ∙ ap (λ (u : Item). (map item_in js ++ item_in i ∷ []) ++ u ∷ []) last

    joined : item_in w ≡ item_in z → (ks : List Item)
        → map item_in js ++ (item_in i ∷ item_in z ∷ ks) ≡ map item_in new ++ ks
    joined last ks =
        sym (ap (λ (us : List Item). us ++ ks) (held_now last)
        ∙ append_assoc (map item_in js ++ item_in i ∷ []) (item_in z ∷ []) ks
        ∙ append_assoc (map item_in js) (item_in i ∷ []) (item_in z ∷ ks))

    over : (y : Outcome (List Item)) → item_in w ≡ item_in z
        → and_then (and_then y (λ ks. answers (item_in i ∷ item_in z ∷ ks)))
        (λ ks. answers (map item_in js ++ ks))
        ≡ and_then y (λ ks. answers (map item_in new ++ ks))
    over (answers ks) last = ap answers (joined last ks)
    over (refuses r) last = refl
    over missing last = refl

    by : (q : Outcome Item) → q ≡ answers (item_in i) → item_in w ≡ item_in z
        → and_then (and_then q (λ c. and_then (equal_cases (item_in p) (map item_in ys))
        (λ ks. answers (c ∷ item_in z ∷ ks)))) (λ ks. answers (map item_in js ++ ks))
        ≡ and_then (equal_cases (item_in p) (map item_in ys))
        (λ ks. answers (map item_in new ++ ks))
    by q made last = rw made (over (equal_cases (item_in p) (map item_in ys)) last)

-- the types of borrowed items
pub copied : {A B : Type 0} (f : A → B) (x : Option (Bor A))
    → option_map (λ a. f a.now) x ≡ option_map f (option_copied x)
copied f (Some a) = refl
copied f None = refl

-- an operand is the first of the items
pub first_operand : (h : Bool) (xs : List held.Item) (a : held.Item) → h ≡ true → 1 ≤ length xs
    → a ≡ get_or xs 0 a
    → conditions_of h (map item_in xs)
    ≡ equal_cases (item_in a) (map item_in (take (length xs - 1) (drop 1 xs)))
first_operand false xs a e one d = cc
first_operand true [] a e one d = absurd (omega (arith, one))
first_operand true (y ∷ ys) a e one d =
    let all : length (y ∷ ys) - 1 ≡ length ys = omega arith in
    let rest : take (length (y ∷ ys) - 1) ys ≡ ys =
    ap (λ (n : ℕ). take n ys) all ∙ take_all (length ys) ys (omega arith) in
    ap (λ (zs : List held.Item). equal_cases (item_in y) (map item_in zs)) (sym rest)
    ∙ ap (λ (w : held.Item). equal_cases (item_in w)
    (map item_in (take (length (y ∷ ys) - 1) ys))) (sym d)
