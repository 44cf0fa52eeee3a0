-- Where a run of bytes ends.
use Rattle.std.specs.Prelude.{IfSome}
use Rattle.std.specs.Borrow.{Bor}
use Rattle.std.proofs.Common.{Option, Some, None, ◌≡◌, ℕ, zero, suc, ◌<◌, ◌≤◌, true, false, cond}
use Rattle.std.proofs.Common.{◌==◌, List, [], ◌∷◌, length, get_or, take, drop, refl, ap, ◌||◌, Bool}
use Rattle.std.proofs.Common.{◌++◌, arith}
use Rattle.std.specs.List.{list_all}
use Rattle.std.proofs.lemmas.Bool.{and_parts, and_from}
use Rattle.std.specs.Int.{is_in_range}
use Rattle.vortex_syntax.specs.declared.pieces.Run.{Run}
use Rattle.vortex_syntax.specs.declared.pieces.Run.TheVariants.{Word}
use Rattle.vortex_syntax.specs.Pieces.{is_in, front, behind, begins_word}

pub record EndsAt (r : Run) (xs : List ℕ) (i : ℕ) : Type 0 where
  pub front : take i xs ≡ front r xs
  pub behind : drop i xs ≡ behind r xs

pub ends_at : (r : Run) (xs : List ℕ) (i : ℕ) → i ≤ length xs
    → ((k : ℕ) → k < i → is_in r (get_or xs k 0) ≡ true)
    → (i < length xs → is_in r (get_or xs i 0) ≡ false) → EndsAt r xs i
ends_at r [] zero le each stop = record { front = refl; behind = refl }
ends_at r [] (suc i) le each stop = absurd (let k : ⊥ = omega (arith, le) in k)
ends_at r (x ∷ xs) zero le each stop = let h : is_in r x ≡ false = stop (omega arith) in
    record { front = rw h refl; behind = rw h refl }
ends_at r (x ∷ xs) (suc i) le each stop =
    let h : is_in r x ≡ true = each 0 (omega arith) in
    let s = ends_at r xs i (omega (arith, le)) (λ k lt. each (suc k) (omega (arith, lt)))
    (λ lt. stop (omega (arith, lt))) in
    record { front = rw h (ap (λ ys. x ∷ ys) s.front); behind = rw h s.behind }

-- what ends a run
abbrev pub EndsRun : Run → List ℕ → Type 0
EndsRun r [] = Unit {0}
EndsRun r (c ∷ cs) = is_in r c ≡ false

front_step : (r : Run) (b : ℕ) (bs : List ℕ) → list_all (is_in r) (front r bs) ≡ true → (v : Bool)
    → is_in r b ≡ v → list_all (is_in r) (cond v (b ∷ front r bs) []) ≡ true
front_step r b bs ih true h = and_from (is_in r b) (list_all (is_in r) (front r bs)) h ih
front_step r b bs ih false h = refl

pub front_is : (r : Run) (bs : List ℕ) → list_all (is_in r) (front r bs) ≡ true
front_is r [] = refl
front_is r (b ∷ bs) = front_step r b bs (front_is r bs) (is_in r b) refl

-- a run, and what follows it
pub front_all : (r : Run) (xs rest : List ℕ) → list_all (is_in r) xs ≡ true → EndsRun r rest
    → front r (xs ++ rest) ≡ xs
front_all r [] [] h e = refl
front_all r [] (c ∷ cs) h e = let other : is_in r c ≡ false = e in rw other refl
front_all r (x ∷ xs) rest h e =
    let p = and_parts (is_in r x) (list_all (is_in r) xs) h in
    let first : is_in r x ≡ true = p.0 in
    rw first (ap (λ ys. x ∷ ys) (front_all r xs rest p.1 e))

pub behind_all : (r : Run) (xs rest : List ℕ) → list_all (is_in r) xs ≡ true → EndsRun r rest
    → behind r (xs ++ rest) ≡ rest
behind_all r [] [] h e = refl
behind_all r [] (c ∷ cs) h e = let other : is_in r c ≡ false = e in rw other refl
behind_all r (x ∷ xs) rest h e =
    let p = and_parts (is_in r x) (list_all (is_in r) xs) h in
    let first : is_in r x ≡ true = p.0 in
    rw first (behind_all r xs rest p.1 e)

joined_if : (r : Run) (x : ℕ) (xs : List ℕ) (v : Bool) → front r xs ++ behind r xs ≡ xs
    → cond v (x ∷ front r xs) [] ++ cond v (behind r xs) (x ∷ xs) ≡ x ∷ xs
joined_if r x xs true h = ap (λ ys. x ∷ ys) h
joined_if r x xs false h = refl

pub run_joined : (r : Run) (xs : List ℕ) → front r xs ++ behind r xs ≡ xs
run_joined r [] = refl
run_joined r (x ∷ xs) = joined_if r x xs (is_in r x) (run_joined r xs)

pub behind_le : (r : Run) (xs : List ℕ) → length (behind r xs) ≤ length xs
behind_le r [] = omega arith
behind_le r (x ∷ xs) =
    elim (is_in r x) as
    (λ (v : Bool). length (cond v (behind r xs) (x ∷ xs)) ≤ length (x ∷ xs))
    [ true ↦ omega (arith, behind_le r xs) | false ↦ omega arith ]

pub behind_lt : (r : Run) (xs : List ℕ) (b : ℕ) (bs : List ℕ) → xs ≡ b ∷ bs → is_in r b ≡ true
    → length (behind r xs) < length xs
behind_lt r xs b bs h k = rw h (rw k (omega (arith, behind_le r bs)))

either : (d a b u : Bool) → ((a || b) || u) ≡ true → (((d || a) || b) || u) ≡ true
either true a b u h = refl
either false a b u h = h

pub word_begun : (b : ℕ) → begins_word b ≡ true → is_in Word b ≡ true
word_begun b h =
    either (is_in_range 48 57 b) (is_in_range 65 90 b) (is_in_range 97 122 b) (b == 95) h

pub some_below : (m n : ℕ) {X : Type 0} (r : Option (X × Bor (List ℕ)))
    → IfSome r (λ x. length x.1.now ≤ m) → m < n → IfSome r (λ x. length x.1.now < n)
some_below m n None h lt = tt
some_below m n (Some x) h lt = omega (arith, h, lt)
