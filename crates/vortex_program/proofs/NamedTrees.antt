-- The trees of named answers are those that the text means.
use Rattle.std.proofs.Common.{◌≡◌, ℕ, zero, suc, ◌<◌, ◌≤◌, List, [], ◌∷◌, ◌++◌, refl, sym, ap}
use Rattle.std.proofs.Common.{subst, map, take, length, get_or, arith}
use Rattle.std.specs.Prelude.{slice_index_or}
use Rattle.std.proofs.lemmas.List.{take_all}
use Rattle.vortex_types.specs.LogicalTypes.{Fields}
use Rattle.vortex_functions.specs.Walks.{AllMean}
use Rattle.vortex_expressions.specs.Answers.{Answer}
use Rattle.vortex_program.specs.declared.answer.Answer as bound
use Rattle.vortex_program.specs.Programs.{trees_of}
use Rattle.vortex_program.specs.Naming.{IsNamedAnswer, Worded, worded, worded_as}

pub named_trees : (scope : Fields) (said : List Answer) (words : List (List ℕ))
    (named : List bound.Answer) → AllMean (IsNamedAnswer scope) (worded said words) named
    → trees_of named ≡ map (λ a. a.tree) said
named_trees scope [] words [] h = refl
named_trees scope [] words (x ∷ named) h = absurd h
named_trees scope (a ∷ said) [] [] h = absurd h
named_trees scope (a ∷ said) (w ∷ words) [] h = absurd h
named_trees scope (a ∷ said) [] (x ∷ named) h =
    λ i. h.0.tree i ∷ named_trees scope said [] named h.1 i
named_trees scope (a ∷ said) (w ∷ words) (x ∷ named) h =
    λ i. h.0.tree i ∷ named_trees scope said words named h.1 i

-- all answers so far under their names, and one more
pub worded_more : {X : Type 0} (means : Worded → bound.Answer → Type 0) (f : X → Answer)
    (xs : List X) (words : List (List ℕ)) (bs : List bound.Answer) (k j : ℕ) (x : X) (w : List ℕ)
    (b : bound.Answer) → j ≡ suc k → k < length xs → x ≡ get_or xs k x
    → w ≡ slice_index_or words k [] → AllMean means (take k (worded (map f xs) words)) bs
    → means (worded_as (f x) w) b
    → AllMean means (take j (worded (map f xs) words)) (bs ++ b ∷ [])
worded_more {X = X} means f xs words bs k j x w b next lt at is h r =
    subst (λ (n : ℕ). AllMean means (take n (worded (map f xs) words)) (bs ++ b ∷ [])) (sym next)
    (go xs words bs k lt h
    (subst (λ y. means (worded_as (f y) (slice_index_or words k [])) b) at
    (subst (λ v. means (worded_as (f x) v) b) is r)))
  where
    go : (ys : List X) (ws : List (List ℕ)) (vs : List bound.Answer) (l : ℕ) → l < length ys
        → AllMean means (take l (worded (map f ys) ws)) vs
        → means (worded_as (f (get_or ys l x)) (slice_index_or ws l [])) b
        → AllMean means (take (suc l) (worded (map f ys) ws)) (vs ++ b ∷ [])
    go [] ws vs l below h r = absurd (omega (arith, below))
    go (y ∷ ys) [] [] zero below h r = (r, tt)
    go (y ∷ ys) (w ∷ ws) [] zero below h r = (r, tt)
    go (y ∷ ys) [] (v ∷ vs) zero below h r = absurd h
    go (y ∷ ys) (w ∷ ws) (v ∷ vs) zero below h r = absurd h
    go (y ∷ ys) [] [] (suc l) below h r = absurd h
    go (y ∷ ys) (w ∷ ws) [] (suc l) below h r = absurd h
    go (y ∷ ys) [] (v ∷ vs) (suc l) below h r =
        (h.0, go ys [] vs l (omega (arith, below)) h.1 r)
    go (y ∷ ys) (w ∷ ws) (v ∷ vs) (suc l) below h r =
        (h.0, go ys ws vs l (omega (arith, below)) h.1 r)

pub worded_all : {X : Type 0} (f : X → Answer) (xs : List X) (words : List (List ℕ)) (n : ℕ)
    → length xs ≤ n → take n (worded (map f xs) words) ≡ worded (map f xs) words
worded_all f [] words n le = take_all n [] (omega arith)
worded_all f (x ∷ xs) [] zero le = absurd (omega (arith, le))
worded_all f (x ∷ xs) (w ∷ words) zero le = absurd (omega (arith, le))
worded_all f (x ∷ xs) [] (suc n) le =
    ap (λ ys. worded_as (f x) [] ∷ ys) (worded_all f xs [] n (omega (arith, le)))
worded_all f (x ∷ xs) (w ∷ words) (suc n) le =
    ap (λ ys. worded_as (f x) w ∷ ys) (worded_all f xs words n (omega (arith, le)))
