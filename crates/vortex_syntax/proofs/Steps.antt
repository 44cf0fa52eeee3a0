-- One token after another.
use Rattle.std.proofs.Common.{◌≡◌, ℕ, ◌+◌, ◌<◌, ◌≤◌, List, [], ◌∷◌, length, map, drop, get_or}
use Rattle.std.proofs.Common.{Option, Some, None, refl, ap, ◌∙◌, add-one}
use Rattle.std.proofs.Math.Seq.{drop-cons}
use Rattle.std.proofs.lemmas.List.{drop_all}
use Rattle.vortex_syntax.specs.Frames.{Frame}
use Rattle.vortex_syntax.specs.declared.frame.Mode.TheVariants as mode
use Rattle.vortex_syntax.specs.Tokens.{Token}
use Rattle.vortex_syntax.specs.Postfix.{Step}
use Rattle.vortex_syntax.specs.Reading.{State, state, next, finish, run, steps_of}

pub starts : (ts : List Token) (fs : List Frame) (out : List Step) → fs ≡ [] → out ≡ []
    → steps_of ts ≡ run (state mode.Want fs out) ts
unfolding steps_of
starts ts fs out e k = rw (e, k) refl

pub goes : (s : State) (t : Token) (ts : List Token) (r : State)
    → next s.mode s.frames s.steps t ≡ Some r → run s (t ∷ ts) ≡ run r ts
unfolding run
goes s t ts r h = rw h refl

pub fails : (s : State) (t : Token) (ts : List Token) → next s.mode s.frames s.steps t ≡ None
    → run s (t ∷ ts) ≡ None
unfolding run
fails s t ts h = rw h refl

ends : (s : State) → run s [] ≡ finish s.mode s.frames s.steps
unfolding run
ends s = refl

one_more : {A : Type 0} (f : A → Token) (xs : List A) (i : ℕ) (x : A) → i < length xs
    → map f (drop i xs) ≡ f (get_or xs i x) ∷ map f (drop (i + 1) xs)
one_more f xs i x lt = rw add-one (ap (map f) (drop-cons xs i x lt))

-- the result for all tokens, from those from i on
pub goes_on : {A : Type 0} (f : A → Token) (xs : List A) (i : ℕ) (x : A) (s r : State)
    (all : Option (List Step)) → i < length xs → all ≡ run s (map f (drop i xs))
    → next s.mode s.frames s.steps (f (get_or xs i x)) ≡ Some r
    → all ≡ run r (map f (drop (i + 1) xs))
goes_on f xs i x s r all lt so_far h = so_far ∙ ap (run s) (one_more f xs i x lt)
    ∙ goes s (f (get_or xs i x)) (map f (drop (i + 1) xs)) r h

pub stops : {A : Type 0} (f : A → Token) (xs : List A) (i : ℕ) (x : A) (s : State)
    (all : Option (List Step)) → i < length xs → all ≡ run s (map f (drop i xs))
    → next s.mode s.frames s.steps (f (get_or xs i x)) ≡ None → all ≡ None
stops f xs i x s all lt so_far h = so_far ∙ ap (run s) (one_more f xs i x lt)
    ∙ fails s (f (get_or xs i x)) (map f (drop (i + 1) xs)) h

pub finishes : {A : Type 0} (f : A → Token) (xs : List A) (i : ℕ) (s : State)
    (all : Option (List Step)) → length xs ≤ i → all ≡ run s (map f (drop i xs))
    → all ≡ finish s.mode s.frames s.steps
finishes f xs i s all le so_far = so_far ∙ ap (λ zs. run s (map f zs)) (drop_all i xs le) ∙ ends s
