-- Outcomes, one after another.
use Rattle.std.proofs.Common.{◌≡◌, refl}
use Rattle.vortex_expressions.specs.Outcomes.{Outcome, answers, refuses, missing, and_then}

pub and_then-assoc : {A B C : Type 0} (o : Outcome A) (f : A → Outcome B) (g : B → Outcome C)
    → and_then (and_then o f) g ≡ and_then o (λ a. and_then (f a) g)
and_then-assoc (answers a) f g = refl
and_then-assoc (refuses r) f g = refl
and_then-assoc missing f g = refl

pub and_then-same : {A B : Type 0} (o : Outcome A) (f g : A → Outcome B)
    → ((a : A) → f a ≡ g a) → and_then o f ≡ and_then o g
and_then-same (answers a) f g h = h a
and_then-same (refuses r) f g h = refl
and_then-same missing f g h = refl

pub and_then-answers : {A : Type 0} (o : Outcome A) → and_then o answers ≡ o
and_then-answers (answers a) = refl
and_then-answers (refuses r) = refl
and_then-answers missing = refl

-- where what comes next is equal for the result that there is
pub and_then-there : {A B : Type 0} (o : Outcome A) (f g : A → Outcome B)
    → ((a : A) → o ≡ answers a → f a ≡ g a) → and_then o f ≡ and_then o g
and_then-there (answers a) f g h = h a refl
and_then-there (refuses r) f g h = refl
and_then-there missing f g h = refl
