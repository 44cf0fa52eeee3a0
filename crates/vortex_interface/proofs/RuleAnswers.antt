-- Cases of the result of a rule.
use Rattle.std.proofs.Common.{◌≡◌, Bool, true, false, not, Option, Some, None, refl, subst, inl, inr}
use Rattle.std.specs.Prelude.{◌&&◌, ◌||◌, ◌⊎◌, if◌then◌else◌}
use Rattle.std.specs.Option.{option_map, option_or}
use Rattle.vortex_types.specs.Values.{Value}
use Rattle.vortex_interface.specs.Outcomes.{gives}

pub some_is : {A : Type 0} (x u : A) → Some x ≡ Some u → x ≡ u
some_is x u h = cc

pub gives_is : (v w : Value) → gives v ≡ gives w → v ≡ w
gives_is v w h = cc

-- the first of two results, if present
pub first_there : {A : Type 0} (a b : Option A) (u : A) (P : Type 0) → option_or a b ≡ Some u
    → (a ≡ Some u → P) → (b ≡ Some u → P) → P
first_there (Some x) b u P h f g = f h
first_there None b u P h f g = g h

-- the result from a part that may be missing
pub mapped : {A B : Type 0} (f : A → B) (o : Option A) (u : B) → option_map f o ≡ Some u
    → (x : A) × (o ≡ Some x) × (f x ≡ u)
mapped f None u h = cc
mapped f (Some x) u h = (x, refl, cc)

-- for a node that may be null the first of two results, else the only one
pub either_answer : {A : Type 0} (n : Bool) (only u : A) (a b : Option A) (P : A → Type 0)
    → (if n then option_or a b else Some only) ≡ Some u → (n ≡ false → P only)
    → (a ≡ Some u → P u) → (b ≡ Some u → P u) → P u
either_answer true only u a b P h solid f g = first_there a b u (P u) h f g
either_answer false only u a b P h solid f g = subst P (some_is only u h) (solid refl)

-- the result where a test is true, and where it is false
pub guarded : {A : Type 0} (b : Bool) (o : Option A) (u : A) → (if b then o else None) ≡ Some u
    → (b ≡ true) × (o ≡ Some u)
guarded true o u h = (refl, h)
guarded false o u h = cc

pub answer_if : {A : Type 0} (b : Bool) (x u : A) → (if b then Some x else None) ≡ Some u
    → (b ≡ true) × (x ≡ u)
answer_if true x u h = (refl, cc)
answer_if false x u h = cc

pub guarded_unless : {A : Type 0} (b : Bool) (o : Option A) (u : A)
    → (if b then None else o) ≡ Some u → (b ≡ false) × (o ≡ Some u)
guarded_unless false o u h = (refl, h)
guarded_unless true o u h = cc

pub answer_unless : {A : Type 0} (b : Bool) (x u : A) → (if b then None else Some x) ≡ Some u
    → (b ≡ false) × (x ≡ u)
answer_unless false x u h = (refl, cc)
answer_unless true x u h = cc

pub both_true : (a b : Bool) → (a && b) ≡ true → (a ≡ true) × (b ≡ true)
both_true true b h = (refl, h)
both_true false b h = cc

pub either_true : (a b : Bool) → (a || b) ≡ true → (a ≡ true) ⊎ (b ≡ true)
either_true true b h = inl refl
either_true false b h = inr h

pub not_not : (b : Bool) → not (not b) ≡ b
not_not true = refl
not_not false = refl
