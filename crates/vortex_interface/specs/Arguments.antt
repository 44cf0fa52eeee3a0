-- One argument, two, and three.
use Rattle.std.specs.Prelude.{◌≡◌, ◌⊎◌, ℕ, zero, suc, ◌<◌, List, [], ◌∷◌, Option, Some, None, Bool}
use Rattle.std.specs.Prelude.{true, false, ◌||◌, Any, slice_index_or, refl}
use Rattle.std.proofs.Common.{sym, ap, ◌∙◌, subst, arith, inl, inr}
use Rattle.vortex_types.specs.LogicalTypes.{LogicalType, bool_type}
use Rattle.vortex_types.specs.Values.{Value, null, truth_or_null}
use Rattle.vortex_types.specs.Typing.{HasType}
use Rattle.vortex_operators.specs.Kleene.{Allows}
use Rattle.vortex_interface.specs.Meaning.{HaveTypes}

abbrev pub of_one : (Value → Value) → List Value → Value
of_one f (v ∷ []) = f v
of_one f vs = null

abbrev pub of_two : (Value → Value → Value) → List Value → Value
of_two f (v ∷ w ∷ []) = f v w
of_two f vs = null

abbrev pub of_three : (Value → Value → Value → Value) → List Value → Value
of_three f (v ∷ w ∷ x ∷ []) = f v w x
of_three f vs = null

-- the types of one argument, and of two, have as many values
pub one_there : (t : LogicalType) (P : List Value → Type 0)
    → ((v : Value) → HasType t v → P (v ∷ [])) → (vs : List Value) → HaveTypes (t ∷ []) vs → P vs
one_there t P p (v ∷ []) h = p v h.0
one_there t P p [] h = absurd h
one_there t P p (v ∷ w ∷ vs) h = absurd h.1

pub two_there : (t u : LogicalType) (P : List Value → Type 0)
    → ((v w : Value) → HasType t v → HasType u w → P (v ∷ w ∷ []))
    → (vs : List Value) → HaveTypes (t ∷ u ∷ []) vs → P vs
two_there t u P p (v ∷ w ∷ []) h = p v w h.0 h.1.0
two_there t u P p [] h = absurd h
two_there t u P p (v ∷ []) h = absurd h.1
two_there t u P p (v ∷ w ∷ x ∷ vs) h = absurd h.1.1

-- a property of an argument holds for the only one, and for one of the two
pub only : {A : Type 0} (P : A → Type 0) (x : A) → Any P (x ∷ []) → P x
only {A} P x a = by a.0 a.1 a.2 a.3 a.4
  where
    by : (k : ℕ) (y : A) → k < 1 → slice_index_or (x ∷ []) k y ≡ y → P y → P x
    by zero y h e p = subst P (sym e) p
    by (suc k) y h e p = absurd (omega arith)

pub either_of : {A : Type 0} (P : A → Type 0) (x z : A) → Any P (x ∷ z ∷ []) → P x ⊎ P z
either_of {A} P x z a = by a.0 a.1 a.2 a.3 a.4
  where
    by : (k : ℕ) (y : A) → k < 2 → slice_index_or (x ∷ z ∷ []) k y ≡ y → P y → P x ⊎ P z
    by zero y h e p = inl (subst P (sym e) p)
    by (suc zero) y h e p = inr (subst P (sym e) p)
    by (suc (suc k)) y h e p = absurd (omega arith)

pub or_either : (n m : Bool) → (n ≡ true) ⊎ (m ≡ true) → (n || m) ≡ true
or_either true m h = refl
or_either false m (inl h) = cc
or_either false m (inr h) = h

-- so a value that is null for null is null for arguments with a null
pub null_of_one : (f : Value → Value) → f null ≡ null → (vs : List Value) → Any (λ v. v ≡ null) vs
    → of_one f vs ≡ null
null_of_one f e (v ∷ []) a = ap f (only (λ w. w ≡ null) v a) ∙ e
null_of_one f e vs a = refl

module _ (f : Value → Value → Value) (left : (w : Value) → f null w ≡ null)
    (right : (v : Value) → f v null ≡ null) where
  pub null_of_either : (v w : Value) → (v ≡ null) ⊎ (w ≡ null) → f v w ≡ null
  null_of_either v w (inl p) = ap (λ x. f x w) p ∙ left w
  null_of_either v w (inr q) = ap (f v) q ∙ right v

  pub null_of_two : (vs : List Value) → Any (λ v. v ≡ null) vs → of_two f vs ≡ null
  null_of_two (v ∷ w ∷ []) a = null_of_either v w (either_of (λ x. x ≡ null) v w a)
  null_of_two vs a = refl

-- a truth value or null is a value of Bool, nullable where null is allowed
pub has_bool : (n : Bool) (a : Option Bool) → Allows n a → HasType (bool_type n) (truth_or_null a)
has_bool n None h = h
has_bool n (Some b) h = tt
