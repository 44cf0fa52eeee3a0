-- The meaning of a function, for contracts only, and the laws of a lawful one.
use Rattle.std.specs.Prelude.{◌≡◌, ℕ, List, [], ◌∷◌, Option, Some, Bool, true, ⊤, map, Any}
use Rattle.vortex_errors.specs.declared.arity.Arity.{Arity}
pub use Rattle.vortex_errors.specs.Arities.{fits}
use Rattle.vortex_types.specs.LogicalTypes.{LogicalType, is_nullable, without_nullability}
use Rattle.vortex_types.specs.Values.{Value, null}
use Rattle.vortex_types.specs.Typing.{HasType}
use Rattle.vortex_interface.specs.Outcomes.{Outcome, GivesValue, GivesType, GivesNull}

-- for functions V with options O: the identity, the arity, the argument names, the row meaning of
-- argument types and values, the return type if the argument types are accepted, and the two marks
pub record Meaning (V O : Type 0) : Type 0 where
  pub id : V → List ℕ
  pub arity : V → O → Arity
  pub child_name : V → O → ℕ → List ℕ
  pub means : V → O → List LogicalType → List Value → Outcome
  pub return_type : V → O → List LogicalType → Option LogicalType
  pub strict : V → O → Bool
  pub infallible : V → O → Bool

-- each value has the type at its index
abbrev pub HaveTypes : List LogicalType → List Value → Type 0
HaveTypes [] [] = ⊤
HaveTypes (t ∷ ts) (v ∷ vs) = HasType t v × HaveTypes ts vs
HaveTypes [] (v ∷ vs) = ⊥
HaveTypes (t ∷ ts) [] = ⊥

-- types that differ only in nullability
abbrev pub AreAlike : List LogicalType → List LogicalType → Type 0
AreAlike ts us = map without_nullability ts ≡ map without_nullability us

-- typed: an outcome is a value of the return type, or a fault
-- alike: it is the same for argument types that differ only in nullability, on values that both
-- have
-- strict_type, strict_value: a strict function returns a nullable type wherever an argument's is,
-- and null wherever a value is null
-- never_faults: an infallible one gives a value for all values of accepted types
pub record Lawful {V O : Type 0} (m : Meaning V O) : Type 0 where
  pub typed : (f : V) (o : O) (ts : List LogicalType) (t : LogicalType) (vs : List Value)
      → m.return_type f o ts ≡ Some t → HaveTypes ts vs → GivesType t (m.means f o ts vs)
  pub alike : (f : V) (o : O) (ts us : List LogicalType) (t u : LogicalType) (vs : List Value)
      → m.return_type f o ts ≡ Some t → m.return_type f o us ≡ Some u → AreAlike ts us
      → HaveTypes ts vs → HaveTypes us vs → m.means f o ts vs ≡ m.means f o us vs
  pub strict_type : (f : V) (o : O) (ts : List LogicalType) (t : LogicalType)
      → m.strict f o ≡ true → m.return_type f o ts ≡ Some t → Any (λ a. is_nullable a ≡ true) ts
      → is_nullable t ≡ true
  pub strict_value : (f : V) (o : O) (ts : List LogicalType) (t : LogicalType) (vs : List Value)
      → m.strict f o ≡ true → m.return_type f o ts ≡ Some t → HaveTypes ts vs
      → Any (λ v. v ≡ null) vs
      → GivesNull (m.means f o ts vs)
  pub never_faults : (f : V) (o : O) (ts : List LogicalType) (t : LogicalType) (vs : List Value)
      → m.infallible f o ≡ true → m.return_type f o ts ≡ Some t → HaveTypes ts vs
      → GivesValue (m.means f o ts vs)
