-- A caller's function over Bool that faults with the number 1 if its argument is false; a null
-- stays null.
use Rattle.std.specs.Prelude.{◌≡◌, codes, List, [], ◌∷◌, Some, true, false, Any, refl}
use Rattle.std.specs.Prelude.{ℕ, zero, suc, ◌<◌, slice_index_or}
use Rattle.std.proofs.Common.{sym, ap, ◌∙◌, subst, arith}
use Rattle.vortex_errors.specs.declared.arity.Arity.TheVariants.{Exact}
use Rattle.vortex_types.specs.LogicalTypes.{LogicalType, bool_type, is_nullable}
use Rattle.vortex_types.specs.Values.{Value, null, truth}
use Rattle.vortex_types.specs.Typing.{HasType}
use Rattle.vortex_interface.specs.Outcomes.{Outcome, gives, faults, custom, GivesType, GivesNull}
use Rattle.vortex_interface.specs.Meaning.{Meaning, Lawful, HaveTypes}
use Rattle.vortex_interface.specs.Shipped.NotFunction.{not_type}

abbrev pub must_be_true : List Value → Outcome
must_be_true (truth false ∷ []) = faults (custom 1)
must_be_true (v ∷ []) = gives v
must_be_true vs = gives null

abbrev pub must_be_true_meaning : {V O : Type 0} → Meaning V O
must_be_true_meaning = record {
  id = λ f. codes "test.must_be_true";
  arity = λ f o. Exact 1;
  child_name = λ f o i. codes "input";
  means = λ f o ts vs. must_be_true vs;
  return_type = λ f o ts. not_type ts;
  strict = λ f o. true;
  infallible = λ f o. false;
}

typed : (ts : List LogicalType) (t : LogicalType) (vs : List Value) → not_type ts ≡ Some t
    → HaveTypes ts vs → GivesType t (must_be_true vs)
typed (bool_type n ∷ []) t (truth false ∷ []) e h = tt
typed (bool_type n ∷ []) t (truth true ∷ []) e h = let is : bool_type n ≡ t = cc in rw (← is) tt
typed (bool_type n ∷ []) t (null ∷ []) e h =
    let is : bool_type n ≡ t = cc in subst (λ (u : LogicalType). HasType u null) is h.0
typed (bool_type n ∷ []) t (v ∷ []) e h = absurd h.0
typed (bool_type n ∷ []) t [] e h = absurd h
typed (bool_type n ∷ []) t (v ∷ w ∷ vs) e h = absurd h.1
typed ts t vs e h = cc

pub only : {A : Type 0} (P : A → Type 0) (x : A) → Any P (x ∷ []) → P x
only {A} P x a = by a.0 a.1 a.2 a.3 a.4
  where
    by : (k : ℕ) (y : A) → k < 1 → slice_index_or (x ∷ []) k y ≡ y → P y → P x
    by zero y h e p = subst P (sym e) p
    by (suc k) y h e p = absurd (omega arith)

nullable : (ts : List LogicalType) (t : LogicalType) → not_type ts ≡ Some t
    → Any (λ a. is_nullable a ≡ true) ts → is_nullable t ≡ true
nullable (bool_type n ∷ []) t e a =
    let is : bool_type n ≡ t = cc in ap is_nullable (sym is)
    ∙ only (λ a. is_nullable a ≡ true) (bool_type n) a
nullable ts t e a = cc

of_null : (v : Value) → v ≡ null → GivesNull (must_be_true (v ∷ []))
of_null v e = subst (λ (w : Value). GivesNull (must_be_true (w ∷ []))) (sym e) refl

nulls : (ts : List LogicalType) (t : LogicalType) (vs : List Value) → not_type ts ≡ Some t
    → HaveTypes ts vs → Any (λ v. v ≡ null) vs → GivesNull (must_be_true vs)
nulls (bool_type n ∷ []) t (v ∷ []) e h a = of_null v (only (λ w. w ≡ null) v a)
nulls (bool_type n ∷ []) t [] e h a = absurd h
nulls (bool_type n ∷ []) t (v ∷ w ∷ vs) e h a = absurd h.1
nulls ts t vs e h a = cc

pub must_be_true_lawful : {V O : Type 0} → Lawful (must_be_true_meaning {V = V} {O = O})
must_be_true_lawful = record {
  typed = λ f o ts t vs e h. typed ts t vs e h;
  alike = λ f o ts us t u vs e g a h k. refl;
  strict_type = λ f o ts t s e a. nullable ts t e a;
  strict_value = λ f o ts t vs s e h a. nulls ts t vs e h a;
  never_faults = λ f o ts t vs s e h. cc;
}
