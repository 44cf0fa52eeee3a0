-- The function without arguments that returns false.
use Rattle.std.specs.Prelude.{◌≡◌, codes, List, [], ◌∷◌, Option, Some, None, true, false, Any, refl}
use Rattle.std.proofs.Common.{arith}
use Rattle.vortex_errors.specs.declared.arity.Arity.TheVariants.{Exact}
use Rattle.vortex_types.specs.LogicalTypes.{LogicalType, bool_type, is_nullable}
use Rattle.vortex_types.specs.Values.{Value, null, truth}
use Rattle.vortex_interface.specs.Outcomes.{gives, GivesType, GivesNull}
use Rattle.vortex_interface.specs.Meaning.{Meaning, Lawful, HaveTypes}

abbrev pub fixed_type : List LogicalType → Option LogicalType
fixed_type [] = Some (bool_type false)
fixed_type (t ∷ ts) = None

abbrev pub fixed_meaning : {V O : Type 0} → Meaning V O
fixed_meaning = record {
  id = λ f. codes "rowfn.none";
  arity = λ f o. Exact 0;
  child_name = λ f o i. codes "";
  means = λ f o ts vs. gives (truth false);
  return_type = λ f o ts. fixed_type ts;
  strict = λ f o. true;
  infallible = λ f o. true;
}

typed : (ts : List LogicalType) (t : LogicalType) → fixed_type ts ≡ Some t
    → GivesType t (gives (truth false))
typed [] t e = let is : bool_type false ≡ t = cc in rw (← is) tt
typed (u ∷ ts) t e = cc

nullable : (ts : List LogicalType) (t : LogicalType) → fixed_type ts ≡ Some t
    → Any (λ a. is_nullable a ≡ true) ts → is_nullable t ≡ true
nullable [] t e a = absurd (omega arith)
nullable (u ∷ ts) t e a = cc

nulls : (ts : List LogicalType) (t : LogicalType) (vs : List Value) → fixed_type ts ≡ Some t
    → HaveTypes ts vs → Any (λ v. v ≡ null) vs → GivesNull (gives (truth false))
nulls [] t [] e h a = absurd (omega arith)
nulls [] t (v ∷ vs) e h a = absurd h
nulls (u ∷ ts) t vs e h a = cc

pub fixed_lawful : {V O : Type 0} → Lawful (fixed_meaning {V = V} {O = O})
fixed_lawful = record {
  typed = λ f o ts t vs e h. typed ts t e;
  alike = λ f o ts us t u vs e g a h k. refl;
  strict_type = λ f o ts t s e a. nullable ts t e a;
  strict_value = λ f o ts t vs s e h a. nulls ts t vs e h a;
  never_faults = λ f o ts t vs s e h. tt;
}
