-- A caller's function that returns its first argument, and its rules.
use Rattle.std.specs.Prelude.{◌≡◌, codes, List, [], ◌∷◌, Option, Some, None, true, false, refl}
use Rattle.std.proofs.Common.{subst}
use Rattle.vortex_errors.specs.declared.arity.Arity.TheVariants.{Variadic}
use Rattle.vortex_types.specs.LogicalTypes.{LogicalType}
use Rattle.vortex_types.specs.Values.{Value, null}
use Rattle.vortex_types.specs.Typing.{HasType}
use Rattle.vortex_interface.specs.Outcomes.{Outcome, gives, GivesType, GivesValue}
use Rattle.vortex_interface.specs.Meaning.{Meaning, Lawful, HaveTypes}
use Rattle.vortex_interface.specs.Trees.{Tree, Trees, no_trees, tree}
use Rattle.vortex_interface.specs.Rules.{Rules}

abbrev pub first_value : List Value → Outcome
first_value [] = gives null
first_value (v ∷ vs) = gives v

abbrev pub first_type : List LogicalType → Option LogicalType
first_type [] = None
first_type (t ∷ ts) = Some t

abbrev pub first_tree : {V O : Type 0} → Trees V O → Option (Tree V O)
first_tree no_trees = None
first_tree (tree t ts) = Some t

abbrev pub first_meaning : {V O : Type 0} → Meaning V O
first_meaning = record {
  id = λ f. codes "test.first";
  arity = λ f o. Variadic 1 None;
  child_name = λ f o i. codes "input";
  means = λ f o ts vs. first_value vs;
  return_type = λ f o ts. first_type ts;
  strict = λ f o. false;
  infallible = λ f o. true;
}

abbrev pub first_rules : {V O : Type 0} → Rules V O
first_rules = record {
  validity_of = λ f o ts. None;
  reduce_of = λ f o ts. first_tree ts;
  simplify_of = λ f o ts. first_tree ts;
}

typed : (ts : List LogicalType) (t : LogicalType) (vs : List Value) → first_type ts ≡ Some t
    → HaveTypes ts vs → GivesType t (first_value vs)
typed [] t vs e h = cc
typed (u ∷ ts) t [] e h = absurd h
typed (u ∷ ts) t (v ∷ vs) e h =
    let is : u ≡ t = cc in subst (λ (w : LogicalType). HasType w v) is h.0

no_fault : (vs : List Value) → GivesValue (first_value vs)
no_fault [] = tt
no_fault (v ∷ vs) = tt

pub first_lawful : {V O : Type 0} → Lawful (first_meaning {V = V} {O = O})
first_lawful = record {
  typed = λ f o ts t vs e h. typed ts t vs e h;
  alike = λ f o ts us t u vs e g a h k. refl;
  strict_type = λ f o ts t s e a. cc;
  strict_value = λ f o ts t vs s e h a. cc;
  never_faults = λ f o ts t vs s e h. no_fault vs;
}
