-- Kleene's Not of a Bool.
use Rattle.std.specs.Prelude.{◌≡◌, ℕ, List, [], ◌∷◌, Option, Some, None, Bool, true, false}
use Rattle.std.specs.Prelude.{codes, Any, if◌then◌else◌, refl}
use Rattle.std.specs.Str.{bytes_eq}
use Rattle.std.proofs.Common.{sym, ap, ◌∙◌, subst}
use Rattle.vortex_errors.specs.declared.error.MismatchPlace.TheVariants as place
use Rattle.vortex_types.specs.LogicalTypes.{LogicalType, bool_type, is_nullable}
use Rattle.vortex_types.specs.Values.{Value, truth_of}
use Rattle.vortex_types.specs.Typing.{HasType}
use Rattle.vortex_operators.specs.Kleene.{kleene_not}
use Rattle.vortex_operators.specs.OperatorValues.{not_value}
use Rattle.vortex_operators.proofs.KleeneNulls.{allowed, not_allowed}
use Rattle.vortex_interface.specs.Outcomes.{gives}
use Rattle.vortex_interface.specs.Meaning.{HaveTypes}
use Rattle.vortex_interface.specs.Arguments.{of_one, one_there, only, null_of_one}
use Rattle.vortex_interface.specs.Arguments.{has_bool}
use Rattle.vortex_interface.specs.CallTexts.{unary_before, call_end}
use Rattle.vortex_interface.specs.RowFunction.{RowFunction, LawfulRow}

abbrev pub not_id : List ℕ
not_id = codes "vortex.not"

-- Bool, with its nullability
abbrev pub not_type : List LogicalType → Option LogicalType
not_type (bool_type n ∷ []) = Some (bool_type n)
not_type ts = None

abbrev pub not_function : RowFunction
not_function = record {
  id = not_id;
  count = 1;
  child_name = λ i. codes "input";
  return_type = not_type;
  place = λ ts. Some place.Not;
  means = λ ts vs. gives (of_one not_value vs);
  strict = true;
  infallible = true;
  before = unary_before not_id (call_end []);
  printed = λ k. k;
  added = λ nullable. if nullable then 2 else 1;
}

-- the word of scripts
abbrev pub is_not_word : List (List ℕ) → Bool
is_not_word (w ∷ []) = bytes_eq w (codes "not")
is_not_word ws = false

not_typed : (ts : List LogicalType) (t : LogicalType) (vs : List Value)
    → not_type ts ≡ Some t → HaveTypes ts vs → HasType t (of_one not_value vs)
not_typed (bool_type n ∷ []) t vs e h =
    let is : bool_type n ≡ t = cc in
    one_there (bool_type n) (λ us. HasType t (of_one not_value us))
    (λ v p. subst (λ (u : LogicalType). HasType u (not_value v)) is
    (has_bool n (kleene_not (truth_of v)) (not_allowed n (truth_of v) (allowed n v p)))) vs h
not_typed ts t vs e h = cc

not_nullable : (ts : List LogicalType) (t : LogicalType)
    → not_type ts ≡ Some t → Any (λ a. is_nullable a ≡ true) ts → is_nullable t ≡ true
not_nullable (bool_type n ∷ []) t e a =
    let is : bool_type n ≡ t = cc in
    ap is_nullable (sym is) ∙ only (λ a. is_nullable a ≡ true) (bool_type n) a
not_nullable ts t e a = cc

pub not_lawful : LawfulRow not_function
not_lawful = record {
  typed = not_typed;
  alike = λ ts us t u vs e g a h k. refl;
  strict_type = λ ts t s e a. not_nullable ts t e a;
  strict_value = λ ts t vs s e h a. null_of_one not_value refl vs a;
  never_faults = λ ts t vs s e h. tt;
  one_fault = λ ts us vs ws x y e g. cc;
}
