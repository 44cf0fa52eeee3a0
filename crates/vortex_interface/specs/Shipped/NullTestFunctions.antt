-- The null tests of a value of any type: whether it is null, and whether it is not.
use Rattle.std.specs.Prelude.{◌≡◌, ℕ, List, [], ◌∷◌, Option, Some, None, Bool, true, false, not}
use Rattle.std.specs.Prelude.{codes, refl}
use Rattle.std.specs.Str.{bytes_eq}
use Rattle.std.proofs.Common.{subst}
use Rattle.vortex_types.specs.LogicalTypes.{LogicalType, bool_type}
use Rattle.vortex_types.specs.Values.{Value, truth, is_null}
use Rattle.vortex_types.specs.Typing.{HasType}
use Rattle.vortex_interface.specs.Outcomes.{gives}
use Rattle.vortex_interface.specs.Meaning.{HaveTypes}
use Rattle.vortex_interface.specs.Arguments.{of_one, one_there}
use Rattle.vortex_interface.specs.CallTexts.{unary_before, call_end}
use Rattle.vortex_interface.specs.RowFunction.{RowFunction, LawfulRow}

-- whether it is null, or, if negated, whether it is not
abbrev pub null_test_id : Bool → List ℕ
null_test_id false = codes "vortex.is_null"
null_test_id true = codes "vortex.is_not_null"

-- the name that a call is printed by
abbrev pub null_test_name : Bool → List ℕ
null_test_name false = codes "vortex.is_null"
null_test_name true = codes "is_not_null"

abbrev pub null_test_value : Bool → Value → Bool
null_test_value false v = is_null v
null_test_value true v = not (is_null v)

-- non-nullable Bool, whatever the type of the argument
abbrev pub null_test_type : List LogicalType → Option LogicalType
null_test_type (t ∷ []) = Some (bool_type false)
null_test_type ts = None

abbrev pub null_test : Bool → RowFunction
null_test negated = record {
  id = null_test_id negated;
  count = 1;
  child_name = λ i. codes "input";
  return_type = null_test_type;
  place = λ ts. None;
  means = λ ts vs. gives (of_one (λ v. truth (null_test_value negated v)) vs);
  strict = false;
  infallible = true;
  before = unary_before (null_test_name negated) (call_end []);
  printed = λ k. k;
  added = λ nullable. 2;
}

-- the words of scripts
abbrev pub null_test_word : Bool → List (List ℕ) → Bool
null_test_word false (w ∷ []) = bytes_eq w (codes "is_null")
null_test_word true (w ∷ []) = bytes_eq w (codes "is_not_null")
null_test_word negated ws = false

null_test_typed : (test : Value → Bool) (ts : List LogicalType) (t : LogicalType) (vs : List Value)
    → null_test_type ts ≡ Some t → HaveTypes ts vs → HasType t (of_one (λ v. truth (test v)) vs)
null_test_typed test (u ∷ []) t vs e h =
    let is : bool_type false ≡ t = cc in
    one_there u (λ us. HasType t (of_one (λ v. truth (test v)) us))
    (λ v p. subst (λ (a : LogicalType). HasType a (truth (test v))) is tt) vs h
null_test_typed test ts t vs e h = cc

pub null_test_lawful : (negated : Bool) → LawfulRow (null_test negated)
null_test_lawful negated = record {
  typed = null_test_typed (null_test_value negated);
  alike = λ ts us t u vs e g a h k. refl;
  strict_type = λ ts t s e a. cc;
  strict_value = λ ts t vs s e h a. cc;
  never_faults = λ ts t vs s e h. tt;
  one_fault = λ ts us vs ws x y e g. cc;
}
