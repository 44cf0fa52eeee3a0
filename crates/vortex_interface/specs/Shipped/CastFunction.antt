-- Cast of a Bool to nullable Bool; each value is unchanged.
use Rattle.std.specs.Prelude.{◌≡◌, ℕ, List, [], ◌∷◌, Option, Some, None, Bool, true, false}
use Rattle.std.specs.Prelude.{codes, refl}
use Rattle.std.specs.Str.{bytes_eq}
use Rattle.std.proofs.Common.{sym, ap, subst}
use Rattle.vortex_errors.specs.declared.error.MismatchPlace.TheVariants as place
use Rattle.vortex_types.specs.LogicalTypes.{LogicalType, bool_type, is_nullable}
use Rattle.vortex_types.specs.Values.{Value, null, truth}
use Rattle.vortex_types.specs.Typing.{HasType}
use Rattle.vortex_interface.specs.Outcomes.{gives}
use Rattle.vortex_interface.specs.Meaning.{HaveTypes}
use Rattle.vortex_interface.specs.Arguments.{of_one, one_there, null_of_one}
use Rattle.vortex_interface.specs.CallTexts.{unary_before, call_end}
use Rattle.vortex_interface.specs.RowFunction.{RowFunction, LawfulRow}

abbrev pub cast_id : List ℕ
cast_id = codes "vortex.cast"

-- the text of its options: the return type
abbrev pub cast_options_text : List ℕ
cast_options_text = codes "bool?"

-- nullable Bool, for any Bool
abbrev pub cast_type : List LogicalType → Option LogicalType
cast_type (bool_type n ∷ []) = Some (bool_type true)
cast_type ts = None

abbrev pub cast_function : RowFunction
cast_function = record {
  id = cast_id;
  count = 1;
  child_name = λ i. codes "input";
  return_type = cast_type;
  place = λ ts. Some place.Cast;
  means = λ ts vs. gives (of_one (λ v. v) vs);
  strict = true;
  infallible = true;
  before = unary_before cast_id (call_end cast_options_text);
  printed = λ k. k;
  added = λ nullable. 1;
}

-- the word of scripts
abbrev pub is_cast_word : List (List ℕ) → Bool
is_cast_word (w ∷ []) = bytes_eq w (codes "cast")
is_cast_word ws = false

-- a value of Bool is one of the nullable Bool
widened : (n : Bool) (v : Value) → HasType (bool_type n) v → HasType (bool_type true) v
widened n null h = refl
widened n (truth b) h = tt
widened n v h = absurd h

cast_typed : (ts : List LogicalType) (t : LogicalType) (vs : List Value)
    → cast_type ts ≡ Some t → HaveTypes ts vs → HasType t (of_one (λ v. v) vs)
cast_typed (bool_type n ∷ []) t vs e h =
    let is : bool_type true ≡ t = cc in
    one_there (bool_type n) (λ us. HasType t (of_one (λ v. v) us))
    (λ v p. subst (λ (u : LogicalType). HasType u v) is (widened n v p)) vs h
cast_typed ts t vs e h = cc

cast_nullable : (ts : List LogicalType) (t : LogicalType) → cast_type ts ≡ Some t
    → is_nullable t ≡ true
cast_nullable (bool_type n ∷ []) t e = let is : bool_type true ≡ t = cc in ap is_nullable (sym is)
cast_nullable ts t e = cc

pub cast_lawful : LawfulRow cast_function
cast_lawful = record {
  typed = cast_typed;
  alike = λ ts us t u vs e g a h k. refl;
  strict_type = λ ts t s e a. cast_nullable ts t e;
  strict_value = λ ts t vs s e h a. null_of_one (λ v. v) refl vs a;
  never_faults = λ ts t vs s e h. tt;
  one_fault = λ ts us vs ws x y e g. cc;
}
