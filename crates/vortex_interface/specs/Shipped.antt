-- The list of the shipped functions: each has its own file, and nothing else distinguishes them by
-- cases.
pub mod BinaryFunction
pub mod NotFunction
pub mod NullTestFunctions
pub mod CastFunction
pub mod BetweenFunction
pub mod LikeFunction
use Rattle.std.specs.Prelude.{◌≡◌, ℕ, zero, suc, List, Option, Some, None, Bool, if◌then◌else◌}
use Rattle.std.specs.Prelude.{true, false, refl}
use Rattle.std.specs.Option.{option_map, option_or, option_and_then}
use Rattle.std.proofs.Common.{ap}
use Rattle.vortex_errors.specs.declared.arity.Arity.{Arity}
use Rattle.vortex_errors.specs.declared.arity.Arity.TheVariants.{Exact}
use Rattle.vortex_errors.specs.declared.error.MismatchPlace.{MismatchPlace}
use Rattle.vortex_types.specs.LogicalTypes.{LogicalType}
use Rattle.vortex_types.specs.Values.{Value}
use Rattle.vortex_operators.specs.declared.operators.Operator.{Operator}
use Rattle.vortex_operators.specs.declared.between.BetweenOptions.{BetweenOptions}
use Rattle.vortex_like.specs.declared.options.LikeOptions.{LikeOptions}
use Rattle.vortex_interface.specs.Outcomes.{Outcome}
use Rattle.vortex_interface.specs.Meaning.{Meaning, Lawful}
use Rattle.vortex_interface.specs.CallTexts.{text_told}
use Rattle.vortex_interface.specs.RowFunction.{RowFunction, LawfulRow}
use Rattle.vortex_interface.specs.Shipped.BinaryFunction.{operator_function, operator_lawful}
use Rattle.vortex_interface.specs.Shipped.BinaryFunction.{operator_number, operator_called}
use Rattle.vortex_interface.specs.Shipped.BinaryFunction.{operator_numbered, operator_back}
use Rattle.vortex_interface.specs.Shipped.NotFunction.{not_function, not_lawful, is_not_word}
use Rattle.vortex_interface.specs.Shipped.NullTestFunctions.{null_test, null_test_lawful}
use Rattle.vortex_interface.specs.Shipped.NullTestFunctions.{null_test_word}
use Rattle.vortex_interface.specs.Shipped.CastFunction.{cast_function, cast_lawful, is_cast_word}
use Rattle.vortex_interface.specs.Shipped.BetweenFunction.{between_function, between_lawful}
use Rattle.vortex_interface.specs.Shipped.BetweenFunction.{between_named, between_number}
use Rattle.vortex_interface.specs.Shipped.BetweenFunction.{between_numbered, between_back}
use Rattle.vortex_interface.specs.Shipped.LikeFunction.{like_function, like_lawful, like_named}
use Rattle.vortex_interface.specs.Shipped.LikeFunction.{with_escape, like_number, like_numbered}
use Rattle.vortex_interface.specs.Shipped.LikeFunction.{like_back}

-- THE LIST: each function with its options
pub data Shipped : Type 0 where
  Binary : Operator → Shipped
  Not : Shipped
  NullTest : Bool → Shipped
  Cast : Shipped
  Between : BetweenOptions → Shipped
  Like : LikeOptions → Shipped

-- whether a value is null, and whether it is not
abbrev pub IsNull : Shipped
IsNull = NullTest false

abbrev pub IsNotNull : Shipped
IsNotNull = NullTest true

abbrev pub row_function : Shipped → RowFunction
row_function (Binary op) = operator_function op
row_function Not = not_function
row_function (NullTest negated) = null_test negated
row_function Cast = cast_function
row_function (Between options) = between_function options
row_function (Like options) = like_function options

pub row_lawful : (s : Shipped) → LawfulRow (row_function s)
row_lawful (Binary op) = operator_lawful op
row_lawful Not = not_lawful
row_lawful (NullTest negated) = null_test_lawful negated
row_lawful Cast = cast_lawful
row_lawful (Between options) = between_lawful options
row_lawful (Like options) = like_lawful options

-- the function that words of a script name
abbrev pub shipped_named : List (List ℕ) → Option Shipped
shipped_named ws =
    option_or (option_map Binary (operator_called ws))
    (option_or (if is_not_word ws then Some Not else None)
    (option_or (if null_test_word false ws then Some IsNull else None)
    (option_or (if null_test_word true ws then Some IsNotNull else None)
    (option_or (if is_cast_word ws then Some Cast else None)
    (option_or (option_map Between (between_named ws))
    (option_or (option_map Like (like_named ws))
    None))))))

-- the same function with the given escape, if there is one; only Like has one
abbrev pub escaped : Option (Option ℕ) → Shipped → Option Shipped
escaped None s = Some s
escaped (Some escape) (Like options) = Some (Like (with_escape options escape))
escaped (Some escape) s = None

-- the function that a script calls by words, with its escape
abbrev pub shipped_called : List (List ℕ) → Option (Option ℕ) → Option Shipped
shipped_called ws said = option_and_then (escaped said) (shipped_named ws)

-- the numbers of a function and of its options, in the code of trees
abbrev pub shipped_number : Shipped → ℕ × ℕ
shipped_number (Binary op) = (0, operator_number op)
shipped_number Not = (1, 0)
shipped_number (NullTest false) = (2, 0)
shipped_number (NullTest true) = (3, 0)
shipped_number Cast = (4, 0)
shipped_number (Between options) = (5, between_number options)
shipped_number (Like options) = (6, like_number options)

abbrev pub shipped_numbered : ℕ → ℕ → Shipped
shipped_numbered zero n = Binary (operator_numbered n)
shipped_numbered (suc zero) n = Not
shipped_numbered (suc (suc zero)) n = IsNull
shipped_numbered (suc (suc (suc zero))) n = IsNotNull
shipped_numbered (suc (suc (suc (suc zero)))) n = Cast
shipped_numbered (suc (suc (suc (suc (suc zero))))) n = Between (between_numbered n)
shipped_numbered (suc (suc (suc (suc (suc (suc f)))))) n = Like (like_numbered n)

pub shipped_back : (s : Shipped) → shipped_numbered (shipped_number s).0 (shipped_number s).1 ≡ s
shipped_back (Binary op) = ap Binary (operator_back op)
shipped_back (NullTest false) = refl
shipped_back (Between options) = ap Between (between_back options)
shipped_back (Like options) = ap Like (like_back options)
shipped_back s = refl

-- The rest follows from the list.

abbrev pub shipped_id : Shipped → List ℕ
shipped_id s = (row_function s).id

abbrev pub shipped_arity : Shipped → Arity
shipped_arity s = Exact (row_function s).count

abbrev pub shipped_child_name : Shipped → ℕ → List ℕ
shipped_child_name s i = (row_function s).child_name i

abbrev pub shipped_type : Shipped → List LogicalType → Option LogicalType
shipped_type s ts = (row_function s).return_type ts

abbrev pub shipped_place : Shipped → List LogicalType → Option MismatchPlace
shipped_place s ts = (row_function s).place ts

abbrev pub shipped_means : Shipped → List LogicalType → List Value → Outcome
shipped_means s ts vs = (row_function s).means ts vs

abbrev pub is_strict : Shipped → Bool
is_strict s = (row_function s).strict

abbrev pub is_infallible : Shipped → Bool
is_infallible s = (row_function s).infallible

abbrev pub shipped_before : Shipped → ℕ → List ℕ
shipped_before s k = (row_function s).before k

abbrev pub shipped_printed : Shipped → ℕ → ℕ
shipped_printed s k = (row_function s).printed k

abbrev pub shipped_text : Shipped → List (List ℕ) → List ℕ
shipped_text s texts = text_told (shipped_before s) (shipped_printed s) texts

abbrev pub shipped_added : Shipped → Bool → ℕ
shipped_added s nullable = (row_function s).added nullable

-- the functions of one identity whose options each name a shipped function
abbrev pub shipped_meaning : {V O : Type 0} → List ℕ → (O → Shipped) → Meaning V O
shipped_meaning name shipped = record {
  id = λ f. name;
  arity = λ f o. shipped_arity (shipped o);
  child_name = λ f o i. shipped_child_name (shipped o) i;
  means = λ f o ts vs. shipped_means (shipped o) ts vs;
  return_type = λ f o ts. shipped_type (shipped o) ts;
  strict = λ f o. is_strict (shipped o);
  infallible = λ f o. is_infallible (shipped o);
}

-- they are lawful
pub shipped_lawful : {V O : Type 0} (name : List ℕ) (of : O → Shipped)
    → Lawful (shipped_meaning {V = V} {O = O} name of)
shipped_lawful name of = record {
  typed = λ f o ts t vs e h. (row_lawful (of o)).typed ts t vs e h;
  alike = λ f o ts us t u vs e g a h k. (row_lawful (of o)).alike ts us t u vs e g a h k;
  strict_type = λ f o ts t s e a. (row_lawful (of o)).strict_type ts t s e a;
  strict_value = λ f o ts t vs s e h a. (row_lawful (of o)).strict_value ts t vs s e h a;
  never_faults = λ f o ts t vs s e h. (row_lawful (of o)).never_faults ts t vs s e h;
}
