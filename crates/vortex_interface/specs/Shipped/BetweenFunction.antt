-- Between: whether a value is between two bounds, by Kleene's And of two comparisons.
use Rattle.std.specs.Prelude.{◌≡◌, ◌||◌, ◌&&◌, ℕ, zero, suc, List, [], ◌∷◌, Option, Some, None}
use Rattle.std.specs.Prelude.{◌++◌, Bool, true, false, codes, if◌then◌else◌, refl}
use Rattle.std.specs.Str.{bytes_eq}
use Rattle.std.proofs.Common.{subst, cond}
use Rattle.vortex_errors.specs.declared.error.MismatchPlace.{MismatchPlace}
use Rattle.vortex_errors.specs.declared.error.MismatchPlace.TheVariants as place
use Rattle.vortex_types.specs.LogicalTypes.{LogicalType, bool_type, is_nullable}
use Rattle.vortex_types.specs.TypeEquality.{alike_types}
use Rattle.vortex_types.specs.Values.{Value, truth_of}
use Rattle.vortex_types.specs.Typing.{HasType}
use Rattle.vortex_operators.specs.declared.operators.Operator.TheVariants.{And}
use Rattle.vortex_operators.specs.declared.between.BetweenOptions.{BetweenOptions}
use Rattle.vortex_operators.specs.declared.between.StrictComparison.{StrictComparison}
use Rattle.vortex_operators.specs.declared.between.StrictComparison.TheVariants.{Strict, NonStrict}
use Rattle.vortex_operators.specs.Between.{between_value, between_type, bound_operator, bound_text}
use Rattle.vortex_operators.specs.Kleene.{kleene, Allows}
use Rattle.vortex_operators.specs.OperatorValues.{comparison_value}
use Rattle.vortex_operators.proofs.KleeneNulls.{allowed, kleene_allowed}
use Rattle.vortex_interface.specs.Outcomes.{gives}
use Rattle.vortex_interface.specs.Meaning.{HaveTypes}
use Rattle.vortex_interface.specs.Arguments.{of_three, has_bool}
use Rattle.vortex_interface.specs.RowFunction.{RowFunction, LawfulRow}
use Rattle.vortex_interface.specs.Shipped.BinaryFunction.{comparison_has_bool}

abbrev pub between_id : List ℕ
between_id = codes "vortex.between"

abbrev pub between_name : ℕ → List ℕ
between_name zero = codes "array"
between_name (suc zero) = codes "lower"
between_name (suc (suc i)) = codes "upper"

-- two bounds that agree with the array's type apart from nullability: Bool, nullable if any of the
-- three is
abbrev pub bounded_type : List LogicalType → Option LogicalType
bounded_type (t ∷ lower ∷ upper ∷ []) =
    if alike_types t lower && alike_types t upper then Some (between_type t lower upper) else None
bounded_type ts = None

-- the first bound of another type
abbrev pub between_place : List LogicalType → MismatchPlace
between_place (t ∷ lower ∷ ts) =
    if alike_types t lower then place.BetweenUpper else place.BetweenLower
between_place ts = place.BetweenLower

-- `(lower < array <= upper)`, each operator as chosen
abbrev pub between_before : BetweenOptions → ℕ → List ℕ
between_before options zero = codes "("
between_before options (suc zero) = codes " " ++ bound_text options.lower_strict ++ codes " "
between_before options (suc (suc zero)) = codes " " ++ bound_text options.upper_strict ++ codes " "
between_before options (suc (suc (suc k))) = codes ")"

-- the lower bound is printed before what is between
abbrev pub between_printed : ℕ → ℕ
between_printed zero = 1
between_printed (suc zero) = 0
between_printed (suc (suc k)) = suc (suc k)

abbrev pub between_function : BetweenOptions → RowFunction
between_function options = record {
  id = between_id;
  count = 3;
  child_name = between_name;
  return_type = bounded_type;
  place = λ ts. Some (between_place ts);
  means = λ ts vs. gives (of_three (λ x lower upper. between_value options lower x upper) vs);
  strict = false;
  infallible = true;
  before = between_before options;
  printed = between_printed;
  added = λ nullable. 1;
}

abbrev pub between_options : StrictComparison → StrictComparison → BetweenOptions
between_options lower upper = record { lower_strict = lower; upper_strict = upper }

abbrev pub bound_named : List ℕ → Option StrictComparison
bound_named w =
    if bytes_eq w (codes "<") then Some Strict
    else (if bytes_eq w (codes "<=") then Some NonStrict
    else None)

abbrev pub bounds_of : Option StrictComparison → Option StrictComparison → Option BetweenOptions
bounds_of (Some lower) (Some upper) = Some (between_options lower upper)
bounds_of lower upper = None

-- the words of scripts: `between`, and the operators of the lower and the upper bound
abbrev pub between_named : List (List ℕ) → Option BetweenOptions
between_named (w ∷ lower ∷ upper ∷ []) =
    if bytes_eq w (codes "between") then bounds_of (bound_named lower) (bound_named upper) else None
between_named ws = None

-- a type that is nullable if any of the three is allows null
three_allow : (x lower upper : Bool) (o : Option Bool)
    → Allows ((lower || x) || (x || upper)) o → Allows ((x || lower) || upper) o
three_allow x lower upper (Some b) h = tt
three_allow true lower upper None h = refl
three_allow false true upper None h = refl
three_allow false false upper None h = h

between_has_bool : (options : BetweenOptions) (t lower upper : LogicalType) (v low high : Value)
    → HasType t v → HasType lower low → HasType upper high
    → HasType (between_type t lower upper) (between_value options low v high)
between_has_bool options t lower upper v low high h k l =
    let above = comparison_value (bound_operator options.lower_strict) low v in
    let below = comparison_value (bound_operator options.upper_strict) v high in
    let n = is_nullable lower || is_nullable t in
    let m = is_nullable t || is_nullable upper in
    let a = truth_of above in
    let b = truth_of below in
    let on_left : HasType (bool_type n) above =
    comparison_has_bool (bound_operator options.lower_strict) lower t low v k h in
    let on_right : HasType (bool_type m) below =
    comparison_has_bool (bound_operator options.upper_strict) t upper v high h l in
    let here : Allows (n || m) (kleene And a b) =
    kleene_allowed And n m a b refl (allowed n above on_left) (allowed m below on_right) in
    has_bool ((is_nullable t || is_nullable lower) || is_nullable upper) (kleene And a b)
    (three_allow (is_nullable t) (is_nullable lower) (is_nullable upper) (kleene And a b) here)

between_typed : (options : BetweenOptions) (ts : List LogicalType) (t : LogicalType)
    (vs : List Value) → bounded_type ts ≡ Some t → HaveTypes ts vs
    → HasType t (of_three (λ x lower upper. between_value options lower x upper) vs)
between_typed options (t ∷ lower ∷ upper ∷ []) a (v ∷ low ∷ high ∷ []) e h =
    by (alike_types t lower && alike_types t upper) e
  where
    by : (b : Bool) → cond b (Some (between_type t lower upper)) None ≡ Some a
        → HasType a (between_value options low v high)
    by true g =
        let is : between_type t lower upper ≡ a = cc in
        let bool = between_has_bool options t lower upper v low high h.0 h.1.0 h.1.1.0 in
        subst (λ (x : LogicalType). HasType x (between_value options low v high)) is bool
    by false g = cc
between_typed options (t ∷ lower ∷ upper ∷ []) a [] e h = absurd h
between_typed options (t ∷ lower ∷ upper ∷ []) a (v ∷ []) e h = absurd h.1
between_typed options (t ∷ lower ∷ upper ∷ []) a (v ∷ w ∷ []) e h = absurd h.1.1
between_typed options (t ∷ lower ∷ upper ∷ []) a (v ∷ w ∷ x ∷ y ∷ vs) e h = absurd h.1.1.1
between_typed options ts a vs e h = cc

pub between_lawful : (options : BetweenOptions) → LawfulRow (between_function options)
between_lawful options = record {
  typed = between_typed options;
  alike = λ ts us t u vs e g a h k. refl;
  strict_type = λ ts t s e a. cc;
  strict_value = λ ts t vs s e h a. cc;
  never_faults = λ ts t vs s e h. tt;
  one_fault = λ ts us vs ws x y e g. cc;
}

-- the number of options, in the code of trees
abbrev pub bounds_number : StrictComparison → StrictComparison → ℕ
bounds_number NonStrict NonStrict = 0
bounds_number Strict NonStrict = 1
bounds_number NonStrict Strict = 2
bounds_number Strict Strict = 3

abbrev pub between_number : BetweenOptions → ℕ
between_number options = bounds_number options.lower_strict options.upper_strict

abbrev pub between_numbered : ℕ → BetweenOptions
between_numbered zero = between_options NonStrict NonStrict
between_numbered (suc zero) = between_options Strict NonStrict
between_numbered (suc (suc zero)) = between_options NonStrict Strict
between_numbered n = between_options Strict Strict

bounds_back : (lower upper : StrictComparison)
    → between_numbered (bounds_number lower upper) ≡ between_options lower upper
bounds_back NonStrict NonStrict = refl
bounds_back Strict Strict = refl
bounds_back lower upper = refl

pub between_back : (options : BetweenOptions) → between_numbered (between_number options) ≡ options
between_back options = bounds_back options.lower_strict options.upper_strict
