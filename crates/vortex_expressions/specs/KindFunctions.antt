-- Calls of functions on values of kinds: of numbers as floats, of dates and timestamps.
use Rattle.std.specs.Prelude.{ℕ, List, [], ◌∷◌, ◌++◌, Bool, true, false, length, codes}
use Rattle.std.specs.Prelude.{Option, Some, None, if◌then◌else◌, pos}
use Rattle.std.specs.Option.{option_map}
use Rattle.vortex_types.specs.declared.dtype.PType.TheVariants.{I64}
use Rattle.vortex_columns.specs.ScalarOf.{int_scalar}
use Rattle.vortex_operators.specs.declared.operators.Operator.TheVariants as operator
use Rattle.vortex_interface.specs.Shipped.{Binary}
use Rattle.vortex_interface.specs.Functions.{ours}
use Rattle.vortex_interface.specs.Trees.{constant}
use Rattle.vortex_interface.specs.Eval.{tree_type}
use Rattle.vortex_errors.specs.declared.arity.Arity.TheVariants.{Exact}
use Rattle.vortex_errors.specs.declared.error.VortexError.TheVariants.{ArityMismatch, TypeMismatch}
use Rattle.vortex_errors.specs.declared.error.MismatchPlace.TheVariants.{Scalars}
use Rattle.vortex_logical.specs.declared.kind.Kind.{Kind}
use Rattle.vortex_logical.specs.declared.kind.Kind.TheVariants.{Date, Timestamp, Decimal}
use Rattle.vortex_logical.specs.declared.kind.Kind.TheVariants.{F64, F32}
use Rattle.vortex_logical.specs.declared.operand.Operand.{Operand}
use Rattle.vortex_logical.specs.declared.operand.Operand.TheVariants.{Whole, Of}
use Rattle.vortex_logical.specs.Digits.{Digits, digits_of}
use Rattle.vortex_logical_casts.specs.declared.roundings.Rounded.{Rounded}
use Rattle.vortex_logical_casts.specs.declared.steps.Step.{Step}
use Rattle.vortex_logical_casts.specs.Roundings.{float_rounding, is_rounding, rounded}
use Rattle.vortex_lowering.specs.Rows.{lowered}
use Rattle.vortex_logical_calls.specs.Calls.{Lowered}
use Rattle.vortex_logical_calls.specs.Conversions.{as_float}
use Rattle.vortex_sql_float_functions.specs.declared.functions.FloatFunction.{FloatFunction}
use Rattle.vortex_sql_float_functions.specs.declared.functions.FloatFunction.TheVariants as float
use Rattle.vortex_sql_dates.specs.declared.parts.Part.{Part}
use Rattle.vortex_sql_dates.specs.declared.parts.Part.TheVariants as part
use Rattle.vortex_sql_dates.specs.declared.truncations.Unit as units
use Rattle.vortex_standard.specs.declared.standard.Standard.{Standard}
use Rattle.vortex_standard.specs.declared.standard.Standard.TheVariants as standard
use Rattle.vortex_expressions.specs.declared.refusal.Refusal.TheVariants.{NotHeld, OfKind, Binding}
use Rattle.vortex_expressions.specs.declared.refusal.BindStop.{BindStop}
use Rattle.vortex_expressions.specs.declared.refusal.BindStop.TheVariants.{Refused}
use Rattle.vortex_expressions.specs.declared.kind_words.KindFunction.{KindFunction}
use Rattle.vortex_expressions.specs.declared.kind_words.KindFunction.TheVariants.{OfFloat, OfPart}
use Rattle.vortex_expressions.specs.declared.kind_words.KindFunction.TheVariants.{ToUnit, ToName}
use Rattle.vortex_expressions.specs.declared.kind_words.Named.{Named}
use Rattle.vortex_expressions.specs.declared.kind_words.Named.TheVariants as named
use Rattle.vortex_expressions.specs.declared.kind_words.KindName.{KindName}
use Rattle.vortex_expressions.specs.declared.kind_words.KindName.TheVariants.{Single, PartByText}
use Rattle.vortex_expressions.specs.declared.kind_words.KindName.TheVariants.{UnitByText, AddMonths, ToChar}
use Rattle.vortex_expressions.specs.Literals.{number, text}
use Rattle.vortex_expressions.specs.Outcomes.{Outcome, answers, refuses, and_then, or_refuses}
use Rattle.vortex_expressions.specs.declared.item.Timespan.TheVariants.{Elapsed}
use Rattle.vortex_expressions.specs.Items.{Item, literal, bound, kinded, fraction, interval, Tree}
use Rattle.vortex_expressions.specs.Items.{as_item, meaning, callable, call_of, called, settled}
use Rattle.vortex_expressions.specs.Kinded.{told, text_literal, plain_operand}
use Rattle.vortex_expressions.specs.KindCasts.{step_on, count_of}
use Rattle.vortex_expressions.specs.Months.{months_function}
use Rattle.vortex_expressions.specs.KindWords.{part_word, unit_word}

abbrev pub other_types : BindStop
other_types = Refused (Binding (TypeMismatch Scalars))

abbrev pub other_count : ℕ → ℕ → BindStop
other_count n m = Refused (Binding (ArityMismatch (Exact n) m))

abbrev pub is_numeric : Kind → Bool
is_numeric (Decimal d) = true
is_numeric F32 = true
is_numeric F64 = true
is_numeric k = false

-- a number as the nearest float
abbrev pub whole_float : Operand → Tree → Outcome Lowered
whole_float (Whole p) t = told (as_float (lowered t (Whole p)))
whole_float a t = refuses (Binding (TypeMismatch Scalars))

abbrev pub kind_float : Kind → Tree → Outcome Lowered
kind_float k t =
    if is_numeric k then told (as_float (lowered t (Of k))) else refuses (OfKind k)

abbrev pub float_of : Item → Outcome Lowered
float_of (kinded k t) = kind_float k t
float_of (bound t) = whole_float (plain_operand (tree_type meaning t)) t
float_of (fraction w) = text_literal F64 w
float_of (literal (number w)) = text_literal F64 w
float_of i = refuses (Binding (TypeMismatch Scalars))

abbrev pub float_on : FloatFunction → Tree → Outcome Tree
float_on f t = call_of (callable (standard.FloatFunction f)) (t ∷ [])

-- a float by a function that rounds to places, if there is one
abbrev pub float_placed : Option Step → Tree → Outcome Item
float_placed None t = refuses (Binding (TypeMismatch Scalars))
float_placed (Some s) t = and_then (step_on s t) (λ u. answers (kinded F64 u))

-- of the nearest float
abbrev pub float_call : FloatFunction → Item → Outcome Item
float_call f i =
    and_then (float_of i) (λ x. and_then (float_on f x.tree) (λ u. answers (kinded F64 u)))

-- decimals are rounded as decimals
abbrev pub decimal_rounded : Digits → Tree → Option Rounded → Outcome Item
decimal_rounded d t None = answers (kinded (Decimal d) t)
decimal_rounded d t (Some r) =
    and_then (step_on r.step t) (λ u. answers (kinded (Decimal r.digits) u))

abbrev pub absolute : Digits → Tree → Outcome Item
absolute d t =
    and_then (call_of (callable standard.Abs) (t ∷ [])) (λ u. answers (kinded (Decimal d) u))

abbrev pub rounded_or_float : FloatFunction → Digits → Tree → Outcome Item
rounded_or_float f d t =
    if is_rounding f then decimal_rounded d t (rounded f d 0)
    else float_call f (kinded (Decimal d) t)

abbrev pub decimal_call : FloatFunction → Digits → Tree → Outcome Item
decimal_call float.Abs d t = absolute d t
decimal_call f d t = rounded_or_float f d t

-- a function of one number
abbrev pub number_call : FloatFunction → Item → Outcome Item
number_call f (kinded (Decimal d) t) = decimal_call f d t
number_call f i = float_call f i

abbrev pub float_places : FloatFunction → Item → ℕ → Outcome Item
float_places f i n = and_then (float_of i) (λ x. float_placed (float_rounding f n) x.tree)

-- a number rounded to so many places
abbrev pub number_places : FloatFunction → Item → ℕ → Outcome Item
number_places f (kinded (Decimal d) t) n = decimal_rounded d t (rounded f d n)
number_places f i n = float_places f i n

abbrev pub placed : FloatFunction → Item → Option ℕ → Outcome Item
placed f i None = refuses (Binding (TypeMismatch Scalars))
placed f i (Some n) = number_places f i n

abbrev pub places_call : FloatFunction → Item → Item → Outcome Item
places_call f i (literal (number w)) = placed f i (count_of w)
places_call f i j = refuses (Binding (TypeMismatch Scalars))

abbrev pub part_function : Part → Kind → Outcome Standard
part_function p Date = answers (standard.DatePart (record { part = p }))
part_function p Timestamp = answers (standard.TimestampPart (record { part = p }))
part_function p k = refuses (OfKind k)

abbrev pub part_call : Part → Kind → Tree → Outcome Item
part_call p k t = and_then (part_function p k) (λ f. as_item (call_of (callable f) (t ∷ [])))

abbrev pub unit_function : units.Unit → Kind → Outcome Standard
unit_function u Date = answers (standard.DateTrunc (record { unit = u }))
unit_function u Timestamp = answers (standard.TimestampTrunc (record { unit = u }))
unit_function u k = refuses (OfKind k)

-- it keeps its kind
abbrev pub unit_call : units.Unit → Kind → Tree → Outcome Item
unit_call u k t =
    and_then (unit_function u k) (λ f.
    and_then (call_of (callable f) (t ∷ [])) (λ s. answers (kinded k s)))

-- microseconds as seconds, with six digits after the point
abbrev pub seconds_item : Tree → Outcome Item
seconds_item t = answers (kinded (Decimal (digits_of 18 6)) t)

-- the microseconds of a day
abbrev pub day_micros : Tree
day_micros = constant (int_scalar I64 (pos 86_400_000_000))

-- of the microseconds from one timestamp to another the seconds, or the whole days
abbrev pub elapsed_part : Part → Tree → Outcome Item
elapsed_part part.Epoch t = seconds_item t
elapsed_part part.Day t =
    as_item (called (ours (Binary operator.Div)) None (bound t ∷ bound day_micros ∷ []))
elapsed_part p t = refuses NotHeld

-- the text of a date or a timestamp by a format
abbrev pub char_function : Kind → Outcome Standard
char_function Date = answers standard.DateToChar
char_function Timestamp = answers standard.TimestampToChar
char_function k = refuses (OfKind k)

abbrev pub written_by : Kind → Tree → Item → Outcome Item
written_by k t j =
    and_then (char_function k) (λ f.
    and_then (settled None j) (λ n. as_item (call_of (callable f) (t ∷ n ∷ []))))

-- the format of a name
abbrev pub name_format : Named → List ℕ
name_format named.Day = codes "FMDay"
name_format named.Month = codes "FMMonth"

abbrev pub name_call : Named → Kind → Tree → Outcome Item
name_call n k t = written_by k t (literal (text (name_format n)))

abbrev pub of_value : KindFunction → Item → Outcome Item
of_value (OfFloat f) i = number_call f i
of_value (ToName n) (kinded k t) = name_call n k t
of_value (OfPart p) (kinded k t) = part_call p k t
of_value (ToUnit u) (kinded k t) = unit_call u k t
of_value (OfPart p) (interval (Elapsed t)) = elapsed_part p t
of_value f (fraction w) = refuses (OfKind F64)
of_value f i = refuses (Binding (TypeMismatch Scalars))

-- the part or the unit that a text names
abbrev pub part_by : List ℕ → Outcome KindFunction
part_by bs = and_then (or_refuses NotHeld (part_word bs)) (λ p. answers (OfPart p))

abbrev pub unit_by : List ℕ → Outcome KindFunction
unit_by bs = and_then (or_refuses NotHeld (unit_word bs)) (λ u. answers (ToUnit u))

abbrev pub function_by : KindName → Item → Outcome KindFunction
function_by PartByText (literal (text bs)) = part_by bs
function_by UnitByText (literal (text bs)) = unit_by bs
function_by n i = refuses (Binding (TypeMismatch Scalars))

abbrev pub of_text : KindName → Item → Item → Outcome Item
of_text n s i = and_then (function_by n s) (λ f. of_value f i)

-- `round` and `trunc` take places, too
abbrev pub pair_call : KindFunction → Item → Item → Outcome Item
pair_call (OfFloat float.Round) i j = places_call float.Round i j
pair_call (OfFloat float.Trunc) i j = places_call float.Trunc i j
pair_call f i j = refuses (Binding (ArityMismatch (Exact 1) 2))

abbrev pub single_call : KindFunction → List Item → Outcome Item
single_call f (i ∷ []) = of_value f i
single_call f (i ∷ j ∷ []) = pair_call f i j
single_call f is = refuses (Binding (ArityMismatch (Exact 1) (length is)))

abbrev pub text_call : KindName → List Item → Outcome Item
text_call n (s ∷ i ∷ []) = of_text n s i
text_call n is = refuses (Binding (ArityMismatch (Exact 2) (length is)))

-- a date or a timestamp so many months later
abbrev pub months_added : Kind → Tree → Item → Outcome Item
months_added k t j =
    and_then (months_function k) (λ f.
    and_then (settled None j) (λ n.
    and_then (call_of (callable f) (t ∷ n ∷ [])) (λ u. answers (kinded k u))))

abbrev pub months_after : Item → Item → Outcome Item
months_after (kinded k t) j = months_added k t j
months_after i j = refuses (Binding (TypeMismatch Scalars))

abbrev pub months_call : List Item → Outcome Item
months_call (i ∷ j ∷ []) = months_after i j
months_call is = refuses (Binding (ArityMismatch (Exact 2) (length is)))

abbrev pub char_of : Item → Item → Outcome Item
char_of (kinded k t) j = written_by k t j
char_of i j = refuses (Binding (TypeMismatch Scalars))

abbrev pub char_call : List Item → Outcome Item
char_call (i ∷ j ∷ []) = char_of i j
char_call is = refuses (Binding (ArityMismatch (Exact 2) (length is)))

-- what a name means of arguments, one of which is a value of a kind
abbrev pub kind_call : KindName → List Item → Outcome Item
kind_call (Single f) is = single_call f is
kind_call AddMonths is = months_call is
kind_call ToChar is = char_call is
kind_call n is = text_call n is
