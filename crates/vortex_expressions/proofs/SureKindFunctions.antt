-- Calls of functions on values of kinds are trees with a type, or are refused.
use Rattle.std.proofs.Common.{ℕ, List, [], ◌∷◌, ◌++◌, Option, Some, None, refl}
use Rattle.vortex_operators.specs.declared.operators.Operator.TheVariants as operator
use Rattle.vortex_interface.specs.Shipped.{Binary}
use Rattle.vortex_interface.specs.Eval.{tree_type}
use Rattle.vortex_logical.specs.Digits.{Digits}
use Rattle.vortex_logical_casts.specs.declared.roundings.Rounded.{Rounded}
use Rattle.vortex_logical_casts.specs.declared.steps.Step.{Step}
use Rattle.vortex_logical_casts.specs.Roundings.{float_rounding, is_rounding, rounded}
use Rattle.vortex_sql_float_functions.specs.declared.functions.FloatFunction.TheVariants as float
use Rattle.vortex_lowering.specs.Rows.{lowered}
use Rattle.vortex_logical.specs.declared.kind.Kind.{Kind}
use Rattle.vortex_logical.specs.declared.kind.Kind.TheVariants.{Date, Timestamp, Decimal, F64}
use Rattle.vortex_logical.specs.declared.operand.Operand.{Operand}
use Rattle.vortex_logical.specs.declared.operand.Operand.TheVariants.{Whole, Of}
use Rattle.vortex_logical_calls.specs.Outcomes as calls
use Rattle.vortex_logical_calls.specs.Calls.{Lowered}
use Rattle.vortex_logical_calls.specs.Conversions.{as_float}
use Rattle.vortex_sql_float_functions.specs.declared.functions.FloatFunction.{FloatFunction}
use Rattle.vortex_sql_dates.specs.declared.parts.Part.{Part}
use Rattle.vortex_sql_dates.specs.declared.parts.Part.TheVariants as part
use Rattle.vortex_sql_dates.specs.declared.truncations.Unit as units
use Rattle.vortex_standard.specs.declared.standard.Standard.TheVariants as standard
use Rattle.vortex_expressions.specs.declared.refusal.Refusal.TheVariants.{NotHeld}
use Rattle.vortex_expressions.specs.declared.kind_words.KindFunction.{KindFunction}
use Rattle.vortex_expressions.specs.declared.kind_words.KindFunction.TheVariants.{OfFloat, OfPart}
use Rattle.vortex_expressions.specs.declared.kind_words.KindFunction.TheVariants.{ToUnit, ToName}
use Rattle.vortex_expressions.specs.declared.kind_words.Named.{Named}
use Rattle.vortex_expressions.specs.declared.kind_words.KindName.{KindName}
use Rattle.vortex_expressions.specs.declared.kind_words.KindName.TheVariants.{Single, PartByText}
use Rattle.vortex_expressions.specs.declared.kind_words.KindName.TheVariants.{UnitByText, AddMonths, ToChar}
use Rattle.vortex_expressions.specs.Literals.{number, text}
use Rattle.vortex_expressions.specs.Outcomes.{answers, or_refuses}
use Rattle.vortex_expressions.specs.Items.{Item, literal, bound, kinded, Tree, callable, call_of}
use Rattle.vortex_expressions.specs.Items.{meaning, fraction, interval, settled}
use Rattle.vortex_expressions.specs.Kinded.{told, text_literal, plain_operand}
use Rattle.vortex_expressions.specs.KindCasts.{step_on, count_of}
use Rattle.vortex_expressions.specs.KindWords.{part_word, unit_word}
use Rattle.vortex_expressions.specs.KindFunctions.{is_numeric, whole_float, kind_float, float_of}
use Rattle.vortex_expressions.specs.KindFunctions.{float_on, float_call, decimal_rounded, absolute}
use Rattle.vortex_expressions.specs.KindFunctions.{rounded_or_float, decimal_call, number_call, float_placed}
use Rattle.vortex_expressions.specs.KindFunctions.{float_places, number_places, placed}
use Rattle.vortex_expressions.specs.KindFunctions.{places_call, part_function, part_call}
use Rattle.vortex_expressions.specs.KindFunctions.{unit_function, unit_call, of_value, pair_call}
use Rattle.vortex_expressions.specs.KindFunctions.{elapsed_part, day_micros}
use Rattle.vortex_expressions.specs.declared.item.Timespan.TheVariants.{Elapsed}
use Rattle.vortex_expressions.specs.KindFunctions.{function_by, single_call, text_call, kind_call}
use Rattle.vortex_expressions.specs.KindFunctions.{months_added, months_after, months_call}
use Rattle.vortex_expressions.specs.KindFunctions.{char_function, written_by, char_of, char_call}
use Rattle.vortex_expressions.specs.KindFunctions.{name_format, name_call}
use Rattle.vortex_expressions.proofs.SureCalls.{Sure, sure_then, sure_if, sure_or, IsTyped, IsItem}
use Rattle.vortex_expressions.proofs.SureCalls.{AllItems, sure_named_call, sure_item, sure_settled, sure_called}
use Rattle.vortex_expressions.specs.Months.{months_function}
use Rattle.vortex_expressions.proofs.SureKinds.{Any, sure_text_literal, sure_step}
use Rattle.vortex_expressions.proofs.SureKinds.{sure_months_function}

any_told : {A : Type 0} (o : calls.Outcome A) → Sure Any (told o)
any_told (calls.made a) = tt
any_told (calls.refused r) = tt
any_told calls.untyped = tt

-- numbers as floats
sure_whole_float : (a : Operand) (t : Tree) → Sure {A = Lowered} Any (whole_float a t)
sure_whole_float (Whole p) t = any_told (as_float (lowered t (Whole p)))
sure_whole_float a t = tt

sure_kind_float : (k : Kind) (t : Tree) → Sure {A = Lowered} Any (kind_float k t)
sure_kind_float k t =
    sure_if {A = Lowered} Any (is_numeric k) _ _ (any_told (as_float (lowered t (Of k)))) tt

sure_float_of : (i : Item) → Sure {A = Lowered} Any (float_of i)
sure_float_of (kinded k t) = sure_kind_float k t
sure_float_of (bound t) = sure_whole_float (plain_operand (tree_type meaning t)) t
sure_float_of (fraction w) = sure_text_literal F64 w
sure_float_of (literal (number w)) = sure_text_literal F64 w
sure_float_of i = tt

sure_float_on : (f : FloatFunction) (t : Tree) → Sure IsTyped (float_on f t)
sure_float_on f t = sure_named_call (standard.FloatFunction f) (t ∷ [])

sure_float_placed : (o : Option Step) (t : Tree) → Sure IsItem (float_placed o t)
sure_float_placed None t = tt
sure_float_placed (Some s) t =
    sure_then IsTyped IsItem (step_on s t) (λ u. answers (kinded F64 u)) (sure_step s t)
    (λ u l. l)

sure_float_call : (f : FloatFunction) (i : Item) → Sure IsItem (float_call f i)
sure_float_call f i =
    sure_then {A = Lowered} Any IsItem (float_of i) _ (sure_float_of i)
    (λ x h. sure_then IsTyped IsItem (float_on f x.tree) (λ u. answers (kinded F64 u))
    (sure_float_on f x.tree) (λ u l. l))

-- decimals
sure_decimal_rounded : (d : Digits) (t : Tree) (o : Option Rounded) → IsTyped t
    → Sure IsItem (decimal_rounded d t o)
sure_decimal_rounded d t None h = h
sure_decimal_rounded d t (Some r) h =
    sure_then IsTyped IsItem (step_on r.step t) (λ u. answers (kinded (Decimal r.digits) u))
    (sure_step r.step t) (λ u l. l)

sure_absolute : (d : Digits) (t : Tree) → Sure IsItem (absolute d t)
sure_absolute d t =
    sure_then IsTyped IsItem (call_of (callable standard.Abs) (t ∷ []))
    (λ u. answers (kinded (Decimal d) u)) (sure_named_call standard.Abs (t ∷ [])) (λ u l. l)

sure_rounded_or_float : (f : FloatFunction) (d : Digits) (t : Tree) → IsTyped t
    → Sure IsItem (rounded_or_float f d t)
sure_rounded_or_float f d t h =
    sure_if IsItem (is_rounding f) _ _ (sure_decimal_rounded d t (rounded f d 0) h)
    (sure_float_call f (kinded (Decimal d) t))

sure_decimal_call : (f : FloatFunction) (d : Digits) (t : Tree) → IsTyped t
    → Sure IsItem (decimal_call f d t)
sure_decimal_call float.Abs d t h = sure_absolute d t
sure_decimal_call f d t h = sure_rounded_or_float f d t h

sure_number_call : (f : FloatFunction) (i : Item) → IsItem i → Sure IsItem (number_call f i)
sure_number_call f (kinded (Decimal d) t) h = sure_decimal_call f d t h
sure_number_call f i h = sure_float_call f i

-- places
sure_float_places : (f : FloatFunction) (i : Item) (n : ℕ) → Sure IsItem (float_places f i n)
sure_float_places f i n =
    sure_then {A = Lowered} Any IsItem (float_of i) _ (sure_float_of i)
    (λ x h. sure_float_placed (float_rounding f n) x.tree)

sure_number_places : (f : FloatFunction) (i : Item) (n : ℕ) → IsItem i
    → Sure IsItem (number_places f i n)
sure_number_places f (kinded (Decimal d) t) n h = sure_decimal_rounded d t (rounded f d n) h
sure_number_places f i n h = sure_float_places f i n

sure_placed : (f : FloatFunction) (i : Item) (o : Option ℕ) → IsItem i
    → Sure IsItem (placed f i o)
sure_placed f i None h = tt
sure_placed f i (Some n) h = sure_number_places f i n h

sure_places_call : (f : FloatFunction) (i j : Item) → IsItem i → Sure IsItem (places_call f i j)
sure_places_call f i (literal (number w)) h = sure_placed f i (count_of w) h
sure_places_call f i j h = tt

-- parts and units
sure_part_function : (p : Part) (k : Kind) → Sure Any (part_function p k)
sure_part_function p Date = tt
sure_part_function p Timestamp = tt
sure_part_function p k = tt

sure_part_call : (p : Part) (k : Kind) (t : Tree) → Sure IsItem (part_call p k t)
sure_part_call p k t =
    sure_then Any IsItem (part_function p k) _ (sure_part_function p k)
    (λ f h. sure_item _ (sure_named_call f (t ∷ [])))

sure_unit_function : (u : units.Unit) (k : Kind) → Sure Any (unit_function u k)
sure_unit_function u Date = tt
sure_unit_function u Timestamp = tt
sure_unit_function u k = tt

sure_unit_call : (u : units.Unit) (k : Kind) (t : Tree) → Sure IsItem (unit_call u k t)
sure_unit_call u k t =
    sure_then Any IsItem (unit_function u k) _ (sure_unit_function u k)
    (λ f h. sure_then IsTyped IsItem (call_of (callable f) (t ∷ [])) _
    (sure_named_call f (t ∷ [])) (λ s l. l))

sure_elapsed_part : (p : Part) (t : Tree) → IsTyped t → Sure IsItem (elapsed_part p t)
sure_elapsed_part part.Epoch t h = h
sure_elapsed_part part.Day t h =
    sure_item _ (sure_called (Binary operator.Div) None (bound t ∷ bound day_micros ∷ []) refl
    (λ ks. refl) (h, (refl, tt)))
sure_elapsed_part p t h = tt

-- texts by formats
sure_char_function : (k : Kind) → Sure Any (char_function k)
sure_char_function Date = tt
sure_char_function Timestamp = tt
sure_char_function k = tt

sure_written_by : (k : Kind) (t : Tree) (j : Item) → IsItem j → Sure IsItem (written_by k t j)
sure_written_by k t j h =
    sure_then Any IsItem (char_function k) _ (sure_char_function k)
    (λ f l. sure_then IsTyped IsItem (settled None j) _ (sure_settled None j h)
    (λ n m. sure_item (call_of (callable f) (t ∷ n ∷ [])) (sure_named_call f (t ∷ n ∷ []))))

sure_name_call : (n : Named) (k : Kind) (t : Tree) → Sure IsItem (name_call n k t)
sure_name_call n k t = sure_written_by k t (literal (text (name_format n))) tt

pub sure_of_value : (f : KindFunction) (i : Item) → IsItem i → Sure IsItem (of_value f i)
sure_of_value (OfFloat f) i h = sure_number_call f i h
sure_of_value (OfPart p) (kinded k t) h = sure_part_call p k t
sure_of_value (ToUnit u) (kinded k t) h = sure_unit_call u k t
sure_of_value (ToName n) (kinded k t) h = sure_name_call n k t
sure_of_value (OfPart p) (interval (Elapsed t)) h = sure_elapsed_part p t h
sure_of_value f (fraction w) h = tt
sure_of_value f i h = tt

sure_function_by : (n : KindName) (i : Item) → Sure Any (function_by n i)
sure_function_by PartByText (literal (text bs)) =
    sure_then Any Any (or_refuses NotHeld (part_word bs)) _ (sure_or NotHeld (part_word bs))
    (λ p h. tt)
sure_function_by UnitByText (literal (text bs)) =
    sure_then Any Any (or_refuses NotHeld (unit_word bs)) _ (sure_or NotHeld (unit_word bs))
    (λ u h. tt)
sure_function_by n i = tt

sure_pair_call : (f : KindFunction) (i j : Item) → IsItem i → Sure IsItem (pair_call f i j)
sure_pair_call (OfFloat float.Round) i j h = sure_places_call float.Round i j h
sure_pair_call (OfFloat float.Trunc) i j h = sure_places_call float.Trunc i j h
sure_pair_call f i j h = tt

pub sure_single_call : (f : KindFunction) (is : List Item) → AllItems is
    → Sure IsItem (single_call f is)
sure_single_call f (i ∷ []) h = sure_of_value f i h.0
sure_single_call f (i ∷ j ∷ []) h = sure_pair_call f i j h.0
sure_single_call f is h = tt

sure_text_call : (n : KindName) (is : List Item) → AllItems is → Sure IsItem (text_call n is)
sure_text_call n (s ∷ i ∷ []) h =
    sure_then Any IsItem (function_by n s) _ (sure_function_by n s)
    (λ f l. sure_of_value f i h.1.0)
sure_text_call n is h = tt

sure_months_added : (k : Kind) (t : Tree) (j : Item) → IsItem j → Sure IsItem (months_added k t j)
sure_months_added k t j h =
    sure_then Any IsItem (months_function k) _ (sure_months_function k)
    (λ f l. sure_then IsTyped IsItem (settled None j) _ (sure_settled None j h)
    (λ n m. sure_then IsTyped IsItem (call_of (callable f) (t ∷ n ∷ []))
    (λ u. answers (kinded k u)) (sure_named_call f (t ∷ n ∷ [])) (λ u g. g)))

pub sure_months_after : (i j : Item) → IsItem j → Sure IsItem (months_after i j)
sure_months_after (kinded k t) j h = sure_months_added k t j h
sure_months_after i j h = tt

sure_months_call : (is : List Item) → AllItems is → Sure IsItem (months_call is)
sure_months_call (i ∷ j ∷ []) h = sure_months_after i j h.1.0
sure_months_call is h = tt

sure_char_of : (i j : Item) → IsItem j → Sure IsItem (char_of i j)
sure_char_of (kinded k t) j h = sure_written_by k t j h
sure_char_of i j h = tt

sure_char_call : (is : List Item) → AllItems is → Sure IsItem (char_call is)
sure_char_call (i ∷ j ∷ []) h = sure_char_of i j h.1.0
sure_char_call is h = tt

pub sure_kind_call : (n : KindName) (is : List Item) → AllItems is → Sure IsItem (kind_call n is)
sure_kind_call (Single f) is h = sure_single_call f is h
sure_kind_call AddMonths is h = sure_months_call is h
sure_kind_call ToChar is h = sure_char_call is h
sure_kind_call n is h = sure_text_call n is h
