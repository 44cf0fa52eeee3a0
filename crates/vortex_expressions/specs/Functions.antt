-- Calls of functions on items. Of values of kinds some functions take those that meet in a kind: each becomes the
-- integer that stores it in that kind.
use Rattle.std.specs.Prelude.{ℕ, List, [], ◌∷◌, Bool, true, false, ◌||◌, if◌then◌else◌}
use Rattle.std.specs.Prelude.{Option, Some, None, codes}
use Rattle.vortex_logical.specs.declared.kind.Kind.{Kind}
use Rattle.vortex_logical.specs.declared.kind.Kind.TheVariants.{Date, Timestamp, Plain}
use Rattle.vortex_logical.specs.declared.operand.Operand.{Operand}
use Rattle.vortex_logical.specs.declared.operand.Operand.TheVariants.{Of}
use Rattle.vortex_logical_calls.specs.Alignment.{meet_next, aligned}
use Rattle.vortex_syntax.specs.Keywords.{same_word}
use Rattle.vortex_syntax.specs.declared.token.TrimSide.{TrimSide}
use Rattle.vortex_syntax.specs.declared.token.TrimSide.TheVariants as side
use Rattle.vortex_sql_rows.specs.declared.types.Takes.{Takes}
use Rattle.vortex_sql_rows.specs.declared.types.Takes.TheVariants.{Cases}
use Rattle.vortex_standard.specs.declared.standard.Standard.{Standard}
use Rattle.vortex_standard.specs.declared.standard.Standard.TheVariants as standard
use Rattle.vortex_standard.specs.Standard.{row_of}
use Rattle.vortex_standard.specs.Names.{standard_named}
use Rattle.vortex_expressions.specs.declared.refusal.Refusal.TheVariants.{NoFunction}
use Rattle.vortex_sql_float_functions.specs.declared.functions.FloatFunction.{FloatFunction}
use Rattle.vortex_sql_float_functions.specs.declared.functions.FloatFunction.TheVariants as float
use Rattle.vortex_expressions.specs.declared.kind_words.KindFunction.TheVariants.{OfFloat, ToUnit}
use Rattle.vortex_expressions.specs.declared.kind_words.KindName.{KindName}
use Rattle.vortex_expressions.specs.declared.kind_words.KindName.TheVariants.{Single}
use Rattle.vortex_expressions.specs.Outcomes.{Outcome, answers, refuses, and_then, or_refuses}
use Rattle.vortex_expressions.specs.Items.{Item, literal, bound, kinded, Tree, as_item, called, meaning}
use Rattle.vortex_expressions.specs.Applied.{values_of, function_call}
use Rattle.vortex_expressions.specs.Kinded.{told, first_kind, is_plain, item_operand, value_item}
use Rattle.vortex_expressions.specs.Kinded.{kinded_joined}
use Rattle.vortex_expressions.specs.KindWords.{kind_word}
use Rattle.vortex_expressions.specs.KindCasts.{is_text_type, cast_to_kind}
use Rattle.vortex_expressions.specs.Literals.{text, number}
use Rattle.vortex_interface.specs.Functions.{ours}
use Rattle.vortex_interface.specs.Shipped.{Binary}
use Rattle.vortex_operators.specs.declared.operators.Operator.TheVariants as operator
use Rattle.vortex_syntax.specs.declared.step.WrittenOperator.TheVariants as written
use Rattle.vortex_sql_dates.specs.declared.truncations.Unit.TheVariants as units
use Rattle.vortex_sql_texts.specs.declared.parts.Side.TheVariants.{Right}
use Rattle.vortex_sql_texts.specs.declared.texts.Measure.TheVariants.{Characters}
use Rattle.vortex_expressions.specs.declared.written_forms.Form.{Form}
use Rattle.vortex_expressions.specs.declared.written_forms.Form.TheVariants as form
use Rattle.vortex_interface.specs.Eval.{tree_type}
use Rattle.vortex_sql_patterns.specs.declared.functions.PatternFunction.TheVariants as pattern
use Rattle.vortex_expressions.specs.KindFunctions.{single_call, kind_call, months_after, of_value}
use Rattle.vortex_expressions.specs.Joining.{joins, joined_texts}

-- functions that return one of their values
abbrev pub is_choice : Standard → Bool
is_choice standard.Coalesce = true
is_choice standard.NullIf = true
is_choice standard.Case = true
is_choice (standard.Extreme e) = true
is_choice f = false

-- functions that compare their values
abbrev pub is_test : Standard → Bool
is_test standard.InList = true
is_test standard.IsDistinct = true
is_test f = false

-- the values among the arguments: cases have conditions too
abbrev pub values_in : Takes → List Item → List Item
values_in Cases is = values_of is
values_in s is = is

-- the kind of the first value with one, where the function takes values of kinds
abbrev pub call_kind : Standard → List Item → Kind
call_kind f is =
    if is_choice f || is_test f then first_kind (values_in (row_of f).types.takes is) else Plain

-- the kind in which values meet, from left to right
abbrev pub met_with : Kind → Operand → Item → Outcome Operand
met_with k a i = and_then (item_operand k i) (λ x. told (meet_next a x.operand))

abbrev pub met_values : Kind → Operand → List Item → Outcome Operand
met_values k a [] = answers a
met_values k a (i ∷ is) = and_then (met_with k a i) (λ b. met_values k b is)

-- a value as the integer that stores it in the common kind
abbrev pub aligned_item : Kind → Operand → Item → Outcome Item
aligned_item k a i = and_then (item_operand k i) (λ x. as_item (told (aligned a x)))

abbrev pub aligned_items : Kind → Operand → List Item → Outcome (List Item)
aligned_items k a [] = answers []
aligned_items k a (i ∷ is) =
    and_then (aligned_item k a i) (λ j. and_then (aligned_items k a is) (λ js. answers (j ∷ js)))

-- of cases, the conditions stay
abbrev pub aligned_cases : Kind → Operand → List Item → Outcome (List Item)
aligned_cases k a [] = answers []
aligned_cases k a (v ∷ []) = and_then (aligned_item k a v) (λ j. answers (j ∷ []))
aligned_cases k a (c ∷ v ∷ is) =
    and_then (aligned_item k a v) (λ j. and_then (aligned_cases k a is)
    (λ js. answers (c ∷ j ∷ js)))

abbrev pub aligned_arguments : Takes → Kind → Operand → List Item → Outcome (List Item)
aligned_arguments Cases k a is = aligned_cases k a is
aligned_arguments s k a is = aligned_items k a is

-- what is chosen has the common kind
abbrev pub result_item : Standard → Operand → Tree → Item
result_item f a t = if is_choice f then value_item a t else bound t

-- the call on integers in that kind
abbrev pub call_in : Standard → Kind → Operand → List Item → Outcome Item
call_in f k a is =
    and_then (aligned_arguments (row_of f).types.takes k a is) (λ js.
    and_then (function_call f js) (λ t. answers (result_item f a t)))

-- the call on values of which one has that kind
abbrev pub kinded_call : Standard → Kind → List Item → Outcome Item
kinded_call f k is =
    and_then (met_values k (Of k) (values_in (row_of f).types.takes is)) (λ a. call_in f k a is)

abbrev pub function_item : Standard → List Item → Outcome Item
function_item f is =
    let k = call_kind f is in
    if is_plain k then as_item (function_call f is) else kinded_call f k is

-- the call of the function of that name
abbrev pub standard_item : List ℕ → List Item → Outcome Item
standard_item w is = and_then (or_refuses NoFunction (standard_named w)) (λ f. function_item f is)

-- if the name means a function on values of kinds, that
abbrev pub meant_item : Option KindName → List ℕ → List Item → Outcome Item
meant_item (Some n) w is = kind_call n is
meant_item None w is = standard_item w is

-- what a name means next to a value of a kind, or without one
abbrev pub applied_item : List ℕ → List Item → Outcome Item
applied_item w is =
    if is_plain (first_kind is) then standard_item w is else meant_item (kind_word w) w is

-- the date of a year, a month and a day
abbrev pub made_date : List Item → Outcome Item
made_date is = and_then (function_call standard.MakeDate is) (λ t. answers (kinded Date t))

-- functions of numbers take whole numbers as floats, but for those that whole numbers have, too
abbrev pub takes_whole : FloatFunction → Bool
takes_whole float.Abs = false
takes_whole float.Sign = false
takes_whole f = true

-- the function of that name; one that makes a text of several takes values of each type
abbrev pub joined_call : Standard → List Item → Outcome Item
joined_call f is = if joins f then joined_texts f is else function_item f is

-- a text, by which `substring` finds a pattern
abbrev pub is_text : Item → Bool
is_text (literal (text bs)) = true
is_text (bound t) = is_text_type (tree_type meaning t)
is_text i = false

abbrev pub by_pattern : Standard → List Item → Standard
by_pattern standard.Substr (i ∷ j ∷ []) =
    if is_text j then standard.PatternFunction pattern.Part else standard.Substr
by_pattern standard.RegexpExtract (i ∷ j ∷ []) = standard.PatternFunction pattern.Substr
by_pattern f is = f

-- what a name that has this function means of these arguments, over columns with kinds where the
-- flag is true
abbrev pub meant_by : Bool → Standard → List Item → Standard
meant_by h f is = if h then by_pattern f is else f

-- `position(a in b)` is `position(a, b)`
abbrev pub is_locate : List ℕ → Bool
is_locate w = same_word w (codes "locate") || same_word w (codes "position")

-- the place of a text in another, which comes behind it
abbrev pub located : List Item → Outcome Item
located (i ∷ j ∷ []) = function_item standard.StrPos (j ∷ i ∷ [])
located is = function_item standard.StrPos is

-- the kind that a function of that name reads a text as, by a format, and the function
abbrev pub format_word : List ℕ → Option (Kind × Standard)
format_word w =
    if same_word w (codes "to_date") then Some (Date, standard.TextToDateBy)
    else (if same_word w (codes "to_timestamp") then Some (Timestamp, standard.TextToTimestampBy)
    else (if same_word w (codes "try_to_date") then Some (Date, standard.TryTextToDateBy)
    else (if same_word w (codes "try_to_timestamp")
    then Some (Timestamp, standard.TryTextToTimestampBy) else None)))

abbrev pub read_by : Option (Kind × Standard) → List Item → Outcome Item
read_by None is = refuses NoFunction
read_by (Some x) is = and_then (function_call x.1 is) (λ t. answers (kinded x.0 t))

-- the forms that are written out in other functions, by name
abbrev pub form_word : List ℕ → Option Form
form_word w =
    if same_word w (codes "contains") then Some form.Contains
    else (if same_word w (codes "ends_with") || same_word w (codes "endswith")
    then Some form.EndsWith
    else (if same_word w (codes "last_day") then Some form.LastDay
    else (if same_word w (codes "datediff") || same_word w (codes "date_diff")
    then Some form.DaysBetween else None)))

-- the place of one text in another is above 0
abbrev pub contained : List Item → Outcome Item
contained is =
    and_then (function_item standard.StrPos is) (λ i.
    as_item (called (ours (Binary operator.Gt)) None (i ∷ literal (number (codes "0")) ∷ [])))

-- the last characters of a text, as many as the other has, are the other
abbrev pub ended_by : Item → Item → Outcome Item
ended_by s t =
    and_then (function_item (standard.Measure Characters) (t ∷ [])) (λ n.
    and_then (function_item (standard.Side Right) (s ∷ n ∷ [])) (λ r.
    as_item (called (ours (Binary operator.Eq)) None (r ∷ t ∷ []))))

-- the day before the month after that of a date begins
abbrev pub last_day : Item → Outcome Item
last_day i =
    and_then (cast_to_kind false Date i) (λ d.
    and_then (of_value (ToUnit units.Month) d) (λ m.
    and_then (months_after m (literal (number (codes "1")))) (λ n.
    kinded_joined written.Sub n (literal (number (codes "1"))))))

-- the days from the second date to the first
abbrev pub days_between : Item → Item → Outcome Item
days_between i j =
    and_then (cast_to_kind false Date i) (λ a.
    and_then (cast_to_kind false Date j) (λ b. kinded_joined written.Sub a b))

-- after the name of the unit, the days from the first date to the second
abbrev pub units_between : List ℕ → Item → Item → Outcome Item
units_between u i j = if same_word u (codes "day") then days_between j i else refuses NoFunction

abbrev pub formed : Form → List Item → Outcome Item
formed form.Contains is = contained is
formed form.EndsWith (s ∷ t ∷ []) = ended_by s t
formed form.LastDay (i ∷ []) = last_day i
formed form.DaysBetween (i ∷ j ∷ []) = days_between i j
formed form.DaysBetween (literal (text u) ∷ i ∷ j ∷ []) = units_between u i j
formed f is = refuses NoFunction

-- of names that no function has, over columns with kinds
abbrev pub formed_item : Option Form → List ℕ → List Item → Outcome Item
formed_item (Some f) w is = formed f is
formed_item None w is = read_by (format_word w) is

abbrev pub unnamed_item : List ℕ → List Item → Outcome Item
unnamed_item w is = if is_locate w then located is else formed_item (form_word w) w is

abbrev pub named_item : Option Standard → List ℕ → List Item → Outcome Item
named_item None w is = unnamed_item w is
named_item (Some f) w is = joined_call (by_pattern f is) is

abbrev pub joining_item : List ℕ → List Item → Outcome Item
joining_item w is = named_item (standard_named w) w is

-- what a name means without a value of a kind, over columns with kinds
abbrev pub whole_item : Option KindName → List ℕ → List Item → Outcome Item
whole_item (Some (Single (OfFloat f))) w is =
    if takes_whole f then single_call (OfFloat f) is else joining_item w is
whole_item o w is = joining_item w is

-- what it means next to one
abbrev pub kinded_item : Option KindName → List ℕ → List Item → Outcome Item
kinded_item (Some n) w is = kind_call n is
kinded_item None w is = joining_item w is

abbrev pub kinds_item : List ℕ → List Item → Outcome Item
kinds_item w is =
    if is_plain (first_kind is) then whole_item (kind_word w) w is
    else kinded_item (kind_word w) w is

-- what a name means in a text, over columns with kinds where the flag is true
abbrev pub applied_by : Bool → List ℕ → List Item → Outcome Item
applied_by false w is = applied_item w is
applied_by true w is =
    if same_word w (codes "make_date") then made_date is else kinds_item w is

-- the function that trims there; `trim(both b from a)` is `btrim(a, b)`
abbrev pub trim_word : TrimSide → List ℕ
trim_word side.Both = codes "btrim"
trim_word side.Leading = codes "ltrim"
trim_word side.Trailing = codes "rtrim"

-- a text without blanks there, and without the characters of the text before it
abbrev pub trimmed_item : Bool → TrimSide → Item → Outcome Item
trimmed_item h d a = applied_by h (trim_word d) (a ∷ [])

abbrev pub trimmed_by_item : Bool → TrimSide → Item → Item → Outcome Item
trimmed_by_item h d b a = applied_by h (trim_word d) (a ∷ b ∷ [])
