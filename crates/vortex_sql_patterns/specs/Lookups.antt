-- What the rows of a call ask for: a function of a text and a pattern, or a group of it.
use Rattle.std.specs.Prelude.{ℕ, ℤ, pos, negsuc, List, Option, Some, None, option_map}
use Rattle.regex.specs.Strings.{captures_span}
use Rattle.regex.specs.declared.string.captures.Captures.{Captures}
use Rattle.vortex_types.specs.Values.{Value}
use Rattle.vortex_interface.specs.Outcomes.{Outcome}
use Rattle.vortex_sql_rows.specs.Shapes.{both_texts}
use Rattle.vortex_sql_patterns.specs.Patterns.{pattern_in}
use Rattle.vortex_sql_patterns.specs.PatternFunctions.{answered, first_group, outcome_of, read_by}
use Rattle.vortex_sql_patterns.specs.RegexpExtract.{extract_asks, extract_of}
use Rattle.vortex_sql_patterns.specs.declared.functions.PatternFunction.{PatternFunction}
use Rattle.vortex_sql_patterns.specs.declared.functions.PatternFunction.TheVariants as function
use Rattle.vortex_sql_patterns.specs.declared.lookups.Lookup.{Lookup}
use Rattle.vortex_sql_patterns.specs.declared.lookups.Lookup.TheVariants.{Function, Group}

-- the outcome of a row
abbrev pub lookup_of : Lookup → List Value → Outcome
lookup_of (Function f) = outcome_of f
lookup_of Group = extract_of

-- the text, the pattern and the number of a row, which is 0 where it has none
abbrev pub lookup_in : Lookup → List Value → Option (List ℕ × List ℕ × ℤ)
lookup_in (Function f) vs = option_map (λ x. (x.0, x.1, pos 0)) (both_texts vs)
lookup_in Group vs = extract_asks vs

abbrev pub function_of : Lookup → PatternFunction
function_of (Function f) = f
function_of Group = function.Part

-- the group that is asked for, by the first group of the pattern and the number of the row
abbrev pub group_for : Lookup → ℤ → ℤ → ℤ
group_for (Function f) first n = first
group_for Group first n = n

-- the span of a group of captures
abbrev pub span_by : ℤ → Captures → Option (ℕ × ℕ)
span_by (pos n) c = captures_span c n
span_by (negsuc n) c = None

-- by a text, a pattern and a number
abbrev pub answer_for : Lookup → List ℕ → List ℕ → ℤ → Outcome
answer_for w bs ps n =
    answered (function_of w) (group_for w (first_group (function_of w) ps) n) bs
    (pattern_in (read_by (function_of w) ps))
