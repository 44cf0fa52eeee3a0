-- Calls of SQL's functions.
use Rattle.std.specs.Prelude.{List, [], ◌∷◌, Option, None}
use Rattle.vortex_types.specs.LogicalTypes.{LogicalType}
use Rattle.vortex_standard.specs.declared.standard.Standard.{Standard}
use Rattle.vortex_sql_rows.specs.declared.types.Takes.{Takes}
use Rattle.vortex_sql_rows.specs.declared.types.Takes.TheVariants.{Alike, Each, Cases}
use Rattle.vortex_standard.specs.Standard.{row_of}
use Rattle.vortex_expressions.specs.Outcomes.{Outcome, answers, and_then}
use Rattle.vortex_expressions.specs.Items.{Item, Tree, common_type, settled}
use Rattle.vortex_expressions.specs.Items.{all_settled, call_of}
use Rattle.vortex_expressions.specs.Truths.{truth_settled}
use Rattle.vortex_expressions.specs.Arguments.{alike_settled, each_settled}
pub use Rattle.vortex_expressions.specs.Items.{callable}

-- the values of cases: each after its condition, and a last value alone
abbrev pub values_of : {A : Type 0} → List A → List A
values_of [] = []
values_of (v ∷ []) = v ∷ []
values_of (c ∷ v ∷ xs) = v ∷ values_of xs

-- cases, whose conditions are truth values or whole numbers, and whose values take that type
abbrev pub cases_settled : Option LogicalType → List Item → Outcome (List Tree)
cases_settled o [] = answers []
cases_settled o (v ∷ []) = all_settled o (v ∷ [])
cases_settled o (c ∷ v ∷ is) =
    and_then (truth_settled c) (λ a. and_then (settled o v)
    (λ b. and_then (cases_settled o is) (λ ts. answers (a ∷ b ∷ ts))))

-- arguments; those that are alike take one type
abbrev pub arguments_settled : Takes → List Item → Outcome (List Tree)
arguments_settled (Alike k) is = alike_settled k is
arguments_settled (Each a b c) is = each_settled a b c is
arguments_settled Cases is = cases_settled (common_type (values_of is)) is

-- the call on items
abbrev pub function_call : Standard → List Item → Outcome Tree
function_call f is = and_then (arguments_settled (row_of f).types.takes is) (call_of (callable f))
