-- Whether a truth value is true, false or null.
use Rattle.std.specs.Prelude.{◌≡◌, codes, ℕ, List, [], ◌∷◌, Bool, true, false, not, refl, get_or}
use Rattle.vortex_errors.specs.declared.arity.Arity.TheVariants.{Exact}
use Rattle.vortex_types.specs.LogicalTypes.{bool_type}
use Rattle.vortex_types.specs.Values.{Value, truth, is_null}
use Rattle.vortex_interface.specs.Outcomes.{gives}
use Rattle.vortex_sql_choices.specs.declared.truth_tests.TruthTest.{TruthTest}
use Rattle.vortex_sql_choices.specs.declared.truth_tests.TruthTest.TheVariants as test
use Rattle.vortex_sql_rows.specs.declared.types.Gives.TheVariants as answer
use Rattle.vortex_sql_rows.specs.declared.types.Kind.TheVariants.{Truth}
use Rattle.vortex_sql_rows.specs.declared.types.Nulls.TheVariants.{Never}
use Rattle.vortex_sql_rows.specs.declared.types.Takes.TheVariants.{Alike}
use Rattle.vortex_sql_rows.specs.Row.{Row, LawfulRow, IsOf, NullOnlyBy}

abbrev pub passes : TruthTest → Value → Bool
passes test.IsTrue (truth b) = b
passes test.IsFalse (truth b) = not b
passes test.IsUnknown v = is_null v
passes t v = false

abbrev pub tested : TruthTest → List Value → Value
tested t (v ∷ []) = truth (passes t v)
tested t vs = truth false

abbrev pub test_id : TruthTest → List ℕ
test_id test.IsTrue = codes "sql.is_true"
test_id test.IsFalse = codes "sql.is_false"
test_id test.IsUnknown = codes "sql.is_unknown"

abbrev pub test_row : TruthTest → Row
test_row t = record {
  id = test_id t;
  arity = Exact 1;
  types = record { takes = Alike Truth; nulls = Never; gives = answer.Truth };
  strict = false;
  infallible = true;
  of = λ p vs. gives (tested t vs);
}

typed : (t : TruthTest) (vs : List Value) → IsOf (bool_type false) (tested t vs)
typed t (v ∷ []) = tt
typed t [] = tt
typed t (v ∷ w ∷ vs) = tt

never_null : (t : TruthTest) (vs : List Value) → NullOnlyBy Never vs (gives (tested t vs))
never_null t (v ∷ []) = tt
never_null t [] = tt
never_null t (v ∷ w ∷ vs) = tt

named : (t : TruthTest) → get_or (test_id t) 0 0 ≡ 115
named test.IsTrue = refl
named test.IsFalse = refl
named test.IsUnknown = refl

pub test_lawful : (t : TruthTest) → LawfulRow (test_row t)
test_lawful t = record {
  named = named t;
  typed = λ u vs a. typed t vs;
  nulls = λ u vs a. never_null t vs;
  settled = λ u vs a e. tt;
  strict = λ e. cc;
}
