-- The ranges of IS TRUE, IS FALSE and IS UNKNOWN admit their values.
use Rattle.std.specs.Prelude.{◌≡◌, ◌||◌, List, [], ◌∷◌, Bool, true, false, Some, None, Option, refl}
use Rattle.std.proofs.Common.{subst, sym}
use Rattle.vortex_types.specs.LogicalTypes.{LogicalType}
use Rattle.vortex_types.specs.Values.{Value, truth, truth_of}
use Rattle.vortex_sql_choices.specs.declared.truth_tests.TruthTest.{TruthTest}
use Rattle.vortex_sql_choices.specs.declared.truth_tests.TruthTest.TheVariants as test
use Rattle.vortex_sql_choices.specs.TruthTests as rows
use Rattle.vortex_sql_choices.specs.TruthTests.{passes, test_row}
use Rattle.vortex_sql_rows.specs.Row.{row_type, row_means}
use Rattle.vortex_ranges.specs.Ranges.{RangeView, Admits}
use Rattle.vortex_ranges.specs.Truths.{may_be_true, may_be_false, may_be_unknown}
use Rattle.vortex_ranges.specs.Calls.{AllAdmit, AdmitsCalls}
use Rattle.vortex_ranges.proofs.Tests.{on_left, on_right}
use Rattle.vortex_ranges.proofs.Anything.{anything-value}
use Rattle.vortex_ranges.proofs.KleeneTables.{truths_admitted, truths-admit, told_by, Tells}
use Rattle.vortex_sql_ranges.specs.TruthTests.{tested, test_range}

-- whether a truth value, or none, is true, and whether it is false
abbrev is_true : Option Bool → Bool
is_true (Some true) = true
is_true o = false

abbrev is_false : Option Bool → Bool
is_false (Some false) = true
is_false o = false

true_passes : (v : Value) → passes test.IsTrue v ≡ is_true (truth_of v)
true_passes (truth true) = refl
true_passes v = refl

false_passes : (v : Value) → passes test.IsFalse v ≡ is_false (truth_of v)
false_passes (truth true) = refl
false_passes v = refl

module _ (u n y : Bool) where
  true_told : (o : Option Bool) → Tells o u n y → Tells (Some (is_true o)) false (n || u) y
  true_told (Some true) e = e
  true_told (Some false) e = on_left n u e
  true_told None e = on_right n u e

  false_told : (o : Option Bool) → Tells o u n y → Tells (Some (is_false o)) false (y || u) n
  false_told (Some true) e = on_left y u e
  false_told (Some false) e = e
  false_told None e = on_right y u e

tested-admits : (t : TruthTest) (r : RangeView) (v : Value) → Admits r v
    → Admits (tested t r) (truth (passes t v))
tested-admits test.IsTrue r v e =
    subst (λ b. Admits (tested test.IsTrue r) (truth b)) (sym (true_passes v))
    (truths-admit false (may_be_false r || may_be_unknown r) (may_be_true r)
    (Some (is_true (truth_of v)))
    (true_told (may_be_unknown r) (may_be_false r) (may_be_true r) (truth_of v) (told_by r v e)))
tested-admits test.IsFalse r v e =
    subst (λ b. Admits (tested test.IsFalse r) (truth b)) (sym (false_passes v))
    (truths-admit false (may_be_true r || may_be_unknown r) (may_be_false r)
    (Some (is_false (truth_of v)))
    (false_told (may_be_unknown r) (may_be_false r) (may_be_true r) (truth_of v) (told_by r v e)))
tested-admits test.IsUnknown r v e = truths_admitted.null_range false r v e

test-admits : (t : TruthTest) (rs : List RangeView) (vs : List Value) → AllAdmit rs vs
    → Admits (test_range t rs) (rows.tested t vs)
test-admits t (r ∷ []) (v ∷ []) h = tested-admits t r v h.0
test-admits t (r ∷ []) [] h = absurd h
test-admits t (r ∷ []) (v ∷ w ∷ vs) h = absurd h.1
test-admits t rs vs h = anything-value (rows.tested t vs)

pub test-calls : (test : TruthTest) (t : LogicalType) (rs : List RangeView)
    → AdmitsCalls (row_type (test_row test)) (row_means (test_row test)) t rs (test_range test rs)
test-calls test t rs ts vs e h a = test-admits test rs vs a
