-- The ranges of IS TRUE, IS FALSE and IS UNKNOWN.
use Rattle.std.specs.Prelude.{◌||◌, List, false}
use Rattle.vortex_sql_choices.specs.declared.truth_tests.TruthTest.{TruthTest}
use Rattle.vortex_sql_choices.specs.declared.truth_tests.TruthTest.TheVariants as test
use Rattle.vortex_ranges.specs.Ranges.{RangeView}
use Rattle.vortex_ranges.specs.Truths.{truths, may_be_true, may_be_false, may_be_unknown, null_test}
use Rattle.vortex_ranges.specs.ShippedCalls.{of_one}

abbrev pub tested : TruthTest → RangeView → RangeView
tested test.IsTrue r = truths false (may_be_false r || may_be_unknown r) (may_be_true r)
tested test.IsFalse r = truths false (may_be_true r || may_be_unknown r) (may_be_false r)
tested test.IsUnknown r = null_test false r

abbrev pub test_range : TruthTest → List RangeView → RangeView
test_range t rs = of_one (tested t) rs
