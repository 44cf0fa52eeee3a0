-- The range of IN.
use Rattle.std.specs.Prelude.{List, [], ◌∷◌, false}
use Rattle.vortex_operators.specs.declared.operators.CompareOperator.TheVariants.{Eq}
use Rattle.vortex_ranges.specs.Ranges.{RangeView, anything}
use Rattle.vortex_ranges.specs.Truths.{truths, disjunction}
use Rattle.vortex_ranges.specs.Comparing.{comparison}

-- in no list: null where the value is, else false
abbrev pub unlisted : RangeView → RangeView
unlisted r = truths r.may_be_null r.may_be_value false

-- what was found so far, or the value equals one of these
abbrev pub listed_from : RangeView → RangeView → List RangeView → RangeView
listed_from found r [] = found
listed_from found r (s ∷ ss) = listed_from (disjunction found (comparison Eq r s)) r ss

abbrev pub in_list_range : List RangeView → RangeView
in_list_range [] = anything
in_list_range (r ∷ ss) = listed_from (unlisted r) r ss
