-- The range of IN admits its values.
use Rattle.std.specs.Prelude.{◌≡◌, ◌||◌, List, [], ◌∷◌, Bool, true, false, Some, refl}
use Rattle.std.specs.List.{list_any}
use Rattle.std.proofs.Common.{cond, subst}
use Rattle.vortex_types.specs.LogicalTypes.{LogicalType}
use Rattle.vortex_types.specs.Values.{Value, null, truth, is_null}
use Rattle.vortex_operators.specs.declared.operators.CompareOperator.TheVariants.{Eq}
use Rattle.vortex_operators.specs.declared.operators.Operator.TheVariants.{Or}
use Rattle.vortex_operators.specs.OperatorValues.{boolean_value, comparison_value}
use Rattle.vortex_sql_choices.specs.InList.{is_same, listed, in_list, in_list_row}
use Rattle.vortex_sql_rows.specs.Row.{row_type, row_means}
use Rattle.vortex_ranges.specs.Ranges.{RangeView, Admits}
use Rattle.vortex_ranges.specs.Truths.{disjunction}
use Rattle.vortex_ranges.specs.Comparing.{comparison}
use Rattle.vortex_ranges.specs.Calls.{AllAdmit, AdmitsCalls}
use Rattle.vortex_ranges.proofs.Above.{has_value}
use Rattle.vortex_ranges.proofs.Anything.{anything-value}
use Rattle.vortex_ranges.proofs.KleeneTables.{truths_admitted, truths-admit}
use Rattle.vortex_ranges.proofs.Compared.{comparisons_admitted}
use Rattle.vortex_sql_ranges.specs.Listed.{unlisted, listed_from, in_list_range}

-- a truth value so far, or the value equals one of these
abbrev or_equal : Value → Value → List Value → Value
or_equal a v [] = a
or_equal a v (w ∷ ws) = or_equal (boolean_value Or a (comparison_value Eq v w)) v ws

from-admits : (found r : RangeView) (a v : Value) → Admits found a → Admits r v
    → (ss : List RangeView) (ws : List Value) → AllAdmit ss ws
    → Admits (listed_from found r ss) (or_equal a v ws)
from-admits found r a v d e [] [] h = d
from-admits found r a v d e [] (w ∷ ws) h = absurd h
from-admits found r a v d e (s ∷ ss) [] h = absurd h
from-admits found r a v d e (s ∷ ss) (w ∷ ws) h =
    from-admits (disjunction found (comparison Eq r s)) r
    (boolean_value Or a (comparison_value Eq v w)) v
    (truths_admitted.or_range found (comparison Eq r s) a (comparison_value Eq v w) d
    (comparisons_admitted.compared Eq r s v w e h.0))
    e ss ws h.1

true_stays : (v : Value) (ws : List Value) → or_equal (truth true) v ws ≡ truth true
true_stays v [] = refl
true_stays v (w ∷ ws) = true_stays v ws

null_stays : (ws : List Value) → or_equal null null ws ≡ null
null_stays [] = refl
null_stays (w ∷ ws) = null_stays ws

module _ (v : Value) (ws : List Value) where
  after_null : (b c : Bool) → or_equal null v ws ≡ cond c (truth true) null
      → or_equal (boolean_value Or null (truth b)) v ws ≡ cond (b || c) (truth true) null
  after_null true c e = true_stays v ws
  after_null false c e = e

  after_false : (b c d : Bool)
      → or_equal (truth false) v ws ≡ cond c (truth true) (cond d null (truth false))
      → or_equal (boolean_value Or (truth false) (truth b)) v ws
      ≡ cond (b || c) (truth true) (cond d null (truth false))
  after_false true c d e = true_stays v ws
  after_false false c d e = e

-- once an item was null
from_null : (v : Value) → is_null v ≡ false → (ws : List Value)
    → or_equal null v ws ≡ cond (list_any (is_same v) ws) (truth true) null
from_null null e ws = cc
from_null v e [] = refl
from_null v e (null ∷ ws) = from_null v e ws
from_null v e (w ∷ ws) =
    after_null v ws (is_same v w) (list_any (is_same v) ws) (from_null v e ws)

from_false : (v : Value) → is_null v ≡ false → (ws : List Value)
    → or_equal (truth false) v ws
    ≡ cond (list_any (is_same v) ws) (truth true) (cond (list_any is_null ws) null (truth false))
from_false null e ws = cc
from_false v e [] = refl
from_false v e (null ∷ ws) = from_null v e ws
from_false v e (w ∷ ws) =
    after_false v ws (is_same v w) (list_any (is_same v) ws) (list_any is_null ws)
    (from_false v e ws)

abbrev first : Value → Value
first v = cond (is_null v) null (truth false)

all_listed : (v : Value) (ws : List Value) → or_equal (first v) v ws ≡ listed v ws
all_listed null ws = null_stays ws
all_listed v ws = from_false v refl ws

unlisted-admits : (r : RangeView) (v : Value) → Admits r v → Admits (unlisted r) (first v)
unlisted-admits r null e = e
unlisted-admits r v e =
    truths-admit r.may_be_null r.may_be_value false (Some false) (has_value r v e)

in_list-admits : (rs : List RangeView) (vs : List Value) → AllAdmit rs vs
    → Admits (in_list_range rs) (in_list vs)
in_list-admits [] vs h = anything-value (in_list vs)
in_list-admits (r ∷ ss) [] h = absurd h
in_list-admits (r ∷ ss) (v ∷ ws) h =
    subst (Admits (listed_from (unlisted r) r ss)) (all_listed v ws)
    (from-admits (unlisted r) r (first v) v (unlisted-admits r v h.0) h.0 ss ws h.1)

pub in_list-calls : (t : LogicalType) (rs : List RangeView)
    → AdmitsCalls (row_type in_list_row) (row_means in_list_row) t rs (in_list_range rs)
in_list-calls t rs ts vs e h a = in_list-admits rs vs a
