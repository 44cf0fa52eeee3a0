-- Exact ranges give sharp verdicts.
use Rattle.std.specs.Prelude.{◌≡◌, ◌||◌, ℕ, ◌<◌, List, Bool, true, false, not, refl}
use Rattle.std.proofs.Common.{sym, ap, ◌∙◌, cond, inl, inr}
use Rattle.vortex_types.specs.LogicalTypes.{LogicalType, bool_type, is_bool_type}
use Rattle.vortex_types.specs.Values.{Value, null, truth}
use Rattle.vortex_columns.specs.ColumnView.{ColumnView}
use Rattle.vortex_statistics.specs.StatisticsView.{StatisticsView}
use Rattle.vortex_interface.specs.Outcomes.{gives}
use Rattle.vortex_interface.specs.Meaning.{Meaning}
use Rattle.vortex_interface.specs.Trees.{Tree}
use Rattle.vortex_ranges.specs.Ranges.{RangeView}
use Rattle.vortex_ranges.specs.Truths.{may_be_true, may_be_false, may_be_unknown}
use Rattle.vortex_ranges.specs.Described.{DescribeAll}
use Rattle.vortex_pruning.specs.Exact.{IsReached, Gives, IsExact}
use Rattle.vortex_pruning.specs.Sharpness.{IsSharp}
use Rattle.vortex_pruning.specs.Pruning.{may_be_untrue, pruned_of}
use Rattle.vortex_pruning.specs.declared.pruned.Verdict.TheVariants.{Unknown, NoneTrue, AllTrue}
use Rattle.vortex_pruning.proofs.OrderedPairs.{one_of}
use Rattle.vortex_pruning.proofs.ExactTrees.{Reaches, unknown_reached, false_reached, true_reached}

module _ {V O : Type 0} (m : Meaning V O) (n : ℕ) (ss : List StatisticsView)
    (base : List ColumnView) (d : DescribeAll n ss base) (some : 0 < n) where
  -- what an exact range leaves open is reached
  other_than_true : (t : Tree V O) (v : Value) → (gives v ≡ gives (truth true) → ⊥)
      → Reaches m n ss base d some t v → IsReached m n ss t (λ o. ¬ Gives (truth true) o)
  other_than_true t v never h =
      record {
        columns = h.columns;
        described = h.described;
        here = λ q. never (sym h.here ∙ q);
      }

  null_is_other : gives null ≡ gives (truth true) → ⊥
  null_is_other e = cc

  false_is_other : gives (truth false) ≡ gives (truth true) → ⊥
  false_is_other e = cc

  opened : (a b : Bool) → cond a (cond b Unknown AllTrue) NoneTrue ≡ Unknown
      → (a ≡ true) × (b ≡ true)
  opened true true e = (refl, refl)
  opened true false e = cc
  opened false b e = cc

  pub sharp : (t : Tree V O) (k : LogicalType) (r : RangeView) → is_bool_type k ≡ true
      → IsExact m n ss t k r → IsSharp m n ss t (pruned_of n r)
  sharp t (bool_type b) r e x =
      record {
        faultless = ap not x.faultless;
        some_true = λ h.
            true_reached m n ss base d some t b r x
            (opened (may_be_true r) (may_be_untrue r) h).0;
        some_other = λ h. other (opened (may_be_true r) (may_be_untrue r) h).1;
      }
    where
      other : may_be_untrue r ≡ true → IsReached m n ss t (λ o. ¬ Gives (truth true) o)
      other h =
          elim (one_of r.may_fault (may_be_unknown r || may_be_false r) h) [
            | inl f ↦ let never : true ≡ false = sym f ∙ x.faultless in cc
            | inr g ↦ elim (one_of (may_be_unknown r) (may_be_false r) g) [
              | inl u ↦ other_than_true t null null_is_other
                  (unknown_reached m n ss base d some t b r x u)
              | inr f ↦ other_than_true t (truth false) false_is_other
                  (false_reached m n ss base d some t b r x f)
            ]
          ]
  sharp t k r e x = cc
