-- What the range of a condition says is so of each outcome that it admits.
use Rattle.std.specs.Prelude.{◌≡◌, ◌||◌, ◌+◌, ◌≤◌, ℕ, zero, suc, ◌<◌, Bool, true, false, not}
use Rattle.std.specs.Prelude.{Option, Some, None, if◌then◌else◌, refl}
use Rattle.std.proofs.Common.{arith, sym, ap, ◌∙◌, subst, cond}
use Rattle.vortex_types.specs.Values.{Value, truth, truth_of}
use Rattle.vortex_interface.specs.Outcomes.{Outcome, gives, faults, GivesValue}
use Rattle.vortex_ranges.specs.Ranges.{RangeView, Admits}
use Rattle.vortex_ranges.specs.Truths.{may_be_true, may_be_false, may_be_unknown}
use Rattle.vortex_ranges.specs.Calls.{AdmitsOutcome}
use Rattle.vortex_ranges.proofs.Tests.{on_left, on_right}
use Rattle.vortex_ranges.proofs.KleeneTables.{Tells, told_by}
use Rattle.vortex_pruning.specs.declared.pruned.Verdict.{Verdict}
use Rattle.vortex_pruning.specs.declared.pruned.Verdict.TheVariants.{Unknown, NoneTrue, AllTrue}
use Rattle.vortex_pruning.specs.Pruning.{IsTrueOutcome, SaysOf, is_true, true_count, may_be_untrue}
use Rattle.vortex_pruning.specs.Pruning.{verdict_of, trues_of, pruned_of, TellsRows}
use Rattle.std.specs.Prelude.{List}
use Rattle.vortex_columns.specs.ColumnView.{ColumnView}
use Rattle.vortex_statistics.specs.StatisticsView.{StatisticsView}
use Rattle.vortex_interface.specs.Meaning.{Meaning}
use Rattle.vortex_interface.specs.Trees.{Tree}
use Rattle.vortex_interface.specs.Eval.{eval}
use Rattle.vortex_ranges.specs.Described.{DescribeAll}
use Rattle.vortex_pruning.specs.Knowing.{Knows}

module _ (r : RangeView) where
  -- neither null nor false nor a fault
  only_true : (v : Value) → Admits r v → may_be_untrue r ≡ false → IsTrueOutcome (gives v)
  only_true v d e = by (truth_of v) refl (told_by r v d)
    where
      never : (may_be_unknown r || may_be_false r) ≡ true → ⊥
      never h =
          let is : may_be_untrue r ≡ true =
          on_right r.may_fault (may_be_unknown r || may_be_false r) h in
          cc

      is : (w : Value) → truth_of w ≡ Some true → IsTrueOutcome (gives w)
      is (truth true) h = refl
      is (truth false) h = cc
      is w h = cc

      by : (o : Option Bool) → truth_of v ≡ o
          → Tells o (may_be_unknown r) (may_be_false r) (may_be_true r)
          → IsTrueOutcome (gives v)
      by None h says = absurd (never (on_left (may_be_unknown r) (may_be_false r) says))
      by (Some false) h says = absurd (never (on_right (may_be_unknown r) (may_be_false r) says))
      by (Some true) h says = is v h

  surely_true : (o : Outcome) → AdmitsOutcome r o → may_be_untrue r ≡ false → IsTrueOutcome o
  surely_true (faults x) d e =
      let is : may_be_untrue r ≡ true =
      on_left r.may_fault (may_be_unknown r || may_be_false r) d in
      cc
  surely_true (gives v) d e = only_true v d e

  never_true : (o : Outcome) → AdmitsOutcome r o → may_be_true r ≡ false → ¬ IsTrueOutcome o
  never_true o d e h =
      let is : may_be_true r ≡ true = subst (λ (p : Outcome). AdmitsOutcome r p) h d in cc

  pub verdict_says : (o : Outcome) → AdmitsOutcome r o → SaysOf (verdict_of r) o
  verdict_says o d = by (may_be_true r) (may_be_untrue r) refl refl
    where
      by : (a b : Bool) → may_be_true r ≡ a → may_be_untrue r ≡ b
          → SaysOf (cond a (cond b Unknown AllTrue) NoneTrue) o
      by false b e f = never_true o d e
      by true true e f = tt
      by true false e f = surely_true o d f

  pub no_fault : (o : Outcome) → AdmitsOutcome r o → not r.may_fault ≡ true → GivesValue o
  no_fault (gives v) d e = tt
  no_fault (faults x) d e = let never : false ≡ true = sym (ap not d) ∙ e in cc

-- how many rows are true, by the verdict
counted_none : (n : ℕ) (outcome : ℕ → Outcome)
    → ((i : ℕ) → i < n → ¬ IsTrueOutcome (outcome i)) → true_count n outcome ≡ 0
counted_none zero outcome h = refl
counted_none (suc n) outcome h =
    let here : is_true (outcome n) ≡ false = untrue (outcome n) (h n (omega arith)) in
    let rest : true_count n outcome ≡ 0 = counted_none n outcome (λ i lt. h i (omega (arith, lt)))
    in
    (λ i. (if here i then 1 else 0) + rest i)
  where
    untrue : (o : Outcome) → ¬ IsTrueOutcome o → is_true o ≡ false
    untrue (gives (truth true)) h = absurd (h refl)
    untrue (gives (truth false)) h = refl
    untrue o h = refl

counted_all : (n : ℕ) (outcome : ℕ → Outcome)
    → ((i : ℕ) → i < n → IsTrueOutcome (outcome i)) → true_count n outcome ≡ n
counted_all zero outcome h = refl
counted_all (suc n) outcome h =
    let here : is_true (outcome n) ≡ true = ap is_true (h n (omega arith)) in
    let rest : true_count n outcome ≡ n = counted_all n outcome (λ i lt. h i (omega (arith, lt)))
    in
    (λ i. (if here i then 1 else 0) + rest i) ∙ omega arith

one_at_most : (b : Bool) → (if b then 1 else 0) ≤ 1
one_at_most true = omega arith
one_at_most false = omega arith

counted_some : (n : ℕ) (outcome : ℕ → Outcome) → true_count n outcome ≤ n
counted_some zero outcome = omega arith
counted_some (suc n) outcome =
    omega (arith, one_at_most (is_true (outcome n)), counted_some n outcome)

pub trues_told : (v : Verdict) (n : ℕ) (outcome : ℕ → Outcome)
    → ((i : ℕ) → i < n → SaysOf v (outcome i))
    → ((trues_of v n).0 ≤ true_count n outcome) × (true_count n outcome ≤ (trues_of v n).1)
trues_told Unknown n outcome h = (omega arith, counted_some n outcome)
trues_told NoneTrue n outcome h =
    let e = counted_none n outcome h in (omega arith, omega (arith, e))
trues_told AllTrue n outcome h =
    let e = counted_all n outcome h in (omega (arith, e), omega (arith, e))

-- so of a tree whose range is known
pub tells_rows : {V O : Type 0} (m : Meaning V O) (n : ℕ) (ss : List StatisticsView)
    (t : Tree V O) (r : RangeView) → Knows m n ss t r → (cs : List ColumnView)
    → DescribeAll n ss cs → TellsRows m cs n t (pruned_of n r)
tells_rows m n ss t r known cs d =
    let says = λ (i : ℕ) (lt : i < n).
    verdict_says r (eval m cs t i) (known.admitted cs d i lt) in
    let count = trues_told (verdict_of r) n (eval m cs t) says in
    record {
      rows = says;
      faultless = λ e i lt. no_fault r (eval m cs t i) (known.admitted cs d i lt) e;
      least = count.0;
      most = count.1;
    }
