-- What pruning says of a condition without faults is so of each rewrite of it.
use Rattle.std.specs.Prelude.{◌≡◌, ◌≤◌, ◌+◌, ℕ, zero, suc, ◌<◌, List, true, refl, if◌then◌else◌}
use Rattle.std.proofs.Common.{arith, sym, ap, ◌∙◌, subst}
use Rattle.vortex_columns.specs.ColumnView.{ColumnView}
use Rattle.vortex_statistics.specs.StatisticsView.{StatisticsView}
use Rattle.vortex_interface.specs.Outcomes.{Outcome, gives, faults, GivesValue}
use Rattle.vortex_interface.specs.Meaning.{Meaning}
use Rattle.vortex_interface.specs.Trees.{Tree}
use Rattle.vortex_interface.specs.Eval.{eval}
use Rattle.vortex_interface.specs.Made.{IsBound}
use Rattle.vortex_rewriting.specs.Keeping.{KeepsRows}
use Rattle.vortex_rewriting.proofs.KeptRows.{rewrites_keep_rows}
use Rattle.vortex_pruning.specs.declared.pruned.Pruned.{Pruned}
use Rattle.vortex_pruning.specs.Pruning.{SaysOf, is_true, true_count, TellsRows}
use Rattle.vortex_pruning.specs.Rewritten.{VerdictsHoldOfRewrites}
use Rattle.vortex_pruning.proofs.DescribedColumns.{described_lengths, described_typed}
use Rattle.vortex_pruning.proofs.DescribedColumns.{described_fit}

same_count : (n : ℕ) (f g : ℕ → Outcome) → ((i : ℕ) → i < n → f i ≡ g i)
    → true_count n f ≡ true_count n g
same_count zero f g h = refl
same_count (suc n) f g h =
    let here : is_true (f n) ≡ is_true (g n) = ap is_true (h n (omega arith)) in
    let rest : true_count n f ≡ true_count n g = same_count n f g (λ i lt. h i (omega (arith, lt)))
    in
    (λ i. (if here i then 1 else 0) + rest i)

module _ {V O : Type 0} (m : Meaning V O) (n : ℕ) where
  module _ (cs : List ColumnView) (t u : Tree V O) (p : Pruned) (told : TellsRows m cs n t p)
      (e : p.faultless ≡ true) (kept : KeepsRows m cs n t u) where
    same_outcome : (i : ℕ) → i < n → eval m cs t i ≡ eval m cs u i
    same_outcome i lt = by (eval m cs t i) refl (told.faultless e i lt)
      where
        by : (o : Outcome) → eval m cs t i ≡ o → GivesValue o → eval m cs t i ≡ eval m cs u i
        by (gives w) q g = q ∙ sym (kept.values i w lt q)
        by (faults x) q g = absurd g

    holds_of_rewrite : TellsRows m cs n u p
    holds_of_rewrite =
        let count = same_count n (eval m cs t) (eval m cs u) same_outcome in
        record {
          rows = λ i lt.
              subst (λ (o : Outcome). SaysOf p.verdict o) (same_outcome i lt) (told.rows i lt);
          faultless = λ f i lt.
              subst (λ (o : Outcome). GivesValue o) (same_outcome i lt) (told.faultless f i lt);
          least = subst (λ (k : ℕ). p.trues.0 ≤ k) count told.least;
          most = subst (λ (k : ℕ). k ≤ p.trues.1) count told.most;
        }

  pub verdicts_kept : (ss : List StatisticsView) (t : Tree V O) → IsBound t
      → VerdictsHoldOfRewrites m n ss t
  verdicts_kept ss t bound = λ p prunes e u a cs d.
      holds_of_rewrite cs t u p (prunes.tells cs d) e
      (rewrites_keep_rows m cs n t bound (described_typed n ss cs d) u a
      (described_fit n ss cs d t prunes.told) (described_lengths n ss cs d))
