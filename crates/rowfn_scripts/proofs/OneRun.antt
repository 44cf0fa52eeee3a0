-- Within a limit the run of steps from a tree leads to one tree, in one number of steps.
use Rattle.std.proofs.Common.{◌≡◌, ◌⊎◌, inl, inr, ℕ, zero, suc, ◌<◌, Option, Some, None}
use Rattle.std.proofs.Common.{refl, sym, ap, subst, ◌∙◌, arith}
use Rattle.vortex_interface.specs.Trees.{Tree}
use Rattle.vortex_interface.specs.Driver.{step, Runs, RunsTo}

pub up_to : (i n : ℕ) → i < suc n → (i < n) ⊎ (i ≡ n)
up_to i n h = grind arith

either : (n k : ℕ) → (n < k) ⊎ ((k < n) ⊎ (n ≡ k))
either n k = grind arith

module _ {V O : Type 0} (rule : Tree V O → Option (Tree V O)) (t : Tree V O) where
  one_tree : (n : ℕ) (u v : Tree V O) → Runs rule n t u → Runs rule n t v → u ≡ v
  one_tree zero u v a b = sym a ∙ b
  one_tree (suc n) u v (x, a, e) (y, b, f) =
      let same = one_tree n x y a b in
      let both : Some u ≡ Some v = sym e ∙ ap (step rule) same ∙ f in cc

  -- a run that is over has no successor
  over : (n k : ℕ) (u v : Tree V O) → Runs rule n t u → Runs rule k t v → step rule u ≡ None
      → n < k → ⊥
  over n zero u v a b e lt = omega arith
  over n (suc k) u v a (y, b, f) e lt = by (up_to n k lt) (over n k u y a b e)
    where
      by : (n < k) ⊎ (n ≡ k) → (n < k → ⊥) → ⊥
      by (inl sooner) before = before sooner
      by (inr is) before =
          let same = one_tree k u y (subst (λ (j : ℕ). Runs rule j t u) is a) b in
          let both : None ≡ Some v = sym e ∙ ap (step rule) same ∙ f in cc

  -- so no run within the limit is longer than another
  no_longer : (limit : ℕ) (u v : Tree V O) (a : RunsTo rule limit t u) (b : RunsTo rule limit t v)
      → a.0 < b.0 → ⊥
  no_longer limit u v (n, most, run, inl none) b lt = over n b.0 u v run b.2 none lt
  no_longer limit u v (n, most, run, inr last) b lt = omega (arith, last, lt, b.1)

  pub one_run : (limit : ℕ) (u v : Tree V O) (a : RunsTo rule limit t u)
      (b : RunsTo rule limit t v)
      → (u ≡ v) × (a.0 ≡ b.0)
  one_run limit u v a b = by (either a.0 b.0)
    where
      by : (a.0 < b.0) ⊎ ((b.0 < a.0) ⊎ (a.0 ≡ b.0)) → (u ≡ v) × (a.0 ≡ b.0)
      by (inl lt) = absurd (no_longer limit u v a b lt)
      by (inr (inl lt)) = absurd (no_longer limit v u b a lt)
      by (inr (inr is)) =
          (one_tree b.0 u v (subst (λ (j : ℕ). Runs rule j t u) is a.2) b.2, is)

  pub some_run : (limit : ℕ) → (u : Tree V O) × RunsTo rule limit t u
  some_run zero = (t, (0, omega arith, refl, inr refl))
  some_run (suc limit) = by (some_run limit)
    where
      on : (n : ℕ) (u : Tree V O) → n ≡ limit → Runs rule n t u → (o : Option (Tree V O))
          → step rule u ≡ o
          → (v : Tree V O) × RunsTo rule (suc limit) t v
      on n u last run None e = (u, (n, omega (arith, last), run, inl e))
      on n u last run (Some v) e =
          (v, (suc n, omega (arith, last), (u, run, e), inr (ap suc last)))

      by : (u : Tree V O) × RunsTo rule limit t u → (v : Tree V O) × RunsTo rule (suc limit) t v
      by (u, (n, most, run, inl none)) = (u, (n, omega (arith, most), run, inl none))
      by (u, (n, most, run, inr last)) = on n u last run (step rule u) refl
