-- Columns that are put together from two lists that the same statistics describe.
use Rattle.std.specs.Prelude.{◌≡◌, ◌||◌, ℕ, zero, suc, List, [], ◌∷◌, Bool, true, false}
use Rattle.std.specs.Prelude.{Option, Some, nat_eq, slice_get, refl}
use Rattle.std.proofs.Common.{arith, sym, ap, cond}
use Rattle.std.proofs.lemmas.Bool.Decides.{nat_tests}
use Rattle.vortex_columns.specs.ColumnView.{ColumnView, row}
use Rattle.vortex_statistics.specs.StatisticsView.{StatisticsView}
use Rattle.vortex_interface.specs.Meaning.{Meaning}
use Rattle.vortex_interface.specs.Functions.{function_means}
use Rattle.vortex_interface.specs.Trees.{place, held, Tree, leaf, constant, call, Trees}
use Rattle.vortex_interface.specs.Trees.{no_trees, tree}
use Rattle.vortex_interface.specs.Eval.{with_first, then_means, types_or_none, rows_or_none}
use Rattle.vortex_interface.specs.Eval.{tree_types, eval, eval_all}
use Rattle.vortex_interface.specs.Outcomes.{gives}
use Rattle.vortex_ranges.specs.Described.{IsDescribed, DescribeAll}
use Rattle.vortex_pruning.specs.Sharpness.{reads, any_reads}

pub mixed : (ℕ → Bool) → List ColumnView → List ColumnView → List ColumnView
mixed f (c ∷ cs) (d ∷ ds) = cond (f 0) c d ∷ mixed (λ k. f (suc k)) cs ds
mixed f cs ds = []

one_of : (n : ℕ) (s : StatisticsView) (b : Bool) (c d : ColumnView) → IsDescribed n s c
    → IsDescribed n s d → IsDescribed n s (cond b c d)
one_of n s true c d p q = p
one_of n s false c d p q = q

module _ (n : ℕ) where
  pub mixed_described : (ss : List StatisticsView) (f : ℕ → Bool) (cs ds : List ColumnView)
      → DescribeAll n ss cs → DescribeAll n ss ds → DescribeAll n ss (mixed f cs ds)
  unfolding mixed
  mixed_described [] f [] [] p q = tt
  mixed_described [] f [] (d ∷ ds) p q = absurd q
  mixed_described [] f (c ∷ cs) ds p q = absurd p
  mixed_described (s ∷ ss) f [] ds p q = absurd p
  mixed_described (s ∷ ss) f (c ∷ cs) [] p q = absurd q
  mixed_described (s ∷ ss) f (c ∷ cs) (d ∷ ds) p q =
      (one_of n s (f 0) c d p.0 q.0, mixed_described ss (λ k. f (suc k)) cs ds p.1 q.1)

  pub from_first : (ss : List StatisticsView) (f : ℕ → Bool) (cs ds : List ColumnView)
      → DescribeAll n ss cs → DescribeAll n ss ds → (p : ℕ) → f p ≡ true
      → slice_get cs p ≡ slice_get (mixed f cs ds) p
  unfolding mixed
  from_first [] f [] [] d e p h = refl
  from_first [] f [] (x ∷ ds) d e p h = absurd e
  from_first [] f (c ∷ cs) ds d e p h = absurd d
  from_first (s ∷ ss) f [] ds d e p h = absurd d
  from_first (s ∷ ss) f (c ∷ cs) [] d e p h = absurd e
  from_first (s ∷ ss) f (c ∷ cs) (x ∷ ds) d e zero h = ap (λ b. Some (cond b c x)) (sym h)
  from_first (s ∷ ss) f (c ∷ cs) (x ∷ ds) d e (suc p) h =
      from_first ss (λ k. f (suc k)) cs ds d.1 e.1 p h

  pub from_second : (ss : List StatisticsView) (f : ℕ → Bool) (cs ds : List ColumnView)
      → DescribeAll n ss cs → DescribeAll n ss ds → (p : ℕ) → f p ≡ false
      → slice_get ds p ≡ slice_get (mixed f cs ds) p
  unfolding mixed
  from_second [] f [] [] d e p h = refl
  from_second [] f [] (x ∷ ds) d e p h = absurd e
  from_second [] f (c ∷ cs) ds d e p h = absurd d
  from_second (s ∷ ss) f [] ds d e p h = absurd d
  from_second (s ∷ ss) f (c ∷ cs) [] d e p h = absurd e
  from_second (s ∷ ss) f (c ∷ cs) (x ∷ ds) d e zero h = ap (λ b. Some (cond b c x)) (sym h)
  from_second (s ∷ ss) f (c ∷ cs) (x ∷ ds) d e (suc p) h =
      from_second ss (λ k. f (suc k)) cs ds d.1 e.1 p h

-- a tree has the same outcome over columns that agree in the places that it reads
same_place : (p : ℕ) → nat_eq p p ≡ true
same_place p = grind (arith, nat_tests)

on_left : (a b : Bool) → a ≡ true → (a || b) ≡ true
on_left true b e = refl
on_left false b e = cc

on_right : (a b : Bool) → b ≡ true → (a || b) ≡ true
on_right true b e = refl
on_right false b e = e

module _ {V O : Type 0} (m : Meaning V O) (cs ds : List ColumnView) (i : ℕ) where
  mutual
    pub agree : (t : Tree V O)
        → ((p : ℕ) → reads t p ≡ true → slice_get cs p ≡ slice_get ds p)
        → eval m cs t i ≡ eval m ds t i
    agree (leaf (place p name k)) h =
        ap (λ (o : Option ColumnView). gives (row (rows_or_none o) i)) (h p (same_place p))
    agree (leaf (held c)) h = refl
    agree (constant s) h = refl
    agree (call f ts) h =
        ap (then_means (function_means m f (types_or_none (tree_types m ts)))) (all_agree ts h)

    all_agree : (ts : Trees V O)
        → ((p : ℕ) → any_reads ts p ≡ true → slice_get cs p ≡ slice_get ds p)
        → eval_all m cs ts i ≡ eval_all m ds ts i
    all_agree no_trees h = refl
    all_agree (tree t ts) h =
        let first : eval m cs t i ≡ eval m ds t i =
        agree t (λ p e. h p (on_left (reads t p) (any_reads ts p) e)) in
        let rest : eval_all m cs ts i ≡ eval_all m ds ts i =
        all_agree ts (λ p e. h p (on_right (reads t p) (any_reads ts p) e)) in
        λ j. with_first (first j) (rest j)
