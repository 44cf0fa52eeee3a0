-- Rewrites at places, steps and runs of a rule that makes trees lighter make them lighter, so there
-- are fewer than the weight of the tree.
use Rattle.std.proofs.Common.{◌≡◌, ℕ, zero, suc, ◌+◌, ◌<◌, List, [], ◌∷◌, Option, Some, None}
use Rattle.std.proofs.Common.{refl, ap, ◌∙◌, subst, inl, inr, arith}
use Rattle.std.specs.Prelude.{◌⊎◌, slice_get, slice_set}
use Rattle.std.specs.Option.{option_and_then}
use Rattle.vortex_types.specs.LogicalTypes.{LogicalType}
use Rattle.vortex_interface.specs.Meaning.{Meaning}
use Rattle.vortex_interface.specs.Functions.{Function, call_type}
use Rattle.vortex_interface.specs.Trees.{Tree, call, trees_of}
use Rattle.vortex_interface.specs.Eval.{tree_type}
use Rattle.vortex_interface.specs.Rules.{may_be_null}
use Rattle.vortex_interface.specs.Weights.{added, weight, weights, OnlyShipped, AllShipped, IsLighter}
use Rattle.vortex_interface.specs.Weights.{Lightens}
use Rattle.vortex_interface.specs.Places.{rewritten, rewritten_list}
use Rattle.vortex_interface.specs.Driver.{first_of, step, Runs}
use Rattle.vortex_interface.proofs.RuleAnswers.{first_there}
use Rattle.vortex_interface.proofs.TypedCalls.{types_with}
use Rattle.vortex_interface.proofs.Weighed.{weight_positive}
use Rattle.vortex_interface.proofs.Stepwise.{GoesOver, Keeps, rewritten_keeps, rewritten_list_keeps}
use Rattle.vortex_interface.proofs.Stepwise.{runs_keep}
use Rattle.vortex_interface.proofs.Driving.{IsWellTyped, child_typed}

module _ {V O : Type 0} (m : Meaning V O) where
  -- the tree has a type, and calls only shipped functions
  abbrev IsTypedShipped : Tree V O → Type 0
  IsTypedShipped t = IsWellTyped m t × OnlyShipped t

  one_shipped : (ts : List (Tree V O)) (k : ℕ) (t : Tree V O) → AllShipped (trees_of ts)
      → slice_get ts k ≡ Some t → OnlyShipped t
  one_shipped [] k t s h = cc
  one_shipped (x ∷ xs) zero t s h = let is : x ≡ t = cc in subst OnlyShipped is s.0
  one_shipped (x ∷ xs) (suc k) t s h = one_shipped xs k t s.1 h

  all_shipped : (ts : List (Tree V O)) (k : ℕ) (u : Tree V O) → AllShipped (trees_of ts)
      → OnlyShipped u → AllShipped (trees_of (slice_set ts k u))
  all_shipped [] k u s z = tt
  all_shipped (x ∷ xs) zero u s z = (z, s.1)
  all_shipped (x ∷ xs) (suc k) u s z = (s.0, all_shipped xs k u s.1 z)

  -- the weight of trees after replacing one of them
  weights_with : (ts : List (Tree V O)) (k : ℕ) (t u : Tree V O) → slice_get ts k ≡ Some t
      → weights m (trees_of (slice_set ts k u)) + weight m t ≡ weights m (trees_of ts) + weight m u
  weights_with [] k t u h = cc
  weights_with (x ∷ xs) zero t u h =
      let is : t ≡ x = cc in
      let same = ap (weight m) is in
      omega (arith, same)
  weights_with (x ∷ xs) (suc k) t u h =
      let others = weights_with xs k t u h in
      omega (arith, others)

  call_lighter : (f : Function V O) (ts : List (Tree V O)) (k : ℕ) (t u : Tree V O)
      → OnlyShipped (call f (trees_of ts)) → slice_get ts k ≡ Some t → IsLighter m 1 t u
      → IsLighter m 1 (call f (trees_of ts)) (call f (trees_of (slice_set ts k u)))
  call_lighter f ts k t u s h a =
      let typed = ap (option_and_then (call_type m f)) (types_with m ts k t u h a.dtype) in
      record {
        dtype = typed;
        shipped = (s.0, all_shipped ts k u s.1 a.shipped);
        lighter =
            let same = ap (λ z. added f (may_be_null z)) typed in
            let less = a.lighter in
            let below = weights_with ts k t u h in
            omega (arith, same, less, below);
      }

  lighter_over : GoesOver IsTypedShipped (IsLighter m)
  lighter_over = record {
    same = λ t p. record { dtype = refl; shipped = p.1; lighter = omega arith };
    kept = λ n t u p a. ((p.0.0, a.dtype ∙ p.0.1), a.shipped);
    after = λ n k l t u v e a b. record {
      dtype = b.dtype ∙ a.dtype;
      shipped = b.shipped;
      lighter =
          let first = a.lighter in
          let second = b.lighter in
          omega (arith, e, first, second);
    };
    child = λ f ts k t p h. (child_typed m f ts k t p.0 h, one_shipped ts k t p.1.1 h);
    below = λ f ts k t u p h a. call_lighter f ts k t u p.1 h a;
  }

  lightens_keeps : (rule : Tree V O → Option (Tree V O)) → Lightens m rule
      → Keeps IsTypedShipped (IsLighter m) rule
  lightens_keeps rule lightens t u p e = lightens t u p.0.0 p.0.1 p.1 e

  pub rewritten_lighter : (rule : Tree V O → Option (Tree V O)) → Lightens m rule
      → (path : List ℕ) (t u : Tree V O) (k : LogicalType) → tree_type m t ≡ Some k → OnlyShipped t
      → rewritten rule path t ≡ Some (Some u) → IsLighter m 1 t u
  rewritten_lighter rule lightens path t u k h s e =
      rewritten_keeps IsTypedShipped (IsLighter m) lighter_over rule (lightens_keeps rule lightens)
      path t u ((k, h), s) e

  -- n rules applied make it lighter by n
  pub rewritten_list_lighter : {A : Type 0} (apply : A → Tree V O → Option (Tree V O))
      → ((a : A) → Lightens m (apply a)) → (steps : List (A × List ℕ)) (t u : Tree V O) (n : ℕ)
      (k : LogicalType) → tree_type m t ≡ Some k → OnlyShipped t
      → rewritten_list apply steps t ≡ Some (u, n) → IsLighter m n t u
  rewritten_list_lighter apply lightens steps t u n k h s e =
      rewritten_list_keeps IsTypedShipped (IsLighter m) lighter_over apply
      (λ a. lightens_keeps (apply a) (lightens a)) steps t u n ((k, h), s) e

  -- n steps make it lighter by n
  pub runs_lighter : (rule : Tree V O → Option (Tree V O)) → Lightens m rule → (n : ℕ)
      (t u : Tree V O) (k : LogicalType) → tree_type m t ≡ Some k → OnlyShipped t → Runs rule n t u
      → IsLighter m n t u
  runs_lighter rule lightens n t u k h s e =
      runs_keep IsTypedShipped (IsLighter m) lighter_over rule (lightens_keeps rule lightens) n t u
      ((k, h), s) e

  -- so n is less than its weight
  pub fewer : (n : ℕ) (t u : Tree V O) → IsLighter m n t u → n < weight m t
  fewer n t u a =
      let less = a.lighter in
      let some = weight_positive m u in
      omega (arith, less, some)

  pub rewritten_list_bound : {A : Type 0} (apply : A → Tree V O → Option (Tree V O))
      → ((a : A) → Lightens m (apply a)) → (steps : List (A × List ℕ)) (t u : Tree V O) (n : ℕ)
      (k : LogicalType) → tree_type m t ≡ Some k → OnlyShipped t
      → rewritten_list apply steps t ≡ Some (u, n) → n < weight m t
  rewritten_list_bound apply lightens steps t u n k h s e =
      fewer n t u (rewritten_list_lighter apply lightens steps t u n k h s e)

  pub runs_bound : (rule : Tree V O → Option (Tree V O)) → Lightens m rule → (n : ℕ)
      (t u : Tree V O) (k : LogicalType) → tree_type m t ≡ Some k → OnlyShipped t → Runs rule n t u
      → n < weight m t
  runs_bound rule lightens n t u k h s e =
      fewer n t u (runs_lighter rule lightens n t u k h s e)

  module _ (rule : Tree V O → Option (Tree V O)) (lightens : Lightens m rule) (t : Tree V O)
      (k : LogicalType) (h : tree_type m t ≡ Some k) (s : OnlyShipped t) where
    -- some run is over
    abbrev pub Ends : Type 0
    Ends = (n : ℕ) × (u : Tree V O) × Runs rule n t u × (step rule u ≡ None)

    -- or one has n steps
    run_on : (n : ℕ) → Ends ⊎ ((u : Tree V O) × Runs rule n t u)
    run_on zero = inr (t, refl)
    run_on (suc n) = by (run_on n)
      where
        by : Ends ⊎ ((u : Tree V O) × Runs rule n t u)
            → Ends ⊎ ((u : Tree V O) × Runs rule (suc n) t u)
        by (inl a) = inl a
        by (inr (u, run)) = on (step rule u) refl
          where
            on : (o : Option (Tree V O)) → step rule u ≡ o
                → Ends ⊎ ((u : Tree V O) × Runs rule (suc n) t u)
            on None e = inl (n, u, run, e)
            on (Some v) e = inr (v, (u, run, e))

    pub run_ends : Ends
    run_ends = by (run_on (weight m t))
      where
        by : Ends ⊎ ((u : Tree V O) × Runs rule (weight m t) t u) → Ends
        by (inl a) = a
        by (inr (u, run)) =
            let more = runs_bound rule lightens (weight m t) t u k h s run in
            absurd (omega (arith, more))

  -- for two such rules, the first that applies
  pub first_lightens : (a b : Tree V O → Option (Tree V O)) → Lightens m a → Lightens m b
      → Lightens m (first_of a b)
  first_lightens a b lightens others t u k h s e =
      first_there (a t) (b t) u (IsLighter m 1 t u) e (lightens t u k h s) (others t u k h s)
