-- Rewrites at places, steps and runs of a sound rule are rewrites.
use Rattle.std.proofs.Common.{◌≡◌, ℕ, zero, suc, List, [], ◌∷◌, Option, Some, sym, ap, ◌∙◌}
use Rattle.std.specs.Prelude.{slice_get}
use Rattle.vortex_types.specs.LogicalTypes.{LogicalType}
use Rattle.vortex_interface.specs.Meaning.{Meaning, Lawful}
use Rattle.vortex_interface.specs.Functions.{Function}
use Rattle.vortex_interface.specs.Trees.{Tree, call, trees_of}
use Rattle.vortex_interface.specs.Eval.{tree_type, tree_types}
use Rattle.vortex_interface.specs.Rules.{Rules}
use Rattle.vortex_interface.specs.ReduceRules.{reduce}
use Rattle.vortex_interface.specs.SimplifyRules.{simplify}
use Rattle.vortex_interface.specs.Rewrites.{Rewrites, LawfulRules, IsSound}
use Rattle.vortex_interface.specs.Places.{rewritten, rewritten_list}
use Rattle.vortex_interface.specs.Driver.{first_of, Runs}
use Rattle.vortex_interface.proofs.TypedCalls.{types_parts, typed_call}
use Rattle.vortex_interface.proofs.Rewriting.{rewrites_same, rewrites_trans, child_rewrites}
use Rattle.vortex_interface.proofs.Simplifying.{simplify_sound}
use Rattle.vortex_interface.proofs.Reducing.{reduce_sound}
use Rattle.vortex_interface.proofs.RuleAnswers.{first_there}
use Rattle.vortex_interface.proofs.Stepwise.{GoesOver, Keeps, rewritten_keeps, rewritten_list_keeps}
use Rattle.vortex_interface.proofs.Stepwise.{runs_keep}

module _ {V O : Type 0} (m : Meaning V O) where
  -- the tree has a type
  abbrev pub IsWellTyped : Tree V O → Type 0
  IsWellTyped t = (k : LogicalType) × (tree_type m t ≡ Some k)

  one_typed : (ts : List (Tree V O)) (k : ℕ) (t : Tree V O) (types : List LogicalType)
      → tree_types m (trees_of ts) ≡ Some types → slice_get ts k ≡ Some t → IsWellTyped t
  one_typed [] k t types h e = cc
  one_typed (x ∷ xs) zero t types h e =
      let a = types_parts (tree_type m x) (tree_types m (trees_of xs)) types h in
      let is : x ≡ t = cc in
      (a.0, ap (tree_type m) (sym is) ∙ a.2)
  one_typed (x ∷ xs) (suc k) t types h e =
      let a = types_parts (tree_type m x) (tree_types m (trees_of xs)) types h in
      one_typed xs k t a.1 a.3 e

  -- a child of a well-typed call
  pub child_typed : (f : Function V O) (ts : List (Tree V O)) (k : ℕ) (t : Tree V O)
      → IsWellTyped (call f (trees_of ts)) → slice_get ts k ≡ Some t → IsWellTyped t
  child_typed f ts k t p e =
      let c = typed_call m f (trees_of ts) p.0 p.1 in
      one_typed ts k t c.types c.children e

  sound_over : GoesOver IsWellTyped (λ n. Rewrites m)
  sound_over = record {
    same = λ t p. rewrites_same m t;
    kept = λ n t u p a. (p.0, a.dtype ∙ p.1);
    after = λ n k l t u v e a b. rewrites_trans m t u v a b;
    child = child_typed;
    below = λ f ts k t u p h a. child_rewrites m f ts k t u h a;
  }

  sound_keeps : (rule : Tree V O → Option (Tree V O)) → IsSound m rule
      → Keeps IsWellTyped (λ n. Rewrites m) rule
  sound_keeps rule sound t u p e = sound t u p.0 p.1 e

  pub rewritten_sound : (rule : Tree V O → Option (Tree V O)) → IsSound m rule → (path : List ℕ)
      (t u : Tree V O) (k : LogicalType) → tree_type m t ≡ Some k
      → rewritten rule path t ≡ Some (Some u) → Rewrites m t u
  rewritten_sound rule sound path t u k h e =
      rewritten_keeps IsWellTyped (λ n. Rewrites m) sound_over rule (sound_keeps rule sound) path
      t u (k, h) e

  pub rewritten_list_sound : {A : Type 0} (apply : A → Tree V O → Option (Tree V O))
      → ((a : A) → IsSound m (apply a)) → (steps : List (A × List ℕ)) (t u : Tree V O) (n : ℕ)
      (k : LogicalType) → tree_type m t ≡ Some k → rewritten_list apply steps t ≡ Some (u, n)
      → Rewrites m t u
  rewritten_list_sound apply sound steps t u n k h e =
      rewritten_list_keeps IsWellTyped (λ n. Rewrites m) sound_over apply
      (λ a. sound_keeps (apply a) (sound a)) steps t u n (k, h) e

  pub runs_sound : (rule : Tree V O → Option (Tree V O)) → IsSound m rule → (n : ℕ)
      (t u : Tree V O) (k : LogicalType) → tree_type m t ≡ Some k → Runs rule n t u
      → Rewrites m t u
  runs_sound rule sound n t u k h e =
      runs_keep IsWellTyped (λ n. Rewrites m) sound_over rule (sound_keeps rule sound) n t u (k, h)
      e

  -- of two sound rules the first that applies
  pub first_sound : (a b : Tree V O → Option (Tree V O)) → IsSound m a → IsSound m b
      → IsSound m (first_of a b)
  first_sound a b sound others t u k h e =
      first_there (a t) (b t) u (Rewrites m t u) e (sound t u k h) (others t u k h)

  module _ (lawful : Lawful m) (r : Rules V O) (rules : LawfulRules m r) where
    pub simplify_is_sound : IsSound m (simplify m r)
    simplify_is_sound t u k h e = simplify_sound m lawful r rules t u k h e

    pub reduce_is_sound : IsSound m (reduce m r)
    reduce_is_sound t u k h e = reduce_sound m lawful r rules t u k h e
