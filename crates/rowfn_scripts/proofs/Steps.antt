-- Properties of the lines whose step is a function of the session, by cases.
use Rattle.std.proofs.Common.{◌≡◌, ◌≢◌, ◌==◌, ◌&&◌, ℕ, Bool, true, false, Option, Some, None, List}
use Rattle.std.proofs.Common.{length, refl, if◌then◌else◌}
use Rattle.std.specs.Option.{is_some, is_none}
use Rattle.vortex_errors.specs.declared.error.MismatchPlace.{MismatchPlace}
use Rattle.vortex_errors.specs.declared.error.VortexError.{VortexError}
use Rattle.vortex_errors.specs.declared.error.VortexError.TheVariants.{OutOfMemory, ScopeMismatch}
use Rattle.vortex_errors.specs.declared.error.VortexError.TheVariants.{TypeMismatch}
use Rattle.vortex_types.specs.LogicalTypes.{LogicalType, find_field}
use Rattle.vortex_columns.specs.ColumnView.{ColumnView}
use Rattle.vortex_interface.specs.Meaning.{Meaning}
use Rattle.vortex_interface.specs.Shipped.{Shipped, shipped_arity, shipped_place}
use Rattle.vortex_interface.specs.Trees.{Tree, leaf, place, trees_of}
use Rattle.vortex_interface.specs.Eval.{tree_type, tree_types, types_or_none}
use Rattle.rowfn_scripts.specs.Sessions.{SessionView, Step, goes_on, refuses, is_malformed}
use Rattle.rowfn_scripts.specs.Sessions.{least_count, taken, with_rows, after_rows, added}
use Rattle.rowfn_scripts.specs.Sessions.{with_column, pushed, with_leaf, call_of, refused_at, with_taken}
use Rattle.rowfn_scripts.specs.Sessions.{with_call}

-- no line runs out of memory
module _ {V O : Type 0} (m : Meaning V O) (s : SessionView V O) (P : Step V O → Type 0)
    (malformed : P is_malformed)
    (refused : (e : VortexError) → e ≢ OutOfMemory → P (refuses e)) where
  pub of_rows : (n : ℕ) (r : Option ℕ) → (r ≡ None → P (goes_on (record s { row_count = Some n })))
      → P (with_rows n s r)
  of_rows n None h = h refl
  of_rows n (Some k) h = malformed

  pub after : (r : Option ℕ) (f : ℕ → Step V O) → ((n : ℕ) → r ≡ Some n → P (f n))
      → P (after_rows r f)
  after None f h = malformed
  after (Some n) f h = h n refl

  by_test : (b : Bool) (t : SessionView V O) (other : Step V O) → P other
      → (b ≡ true → P (goes_on t)) → P (if b then goes_on t else other)
  by_test true t other k h = h refl
  by_test false t other k h = k

  pub of_column : (name : List ℕ) (c : ColumnView) (n : ℕ)
      → (((length c.rows == n) && is_none (find_field name s.fields)) ≡ true
      → P (goes_on (added name c s)))
      → P (with_column name c s n)
  of_column name c n h =
      by_test ((length c.rows == n) && is_none (find_field name s.fields)) _ is_malformed malformed
      h

  pub of_leaf : (name : List ℕ) (o : Option (ℕ × LogicalType))
      → ((p : ℕ × LogicalType) → o ≡ Some p
      → P (goes_on (pushed (leaf (place p.0 name p.1)) s.stack s)))
      → P (with_leaf name s o)
  of_leaf name None h = refused ScopeMismatch (λ e. cc)
  of_leaf name (Some p) h = h p refl

  at_place : (o : Option MismatchPlace) → P (refused_at m o)
  at_place None = malformed
  at_place (Some p) = refused (TypeMismatch p) (λ e. cc)

  -- for trees that are popped for a function, if they have a type together
  abbrev pub GoesOnCalled : Shipped → List (Tree V O) × List (Tree V O) → Type 0
  GoesOnCalled f p =
      is_some (tree_type m (call_of m f p.0)) ≡ true
      → P (goes_on (pushed (call_of m f p.0) p.1 s))

  of_taken : (f : Shipped) (o : Option (List (Tree V O) × List (Tree V O)))
      → ((p : List (Tree V O) × List (Tree V O)) → o ≡ Some p → GoesOnCalled f p)
      → P (with_taken m f s o)
  of_taken f None h = malformed
  of_taken f (Some p) h =
      let place = shipped_place f (types_or_none (tree_types m (trees_of p.0))) in
      by_test (is_some (tree_type m (call_of m f p.0))) _ (refused_at m place) (at_place place)
      (h p refl)

  pub of_call : (o : Option Shipped)
      → ((f : Shipped) (p : List (Tree V O) × List (Tree V O))
      → taken (least_count (shipped_arity f)) s.stack ≡ Some p → GoesOnCalled f p)
      → P (with_call m s o)
  of_call None h = malformed
  of_call (Some f) h = of_taken f (taken (least_count (shipped_arity f)) s.stack) (h f)
