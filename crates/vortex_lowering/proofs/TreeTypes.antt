-- When calls have a type.
use Rattle.std.proofs.Common.{◌≡◌, ◌∙◌, Bool, true, false, refl, ap, List, length, Option, Some, None}
use Rattle.std.specs.Prelude.{is_some, option_and_then, if◌then◌else◌}
use Rattle.vortex_errors.specs.declared.error.VortexError.{VortexError}
use Rattle.vortex_types.specs.LogicalTypes.{LogicalType}
use Rattle.vortex_interface.specs.Meaning.{Meaning, fits}
use Rattle.vortex_interface.specs.Functions.{Function, function_arity, function_type, call_type}
use Rattle.vortex_interface.specs.Trees.{Tree, Trees, call, trees_of}
use Rattle.vortex_interface.specs.Eval.{tree_type, tree_types, with_type}
use Rattle.vortex_functions.specs.Binding.{IsCall, RefusesCall, count, types}
use Rattle.vortex_functions.proofs.Bound.{type_count}

-- several have types only if the first and the others do
pub each_some : (a : Option LogicalType) (o : Option (List LogicalType)) → is_some (with_type a o) ≡ true
    → (is_some a ≡ true) × (is_some o ≡ true)
each_some (Some t) (Some ts) h = (refl, refl)
each_some (Some t) None h = cc
each_some None o h = cc

pub others_none : (a : Option LogicalType) → with_type a None ≡ None
others_none None = refl
others_none (Some t) = refl

if_either : {A : Type 0} (b : Bool) (o : Option A) → o ≡ None → (if b then o else None) ≡ None
if_either true o h = h
if_either false o h = refl

module _ {V O : Type 0} (m : Meaning V O) (f : Function V O) where
  -- a call has a type only if each argument does
  pub arguments_some : (ts : Trees V O) → is_some (tree_type m (call f ts)) ≡ true → is_some (tree_types m ts) ≡ true
  arguments_some ts h = by (tree_types m ts) h
    where
      by : (o : Option (List LogicalType)) → is_some (option_and_then (call_type m f) o) ≡ true → is_some o ≡ true
      by None h = h
      by (Some ks) h = refl

  pub arguments_none : (ts : Trees V O) → tree_types m ts ≡ None → tree_type m (call f ts) ≡ None
  arguments_none ts e = ap (option_and_then (call_type m f)) e

  -- what binds has a type
  pub bound_some : (ts : List (Tree V O)) (t : Tree V O) → IsCall m f ts t → is_some (tree_type m t) ≡ true
  bound_some ts t c =
      let fit : fits (function_arity m f) (length c.types) ≡ true =
      ap (fits (function_arity m f)) (type_count m ts c.types c.typed) ∙ c.arity in
      ap (λ s. is_some (tree_type m s)) c.is
      ∙ ap (λ o. is_some (option_and_then (call_type m f) o)) c.typed
      ∙ (λ i. is_some (if fit i then c.accepted i else None))

  -- and what is refused has none
  pub refused_none : (ts : List (Tree V O)) (e : VortexError) → RefusesCall m f ts e → tree_type m (call f (trees_of ts)) ≡ None
  refused_none ts e (types ks g h w q) =
      ap (option_and_then (call_type m f)) h ∙ if_either (fits (function_arity m f) (length ks)) (function_type m f ks) w
  refused_none ts e (count g h) = by (tree_types m (trees_of ts)) refl
    where
      by : (o : Option (List LogicalType)) → tree_types m (trees_of ts) ≡ o → option_and_then (call_type m f) o ≡ None
      by None k = refl
      by (Some ks) k =
          ap (λ b. if b then function_type m f ks else None) (ap (fits (function_arity m f)) (type_count m ts ks k) ∙ g)
