-- A well-typed call never fails.
use Rattle.std.proofs.Common.{◌≡◌, true, List, length, Some, sym, ap, ◌∙◌}
use Rattle.vortex_errors.specs.declared.error.VortexError.{VortexError}
use Rattle.vortex_types.specs.LogicalTypes.{LogicalType}
use Rattle.vortex_interface.specs.Meaning.{Meaning, fits}
use Rattle.vortex_interface.specs.Functions.{Function, function_arity, function_type}
use Rattle.vortex_interface.specs.Trees.{Tree, call, trees_of}
use Rattle.vortex_interface.specs.Eval.{tree_type}
use Rattle.vortex_interface.proofs.TypedCalls.{typed_call}
use Rattle.vortex_functions.specs.Binding.{RefusesCall, count, types}
use Rattle.vortex_functions.proofs.Bound.{type_count}

module _ {V O : Type 0} (m : Meaning V O) where
  pub not_refused : (f : Function V O) (ts : List (Tree V O)) (k : LogicalType)
      → tree_type m (call f (trees_of ts)) ≡ Some k → (e : VortexError) → RefusesCall m f ts e → ⊥
  not_refused f ts k h e (count unfit is) =
      let typed = typed_call m f (trees_of ts) k h in
      let many = type_count m ts typed.types typed.children in
      let fit : fits (function_arity m f) (length ts) ≡ true =
      ap (fits (function_arity m f)) (sym many) ∙ typed.fitting in
      cc
  not_refused f ts k h e (types ks fit children none is) =
      let typed = typed_call m f (trees_of ts) k h in
      let same : Some typed.types ≡ Some ks = sym typed.children ∙ children in
      let alike : typed.types ≡ ks = cc in
      let some : function_type m f ks ≡ Some k =
      ap (function_type m f) (sym alike) ∙ typed.returns in
      cc
