use Rattle.std.proofs.Common.{◌≡◌, false, take}
use Rattle.std.specs.List.{list_any}
use Rattle.vortex_types.specs.TypeOf.{type_of}
use Rattle.vortex_interface.specs.ValidityRules.{is_null_type}
use Rattle.vortex_rewriting.proofs.validity.any_is_null_type.Given as goal

-- none so far
abbrev pub invariant-loop-dtype : goal.invariant-loop-dtype
invariant-loop-dtype l =
    list_any (λ t. is_null_type (type_of t)) (take l.dtype-index l.dtypes) ≡ false
