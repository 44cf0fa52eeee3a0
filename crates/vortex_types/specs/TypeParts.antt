-- How many types a type is made of, and how deep they are.
use Rattle.std.specs.Prelude.{ℕ, suc, ◌+◌, List, [], ◌∷◌, String, map, max, Option, Some, None}
use denote.Param.Weighed.{most}
use Rattle.std.specs.declared.alloc.Global.{Global}
use Rattle.vortex_types.specs.declared.dtype.DType.{DType, fold-DType, size-DType}
use Rattle.vortex_types.specs.declared.dtype.DType.TheOpen.{DType-F, StructFields-F}
use Rattle.vortex_types.specs.declared.dtype.dropping.Within.{Within}
use Rattle.vortex_types.specs.declared.dtype.dropping.Within.TheVariants.{One, Two, Many}

-- a field weighs one more than its type
abbrev pub weights_of : List (String Global × ℕ) → ℕ
weights_of [] = 0
weights_of (f ∷ fs) = suc (f.1 + weights_of fs)

-- one level, with each type inside already weighed; an empty struct weighs more than a leaf
abbrev pub weight_step : DType-F ℕ ℕ → ℕ
weight_step (DType-F.Struct fs n) = suc (suc fs)
weight_step (DType-F.List t n) = suc t.value
weight_step (DType-F.FixedSizeList t s n) = suc t.value
weight_step (DType-F.Map k v n) = suc (suc (k.value + v.value))
weight_step leaf = 1

abbrev pub fields_weight_step : StructFields-F ℕ ℕ → ℕ
fields_weight_step s = weights_of s.fields.items

abbrev pub type_weight : DType → ℕ
type_weight = fold-DType ℕ ℕ weight_step fields_weight_step

abbrev pub type_weights : List (String Global × DType) → ℕ
type_weights fs = weights_of (map (λ f. (f.0, type_weight f.1)) fs)

abbrev pub deepest : List (String Global × DType) → ℕ
deepest = most (λ f. size-DType f.1)

abbrev pub weight_within : Option Within → ℕ
weight_within None = 0
weight_within (Some (One t)) = type_weight t.value
weight_within (Some (Two k v)) = suc (type_weight k.value + type_weight v.value)
weight_within (Some (Many fs)) = suc (type_weights fs.items)

abbrev pub deepest_within : Option Within → ℕ
deepest_within None = 0
deepest_within (Some (One t)) = size-DType t.value
deepest_within (Some (Two k v)) = max (size-DType k.value) (size-DType v.value)
deepest_within (Some (Many fs)) = suc (deepest fs.items)
