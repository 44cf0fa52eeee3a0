-- The steps of a copy, over a stack of types made so far.
use Rattle.std.specs.Prelude.{ℕ, suc, ◌+◌, ◌*◌, List, [], ◌∷◌, String, map, reverse, drop, ⊤}
use Rattle.std.specs.Prelude.{string_bytes}
use Rattle.std.specs.declared.alloc.Global.{Global}
use Rattle.vortex_types.specs.declared.dtype.DType.{DType}
use Rattle.vortex_types.specs.declared.dtype.StructFields.{StructFields}
use Rattle.vortex_types.specs.declared.dtype.copying.Step.{Step}
use Rattle.vortex_types.specs.declared.dtype.copying.Step.TheVariants.{Whole, Wrap, Name}
use Rattle.vortex_types.specs.declared.dtype.copying.Step.TheVariants as steps
use Rattle.vortex_types.specs.LogicalTypes.{LogicalType, struct_type, list_type}
use Rattle.vortex_types.specs.LogicalTypes.{fixed_size_list_type, map_type, with_field}
use Rattle.vortex_types.specs.TypeOf.{type_of}
use Rattle.vortex_types.specs.TypeParts.{type_weight, type_weights}

abbrev pub HasParts : LogicalType → Type 0
HasParts (struct_type fs n) = ⊤
HasParts (list_type t n) = ⊤
HasParts (fixed_size_list_type t s n) = ⊤
HasParts (map_type k v n) = ⊤
HasParts leaf = ⊥

-- the types made so far, the last first
abbrev pub tops : List DType → List LogicalType
tops ts = reverse (map type_of ts)

-- the top is wrapped into lists or maps like that type
abbrev pub wrapped : LogicalType → List LogicalType → List LogicalType
wrapped (list_type e n) [] = []
wrapped (list_type e n) (t ∷ ts) = list_type t n ∷ ts
wrapped (fixed_size_list_type e s n) [] = []
wrapped (fixed_size_list_type e s n) (t ∷ ts) = fixed_size_list_type t s n ∷ ts
wrapped (map_type k v n) [] = []
wrapped (map_type k v n) (t ∷ []) = []
wrapped (map_type k v n) (t ∷ u ∷ ts) = map_type u t n ∷ ts
wrapped other ts = ts

-- a struct with one more field; any other type unchanged
abbrev pub grown : LogicalType → List ℕ → LogicalType → LogicalType
grown (struct_type fs n) name t = struct_type (with_field fs name t) n
grown other name t = other

-- the top becomes a field of the type below
abbrev pub named : List ℕ → List LogicalType → List LogicalType
named name [] = []
named name (t ∷ []) = []
named name (t ∷ u ∷ ts) = grown u name t ∷ ts

-- all those become fields of the top
abbrev pub more : List (String Global × DType) → List LogicalType → List LogicalType
more [] ts = ts
more (f ∷ fs) ts = more fs (named (string_bytes f.0) (type_of f.1 ∷ ts))

abbrev pub effect : Step → List LogicalType → List LogicalType
effect (Whole t) ts = type_of t.now ∷ ts
effect (Wrap t) ts = wrapped (type_of t.now) ts
effect (Name s) ts = named (string_bytes s.now) ts
effect (steps.Fields f k) ts = more (drop k f.now.fields.items) ts

-- the last step is done first
abbrev pub effects : List Step → List LogicalType → List LogicalType
effects [] ts = ts
effects (s ∷ ss) ts = effect s (effects ss ts)

abbrev pub fields_cost : StructFields → ℕ → ℕ
fields_cost f k = suc (3 * type_weights (drop k f.fields.items))

abbrev pub cost : Step → ℕ
cost (Whole t) = 3 * type_weight t.now
cost (Wrap t) = 1
cost (Name s) = 1
cost (steps.Fields f k) = fields_cost f.now k

abbrev pub costs : List Step → ℕ
costs [] = 0
costs (s ∷ ss) = cost s + costs ss
