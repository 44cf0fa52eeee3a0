-- Types by name.
use Rattle.std.specs.Prelude.{◌==◌, ℕ, ◌-◌, List, [], ◌∷◌, Bool, true, false, Option, Some, None}
use Rattle.std.specs.Prelude.{codes, if◌then◌else◌}
use Rattle.std.specs.Option.{option_map}
use Rattle.std.specs.Str.{bytes_eq}
use Rattle.vortex_types.specs.LogicalTypes.{LogicalType, bool_type, integer_type, text_type}
use Rattle.vortex_types.specs.declared.dtype.PType.{PType}
use Rattle.vortex_types.specs.declared.dtype.PType.TheVariants.{I8, I16, I32, I64, U8, U16, U32}
use Rattle.vortex_types.specs.declared.dtype.PType.TheVariants.{U64}
use Rattle.vortex_types.specs.TypeTexts.{ptype_text}
use Rattle.vortex_types.specs.Values.{null}

-- a word without the mark of a nullable type at its end
abbrev pub without_mark : List ℕ → Option (List ℕ)
without_mark [] = None
without_mark (b ∷ []) = if b == 63 then Some [] else None
without_mark (b ∷ c ∷ bs) = option_map (λ w. b ∷ w) (without_mark (c ∷ bs))

abbrev pub ptype_of_word : List ℕ → Option PType
ptype_of_word w =
    if bytes_eq w (ptype_text I8) then Some I8
    else (if bytes_eq w (ptype_text I16) then Some I16
    else (if bytes_eq w (ptype_text I32) then Some I32
    else (if bytes_eq w (ptype_text I64) then Some I64
    else (if bytes_eq w (ptype_text U8) then Some U8
    else (if bytes_eq w (ptype_text U16) then Some U16
    else (if bytes_eq w (ptype_text U32) then Some U32
    else (if bytes_eq w (ptype_text U64) then Some U64
    else None)))))))

-- the type of that name, with null or without
abbrev pub type_named : Bool → List ℕ → Option LogicalType
type_named n w =
    if bytes_eq w (codes "bool") then Some (bool_type n)
    else (if bytes_eq w (codes "utf8") then Some (text_type n)
    else option_map (λ p. integer_type p n) (ptype_of_word w))

abbrev pub marked_type : List ℕ → Option (List ℕ) → Option LogicalType
marked_type w None = type_named false w
marked_type w (Some name) = type_named true name

abbrev pub type_of_word : List ℕ → Option LogicalType
type_of_word w = marked_type w (without_mark w)
