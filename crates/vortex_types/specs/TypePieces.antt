-- The pieces of a type's text that are still to be written, as a stack.
use Rattle.std.specs.Prelude.{ℕ, suc, ◌+◌, ◌*◌, List, [], ◌∷◌, ◌++◌, codes, drop}
use Rattle.std.specs.Fmt.{decimal}
use Rattle.vortex_types.specs.declared.dtype.StructFields.{StructFields}
use Rattle.vortex_types.specs.declared.dtype.text.Piece.{Piece}
use Rattle.vortex_types.specs.declared.dtype.text.Piece.TheVariants.{Whole, Comma, Ending}
use Rattle.vortex_types.specs.declared.dtype.text.Piece.TheVariants as pieces
use Rattle.vortex_types.specs.LogicalTypes.{LogicalType, fixed_size_list_type}
use Rattle.vortex_types.specs.TypeOf.{type_of, fields_view}
use Rattle.vortex_types.specs.TypeParts.{type_weight}
use Rattle.vortex_types.specs.TypeCopies.{fields_cost}
use Rattle.vortex_types.specs.Texts.{comma, separator_before}
use Rattle.vortex_types.specs.DTypeTexts.{type_text, field_type_texts, closing, null_mark}

-- how many elements each list has, where the type fixes it
abbrev pub size_text : LogicalType → List ℕ
size_text (fixed_size_list_type t size n) = codes "; " ++ decimal size
size_text t = []

-- what follows the types inside
abbrev pub ending : LogicalType → List ℕ
ending t = size_text t ++ closing t ++ null_mark t

-- texts from the k-th of a list on, each after the separator except the first of the list
abbrev pub joined_from : List ℕ → ℕ → List (List ℕ) → List ℕ
joined_from separator k [] = []
joined_from separator k (t ∷ ts) =
    separator_before separator k ++ t ++ joined_from separator (suc k) ts

abbrev pub fields_text : StructFields → ℕ → List ℕ
fields_text f k = joined_from comma k (field_type_texts (fields_view (drop k f.fields.items)))

abbrev pub piece_text : Piece → List ℕ
piece_text (Whole t) = type_text (type_of t.now)
piece_text Comma = comma
piece_text (Ending t) = ending (type_of t.now)
piece_text (pieces.Fields f k) = fields_text f.now k

-- the last piece is written first
abbrev pub pieces_text : List Piece → List ℕ
pieces_text [] = []
pieces_text (p ∷ ps) = pieces_text ps ++ piece_text p

abbrev pub piece_cost : Piece → ℕ
piece_cost (Whole t) = 3 * type_weight t.now
piece_cost Comma = 1
piece_cost (Ending t) = 1
piece_cost (pieces.Fields f k) = fields_cost f.now k

abbrev pub pieces_cost : List Piece → ℕ
pieces_cost [] = 0
pieces_cost (p ∷ ps) = piece_cost p + pieces_cost ps
