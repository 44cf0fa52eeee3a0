-- How values and columns are printed, in the bytes of UTF-8.
use Rattle.std.specs.Prelude.{ℕ, ◌/◌, ◌%◌, List, [], ◌∷◌, ◌++◌, Bool, true, false, codes}
use Rattle.std.specs.Fmt.{digit_glyph, signed_decimal}
use Rattle.std.specs.List.{flat_map}
use Rattle.vortex_types.specs.TypeTexts.{ptype_text}
use Rattle.vortex_types.specs.DTypeTexts.{type_text}
use Rattle.vortex_types.specs.LogicalTypes.{LogicalType, integer_type, struct_type, list_type}
use Rattle.vortex_types.specs.LogicalTypes.{fixed_size_list_type, map_type, Fields, no_fields}
use Rattle.vortex_types.specs.LogicalTypes.{field}
use Rattle.vortex_types.specs.Texts.{joined, comma, quote}
use Rattle.vortex_types.specs.Values.{Value, null, truth, number, text, bytes, list}
use Rattle.vortex_types.specs.Values.{Values, no_values, value}
use Rattle.vortex_columns.specs.ColumnView.{ColumnView}

-- what follows a whole number: its type, nullable or not, if numbers are typed
abbrev pub number_suffix : Bool → LogicalType → List ℕ
number_suffix true (integer_type p n) = ptype_text p
number_suffix typed t = []

abbrev pub truth_text : Bool → List ℕ
truth_text true = codes "true"
truth_text false = codes "false"

-- a byte as two lower-case hexadecimal digits
abbrev pub hex_text : ℕ → List ℕ
hex_text b = digit_glyph false (b / 16) ∷ digit_glyph false (b % 16) ∷ []

-- a map's entry is a struct of its key and value
abbrev pub entry_type : LogicalType → LogicalType → LogicalType
entry_type k v = struct_type (field (codes "key") k (field (codes "value") v no_fields)) false

-- the type of a list's elements and of a map's entries
abbrev pub element_type : LogicalType → LogicalType
element_type (list_type t n) = t
element_type (fixed_size_list_type t s n) = t
element_type (map_type k v n) = entry_type k v
element_type t = t

abbrev mutual
  -- the text of a value of that type, whose whole numbers are typed or not
  pub value_text : Bool → LogicalType → Value → List ℕ
  value_text typed t null = codes "null"
  value_text typed t (truth b) = truth_text b
  value_text typed t (number z) = signed_decimal z ++ number_suffix typed t
  value_text typed t (text bs) = quote ++ bs ++ quote
  value_text typed t (bytes bs) = codes "0x" ++ flat_map hex_text bs
  value_text typed (struct_type fs n) (list vs) =
      codes "{" ++ joined comma (field_texts typed fs vs) ++ codes "}"
  value_text typed t (list vs) =
      codes "[" ++ joined comma (value_texts typed (element_type t) vs) ++ codes "]"

  pub value_texts : Bool → LogicalType → Values → List (List ℕ)
  value_texts typed t no_values = []
  value_texts typed t (value v vs) = value_text typed t v ∷ value_texts typed t vs

  -- each after its field's name
  pub field_texts : Bool → Fields → Values → List (List ℕ)
  field_texts typed fs no_values = []
  field_texts typed no_fields (value v vs) = []
  field_texts typed (field name t fs) (value v vs) =
      (name ++ codes ": " ++ value_text typed t v) ∷ field_texts typed fs vs

-- the text of a literal: each whole number in it with its type
abbrev pub literal_text : LogicalType → Value → List ℕ
literal_text = value_text true

-- the cells of a column, each after a space
abbrev pub cells_text : LogicalType → List Value → List ℕ
cells_text t = flat_map (λ v. codes " " ++ value_text false t v)

-- the type, a colon, and the cells
abbrev pub column_text : ColumnView → List ℕ
column_text c = (type_text c.dtype ++ codes ":") ++ cells_text c.dtype c.rows
