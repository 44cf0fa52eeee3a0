-- Fields as they are written: what asks for quotes, and how a field stands in them.
use Rattle.std.specs.Prelude.{Bool, ◌==◌, ◌||◌, ℕ, List, [], ◌∷◌, ◌++◌, length, codes, nat_eq}
use Rattle.std.specs.Prelude.{if◌then◌else◌}
use Rattle.std.specs.List.{list_any, flat_map, starts_with}
use Rattle.std.specs.Str.{bytes_eq}
use Rattle.rowfn_csv.specs.declared.format.Format.{Format}
use Rattle.rowfn_csv.specs.Formats.{is_null_text, is_comment_line}

-- a byte that asks for quotes around the field: a quote, the delimiter, or one that ends a line
abbrev pub is_special : ℕ → ℕ → Bool
is_special delimiter byte =
    (byte == 34) || ((byte == delimiter) || ((byte == 10) || (byte == 13)))

-- what other programs take for something else: `\.` ends PostgreSQL's COPY, and a byte order mark
-- at the start of an input is passed over
abbrev pub is_mistaken : List ℕ → Bool
is_mistaken field =
    bytes_eq field (codes "\\.") || starts_with nat_eq field (239 ∷ 187 ∷ 191 ∷ [])

-- a text is written in quotes where it is empty, holds such a byte, or would be read as null, be
-- skipped as a comment or be mistaken without
abbrev pub needs_quotes : Format → List ℕ → Bool
needs_quotes format field =
    (length field == 0) || (list_any (is_special format.output_delimiter) field
    || (is_null_text format field || (is_comment_line format.comment field || is_mistaken field)))

-- a byte between the quotes: a quote stands twice
abbrev pub doubled : ℕ → List ℕ
doubled byte = if byte == 34 then 34 ∷ 34 ∷ [] else byte ∷ []

abbrev pub quoted : List ℕ → List ℕ
quoted field = 34 ∷ (flat_map doubled field ++ (34 ∷ []))

-- a text as a field
abbrev pub text_field : Format → List ℕ → List ℕ
text_field format field = if needs_quotes format field then quoted field else field
