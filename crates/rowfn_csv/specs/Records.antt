-- The fields that the bytes of a record say, without the end of its line: each stands bare, or in
-- quotes.
use Rattle.std.specs.Prelude.{◌≡◌, ◌≢◌, ⊤, Bool, true, false, ℕ, List, [], ◌∷◌, ◌++◌}
use Rattle.std.specs.Prelude.{Option, Some, None, not, map, if◌then◌else◌, get_or}
use Rattle.std.specs.Prelude.{option_map, length, take, drop, ◌-◌, ◌==◌}
use Rattle.std.specs.List.{flat_map, list_any}
use Rattle.std.specs.Str.{bytes_eq}
use Rattle.csv.specs.Records.{field_at}
use Rattle.rowfn_csv.specs.Fields.{doubled, quoted}
use Rattle.rowfn_csv.specs.Batches.{field_said}
use Rattle.rowfn_csv.specs.Formats.{is_null_field}
use Rattle.rowfn_csv.specs.Truths.{respelled}
use Rattle.rowfn_csv.specs.declared.format.Format.{Format}
use Rattle.rowfn_csv.specs.declared.truths.Spelled.{Spelled}

-- a field by its text, as it stands
pub data Field : Type 0 where
  bare : List ℕ → Field
  in_quotes : List ℕ → Field

-- no byte is that one
abbrev pub Lacks : ℕ → List ℕ → Type 0
Lacks c [] = ⊤
Lacks c (b ∷ bs) = (b ≢ c) × Lacks c bs

-- the first byte, if there is one, is no quote
abbrev pub BeginsBare : List ℕ → Type 0
BeginsBare [] = ⊤
BeginsBare (b ∷ bs) = b ≢ 34

-- A field stands bare: bytes without a delimiter, of which the first is no quote. Or it stands in
-- quotes, each quote in it twice; what stands bare behind them is read as more of it. Of one that
-- is open the quote that closes it is lacking.
abbrev pub Spells : ℕ → Bool → Field → List ℕ → Type 0
Spells delimiter closed (bare text) bytes =
    (closed ≡ true) × (bytes ≡ text) × Lacks delimiter text × BeginsBare text
Spells delimiter true (in_quotes text) bytes =
    (inner behind : List ℕ) × (text ≡ inner ++ behind) × (bytes ≡ quoted inner ++ behind)
    × Lacks delimiter behind × BeginsBare behind
Spells delimiter false (in_quotes text) bytes = bytes ≡ 34 ∷ flat_map doubled text

-- A record says fields: one at least, with a delimiter between each two. All are closed but the
-- last, which may be open.
abbrev pub SaysFields : ℕ → Bool → List ℕ → List Field → Type 0
SaysFields delimiter closed bytes [] = ⊥
SaysFields delimiter closed bytes (f ∷ []) = Spells delimiter closed f bytes
SaysFields delimiter closed bytes (f ∷ g ∷ fs) =
    (spelling rest : List ℕ) × (bytes ≡ spelling ++ (delimiter ∷ rest))
    × Spells delimiter true f spelling × SaysFields delimiter closed rest (g ∷ fs)

abbrev pub is_quoted : Field → Bool
is_quoted (bare text) = false
is_quoted (in_quotes text) = true

-- whether the field at a place stands in quotes; none does where there is none
abbrev pub quoted_at : List Field → ℕ → Bool
quoted_at said i = get_or (map is_quoted said) i false

-- what a row takes of a field, by its text, if the record has it, and whether it is in quotes:
-- nothing for null. A field past the record's end is null where records are fitted, and else an empty
-- text.
abbrev pub field_by : Format → Option (List ℕ) → Bool → Option (List ℕ)
field_by format None is_in_quotes = if format.fits then None else Some []
field_by format (Some text) is_in_quotes = field_said text (is_null_field format text is_in_quotes)

-- what a row takes of the field at a place of a record, by the texts of its fields and how they are
-- written
abbrev pub field_taken : Format → List (List ℕ) → List Field → ℕ → Option (List ℕ)
field_taken format texts said i = field_by format (field_at texts i) (quoted_at said i)

-- the same, in a column whose truth values may be in any spelling
abbrev pub field_spelled : Format → List (List ℕ) → List Field → Spelled → Option (List ℕ)
field_spelled format texts said s =
    option_map (respelled s.is_truth) (field_taken format texts said s.place)

-- a field past that many is not empty
abbrev pub is_filled : List ℕ → Bool
is_filled text = not (length text == 0)

abbrev pub has_surplus : List (List ℕ) → ℕ → Bool
has_surplus texts width = list_any is_filled (drop width texts)

-- whether bytes end with one, and what is left without it
abbrev pub ends_in : List ℕ → ℕ → Bool
ends_in bytes c = bytes_eq (drop (length bytes - 1) bytes) (c ∷ [])

abbrev pub without_last : ℕ → List ℕ → List ℕ
without_last c bytes = if ends_in bytes c then take (length bytes - 1) bytes else bytes

-- a line without its end: a line feed, a carriage return, or the two
abbrev pub without_line_end : List ℕ → List ℕ
without_line_end bytes = without_last 13 (without_last 10 bytes)

-- each line says fields
abbrev pub EachRecordHasFields : Type 0
EachRecordHasFields =
    (delimiter : ℕ) (bytes : List ℕ) → delimiter ≢ 34
    → (closed : Bool) × (fields : List Field) × SaysFields delimiter closed bytes fields
