-- Cells that are written as a line, and the fields that the line says.
use Rattle.std.specs.Prelude.{◌≡◌, ◌≢◌, ⊤, true, false, ℕ, List, [], ◌∷◌, Option, Some, None, map}
use Rattle.std.specs.List.{join_by}
use Rattle.rowfn_csv.specs.declared.format.Format.{Format}
use Rattle.rowfn_csv.specs.Batches.{field_said}
use Rattle.rowfn_csv.specs.Formats.{is_null_field, begins_comment, is_comment_line}
use Rattle.rowfn_csv.specs.Fields.{text_field}
use Rattle.rowfn_csv.specs.Records.{Field, bare, in_quotes, Lacks, BeginsBare, SaysFields}

-- a cell as a field: nothing is written as the text for null
abbrev pub cell_field : Format → Option (List ℕ) → List ℕ
cell_field format None = format.null.now
cell_field format (Some text) = text_field format text

-- the cell that a field says
abbrev pub cell_said : Format → Field → Option (List ℕ)
cell_said format (bare text) = field_said text (is_null_field format text false)
cell_said format (in_quotes text) = field_said text (is_null_field format text true)

-- what is read of a cell that was written: itself, but null for a text that is null in quotes too
abbrev pub cell_read : Format → Option (List ℕ) → Option (List ℕ)
cell_read format None = None
cell_read format (Some text) = field_said text (is_null_field format text true)

-- fields with a delimiter between each two
abbrev pub fields_line : ℕ → List (List ℕ) → List ℕ
fields_line delimiter = join_by (λ field. field) (delimiter ∷ [])

-- no line ends in a text that stands bare
abbrev pub StandsInLine : Field → Type 0
StandsInLine (bare text) = Lacks 10 text × Lacks 13 text
StandsInLine (in_quotes text) = ⊤

abbrev pub AllStandInLine : List Field → Type 0
AllStandInLine [] = ⊤
AllStandInLine (f ∷ fs) = StandsInLine f × AllStandInLine fs

module _ (format : Format) where
  -- the text that is written for null is a field of its own where it stands bare, and no comment
  pub record MayBeNull : Type 0 where
    pub whole : Lacks format.output_delimiter format.null.now
    pub begins : BeginsBare format.null.now
    pub lines : StandsInLine (bare format.null.now)
    pub no_comment : is_comment_line format.comment format.null.now ≡ false

  -- what is written in that format can be read: the delimiter is no quote, null may be written so,
  -- and neither a quote nor the delimiter begins a comment
  pub record CanReadBack : Type 0 where
    pub delimiter : format.output_delimiter ≢ 34
    pub null : MayBeNull
    pub quote_begins_none : begins_comment format.comment 34 ≡ false
    pub delimiter_begins_none : begins_comment format.comment format.output_delimiter ≡ false

  -- the line is no comment and says fields, none of which ends within it, and those say the cells
  pub record SaysCells (line : List ℕ) (cells : List (Option (List ℕ))) : Type 0 where
    pub fields : List Field
    pub said : SaysFields format.output_delimiter true line fields
    pub in_line : AllStandInLine fields
    pub cells_said : map (cell_said format) fields ≡ cells
    pub no_comment : is_comment_line format.comment line ≡ false

  -- the line of cells
  abbrev pub cells_line : List (Option (List ℕ)) → List ℕ
  cells_line cells = fields_line format.output_delimiter (map (cell_field format) cells)

-- cells that are written are read as themselves, but for texts that are null in quotes too
abbrev pub CellsReadBack : Type 0
CellsReadBack =
    (format : Format) (cells : List (Option (List ℕ))) → CanReadBack format → cells ≢ []
    → SaysCells format (cells_line format cells) (map (cell_read format) cells)
