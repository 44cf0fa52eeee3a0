-- The bytes of the last record that was read.
use Rattle.std.specs.Prelude.{◌≡◌, ℕ, List, [], Bool, ◌-◌, ◌&&◌, ◌++◌, length, nat_le, slice_range}
use Rattle.std.specs.Prelude.{take, if◌then◌else◌}
use Rattle.csv.specs.Reading.{reader_source}
use Rattle.rowfn_csv.specs.Comments.{bytes_given, lines_after}
use Rattle.rowfn_csv.specs.declared.comments.Lines.{Lines}
use Rattle.rowfn_csv.specs.declared.tee.Tee.{Tee}
use Rattle.rowfn_csv.specs.declared.records.Records.{Records}
use Rattle.rowfn_csv.specs.declared.records.Span.{Span}
use Rattle.rowfn_csv.specs.Records.{without_line_end}

-- bytes from one place up to another; none where they do not reach so far
abbrev pub part : List ℕ → ℕ → ℕ → List ℕ
part bytes start end =
    if nat_le start end && nat_le end (length bytes) then slice_range bytes start end else []

-- those between two places of the input that are kept
abbrev pub bytes_between : {R : Type 0} → Tee R → ℕ → ℕ → List ℕ
bytes_between tee start end = part tee.kept.items (start - tee.first) (end - tee.first)

-- the bytes of a line that is still kept
abbrev pub line_of : {R : Type 0} → Records R → Span → List ℕ
line_of rows span = bytes_between (reader_source rows.reader) span.start span.end

-- those of the last record, without the end of its line
abbrev pub last_bytes : {R : Type 0} → Records R → List ℕ
last_bytes rows = without_line_end (line_of rows rows.span)

-- whether the reader below has told its end
abbrev pub is_ended : {R : Type 0} → Records R → Bool
is_ended rows = (reader_source rows.reader).ended

-- the first bytes that are given are the last that are kept: line feeds in place of comments
pub record GivesLines {R : Type 0} (count : ℕ) (buf : List ℕ) (lines : Lines) (tee : Tee R) : Type 0
  where
    pub before : List ℕ
    pub bytes : List ℕ
    pub kept : tee.kept.items ≡ before ++ bytes
    pub given : take count buf ≡ bytes_given lines bytes
    pub lines_are : tee.lines ≡ lines_after lines bytes
