-- What a read of a record leaves as it was, and what is left behind the last record.
use Rattle.std.specs.Prelude.{◌≡◌, ◌≢◌, ◌<◌, ◌≤◌, ◌-◌, ◌||◌, ◌&&◌, ◌==◌, ℕ, List, Bool, Option}
use Rattle.std.specs.Prelude.{IsSome, length, drop, take, fold, slice_index, [], ◌∷◌, ⊤}
use Rattle.std.specs.Prelude.{true, false, not, min, ◌+◌, ◌^◌, nat_eq, if◌then◌else◌}
use Rattle.std.specs.List.{starts_with}
use Rattle.csv.specs.Reading.{reader_source}
use Rattle.rowfn_csv.specs.declared.raw.RecordPlace.{RecordPlace}
use Rattle.rowfn_csv.specs.declared.raw.RecordPlace.TheVariants as at
use Rattle.rowfn_csv.specs.declared.records.Records.{Records}
use Rattle.rowfn_csv.specs.declared.records.FoundRecord.{FoundRecord}
use Rattle.rowfn_csv.specs.declared.records.FoundRecord.TheVariants as found
use Rattle.rowfn_csv.specs.declared.records.RecordError.{RecordError}
use Rattle.rowfn_csv.specs.declared.tee.Tee.{Tee}
use Rattle.rowfn_csv.specs.Formats.{is_line_end, begins_comment, is_comment_line}
use Rattle.rowfn_csv.specs.KeptLines.{line_of}
use Rattle.rowfn_csv.specs.Scanning.{place_behind}

-- how fields are parted, and how long one may be, stay
pub record KeepsFormat {R : Type 0} (old now : Records R) : Type 0 where
  pub format : now.format ≡ old.format
  pub limit : now.limit ≡ old.limit

-- why a read failed is there exactly where it failed: else what was there stays
abbrev pub TellsWhy : FoundRecord → Option RecordError → Option RecordError → Type 0
TellsWhy found.Failed old now = IsSome now
TellsWhy found.Record old now = now ≡ old
TellsWhy found.End old now = now ≡ old

-- a read keeps how it reads, and tells why it failed
pub record ReadsOne {R : Type 0} (old now : Records R) (result : FoundRecord) : Type 0 where
  pub kept : KeepsFormat old now
  pub why : TellsWhy result old.error now.error

-- where the byte behind these stands, of which the first begins a field
abbrev pub place_after : ℕ → List ℕ → RecordPlace
place_after delimiter bytes = fold (place_behind delimiter) at.Start bytes

-- a line ends at that byte, outside quotes
pub record EndsLineAt (delimiter : ℕ) (bytes : List ℕ) (i : ℕ) : Type 0 where
  pub below : i < length bytes
  pub ends : is_line_end (slice_index bytes i) ≡ true
  pub bare : place_after delimiter (take i bytes) ≢ at.Quoted

abbrev pub HasLineEnd : ℕ → List ℕ → Type 0
HasLineEnd delimiter bytes = (i : ℕ) × EndsLineAt delimiter bytes i

-- the last ones of bytes
pub record IsEndOf (bytes rest : List ℕ) : Type 0 where
  pub few : length rest ≤ length bytes
  pub last : rest ≡ drop (length bytes - length rest) bytes

-- bytes from the first record on: without the ends of lines and the comments before it; the first
-- bytes may belong to a comment
abbrev pub from_record : Option ℕ → Bool → List ℕ → List ℕ
from_record comment in_comment [] = []
from_record comment in_comment (b ∷ bs) =
    if is_line_end b then from_record comment false bs
    else (if in_comment || begins_comment comment b then from_record comment true bs else b ∷ bs)

-- bytes without the comments with which they begin, and without the ends of their lines; the first
-- byte may belong to a comment, or may be after a carriage return that ends one
abbrev pub after_comments : Option ℕ → Bool → Bool → List ℕ → List ℕ
after_comments comment in_comment after_return [] = []
after_comments comment in_comment after_return (b ∷ bs) =
    if (in_comment || (after_return && (b == 10))) || begins_comment comment b
    then after_comments comment (not (is_line_end b)) (b == 13) bs
    else b ∷ bs

-- the bytes from a place of the input on, as far as they were read
abbrev pub bytes_from : {R : Type 0} → Tee R → ℕ → List ℕ
bytes_from tee start = drop (start - tee.first) tee.kept.items

-- the place after a byte order mark, where that is the start of the input; else the same
abbrev pub after_mark : {R : Type 0} → Tee R → ℕ → ℕ
after_mark tee place =
    if (place == 0) && starts_with nat_eq tee.kept.items (239 ∷ 187 ∷ 191 ∷ []) then 3 else place

-- the place after such a mark and the comments at a place; at most what 64 bits hold
abbrev pub behind_comments : {R : Type 0} → Records R → ℕ → ℕ
behind_comments rows place = min (start + (length bytes - length rest)) (2 ^ 64 - 1)
  where
    start : ℕ
    start = after_mark (reader_source rows.reader) place

    bytes : List ℕ
    bytes = bytes_from (reader_source rows.reader) start

    rest : List ℕ
    rest = after_comments rows.format.comment false false bytes

-- those after the last record, from the next one on
abbrev pub bytes_behind : {R : Type 0} → Records R → List ℕ
bytes_behind rows =
    from_record rows.format.comment false (bytes_from (reader_source rows.reader) rows.span.end)

-- a record that was read is no comment: its line begins with no comment byte
abbrev pub IsNoComment : {R : Type 0} → FoundRecord → Records R → Type 0
IsNoComment found.Record rows = is_comment_line rows.format.comment (line_of rows rows.span) ≡ false
IsNoComment found.End rows = ⊤
IsNoComment found.Failed rows = ⊤
