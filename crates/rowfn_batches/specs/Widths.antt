-- Whether a record has as many fields as a row.
use Rattle.std.specs.Prelude.{◌==◌, ◌||◌, ◌&&◌, ℕ, List, Bool, false, not, Option, Some, None, length}
use Rattle.std.specs.Prelude.{unwrap_or}
use Rattle.csv.specs.Records.{fields_of}
use Rattle.rowfn_csv.specs.Records.{has_surplus}
use Rattle.rowfn_batches.specs.declared.stream.Stream.{Stream}
use Rattle.rowfn_batches.specs.declared.filter.Condition.{Condition}
use Rattle.rowfn_batches.specs.Layouts.{width_by}

-- how many fields each row has where the first one has found: that many, but no fewer than reach
-- to each column of the answers and of the condition
abbrev pub first_width : List ℕ → Option Condition → ℕ → ℕ
first_width places None found = width_by places found
first_width places (Some c) found = width_by c.layout.places.items (width_by places found)

-- how many fields each row of a stream has, whose last record is the first row where no header says it
abbrev pub row_width : {R : Type 0} → Stream R → ℕ
row_width s =
    unwrap_or s.width
    (first_width s.layout.places.items s.condition (length (fields_of s.records.last)))

-- a record has as many fields as are expected: so many; or, where records are fitted, fewer, or more
-- of which those past that many are empty
abbrev pub has_width : Bool → Option ℕ → List (List ℕ) → Bool
has_width fits None fields = false
has_width fits (Some width) fields =
    (length fields == width) || (fits && not (has_surplus fields width))

-- and it is a row, unless it ends within quotes or a field is too long
abbrev pub is_whole : Bool → Bool → Bool → Bool
is_whole wide within outgrown = (wide && not within) && not outgrown
