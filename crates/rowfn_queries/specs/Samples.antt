-- Which records are among the first rows, whose fields give columns their types.
use Rattle.std.specs.Prelude.{◌==◌, ◌||◌, ◌&&◌, ℕ, List, Bool, not, length, if◌then◌else◌}
use Rattle.rowfn_csv.specs.Records.{has_surplus}
use Rattle.rowfn_queries.specs.declared.rows.Sampled.{Sampled}
use Rattle.rowfn_queries.specs.declared.rows.Sampled.TheVariants.{Row, LeftOut, End}

-- a record has so many fields; or, where records are fitted, fewer, or more of which those past that
-- many are empty
abbrev pub has_width : Bool → ℕ → List (List ℕ) → Bool
has_width fits width fields = (length fields == width) || (fits && not (has_surplus fields width))

-- a record that ends within quotes, or has a field that is too long, ends the first rows, and so does
-- one of another width, unless bad rows are left out
abbrev pub sampled_as : (skips wide within outgrown : Bool) → Sampled
sampled_as skips wide within outgrown =
    if within || outgrown then End
    else (if wide then Row else (if skips then LeftOut else End))
