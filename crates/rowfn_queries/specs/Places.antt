-- Where columns stand in the rows of an input, counted from 0.
use Rattle.std.specs.Prelude.{◌==◌, ◌&&◌, ℕ, zero, suc, ℤ, pos, negsuc, List, [], ◌∷◌, Bool, map}
use Rattle.std.specs.Prelude.{Option, Some, None, if◌then◌else◌, nat_lt, get_or, option_map}
use Rattle.std.specs.List.{range_with_len}
use Rattle.std.specs.Option.{option_and_then}
use Rattle.vortex_types.specs.FieldNames.{field_name}
use Rattle.vortex_types.specs.LogicalTypes.{Fields, find_field, field_count}
use Rattle.vortex_cells.specs.CellValues.{integer_of}
use Rattle.rowfn_queries.specs.Inference.{begins_number}
use Rattle.rowfn_queries.specs.DeclaredColumns.{DeclaredColumns}

-- a place from 1 to 1,000,000, counted from 0
abbrev pub place_of_number : ℤ → Option ℕ
place_of_number (pos zero) = None
place_of_number (pos (suc n)) = if nat_lt n 1000000 then Some n else None
place_of_number (negsuc n) = None

abbrev pub place_of_digits : List ℕ → Option ℕ
place_of_digits digits = option_and_then place_of_number (integer_of digits)

-- the column `c1`, `c2`, ..
abbrev pub numbered_place : List ℕ → Option ℕ
numbered_place [] = None
numbered_place (b ∷ bs) = if b == 99 && begins_number bs then place_of_digits bs else None

-- the first of two, else the second
abbrev pub or_else : Option ℕ → Option ℕ → Option ℕ
or_else (Some p) o = Some p
or_else None o = o

-- the number of a declared column
abbrev pub turn : DeclaredColumns → List ℕ → Option ℕ
turn d name = option_map (λ found. found.0) (find_field name d.fields)

-- the place that it has by its declaration
abbrev pub declared_place : DeclaredColumns → List ℕ → Option ℕ
declared_place d name = option_and_then (λ k. get_or d.places k None) (turn d name)

-- the place of a column of an input without a header: the one that is declared, else that of `c1`,
-- `c2`, .., else its turn among those that are declared
abbrev pub place_without_header : DeclaredColumns → List ℕ → Option ℕ
place_without_header d name =
    or_else (declared_place d name) (or_else (numbered_place name) (turn d name))

-- the place of a column; a header says it where none is declared
abbrev pub place_of : DeclaredColumns → Bool → List ℕ → Option ℕ
place_of d header name = if header then declared_place d name else place_without_header d name

abbrev pub places_of : DeclaredColumns → Bool → Fields → List (Option ℕ)
places_of d header columns =
    map (λ k. place_of d header (field_name k columns)) (range_with_len 0 (field_count columns))
