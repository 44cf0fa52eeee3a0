-- Where operands of two integer types meet: in the narrowest type that has every number of both.
use Rattle.std.specs.Prelude.{List, [], ◌∷◌, Option, Some, None, Bool, ◌&&◌, not}
use Rattle.std.specs.Prelude.{if◌then◌else◌}
use Rattle.std.specs.List.{find}
use Rattle.std.specs.Option.{unwrap_or}
use Rattle.vortex_types.specs.declared.dtype.PType.{PType}
use Rattle.vortex_types.specs.declared.dtype.PType.TheVariants.{I8, I16, I32, I64, U8, U16, U32}
use Rattle.vortex_types.specs.declared.dtype.PType.TheVariants.{U64}
use Rattle.vortex_types.specs.LogicalTypes.{LogicalType, integer_type}
use Rattle.vortex_sql_rows.specs.Types.{has_all_of}

-- from the narrowest
abbrev pub integer_types : List PType
integer_types = I8 ∷ U8 ∷ I16 ∷ U16 ∷ I32 ∷ U32 ∷ I64 ∷ U64 ∷ []

-- the third type has every number of the first two
abbrev pub has_both : PType → PType → PType → Bool
has_both p q r = has_all_of r p && has_all_of r q

-- the narrowest type that has every number of both; the first of both where there is none
abbrev pub wider : PType → PType → PType
wider p q = unwrap_or (find (has_both p q) integer_types) p

-- the type in which values of two types meet; the first where they do not
abbrev pub met : LogicalType → LogicalType → LogicalType
met (integer_type p n) (integer_type q m) = integer_type (wider p q) n
met t u = t

-- with one more type, where there is one; and with more, from left to right
abbrev pub met_next : Option LogicalType → Option LogicalType → Option LogicalType
met_next None o = o
met_next (Some t) None = Some t
met_next (Some t) (Some u) = Some (met t u)

abbrev pub meeting_type : Option LogicalType → List (Option LogicalType) → Option LogicalType
meeting_type o [] = o
meeting_type o (p ∷ ps) = meeting_type (met_next o p) ps

-- the type to which a value of the second type is cast to meet the first: an integer type that has
-- its numbers, and more
abbrev pub widened_to : LogicalType → LogicalType → Option PType
widened_to (integer_type p n) (integer_type q m) =
    if has_all_of p q && not (has_all_of q p) then Some p else None
widened_to t u = None
