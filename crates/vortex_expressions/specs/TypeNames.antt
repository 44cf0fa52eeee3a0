-- Types by name: those of this language, and SQL's, in either case.
use Rattle.std.specs.Prelude.{ℕ, List, Bool, ◌||◌, Option, Some, None, codes, if◌then◌else◌}
use Rattle.std.specs.Option.{option_or}
use Rattle.vortex_types.specs.declared.dtype.PType.TheVariants.{I8, I16, I32, I64}
use Rattle.vortex_types.specs.LogicalTypes.{LogicalType, bool_type, integer_type, text_type}
use Rattle.vortex_cells.specs.TypeWords.{type_named}
use Rattle.vortex_syntax.specs.Keywords.{same_word}

abbrev pub is_smallint : List ℕ → Bool
is_smallint w = same_word w (codes "smallint") || same_word w (codes "int2")

abbrev pub is_int : List ℕ → Bool
is_int w =
    same_word w (codes "int") || (same_word w (codes "integer") || same_word w (codes "int4"))

abbrev pub is_bigint : List ℕ → Bool
is_bigint w = same_word w (codes "bigint") || same_word w (codes "int8")

abbrev pub is_text : List ℕ → Bool
is_text w = same_word w (codes "text") || same_word w (codes "varchar")

-- with null where the flag is true
abbrev pub sql_type : Bool → List ℕ → Option LogicalType
sql_type n w =
    if same_word w (codes "boolean") then Some (bool_type n)
    else (if same_word w (codes "tinyint") then Some (integer_type I8 n)
    else (if is_smallint w then Some (integer_type I16 n)
    else (if is_int w then Some (integer_type I32 n)
    else (if is_bigint w then Some (integer_type I64 n)
    else (if is_text w then Some (text_type n) else None)))))

abbrev pub named_type : Bool → List ℕ → Option LogicalType
named_type n w = option_or (type_named n w) (sql_type n w)
