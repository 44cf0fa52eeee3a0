-- Which types a function takes, and which it returns: data, so that no function proves it.
use Rattle.std.specs.Prelude.{List, [], ◌∷◌, Option, Some, None, Bool, true, false, ◌&&◌}
use Rattle.std.specs.Prelude.{◌||◌, ℤ, not}
use Rattle.std.specs.Prelude.{if◌then◌else◌}
use Rattle.std.specs.List.{list_any, list_all}
use Rattle.vortex_checked.specs.Exact.{is_outside}
use Rattle.vortex_types.specs.declared.dtype.PType.{PType}
use Rattle.vortex_types.specs.declared.dtype.PType.TheVariants.{I64}
use Rattle.vortex_types.specs.LogicalTypes.{LogicalType, bool_type, integer_type, text_type}
use Rattle.vortex_types.specs.LogicalTypes.{is_nullable, with_nullability, null_type}
use Rattle.vortex_types.specs.TypeEquality.{alike_types}
use Rattle.vortex_types.specs.Typing.{least_of, greatest_of}
use Rattle.vortex_sql_rows.specs.declared.types.Kind.{Kind}
use Rattle.vortex_sql_rows.specs.declared.types.Kind.TheVariants.{Any, Truth, Integer, Within, Text}
use Rattle.vortex_sql_rows.specs.declared.types.Takes.{Takes}
use Rattle.vortex_sql_rows.specs.declared.types.Takes.TheVariants.{Alike, Each, Cases}
use Rattle.vortex_sql_rows.specs.declared.types.Nulls.{Nulls}
use Rattle.vortex_sql_rows.specs.declared.types.Nulls.TheVariants as nulls_in
use Rattle.vortex_sql_rows.specs.declared.types.Gives.{Gives}
use Rattle.vortex_sql_rows.specs.declared.types.Gives.TheVariants as answer
use Rattle.vortex_sql_rows.specs.declared.types.Types.{Types}

-- the integer type has the number
abbrev pub is_in : PType → ℤ → Bool
is_in p z = not (is_outside (least_of p) (greatest_of p) z)

-- the first integer type has every number of the second
abbrev pub has_all_of : PType → PType → Bool
has_all_of p q = is_in p (least_of q) && is_in p (greatest_of q)

-- a truth value, an integer or a text
abbrev pub is_single : LogicalType → Bool
is_single (bool_type n) = true
is_single (integer_type p n) = true
is_single (text_type n) = true
is_single t = false

abbrev pub is_kind : Kind → LogicalType → Bool
is_kind Any (bool_type n) = true
is_kind Any (integer_type p n) = true
is_kind Any (text_type n) = true
is_kind Truth (bool_type n) = true
is_kind Integer (integer_type p n) = true
is_kind (Within q) (integer_type p n) = has_all_of q p
is_kind Text (text_type n) = true
is_kind k t = false

abbrev pub all_alike : LogicalType → List LogicalType → Bool
all_alike t = list_all (alike_types t)

abbrev pub after_first : Kind → Kind → List LogicalType → Bool
after_first b c [] = true
after_first b c (t ∷ ts) = is_kind b t && list_all (is_kind c) ts

-- what follows the first value: conditions, each with a value that is alike; a last value alone
abbrev pub are_cases : LogicalType → List LogicalType → Bool
are_cases t [] = true
are_cases t (u ∷ []) = alike_types t u
are_cases t (c ∷ u ∷ us) = is_kind Truth c && (alike_types t u && are_cases t us)

abbrev pub are_taken : Takes → List LogicalType → Bool
are_taken (Alike k) (t ∷ ts) = is_kind k t && all_alike t ts
are_taken (Each a b c) (t ∷ ts) = is_kind a t && after_first b c ts
are_taken Cases (c ∷ t ∷ ts) = is_kind Truth c && (is_kind Any t && are_cases t ts)
are_taken s ts = false

-- the type of the first argument, or of the first value of cases
abbrev pub main_type : Takes → List LogicalType → LogicalType
main_type Cases (c ∷ t ∷ ts) = t
main_type Cases ts = null_type
main_type s (t ∷ ts) = t
main_type s [] = null_type

-- the type of the result, but for null
abbrev pub given_type : Gives → LogicalType → LogicalType
given_type answer.Alike t = t
given_type answer.Truth t = bool_type false
given_type (answer.Integer p) t = integer_type p false
given_type answer.Text t = text_type false

-- no value is alone at the end of cases
abbrev pub lacks_last : {A : Type 0} → List A → Bool
lacks_last [] = true
lacks_last (x ∷ []) = false
lacks_last (x ∷ y ∷ xs) = lacks_last xs

abbrev pub nullable_by : Nulls → List LogicalType → Bool
nullable_by nulls_in.WhereAny ts = list_any is_nullable ts
nullable_by nulls_in.WhereAll ts = list_all is_nullable ts
nullable_by nulls_in.Cases ts = list_any is_nullable ts || lacks_last ts
nullable_by nulls_in.Always ts = true
nullable_by nulls_in.Never ts = false

abbrev pub answer_type : Types → List LogicalType → LogicalType
answer_type s ts =
    with_nullability (given_type s.gives (main_type s.takes ts)) (nullable_by s.nulls ts)

abbrev pub type_by : Types → List LogicalType → Option LogicalType
type_by s ts = if are_taken s.takes ts then Some (answer_type s ts) else None

-- which integer type it is; of others I64
abbrev pub ptype_in : LogicalType → PType
ptype_in (integer_type p n) = p
ptype_in t = I64
