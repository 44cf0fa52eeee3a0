-- The types of declared columns: `i64`, `utf8?`, `date`, `f64?`, `decimal(12,2)`, `decimal?(12,2)`.
use Rattle.std.specs.Prelude.{ℕ, List, [], ◌∷◌, Bool, true, false, ◌&&◌, ◌||◌, Option, Some, None}
use Rattle.std.specs.Prelude.{codes, if◌then◌else◌}
use Rattle.std.specs.Option.{option_and_then}
use Rattle.std.specs.Str.{bytes_eq, is_utf8}
use Rattle.vortex_types.specs.LogicalTypes.{LogicalType}
use Rattle.vortex_syntax.specs.declared.token.Sign.TheVariants as sign
use Rattle.vortex_syntax.specs.SizeDigits.{sizes_of}
use Rattle.vortex_syntax.specs.Tokens.{Token, name, nullable, function, number, sign}
use Rattle.vortex_logical.specs.declared.kind.Kind.{Kind}
use Rattle.vortex_logical.specs.Kinds.{decimal_kind, digit_of, teen_of}
use Rattle.vortex_expressions.specs.TypeNames.{named_type}
use Rattle.vortex_expressions.specs.KindCasts.{word_kind}
use Rattle.rowfn_queries.specs.declared.scope.ScopeReason.TheVariants as reason
use Rattle.rowfn_queries.specs.declared.types.WrittenType.{WrittenType}
use Rattle.rowfn_queries.specs.ColumnTypes.{KindedType, plain, type_in, of_kind}
use Rattle.rowfn_queries.specs.Outcomes.{Outcome, answers, refuses, and_then}

abbrev pub is_comma : Token → Bool
is_comma (sign sign.Comma) = true
is_comma t = false

abbrev pub is_open : Token → Bool
is_open (sign sign.Open) = true
is_open t = false

abbrev pub is_close : Token → Bool
is_close (sign sign.Close) = true
is_close t = false

abbrev pub token_text : List ℕ → Outcome (List ℕ)
token_text bs = if is_utf8 bs then answers bs else refuses reason.NotUtf8

-- a type, and how many tokens of it follow its first
pub record TypeAt : Type 0 where
  pub column : KindedType
  pub further : ℕ

abbrev pub type_by : WrittenType → TypeAt
type_by w = record { column = type_in w.column; further = w.further }

abbrev pub if_known : ℕ → Option KindedType → Outcome TypeAt
if_known further None = refuses reason.UnknownType
if_known further (Some t) = answers (record { column = t; further = further })

-- a type of expressions, else the kind
abbrev pub or_kind : Bool → Option LogicalType → Option Kind → Option KindedType
or_kind n (Some t) k = Some (plain t)
or_kind n None k = option_and_then (of_kind n) k

-- the type of that name, one of SQL's too, with null or without
abbrev pub declared_type : Bool → List ℕ → Option KindedType
declared_type n w = or_kind n (named_type n w) (word_kind w)

abbrev pub type_of_name : Bool → List ℕ → Outcome TypeAt
type_of_name n w = and_then (token_text w) (λ v. if_known 0 (declared_type n v))

abbrev pub is_decimal_word : List ℕ → Bool
is_decimal_word w = bytes_eq w (codes "decimal") || bytes_eq w (codes "numeric")

-- a number from 0 to 19
abbrev pub count_of : List ℕ → Option ℕ
count_of (b ∷ []) = digit_of b
count_of (t ∷ b ∷ []) = teen_of t b
count_of bs = None

abbrev pub count_in : Token → Option ℕ
count_in (number digits) = count_of digits
count_in t = None

abbrev pub kind_with : Option ℕ → Option ℕ → Option Kind
kind_with (Some p) (Some s) = decimal_kind p s
kind_with p s = None

-- the decimal of the digits `12, 2)`
abbrev pub decimal_of : List Token → Option Kind
decimal_of (p ∷ c ∷ s ∷ e ∷ ts) =
    if is_comma c && is_close e then kind_with (count_in p) (count_in s) else None
decimal_of ts = None

-- the same, of so many tokens
abbrev pub decimal_at : Bool → ℕ → List Token → Outcome TypeAt
decimal_at n further ts = if_known further (option_and_then (of_kind n) (decimal_of ts))

-- a word, and behind that of a decimal, if a bracket opens there, its digits
abbrev pub type_at_word : Bool → List ℕ → List Token → Outcome TypeAt
type_at_word n w [] = type_of_name n w
type_at_word n w (o ∷ ts) =
    if is_decimal_word w && is_open o then decimal_at n 5 ts else type_of_name n w

-- the decimal of the digits in its name
abbrev pub sized_kind : List ℕ × List ℕ → Option Kind
sized_kind x = kind_with (count_of x.0) (count_of x.1)

abbrev pub sized_or_word : List ℕ → List Token → Option (List ℕ × List ℕ) → Outcome TypeAt
sized_or_word w ts None = type_at_word false w ts
sized_or_word w ts (Some x) = if_known 0 (option_and_then (of_kind false) (sized_kind x))

-- the type that begins with a token, and has null where a question mark stands behind its word; the
-- bracket of digits stands right behind the word, and is of its name, or apart
abbrev pub type_at : Token → List Token → Outcome TypeAt
type_at (name w) ts = sized_or_word w ts (sizes_of w)
type_at (nullable w) ts = type_at_word true w ts
type_at (function w) ts = refuses reason.UnknownType
type_at t ts = refuses reason.NoType
