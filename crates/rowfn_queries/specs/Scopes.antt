-- Columns as they are declared: `price decimal(12,2), stock i32?, "unit price" i64, 7 as "day" date`.
use Rattle.std.specs.Prelude.{◌≡◌, ℕ, zero, suc, List, [], ◌∷◌, Bool, true, false, Option, Some}
use Rattle.std.specs.Prelude.{None, if◌then◌else◌}
use Rattle.vortex_types.specs.LogicalTypes.{LogicalType, Fields, find_field}
use Rattle.vortex_syntax.specs.declared.token.Sign.TheVariants as sign
use Rattle.vortex_syntax.specs.declared.error.SyntaxError.{SyntaxError}
use Rattle.vortex_syntax.specs.declared.error.SyntaxError.TheVariants as syntax
use Rattle.vortex_syntax.specs.Tokens.{Token, name, quoted, number, sign}
use Rattle.vortex_syntax.specs.Lexing.{Lexes}
use Rattle.vortex_expressions.specs.Calls.{unquoted}
use Rattle.rowfn_queries.specs.declared.scope.ScopeReason.{ScopeReason}
use Rattle.rowfn_queries.specs.declared.scope.ScopeReason.TheVariants as reason
use Rattle.rowfn_queries.specs.DeclaredColumns.{DeclaredColumns, no_columns, with_column}
use Rattle.rowfn_queries.specs.DeclaredTypes.{is_comma, token_text, type_at}
use Rattle.rowfn_queries.specs.Outcomes.{Outcome, answers, refuses, and_then}
use Rattle.rowfn_queries.specs.Places.{place_of_digits}

-- the name that a token says, without its quotes
abbrev pub written_name : Token → Outcome (List ℕ)
written_name (name w) = token_text w
written_name (quoted w) = token_text (unquoted 34 w)
written_name t = refuses reason.NoName

abbrev pub if_new : List ℕ → Option (ℕ × LogicalType) → Outcome (List ℕ)
if_new w None = answers w
if_new w (Some found) = refuses reason.NameTwice

-- a name that no column has which stands before it
abbrev pub new_name : Fields → Token → Outcome (List ℕ)
new_name fs t = and_then (written_name t) (λ w. if_new w (find_field w fs))

abbrev pub is_as : Token → Bool
is_as (sign sign.As) = true
is_as t = false

abbrev pub if_place : Option ℕ → Outcome ℕ
if_place None = refuses reason.NoPlace
if_place (Some p) = answers p

-- the place that digits say
abbrev pub given_place : List ℕ → Outcome ℕ
given_place digits = if_place (place_of_digits digits)

abbrev pub if_as : {A : Type 0} → Token → Outcome A → Outcome A
if_as c o = if is_as c then o else refuses reason.NoAs

abbrev mutual
  -- the columns that tokens declare behind others: a place and `as`, or neither; a name, a type, and
  -- nothing or a comma and further columns
  pub columns_behind : DeclaredColumns → List Token → Outcome DeclaredColumns
  columns_behind d [] = refuses reason.NoName
  columns_behind d (number digits ∷ ts) = placed_behind d (given_place digits) ts
  columns_behind d (t ∷ ts) = and_then (new_name d.fields t) (λ w. typed_behind d None w ts)

  pub placed_behind : DeclaredColumns → Outcome ℕ → List Token → Outcome DeclaredColumns
  placed_behind d (refuses r) ts = refuses r
  placed_behind d (answers p) [] = refuses reason.NoAs
  placed_behind d (answers p) (c ∷ ts) = if_as c (named_behind d (Some p) ts)

  pub named_behind : DeclaredColumns → Option ℕ → List Token → Outcome DeclaredColumns
  named_behind d place [] = refuses reason.NoName
  named_behind d place (n ∷ ts) =
      and_then (new_name d.fields n) (λ w. typed_behind d place w ts)

  pub typed_behind : DeclaredColumns → Option ℕ → List ℕ → List Token → Outcome DeclaredColumns
  typed_behind d place w [] = refuses reason.NoType
  typed_behind d place w (t ∷ ts) =
      and_then (type_at t ts) (λ u. after u.further (with_column d place w u.column) ts)

  -- after so many tokens nothing, or a comma and further columns
  pub after : ℕ → DeclaredColumns → List Token → Outcome DeclaredColumns
  after zero d [] = answers d
  after zero d (c ∷ ts) = if is_comma c then columns_behind d ts else refuses reason.NoComma
  after (suc n) d [] = answers d
  after (suc n) d (t ∷ ts) = after n d ts

abbrev pub more_behind : DeclaredColumns → List Token → Outcome DeclaredColumns
more_behind = after 0

abbrev pub columns_of : List Token → Outcome DeclaredColumns
columns_of ts = columns_behind no_columns ts

-- the text declares the columns
pub record Declares (text : List ℕ) (d : DeclaredColumns) : Type 0 where
  pub ts : List Token
  pub lexed : Lexes text ts
  pub said : columns_of ts ≡ answers d

-- the text declares none for that reason: its tokens are refused so, or it has none; or memory ran
-- out
pub data IsRefusedScope (text : List ℕ) (r : ScopeReason) : Type 0 where
  refused : (ts : List Token) → Lexes text ts → columns_of ts ≡ refuses r → IsRefusedScope text r
  no_token : r ≡ reason.NoToken → ((ts : List Token) → ¬ Lexes text ts) → IsRefusedScope text r
  without_memory : r ≡ reason.OutOfMemory → IsRefusedScope text r

abbrev pub reason_of : SyntaxError → ScopeReason
reason_of syntax.OutOfMemory = reason.OutOfMemory
reason_of e = reason.NoToken
