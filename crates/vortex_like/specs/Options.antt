-- The printed texts of options.
use Rattle.std.specs.Prelude.{ℕ, List, [], Bool, true, false, codes, ◌++◌, ◌==◌, encode_utf8}
use Rattle.std.specs.Prelude.{Option, Some, None, if◌then◌else◌}
use Rattle.vortex_like.specs.Tokens.{backslash}
use Rattle.vortex_like.specs.declared.options.LikeOptions.{LikeOptions}

-- not negated, case-sensitive, and with backslash escape
abbrev pub default_options : LikeOptions
default_options =
    record { negated = false; case_insensitive = false; escape = Some backslash }

abbrev pub like_text : Bool → Bool → List ℕ
like_text false false = codes "LIKE"
like_text true false = codes "NOT LIKE"
like_text false true = codes "ILIKE"
like_text true true = codes "NOT ILIKE"

-- the escape is printed unless it is the backslash: in quotes, or empty quotes for none
abbrev pub escape_text : Option ℕ → List ℕ
escape_text None = codes " ESCAPE ''"
escape_text (Some e) =
    if e == backslash then [] else codes " ESCAPE '" ++ encode_utf8 e ++ codes "'"

abbrev pub options_text : LikeOptions → List ℕ
options_text options =
    like_text options.negated options.case_insensitive ++ escape_text options.escape
