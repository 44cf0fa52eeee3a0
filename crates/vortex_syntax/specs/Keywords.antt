-- The words that are keywords, in either case; `regexp` and `rlike` are the tilde.
use Rattle.std.specs.Prelude.{ℕ, List, map, Bool, Option, Some, None, codes, if◌then◌else◌}
use Rattle.std.specs.Char.{to_ascii_lowercase}
use Rattle.std.specs.Str.{bytes_eq}
use Rattle.vortex_syntax.specs.declared.token.Sign.{Sign}
use Rattle.vortex_syntax.specs.declared.token.Sign.TheVariants as sign
use Rattle.vortex_syntax.specs.declared.token.TrimSide.TheVariants as side

-- the same word, ignoring case
abbrev pub same_word : List ℕ → List ℕ → Bool
same_word w v = bytes_eq (map to_ascii_lowercase w) (map to_ascii_lowercase v)

unfoldable pub keyword_of : List ℕ → Option Sign
keyword_of w =
    if same_word w (codes "and") then Some sign.And
    else (if same_word w (codes "or") then Some sign.Or
    else (if same_word w (codes "not") then Some sign.Not
    else (if same_word w (codes "is") then Some sign.Is
    else (if same_word w (codes "null") then Some sign.Null
    else (if same_word w (codes "between") then Some sign.Between
    else (if same_word w (codes "like") then Some sign.Like
    else (if same_word w (codes "ilike") then Some sign.Ilike
    else (if same_word w (codes "escape") then Some sign.Escape
    else (if same_word w (codes "true") then Some sign.True
    else (if same_word w (codes "false") then Some sign.False
    else (if same_word w (codes "cast") then Some sign.Cast
    else (if same_word w (codes "as") then Some sign.As
    else (if same_word w (codes "distinct") then Some sign.Distinct
    else (if same_word w (codes "from") then Some sign.From
    else (if same_word w (codes "in") then Some sign.In
    else (if same_word w (codes "case") then Some sign.Case
    else (if same_word w (codes "when") then Some sign.When
    else (if same_word w (codes "then") then Some sign.Then
    else (if same_word w (codes "else") then Some sign.Else
    else (if same_word w (codes "end") then Some sign.End
    else (if same_word w (codes "isnull") then Some sign.IsNull
    else (if same_word w (codes "notnull") then Some sign.NotNull
    else (if same_word w (codes "try_cast") then Some sign.TryCast
    else (if same_word w (codes "symmetric") then Some sign.Symmetric
    else (if same_word w (codes "regexp") then Some sign.BitNot
    else (if same_word w (codes "rlike") then Some sign.BitNot
    else (if same_word w (codes "both") then Some (sign.Side side.Both)
    else (if same_word w (codes "leading") then Some (sign.Side side.Leading)
    else (if same_word w (codes "trailing") then Some (sign.Side side.Trailing)
    else None)))))))))))))))))))))))))))))
