-- Tokens, without their positions.
use Rattle.std.specs.Prelude.{ℕ, List}
use Rattle.vortex_syntax.specs.declared.token.Sign.{Sign}
use Rattle.vortex_syntax.specs.declared.token.Token as read
use Rattle.vortex_syntax.specs.declared.token.Token.TheVariants as variant

-- a name, with sizes if it is one of a type that has them, a name with a question mark after it, a name with an opening bracket after it, the bytes
-- in double quotes, a number as written, the bytes in single quotes, and a keyword or a sign. Bytes
-- in quotes are as written.
pub data Token : Type 0 where
  name : List ℕ → Token
  nullable : List ℕ → Token
  function : List ℕ → Token
  quoted : List ℕ → Token
  number : List ℕ → Token
  text : List ℕ → Token
  sign : Sign → Token

abbrev pub token_in : read.Token → Token
token_in (variant.Name bytes) = name bytes.now
token_in (variant.Nullable bytes) = nullable bytes.now
token_in (variant.Function bytes) = function bytes.now
token_in (variant.Quoted bytes) = quoted bytes.now
token_in (variant.Number bytes) = number bytes.now
token_in (variant.Text bytes) = text bytes.now
token_in (variant.Sign s) = sign s
