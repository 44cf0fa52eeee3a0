-- The view of a token.
use Rattle.vortex_like.specs.Tokens.{Token, any, one, character}
use Rattle.vortex_like.specs.declared.token.Kind.{Kind}
use Rattle.vortex_like.specs.declared.token.Kind.TheVariants as kind

abbrev pub token_of : Kind → Token
token_of kind.Any = any
token_of kind.One = one
token_of (kind.Char c) = character c
