-- The meaning of a character of a pattern, escaped or not.
use Rattle.vortex_like.specs.Tokens.{Token, character, plain_token}
use Rattle.vortex_like.specs.declared.characters.Symbol.{Symbol}
use Rattle.vortex_like.specs.declared.characters.Symbol.TheVariants.{Escaped, Plain}

abbrev pub symbol_token : Symbol → Token
symbol_token (Escaped c) = character c
symbol_token (Plain c) = plain_token c
