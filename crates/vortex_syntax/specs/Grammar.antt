-- Which tree a text is read as.
use Rattle.std.specs.Prelude.{◌≡◌, ℕ, true, List}
use Rattle.vortex_syntax.specs.Tokens.{Token}
use Rattle.vortex_syntax.specs.Lexing.{Lexes}
use Rattle.vortex_syntax.specs.Syntax.{Syntax}
use Rattle.vortex_syntax.specs.Levels.{Fits}
use Rattle.vortex_syntax.specs.Spelling.{spelling}
use Rattle.vortex_syntax.specs.Nesting.{nests}

-- The tokens are those of a tree whose operands fit their levels.
pub record Spells (ts : List Token) (t : Syntax) : Type 0 where
  pub levels : Fits t
  pub tokens : ts ≡ spelling t

-- The text is read as the tree: its tokens are the tree's, and brackets nest no deeper than
-- allowed.
pub record Reads (text : List ℕ) (t : Syntax) : Type 0 where
  pub ts : List Token
  pub lexed : Lexes text ts
  pub spelled : Spells ts t
  pub nested : nests ts ≡ true
