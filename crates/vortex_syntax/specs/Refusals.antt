-- Why a text is no expression or no list of answers, and at which byte it fails.
use Rattle.std.specs.Prelude.{◌≡◌, ◌≢◌, ℕ, ◌+◌, ◌<◌, ◌≤◌, true, false, List, [], ◌∷◌, ◌++◌, take}
use Rattle.std.specs.Prelude.{length, Option, Some, None, slice_index_or}
use Rattle.vortex_syntax.specs.declared.error.SyntaxError.{SyntaxError}
use Rattle.vortex_syntax.specs.declared.error.SyntaxError.TheVariants.{NoToken, Unexpected}
use Rattle.vortex_syntax.specs.declared.error.SyntaxError.TheVariants.{TooDeep, OutOfMemory}
use Rattle.vortex_syntax.specs.declared.lexing.Tokens.{Tokens}
use Rattle.vortex_syntax.specs.declared.places.TokenPlaces.{TokenPlaces}
use Rattle.vortex_syntax.specs.Tokens.{Token}
use Rattle.vortex_syntax.specs.Pieces.{gap, token, first_piece}
use Rattle.vortex_syntax.specs.Lexing.{Lexes}
use Rattle.vortex_syntax.specs.Syntax.{Syntax}
use Rattle.vortex_syntax.specs.Levels.{Fits}
use Rattle.vortex_syntax.specs.Spelling.{spelling}
use Rattle.vortex_syntax.specs.Nesting.{nests}
use Rattle.vortex_syntax.specs.Grammar.{Spells}
use Rattle.vortex_syntax.specs.AnswerLists.{SpellsAnswer, Answer}
use Rattle.vortex_syntax.specs.AnswerParts.{answer_parts, split_name}

-- From its first byte, the text has these tokens, then that rest.
pub data Reaches : List ℕ → List Token → List ℕ → Type 0 where
  nothing : {bs : List ℕ} → Reaches bs [] bs
  gap_first : {bs rest end : List ℕ} {ts : List Token} → first_piece bs ≡ Some (gap, rest)
      → Reaches rest ts end → Reaches bs ts end
  token_first : {bs rest end : List ℕ} {t : Token} {ts : List Token}
      → first_piece bs ≡ Some (token t, rest) → Reaches rest ts end → Reaches bs (t ∷ ts) end

-- No gap and no token begins at the byte, and it is not the end of the text.
pub record HasNoToken (text : List ℕ) (byte : ℕ) : Type 0 where
  pub before : List Token
  pub rest : List ℕ
  pub reached : Reaches text before rest
  pub place : byte + length rest ≡ length text
  pub more : 0 < length rest
  pub none : first_piece rest ≡ None

-- The token of that number, counted from 0, begins at the byte; if the text has exactly that many
-- tokens, it ends there.
pub record StandsAt (text : List ℕ) (number byte : ℕ) : Type 0 where
  pub before : List Token
  pub rest : List ℕ
  pub reached : Reaches text before rest
  pub count : length before ≡ number
  pub place : byte + length rest ≡ length text
  pub no_gap : (behind : List ℕ) → first_piece rest ≢ Some (gap, behind)

-- Some expression begins with these tokens.
pub record Begins (ts : List Token) : Type 0 where
  pub tree : Syntax
  pub levels : Fits tree
  pub more : List Token
  pub tokens : ts ++ more ≡ spelling tree

-- Some expression begins with the tokens before that number, and none continues with the next
-- token, or none ends there if there is no next token.
pub record TreeStopsAt (ts : List Token) (number : ℕ) : Type 0 where
  pub within : number ≤ length ts
  pub before : Begins (take number ts)
  pub token : number < length ts → ¬ Begins (take (number + 1) ts)
  pub end : number ≡ length ts → (tree : Syntax) → ¬ Spells ts tree

-- an answer's tokens, without `as` and a name at their end
abbrev pub unless_named : List Token → Option (List Token × Token) → List Token
unless_named ts None = ts
unless_named ts (Some x) = x.0

abbrev pub tree_tokens : List Token → List Token
tree_tokens ts = unless_named ts (split_name ts)

-- The first part that is no answer stops at the token of that number.
pub data PartsStopAt : List (List Token) → ℕ → Type 0 where
  first : {ts : List Token} {parts : List (List Token)} {n : ℕ} → TreeStopsAt (tree_tokens ts) n
      → PartsStopAt (ts ∷ parts) n
  later : {ts : List Token} {parts : List (List Token)} {n : ℕ} {a : Answer} → SpellsAnswer ts a
      → PartsStopAt parts n → PartsStopAt (ts ∷ parts) (length ts + 1 + n)

abbrev pub ListStopsAt : List Token → ℕ → Type 0
ListStopsAt ts n = PartsStopAt (answer_parts ts) n

-- Brackets nest too deep at the token of that number, and not before.
pub record NestsTooDeepAt (ts : List Token) (number : ℕ) : Type 0 where
  pub within : number < length ts
  pub before : nests (take number ts) ≡ true
  pub too_deep : nests (take (number + 1) ts) ≡ false

-- The tokens of the text stop at one that begins at the byte.
pub record TextStopsAt (Stops : List Token → ℕ → Type 0) (text : List ℕ) (byte : ℕ) : Type 0 where
  pub ts : List Token
  pub number : ℕ
  pub lexed : Lexes text ts
  pub stops : Stops ts number
  pub stands : StandsAt text number byte

-- Why a text has no tokens: none begins at a byte, or memory ran out.
abbrev pub HasNoTokens : List ℕ → SyntaxError → Type 0
HasNoTokens text (NoToken byte) = HasNoToken text byte
HasNoTokens text OutOfMemory = Unit {0}
HasNoTokens text e = ⊥

-- Why a text fails to be what these stops describe: first its tokens, then how deep they nest, then
-- where they stop; or memory ran out.
abbrev pub RefusesBy : (List Token → ℕ → Type 0) → List ℕ → SyntaxError → Type 0
RefusesBy Stops text (NoToken byte) = HasNoToken text byte
RefusesBy Stops text (TooDeep byte) = TextStopsAt NestsTooDeepAt text byte
RefusesBy Stops text (Unexpected byte x) =
    TextStopsAt (λ ts n. (nests ts ≡ true) × Stops ts n) text byte
RefusesBy Stops text OutOfMemory = Unit {0}

-- the byte at which the token of that number begins, or the end of the text
abbrev pub byte_in : Tokens → ℕ → ℕ
byte_in t number = slice_index_or t.places.items number t.end

abbrev pub place_in : TokenPlaces → ℕ → ℕ
place_in p number = slice_index_or p.bytes.now number p.end

-- tokens at these bytes fail at the byte of one of these numbers, or memory ran out
abbrev pub NamesPlace : (ℕ → Type 0) → TokenPlaces → SyntaxError → Type 0
NamesPlace Stops places (Unexpected byte x) =
    (n : ℕ) × Stops n × (byte ≡ place_in places n)
NamesPlace Stops places OutOfMemory = Unit {0}
NamesPlace Stops places e = ⊥
