-- Results of this crate's calls that may run out of memory.
use Rattle.std.specs.Prelude.{◌≡◌, ℕ, Option, Some, None, Result, MatchResult}
use Rattle.vortex_syntax.specs.declared.error.SyntaxError.{SyntaxError}
use Rattle.vortex_syntax.specs.declared.error.SyntaxError.TheVariants.{NoToken, Unexpected}
use Rattle.vortex_syntax.specs.declared.error.SyntaxError.TheVariants.{TooDeep, OutOfMemory}

-- P of the result; or memory ran out
abbrev pub AnswersUnlessMemory : {A : Type 0} → Result A SyntaxError → (A → Type 0) → Type 0
AnswersUnlessMemory r P = MatchResult r P (λ e. e ≡ OutOfMemory)

-- P of the error; or memory ran out
abbrev pub UnlessMemory : Type 0 → SyntaxError → Type 0
UnlessMemory P OutOfMemory = Unit {0}
UnlessMemory P e = P

-- the byte of the text that an error names
abbrev pub byte_of : SyntaxError → Option ℕ
byte_of (NoToken b) = Some b
byte_of (Unexpected b x) = Some b
byte_of (TooDeep b) = Some b
byte_of OutOfMemory = None
