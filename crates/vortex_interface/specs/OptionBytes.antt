-- The bytes of the options of a function, and what byte strings are read as.
use Rattle.std.specs.Prelude.{◌≡◌, ◌⊎◌, ℕ, List, [], Option, Some, None, Vec, Result}
use Rattle.std.specs.Prelude.{MatchResult, ⊤}
use Rattle.std.specs.Option.{option_map}
use Rattle.std.specs.declared.alloc.Global.{Global}
use Rattle.vortex_errors.specs.declared.error.VortexError.{VortexError}
use Rattle.vortex_errors.specs.declared.error.VortexError.TheVariants.{BadOptions}
use Rattle.vortex_errors.specs.Answers.{Answers}
use Rattle.vortex_operators.specs.OptionBytes.{operator_bytes, operator_read, between_bytes}
use Rattle.vortex_operators.specs.OptionBytes.{between_read}
use Rattle.vortex_like.specs.OptionBytes.{like_bytes, like_read, HasCharacter}
use Rattle.vortex_interface.specs.Shipped.{Shipped, Binary, Between, Like}
use Rattle.vortex_interface.specs.Functions.{Function, ours, custom}

-- one byte for Binary and Between, one or five for Like; none for the others
abbrev pub shipped_bytes : Shipped → List ℕ
shipped_bytes (Binary operator) = operator_bytes operator
shipped_bytes (Between options) = between_bytes options
shipped_bytes (Like options) = like_bytes options
shipped_bytes f = []

-- the same function with the options read from the bytes; for functions without options from any
-- bytes
abbrev pub with_options : Shipped → List ℕ → Option Shipped
with_options (Binary operator) bytes = option_map Binary (operator_read bytes)
with_options (Between options) bytes = option_map Between (between_read bytes)
with_options (Like options) bytes = option_map Like (like_read bytes)
with_options f bytes = Some f

-- an escape among the options is a character
abbrev pub HasCharacters : Shipped → Type 0
HasCharacters (Like options) = HasCharacter options
HasCharacters f = ⊤

abbrev pub Written : Type 0
Written = Option (Vec ℕ Global)

-- these bytes are written; or none are, where there are none
abbrev pub WritesBytes : Option (List ℕ) → Written → Type 0
WritesBytes bytes written = option_map (λ v. v.items) written ≡ bytes

-- none are written, or these bytes
abbrev pub MayWriteBytes : Option (List ℕ) → Written → Type 0
MayWriteBytes bytes written = (written ≡ None) ⊎ WritesBytes bytes written

-- the bytes of the options of any function: of a shipped one as above; of a caller's none, or its
-- own
abbrev pub WritesOptionsOf : {V O : Type 0} → (V → O → Option (List ℕ)) → Function V O → Written
    → Type 0
WritesOptionsOf bytes (ours s) written = WritesBytes (Some (shipped_bytes s)) written
WritesOptionsOf bytes (custom f o) written = MayWriteBytes (bytes f o) written

-- the options read from the bytes, or E8; or memory ran out
abbrev pub MayReadOptions : {O : Type 0} → Option O → Result O VortexError → Type 0
MayReadOptions found result = Answers result (λ o. found ≡ Some o) (λ e. e ≡ BadOptions)

-- the options read from the bytes, and E8 exactly if there are none; allocates nothing
abbrev pub ReadsOptions : {O : Type 0} → Option O → Result O VortexError → Type 0
ReadsOptions found result =
    MatchResult result (λ o. found ≡ Some o) (λ e. (found ≡ None) × (e ≡ BadOptions))
