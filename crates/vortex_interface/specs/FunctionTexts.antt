-- How a function with its options is printed, in the bytes of UTF-8.
use Rattle.std.specs.Prelude.{ℕ, List, [], ◌++◌, Option, Some, codes}
use Rattle.std.specs.Option.{option_map}
use Rattle.vortex_operators.specs.Operators.{text_of}
use Rattle.vortex_operators.specs.Between.{between_options_text}
use Rattle.vortex_like.specs.Options as like
use Rattle.vortex_interface.specs.Shipped.{Shipped, Binary, Cast, Between, Like}
use Rattle.vortex_interface.specs.Shipped.CastFunction.{cast_options_text}
use Rattle.vortex_interface.specs.Meaning.{Meaning}
use Rattle.vortex_interface.specs.Functions.{Function, ours, custom, function_id}

-- the text of the options: an operator's, the bounds, a LIKE's, the type that Cast returns
abbrev pub shipped_options_text : Shipped → List ℕ
shipped_options_text (Binary operator) = text_of operator
shipped_options_text Cast = cast_options_text
shipped_options_text (Between options) = between_options_text options
shipped_options_text (Like options) = like.options_text options
shipped_options_text f = []

-- the same for any function, if the text of a caller's options is known
abbrev pub held_text : {V O : Type 0} → (O → Option (List ℕ)) → Function V O → Option (List ℕ)
held_text output (ours s) = Some (shipped_options_text s)
held_text output (custom f o) = output o

-- the identity, and the options in brackets
abbrev pub value_text : {V O : Type 0} → Meaning V O → (O → Option (List ℕ)) → Function V O
    → Option (List ℕ)
value_text m output f =
    option_map (λ text. function_id m f ++ codes "(" ++ text ++ codes ")") (held_text output f)
