-- The content of a value that is no sequence: its number, its text, its bytes; none for other
-- values.
use Rattle.std.specs.Prelude.{ℕ, ℤ, List, Option, Some, None}
use Rattle.vortex_types.specs.Values.{Value, number, text, bytes}

abbrev pub number_of : Value → Option ℤ
number_of (number z) = Some z
number_of v = None

abbrev pub text_of : Value → Option (List ℕ)
text_of (text bs) = Some bs
text_of v = None

abbrev pub bytes_of : Value → Option (List ℕ)
bytes_of (bytes bs) = Some bs
bytes_of v = None
