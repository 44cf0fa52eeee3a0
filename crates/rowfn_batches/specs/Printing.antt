-- A value as the bytes of a field.
use Rattle.std.specs.Prelude.{ℕ, List, [], true, false, codes}
use Rattle.std.specs.Fmt.{signed_decimal}
use Rattle.vortex_types.specs.Values.{Value, truth, number, text}

-- a null has none, and no column of cells has any other value
abbrev pub field_text : Value → List ℕ
field_text (truth true) = codes "true"
field_text (truth false) = codes "false"
field_text (number z) = signed_decimal z
field_text (text bs) = bs
field_text v = []
