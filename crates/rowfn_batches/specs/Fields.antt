-- Fields.
use Rattle.std.specs.Prelude.{ℕ, List, Option, option_map}
use Rattle.std.specs.Borrow.{Bor}

-- the bytes of a field, and none of a null field
abbrev pub Field : Type 0
Field = Option (List ℕ)

-- the field that is borrowed
abbrev pub field_in : Option (Bor (List ℕ)) → Field
field_in = option_map (λ b. b.now)
