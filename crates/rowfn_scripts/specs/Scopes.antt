-- Fields that are found by name.
use Rattle.std.specs.Prelude.{ℕ, List, Option, option_map}
use Rattle.vortex_types.specs.LogicalTypes.{Fields, find_field}

-- how many fields come before the first one with that name
abbrev pub place_of : List ℕ → Fields → Option ℕ
place_of name fs = option_map (λ p. p.0) (find_field name fs)
