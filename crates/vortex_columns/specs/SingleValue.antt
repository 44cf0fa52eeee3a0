-- A value that is no list.
use Rattle.vortex_types.specs.Values.{Value, null, list}

-- the value, and null in place of a list
abbrev pub single_value : Value → Value
single_value (list vs) = null
single_value v = v
