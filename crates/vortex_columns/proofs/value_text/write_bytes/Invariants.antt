use Rattle.std.proofs.Common.{◌≡◌, ◌++◌, string_bytes, take}
use Rattle.std.specs.List.{flat_map}
use Rattle.vortex_columns.specs.Printing.{hex_text}
use Rattle.vortex_columns.proofs.value_text.write_bytes.Given as goal

-- the bytes so far
abbrev pub invariant-loop-byte : goal.invariant-loop-byte
invariant-loop-byte l =
    string_bytes l.out ≡ string_bytes l.initial.out ++ flat_map hex_text (take l.byte-index l.bytes)
