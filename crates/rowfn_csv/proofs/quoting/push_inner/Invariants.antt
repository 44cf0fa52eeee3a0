use Rattle.std.proofs.Common.{◌≡◌, ◌++◌, take}
use Rattle.std.specs.List.{flat_map}
use Rattle.rowfn_csv.specs.Fields.{doubled}
use Rattle.rowfn_csv.proofs.quoting.push_inner.Given as goal

-- the bytes so far
abbrev pub invariant-loop-byte : goal.invariant-loop-byte
invariant-loop-byte l =
    l.bytes.items ≡ l.initial.bytes.items ++ flat_map doubled (take l.byte-index l.field)
