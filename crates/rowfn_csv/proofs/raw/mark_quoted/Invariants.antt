use Rattle.std.proofs.Common.{◌≡◌, ◌++◌, drop}
use Rattle.rowfn_csv.specs.declared.raw.RecordPlace.TheVariants as at
use Rattle.rowfn_csv.proofs.Scanning.{marks}
use Rattle.rowfn_csv.proofs.raw.mark_quoted.Given as goal

-- the marks so far, and those of the rest of the bytes
abbrev pub invariant-loop-byte : goal.invariant-loop-byte
invariant-loop-byte l =
    l.marks.items ++ marks l.delimiter l.place (drop l.byte-index l.raw)
    ≡ marks l.delimiter at.Start l.raw
