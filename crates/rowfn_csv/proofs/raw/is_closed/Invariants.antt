use Rattle.std.proofs.Common.{◌≡◌, drop}
use Rattle.rowfn_csv.specs.declared.raw.RecordPlace.TheVariants as at
use Rattle.rowfn_csv.proofs.Scanning.{ends_closed}
use Rattle.rowfn_csv.proofs.raw.is_closed.Given as goal

-- the rest of the bytes ends as all of them do
abbrev pub invariant-loop-byte : goal.invariant-loop-byte
invariant-loop-byte l =
    ends_closed l.delimiter l.place (drop l.byte-index l.raw)
    ≡ ends_closed l.delimiter at.Start l.raw
