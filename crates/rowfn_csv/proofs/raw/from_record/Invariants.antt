use Rattle.std.proofs.Common.{◌≡◌, false, drop}
use Rattle.rowfn_csv.specs.Reads.{from_record}
use Rattle.rowfn_csv.proofs.raw.from_record.Given as goal

-- what is left is what all of the bytes leave
abbrev pub invariant-loop-start : goal.invariant-loop-start
invariant-loop-start l =
    from_record l.comment l.in_comment (drop l.start l.raw) ≡ from_record l.comment false l.raw
