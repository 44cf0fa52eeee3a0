use Rattle.std.proofs.Common.{◌≡◌, false, drop}
use Rattle.rowfn_csv.specs.Reads.{after_comments}
use Rattle.rowfn_csv.proofs.raw.after_comments.Given as goal

-- what is left is what all of the bytes leave
abbrev pub invariant-loop-start : goal.invariant-loop-start
invariant-loop-start l =
    after_comments l.comment l.in_comment l.after_return (drop l.start l.bytes)
    ≡ after_comments l.comment false false l.bytes
