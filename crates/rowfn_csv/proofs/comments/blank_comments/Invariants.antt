use Rattle.std.proofs.Common.{◌≡◌, ◌++◌, take, drop}
use Rattle.rowfn_csv.specs.Comments.{line_behind, blanked}
use Rattle.rowfn_csv.proofs.comments.blank_comments.Given as goal

-- the bytes so far are blanked, and the others are as they were
abbrev pub invariant-loop-index : goal.invariant-loop-index
invariant-loop-index l = record {
  line : line_behind l.delimiter l.comment l.line (drop l.index l.bytes)
      ≡ line_behind l.delimiter l.comment l.initial.line l.initial.bytes;
  bytes : take l.index l.bytes ++ blanked l.delimiter l.comment l.line (drop l.index l.bytes)
      ≡ blanked l.delimiter l.comment l.initial.line l.initial.bytes;
}
