use Rattle.std.proofs.Common.{◌≡◌, take}
use Rattle.vortex_rewriting.proofs.children.children_with.Given as goal

-- copies of the children so far
abbrev pub invariant-loop-old : goal.invariant-loop-old
invariant-loop-old g l = l.copies.items ≡ take l.old-index l.old-items
