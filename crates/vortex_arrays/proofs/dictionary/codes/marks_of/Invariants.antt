use Rattle.std.proofs.Common.{◌≡◌, length}
use Rattle.vortex_arrays.proofs.Marks.{AreMarked}
use Rattle.vortex_arrays.proofs.dictionary.codes.marks_of.Given as goal

abbrev pub invariant-loop-code : goal.invariant-loop-code
invariant-loop-code l =
    (length l.marks.items ≡ l.count) × AreMarked l.marks.items l.codes l.code-index l.count
