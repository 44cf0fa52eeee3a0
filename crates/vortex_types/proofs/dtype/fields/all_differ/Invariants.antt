use Rattle.vortex_types.proofs.NamesDiffer.{FirstDiffer}
use Rattle.vortex_types.proofs.dtype.fields.all_differ.Given as goal

abbrev pub invariant-loop-i : goal.invariant-loop-i
invariant-loop-i l = FirstDiffer l.i l.names
