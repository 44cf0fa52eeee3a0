use Rattle.std.proofs.Common.{◌≡◌, ◌++◌}
use Rattle.std.specs.Prelude.{replicate}
use Rattle.vortex_float_texts.proofs.layout.put_zeros.Given as goal

abbrev pub invariant-loop-zero : goal.invariant-loop-zero
invariant-loop-zero l = l.out.items ≡ l.initial.out.items ++ replicate l.zero 48
