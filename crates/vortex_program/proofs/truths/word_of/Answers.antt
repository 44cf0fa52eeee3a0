use Rattle.std.proofs.Common.{nat_eq, ap, sym, ◌∙◌}
use Rattle.std.proofs.lemmas.Nat.Bits.{bit_at_ones}
use Rattle.vortex_program.proofs.truths.word_of.Goals as goal

pub returns-then-truth : goal.returns-then-truth
returns-then-truth c j lt = ap (λ n. nat_eq n 1) (bit_at_ones 64 j lt) ∙ sym c.if-truth.true
