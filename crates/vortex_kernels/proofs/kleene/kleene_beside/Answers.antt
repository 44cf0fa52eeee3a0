use Rattle.std.proofs.Common.{◌≡◌, true, arith, subst}
use Rattle.std.specs.Prelude.{is_some}
use Rattle.vortex_kernels.specs.declared.truths.Operand.{Operand}
use Rattle.vortex_kernels.specs.Truths.{FitsOperand, operand_truth}
use Rattle.vortex_kernels.proofs.kleene.kleene_beside.Goals as goal

pub copied-requires-clause-truths : goal.copied-requires-clause-truths
copied-requires-clause-truths c = λ plain i lt.
    let fits = subst (FitsOperand c.args.len) c.in-Rows.is c.requires.fits in
    subst (λ (o : Operand). is_some (operand_truth o i) ≡ true) c.in-Rows.is
    (c.requires.truths plain i (omega (arith, fits.0)))
