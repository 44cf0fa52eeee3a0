use Rattle.std.proofs.Common.{◌≡◌, true, arith, subst}
use Rattle.std.specs.Prelude.{is_some}
use Rattle.vortex_kernels.specs.declared.truths.Operand.{Operand}
use Rattle.vortex_kernels.specs.Truths.{FitsOperand, operand_truth, rows_truth}
use Rattle.vortex_kernels.proofs.KleeneBits.{both_some}
use Rattle.vortex_kernels.proofs.kleene.kleene_sides.Goals as goal

pub kleene_rows-requires-clause-truths : goal.kleene_rows-requires-clause-truths
kleene_rows-requires-clause-truths c = λ plain i lt.
    let here = c.in-Rows-Rows in
    let fits = subst (FitsOperand c.args.len) here.is-0 c.requires.left in
    let both = c.requires.truths plain i (omega (arith, fits.0)) in
    both_some c.args.operator (rows_truth here.left i) (rows_truth here.right i) c.requires.operator
    (subst (λ (o : Operand). is_some (operand_truth o i) ≡ true) here.is-0 both.0)
    (subst (λ (o : Operand). is_some (operand_truth o i) ≡ true) here.is-1 both.1)
