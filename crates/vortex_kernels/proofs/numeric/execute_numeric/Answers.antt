use Rattle.std.proofs.Common.{◌∙◌, sym, arith}
use Rattle.vortex_errors.specs.declared.error.VortexError.TheVariants.{LengthMismatch}
use Rattle.vortex_operators.specs.Arithmetic.{integer_of_both}
use Rattle.vortex_kernels.specs.Numeric.{uneven}
use Rattle.vortex_kernels.proofs.numeric.execute_numeric.Goals as goal

pub returns-then-left-right-clause-rows : goal.returns-then-left-right-clause-rows
returns-then-left-right-clause-rows c =
    uneven c.in-Some.ptype
    ((λ i. integer_of_both (sym c.dtype.ensures.dtype i) (sym c.dtype-2.ensures.dtype i))
    ∙ sym c.integer_of_both.ensures
    ∙ c.in-Some.is)
    (λ e. absurd (omega (arith, c.len-left.ensures, c.len-right.ensures, e)))
    (λ i. LengthMismatch (c.len-left.ensures i) (c.len-right.ensures i))
