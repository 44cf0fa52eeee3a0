use Rattle.std.proofs.Common.{List, subst}
use Rattle.vortex_program.specs.declared.answer.Answer as bound
use Rattle.vortex_program.specs.Programs.{AreOptimized}
use Rattle.vortex_program.proofs.Fitting.{all_rewrites}
use Rattle.vortex_program.proofs.program.Program.of.Goals as goal

pub invariant_of-result : goal.invariant_of-result
invariant_of-result c =
    let optimized = c.in_ok-optimized.optimized.items in
    record {
      rewrites =
          ∣ all_rewrites c.args.written.items optimized
          (subst (λ (xs : List bound.Answer). AreOptimized xs optimized) c.deref.ensures.value
          c.in_ok-optimized.ensures) ∣₁;
    }
