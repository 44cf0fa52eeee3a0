use Rattle.std.proofs.Common.{◌≡◌, Some, None, Option, sym, refl}
use Rattle.std.specs.Prelude.{IsSome}
use Rattle.vortex_types.specs.ScalarView.{ScalarView}
use Rattle.vortex_kernels.proofs.truths.operand_of.Goals as goal

some_or_none : (o : Option ScalarView) → (o ≡ None → ⊥) → IsSome o
some_or_none None n = absurd (n refl)
some_or_none (Some s) n = refl

pub returns-in-None : goal.returns-in-None
returns-in-None c =
    let column = c.args.column.now in
    let some =
    some_or_none column.constant
    (λ none. c.in-None.ensures (record { bool = c.requires; computed = none })) in
    record { fits = tt; each = λ i lt. sym (c.constant_bool.ensures.rows some i lt) }
