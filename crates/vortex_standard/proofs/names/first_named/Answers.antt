use Rattle.std.proofs.Common.{sym, ◌∙◌}
use Rattle.vortex_standard.proofs.Finds.{find_here, find_past, find_end}
use Rattle.vortex_standard.specs.Names.{has_name}
use Rattle.vortex_standard.specs.declared.standard.Standard.TheVariants.{Coalesce}
use Rattle.vortex_standard.proofs.names.first_named.Goals as goal

pub returns-then-has_name : goal.returns-then-has_name
returns-then-has_name c =
    let here = find_here (has_name c.args.word.now) c.args.functions.now c.loop-function.function-index
    Coalesce c.loop-function-test.true (sym c.has_name.ensures ∙ c.if-has_name.true) in
    cc (here, c.loop-function.invariant)

pub loop-function-preserved : goal.loop-function-preserved
loop-function-preserved c =
    c.loop-function.invariant
    ∙ find_past (has_name c.args.word.now) c.args.functions.now c.loop-function.function-index
    Coalesce c.loop-function-test.true (sym c.has_name.ensures ∙ c.if-has_name.false)

pub returns : goal.returns
returns c =
    let none = find_end (has_name c.args.word.now) c.args.functions.now
    c.loop-function.function-index c.loop-function-test.false in
    cc (none, c.loop-function.invariant)
