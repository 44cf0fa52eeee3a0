use Rattle.std.proofs.Common.{◌∙◌, sym, ap, map}
use Rattle.std.specs.Option.{option_map}
use Rattle.vortex_interface.specs.Functions.{ours}
use Rattle.vortex_interface.specs.Shipped.{shipped_named, shipped_called}
use Rattle.vortex_functions.specs.FunctionOf.{function_of}
use Rattle.vortex_functions.proofs.Called.{as_named, with_said}
use Rattle.vortex_functions.proofs.erased.ScalarFnRef.called.Goals as goal

pub returns-in-Some : goal.returns-in-Some
returns-in-Some g c =
    let words = map (λ w. w.now) c.args.words.now in
    c.with_escape.ensures
    ∙ with_said (function_of c.in_ok-function.function) (shipped_named words) c.in-Some.escape
    c.in_ok-function.ensures
    ∙ ap (λ said. option_map ours (shipped_called words said)) (sym c.in-Some.is)

pub returns-in-None : goal.returns-in-None
returns-in-None g c =
    let words = map (λ w. w.now) c.args.words.now in
    as_named (function_of c.in_ok-function.function) (shipped_named words) c.in_ok-function.ensures
    ∙ ap (λ said. option_map ours (shipped_called words said)) (sym c.in-None.is)
