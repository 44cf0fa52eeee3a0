use Rattle.std.proofs.Common.{◌≡◌, ap, sym, ◌∙◌, length, refl, true}
use Rattle.std.proofs.lemmas.Result.{err_from_is_err_and}
use Rattle.vortex_errors.proofs.Answering.{UnlessMemory-weaker}
use Rattle.vortex_interface.specs.Meaning.{fits}
use Rattle.vortex_interface.specs.Functions.{function_arity}
use Rattle.vortex_functions.specs.FunctionOf.{function_of}
use Rattle.vortex_functions.specs.Arrays.{trees_in, other_rows}
use Rattle.vortex_functions.specs.Binding.{RefusesCall}
use Rattle.vortex_arrays.specs.Calls.{RefusesArrayCall, operands, lengths}
use Rattle.vortex_arrays.proofs.Calls.{all_even, call_refused}
use Rattle.vortex_arrays.proofs.call.ScalarFnArray.try_new_with_len.Goals as goal

pub returns-in-Some : goal.returns-in-Some
returns-in-Some g c =
    let arity : fits (function_arity g.C.ScalarFnVTable.meaning (function_of c.args.function))
    (length c.args.children.items) ≡ true =
    (λ j. fits (sym c.signature.ensures.arity j)
    (sym (c.len-given.ensures ∙ c.args.children.ok.0) j))
    ∙ sym c.matches.ensures
    ∙ c.if-not-matches.false in
    operands arity
    (lengths c.in-Some.right
    (ap (other_rows c.args.len) (sym c.deref.ensures.value) ∙ sym c.in-Some.ensures) refl)

pub try_call-requires : goal.try_call-requires
try_call-requires g c =
    all_even c.args.len c.args.children.items
    (ap (other_rows c.args.len) (sym c.deref.ensures.value) ∙ sym c.in_default.ensures)

pub returns-in_err-try_call : goal.returns-in_err-try_call
returns-in_err-try_call g c =
    let m = g.C.ScalarFnVTable.meaning in
    let f = function_of c.args.function in
    let xs = c.args.children.items in
    let arity : fits (function_arity m f) (length xs) ≡ true =
    (λ j. fits (sym c.signature.ensures.arity j)
    (sym (c.len-given.ensures ∙ c.args.children.ok.0) j))
    ∙ sym c.matches.ensures
    ∙ c.if-not-matches.false in
    let even = ap (other_rows c.args.len) (sym c.deref.ensures.value) ∙ sym c.in_default.ensures in
    let p = err_from_is_err_and c.from_residual.result c.from_residual.ensures.1 in
    rw (p.1, p.2)
    (UnlessMemory-weaker (RefusesCall m f (trees_in xs)) (RefusesArrayCall m f xs c.args.len)
    (call_refused m f xs c.args.len arity even) _ c.in_err-try_call.ensures)
