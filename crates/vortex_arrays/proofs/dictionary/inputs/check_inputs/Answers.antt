use Rattle.std.proofs.Common.{length, map, ap, sym, ◌∙◌}
use Rattle.std.proofs.lemmas.List.{length-map}
use Rattle.std.specs.Cow.{cow_value}
use Rattle.vortex_types.specs.TypeOf.{type_of}
use Rattle.vortex_interface.specs.Meaning.{fits}
use Rattle.vortex_interface.specs.Functions.{function_arity, function_type}
use Rattle.vortex_functions.specs.FunctionOf.{function_of}
use Rattle.vortex_arrays.proofs.dictionary.inputs.check_inputs.Goals as goal

pub returns : goal.returns
returns g c =
    let m = g.C.ScalarFnVTable.meaning in
    let f = function_of c.args.function.now in
    let inputs = map cow_value c.args.inputs.now in
    let same = ap (map type_of) c.deref.ensures.value ∙ c.in_ok-dtypes.ensures in
    record {
      arity =
          ap (fits (function_arity m f)) (length-map c.args.inputs.now cow_value)
          ∙ (λ j. fits (sym c.signature-arity.ensures.arity j) (length c.args.inputs.now))
          ∙ sym c.matches.ensures ∙ c.if-not-matches.false;
      dtype = type_of c.in_ok-_dtype._dtype;
      accepted = ap (function_type m f) (sym same) ∙ c.in_ok-_dtype.ensures;
    }
