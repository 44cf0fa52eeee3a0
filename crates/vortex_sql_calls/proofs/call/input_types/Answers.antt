use Rattle.std.proofs.Common.{[], ◌∷◌, ◌++◌, sym, ap, ◌∙◌, map, arith}
use Rattle.std.proofs.lemmas.List.{map-append}
use Rattle.vortex_types.specs.TypeOf.{type_of}
use Rattle.vortex_sql_rows.proofs.Maps.{one_more}
use Rattle.vortex_sql_calls.proofs.call.input_types.Goals as goal

pub loop-k-preserved : goal.loop-k-preserved
loop-k-preserved g c =
    let before = c.loop-k.types.items in
    let x = c.in_ok-kind.kind in
    ap (map type_of) c.in_ok-push.ensures.items ∙ map-append type_of before (x ∷ [])
    ∙ (λ j. c.loop-k.invariant j ++ (c.in_ok-kind.ensures ∙ c.dtype.ensures.dtype) j ∷ [])
    ∙ sym (one_more (λ d. d.dtype) (g.A.ExecutionArgs.inputs c.args.args.now) c.loop-k.k
    c.in_ok-input.input.now (omega (arith, c.num_inputs-k-end.ensures))
    c.in_ok-input.ensures.input)
