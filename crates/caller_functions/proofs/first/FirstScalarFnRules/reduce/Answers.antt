use Rattle.vortex_types.specs.TypeOf.{type_of}
use Rattle.vortex_interface.specs.ReduceRules.{reduce}
use Rattle.vortex_rewriting.proofs.Made.{is_made}
use Rattle.caller_functions.specs.First.{first_meaning, first_rules}
use Rattle.caller_functions.proofs.Firsts.{has_first, first_reduced}
use Rattle.caller_functions.proofs.first.FirstScalarFnRules.reduce.Goals as goal

pub child-requires : goal.child-requires
child-requires g c =
    has_first (g.T.ReduceTree.seen c.args.node.now).tree c.args.self.now c.args._options.now
    (type_of c.node_dtype-typed.result.now) c.requires c.node_dtype-typed.ensures

pub returns : goal.returns
returns g c =
    let seen = g.T.ReduceTree.seen in
    let s = seen c.args.node.now in
    is_made seen s c.in_ok-first.first (reduce first_meaning first_rules s.tree)
    (first_reduced s.tree (seen c.in_ok-first.first).tree c.args.self.now c.args._options.now
    c.requires c.in_ok-first.ensures.answer.0) c.in_ok-first.ensures.answer.1
