use Rattle.vortex_rewriting.proofs.Listed.{own_answer}
use Rattle.vortex_standard.specs.Standard.{standard_meaning}
use Rattle.vortex_standard.proofs.standard.StandardScalarFnRules.validity.Goals as goal

pub returns : goal.returns
returns g c =
    let seen = g.T.ReduceTree.seen in
    own_answer standard_meaning seen (seen c.args.node.now) c.custom-function.result _ c.args.self.now
    _ c.args.options.now c.default_validity.result c.custom-function.ensures
    c.in_ok-try_clone.ensures c.in_ok-options.ensures c.requires c.default_validity.ensures
