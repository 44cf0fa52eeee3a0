use Rattle.std.proofs.Common.{◌≡◌, true, Some, None, sym, ap, ◌∙◌, arith}
use Rattle.std.specs.Option.{option_map}
use Rattle.vortex_errors.proofs.Answering.{AnswersUnlessMemory-weaker}
use Rattle.vortex_types.specs.TypeOf.{type_of}
use Rattle.vortex_interface.specs.ReduceRules.{reduce}
use Rattle.vortex_interface.specs.ValidityRules.{validity}
use Rattle.vortex_interface.proofs.Validities.{validity_sound}
use Rattle.vortex_rewriting.specs.Contexts.{tree_by, IsMade}
use Rattle.vortex_rewriting.specs.NullTests.{by_validity, within}
use Rattle.vortex_rewriting.specs.Told.{told_node}
use Rattle.vortex_rewriting.specs.Reduced.{IsReducedBy}
use Rattle.vortex_rewriting.proofs.Made.{made_tree, made_context, made_as}
use Rattle.vortex_rewriting.proofs.NullTestNodes.{has_operand, is_tested, reduce_node}
use Rattle.vortex_rewriting.proofs.Walking.{of_some}
use Rattle.vortex_rewriting.proofs.null_tests.reduce_null_test.Goals as goal

pub child-requires : goal.child-requires
child-requires g c =
    let m = g.C.ScalarFnVTable.meaning in
    let t = (g.T.ReduceTree.seen c.args.node.now).tree in
    let k = type_of c.node_dtype-typed.result.now in
    let one = has_operand m c.args.test t k c.requires c.node_dtype-typed.ensures in
    omega (arith, one)

pub by_validity-requires : goal.by_validity-requires
by_validity-requires g c =
    let m = g.C.ScalarFnVTable.meaning in
    let r = g.C.ScalarFnVTable.rules in
    let seen = g.T.ReduceTree.seen in
    let s = seen c.in_ok-operand.operand in
    let v = (seen c.in-Reduced.valid).tree in
    let said : validity m r s.tree ≡ Some v =
    sym (made_tree seen s (validity m r s.tree) _ c.in_ok-valid.ensures)
    ∙ ap (λ w. option_map (tree_by seen) (told_node w)) c.in-Reduced.is in
    let sound =
    validity_sound m g.met.C.ScalarFnVTable.lawful r g.met.C.ScalarFnRules.rules_lawful s.tree v
    (type_of c.node_dtype.result.now) c.node_dtype.ensures said in
    sound.dtype

pub returns-in-Reduced : goal.returns-in-Reduced
returns-in-Reduced g c =
    let m = g.C.ScalarFnVTable.meaning in
    let r = g.C.ScalarFnVTable.rules in
    let seen = g.T.ReduceTree.seen in
    let node = seen c.args.node.now in
    let s = seen c.in_ok-operand.operand in
    let valid = seen c.in-Reduced.valid in
    let test = c.args.test in
    let told = told_node c.in_ok-valid.field-0 in
    let is =
    is_tested m test node.tree s.tree (type_of c.node_dtype-typed.result.now) c.requires
    c.node_dtype-typed.ensures c.in_ok-operand.ensures.answer.0 in
    let said : Some valid.tree ≡ validity m r s.tree =
    ap (λ w. option_map (tree_by seen) (told_node w)) (sym c.in-Reduced.is)
    ∙ made_tree seen s (validity m r s.tree) told c.in_ok-valid.ensures in
    let here =
    of_some (λ made. (seen made).context ≡ s.context) told c.in-Reduced.valid
    (made_context seen s (validity m r s.tree) told c.in_ok-valid.ensures)
    (ap told_node c.in-Reduced.is) in
    made_as seen node valid (here ∙ c.in_ok-operand.ensures.answer.1)
    (Some (by_validity test valid.tree)) (reduce m r node.tree)
    (reduce_node m r test node.tree s.tree (type_of c.node_dtype.result.now) true
    (Some valid.tree) is c.node_dtype.ensures c.if-not-is_nullable.ensures said)
    (Some c.in_ok-made-in-Reduced.made) (ap Some c.in_ok-made-in-Reduced.ensures)

pub returns : goal.returns
returns g c =
    let m = g.C.ScalarFnVTable.meaning in
    let r = g.C.ScalarFnVTable.rules in
    let seen = g.T.ReduceTree.seen in
    let node = seen c.args.node.now in
    let s = seen c.in_ok-operand.operand in
    let test = c.args.test in
    let is =
    is_tested m test node.tree s.tree (type_of c.node_dtype-typed.result.now) c.requires
    c.node_dtype-typed.ensures c.in_ok-operand.ensures.answer.0 in
    let unsaid : None ≡ validity m r s.tree =
    ap (λ w. option_map (tree_by seen) (told_node w)) (sym c.in-Irreducible.is)
    ∙ made_tree seen s (validity m r s.tree) _ c.in_ok-valid.ensures in
    let table = reduce_node m r test node.tree s.tree (type_of c.node_dtype.result.now) true None is
    c.node_dtype.ensures c.if-not-is_nullable.ensures unsaid in
    AnswersUnlessMemory-weaker c.within.result (IsMade s seen (within m test s.tree))
    (IsReducedBy m r seen node)
    (made_as seen node s c.in_ok-operand.ensures.answer.1 (within m test s.tree)
    (reduce m r node.tree) table) c.within.ensures
