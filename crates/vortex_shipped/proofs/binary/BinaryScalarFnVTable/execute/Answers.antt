use Rattle.std.proofs.Common.{◌∙◌, sym}
use Rattle.std.proofs.lemmas.Bool.{eqb-true}
use Rattle.vortex_shipped.proofs.BinaryCalls.{TwoBools, two_bools, boolean_call, TwoAlike}
use Rattle.vortex_shipped.proofs.BinaryCalls.{two_alike, comparison_call}
use Rattle.vortex_shipped.proofs.NumericCalls.{TwoIntegers, two_integers, numeric_call}
use Rattle.vortex_shipped.proofs.binary.BinaryScalarFnVTable.execute.Goals as goal

pub returns-in-Some : goal.returns-in-Some
returns-in-Some g c =
    let op = c.args.operator.now in
    let cs = g.A.ExecutionArgs.inputs c.args.args.now in
    let l = c.in_ok-lhs.lhs.now in
    let r = c.in_ok-rhs.rhs.now in
    let is = sym c.to_compare_operator.ensures.table ∙ c.in-Some.is in
    let n = g.A.ExecutionArgs.rows c.args.args.now in
    let answer = c.execute_compare.result in
    let left = c.in_ok-lhs.ensures in
    let right = c.in_ok-rhs.ensures in
    let compare = c.in-Some.compare in
    let two : TwoAlike op compare cs l r =
    two_alike op compare cs l r is (eqb-true _ _ c.requires.arity) c.requires.accepted left.input right.input in
    comparison_call op compare cs l r n answer two left.count right.count c.execute_compare.ensures

pub returns-in-Some-to_numeric_operator : goal.returns-in-Some-to_numeric_operator
returns-in-Some-to_numeric_operator g c =
    let op = c.args.operator.now in
    let cs = g.A.ExecutionArgs.inputs c.args.args.now in
    let l = c.in_ok-lhs.lhs.now in
    let r = c.in_ok-rhs.rhs.now in
    let o = c.in-Some-to_numeric_operator.numeric in
    let is = sym c.to_numeric_operator.ensures ∙ c.in-Some-to_numeric_operator.is in
    let n = g.A.ExecutionArgs.rows c.args.args.now in
    let answer = c.execute_numeric.result in
    let left = c.in_ok-lhs.ensures in
    let right = c.in_ok-rhs.ensures in
    let two : TwoIntegers op o cs l r =
    two_integers op o cs l r is (eqb-true _ _ c.requires.arity) c.requires.accepted left.input right.input in
    numeric_call op o cs l r n two answer left.count right.count c.execute_numeric.ensures.rows

pub returns-in-None : goal.returns-in-None
returns-in-None g c =
    let op = c.args.operator.now in
    let cs = g.A.ExecutionArgs.inputs c.args.args.now in
    let l = c.in_ok-lhs.lhs.now in
    let r = c.in_ok-rhs.rhs.now in
    let is = sym c.to_compare_operator.ensures.table ∙ c.in_default.is in
    let no = sym c.to_numeric_operator.ensures ∙ c.in-None.is in
    let n = g.A.ExecutionArgs.rows c.args.args.now in
    let answer = c.execute_boolean.result in
    let left = c.in_ok-lhs.ensures in
    let right = c.in_ok-rhs.ensures in
    let two : TwoBools op cs l r =
    two_bools op cs l r is no (eqb-true _ _ c.requires.arity) c.requires.accepted left.input right.input in
    boolean_call op cs l r n answer two left.count c.execute_boolean.ensures
