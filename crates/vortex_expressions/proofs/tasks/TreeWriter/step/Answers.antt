use Rattle.std.proofs.Common.{refl}
use Rattle.vortex_expressions.proofs.Walked.{pushes_one, steps_token}
use Rattle.vortex_expressions.proofs.tasks.TreeWriter.step.Goals as goal

pub returns-in_ok-push_sign-in-Sign : goal.returns-in_ok-push_sign-in-Sign
returns-in_ok-push_sign-in-Sign c =
    rw c.in-Sign.is
    (steps_token _ c.args.self.now _ refl
    (pushes_one _ c.args.self.now.writer c.push_sign.new.self
    c.in_ok-push_sign-in-Sign.ensures))

pub returns-in_ok-push_type-in-TruthType : goal.returns-in_ok-push_type-in-TruthType
returns-in_ok-push_type-in-TruthType c =
    rw c.in-TruthType.is
    (steps_token _ c.args.self.now _ refl
    (pushes_one _ c.args.self.now.writer c.push_type.new.self
    c.in_ok-push_type-in-TruthType.ensures))

pub returns-in_ok-write_escape-in-Escape : goal.returns-in_ok-write_escape-in-Escape
returns-in_ok-write_escape-in-Escape c =
    rw c.in-Escape.is
    (steps_token _ c.args.self.now c.write_escape.new.self
    c.in_ok-write_escape-in-Escape.ensures.tasks c.in_ok-write_escape-in-Escape.ensures.written)

pub returns-in_ok-push_function-in-Function : goal.returns-in_ok-push_function-in-Function
returns-in_ok-push_function-in-Function c =
    rw c.in-Function.is
    (steps_token _ c.args.self.now _ refl
    (pushes_one _ c.args.self.now.writer c.push_function.new.self
    c.in_ok-push_function-in-Function.ensures))
