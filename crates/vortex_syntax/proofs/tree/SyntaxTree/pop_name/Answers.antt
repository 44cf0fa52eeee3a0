use Rattle.vortex_syntax.proofs.LastStep.{none_left, unnamed_last, named_last}
use Rattle.vortex_syntax.proofs.tree.SyntaxTree.pop_name.Goals as goal

pub returns-in_default : goal.returns-in_default
returns-in_default c =
    none_left c.args.self.now.steps.items c.pop.new.self.items _ c.in_default.ensures.items
    c.in_default.ensures.rest c.in_default.ensures.cases.0

pub returns-in-Some-name_of : goal.returns-in-Some-name_of
returns-in-Some-name_of c =
    named_last c.args.self.now.steps.items c.pop.new.self.items c.in-Some.step
    c.in-Some-name_of.name.now c.in-Some.ensures.items c.in-Some-name_of.ensures

pub returns-in-None : goal.returns-in-None
returns-in-None c =
    unnamed_last c.args.self.now.steps.items c.pop.new.self.items c.in-Some.step
    c.in-Some.ensures.items c.in-None.ensures
