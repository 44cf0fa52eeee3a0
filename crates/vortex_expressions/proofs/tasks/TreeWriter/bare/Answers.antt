use Rattle.std.proofs.Common.{refl, sym, ap, ◌∙◌}
use Rattle.std.specs.Option.{option_copied}
use Rattle.vortex_expressions.proofs.Answered.{call_answers, literal_answers, column_answers}
use Rattle.vortex_expressions.proofs.tasks.TreeWriter.bare.Goals as goal

pub returns-in-Some : goal.returns-in-Some
returns-in-Some c =
    call_answers c.args.self.now c.call.new.self c.args.depth c.args.tree.now _
    c.children.result.now c.call.result c.in-Some.ensures c.children.ensures.children
    c.call.ensures

pub returns-in-Some-as_literal : goal.returns-in-Some-as_literal
returns-in-Some-as_literal c =
    literal_answers c.args.self.now _ c.args.depth c.args.tree.now c.in-Some-as_literal.scalar.now
    c.write_literal.result
    (sym c.as_literal.ensures ∙ ap option_copied c.in-Some-as_literal.is) refl
    c.write_literal.ensures

pub returns : goal.returns
returns c =
    column_answers c.args.self.now _ c.args.depth c.args.tree.now c.write_column.result
    c.in_default.ensures
    (sym c.as_literal.ensures ∙ ap option_copied c.in_default-as_literal.is) refl
    c.write_column.ensures
