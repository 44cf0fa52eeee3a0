use Rattle.vortex_expressions.proofs.Answered.{bracket_answers, bare_answers}
use Rattle.vortex_expressions.proofs.tasks.TreeWriter.tree.Goals as goal

pub returns-then-tree_level-level : goal.returns-then-tree_level-level
returns-then-tree_level-level c =
    bracket_answers c.args.self.now c.brackets.new.self c.args.depth c.args.level
    c.tree_level.result c.args.tree.now c.brackets.result c.tree_level.ensures
    c.if-tree_level-level.true c.brackets.ensures

pub returns : goal.returns
returns c =
    bare_answers c.args.self.now c.bare.new.self c.args.depth c.args.level c.tree_level.result
    c.args.tree.now c.bare.result c.tree_level.ensures c.if-tree_level-level.false
    c.bare.ensures
