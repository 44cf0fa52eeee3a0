use Rattle.vortex_types.specs.TypeOf.{type_of}
use Rattle.vortex_rewriting.proofs.RewrittenAt.{keeps_at}
use Rattle.vortex_rewriting.proofs.rewrite.TreeRewrite.rewrite_at.Goals as goal

pub returns : goal.returns
returns g c =
    let tree = g.L.Leaf.tree_of in
    let rule = c.args.rule in
    let keeps =
    keeps_at g.C.ScalarFnVTable.meaning tree (g.L.RewriteLeaf.applied rule) c.args.path.now
    (tree c.args.self.now) (type_of c.dtype-typed.result.now) c.dtype-typed.ensures.dtype
    (g.met.L.RewriteLeaf.sound rule) (g.met.L.RewriteLeaf.lightens rule) c.made_at.result
    c.made_at.ensures.answer in
    record {
      answer = c.made_at.ensures.answer;
      kept = keeps.kept;
      lighter = keeps.lighter;
      fewer = keeps.fewer;
      same_rows = c.made_at.ensures.same_rows;
    }
