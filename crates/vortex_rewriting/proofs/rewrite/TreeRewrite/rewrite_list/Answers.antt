use Rattle.vortex_types.specs.TypeOf.{type_of}
use Rattle.vortex_interface.proofs.Driving.{rewritten_list_sound}
use Rattle.vortex_interface.proofs.Lightening.{rewritten_list_lighter, rewritten_list_bound}
use Rattle.vortex_rewriting.specs.Rewriting.{steps_of}
use Rattle.vortex_rewriting.proofs.rewrite.TreeRewrite.rewrite_list.Goals as goal

pub returns : goal.returns
returns g c =
    let m = g.C.ScalarFnVTable.meaning in
    let apply = g.L.RewriteLeaf.applied in
    let steps = steps_of c.args.steps.now in
    let t = g.L.Leaf.tree_of c.args.self.now in
    let made = c.in_ok-made.made in
    let x = g.L.Leaf.tree_of made.tree in
    let n = made.applied in
    let k = type_of c.dtype-typed.result.now in
    let typed = c.dtype-typed.ensures.dtype in
    let lightens = g.met.L.RewriteLeaf.lightens in
    let taken = c.in_ok-made.ensures.answer in
    record {
      answer = taken;
      kept = rewritten_list_sound m apply g.met.L.RewriteLeaf.sound steps t x n k typed taken;
      lighter = λ shipped.
          rewritten_list_lighter m apply lightens steps t x n k typed shipped taken;
      fewer = λ shipped.
          rewritten_list_bound m apply lightens steps t x n k typed shipped taken;
      same_rows = c.in_ok-made.ensures.same_rows;
    }
