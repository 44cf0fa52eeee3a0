use Rattle.std.proofs.Common.{◌≡◌, ℕ, ◌<◌, ◌↔◌, Bool, true, false, None, refl, subst, arith}
use Rattle.std.specs.Prelude.{IsTrue}
use Rattle.vortex_types.specs.TypeOf.{type_of}
use Rattle.vortex_interface.specs.Driver.{step, Runs}
use Rattle.vortex_rewriting.proofs.Optimizing.{rule_sound, rule_lightens, run_rewrites, run_lighter, run_fewer}
use Rattle.vortex_rewriting.proofs.rewrite.TreeRewrite.optimize_recursive.Goals as goal

must_be_done : (done : Bool) (steps limit : ℕ) → (done ≡ false → steps ≡ limit) → steps < limit
    → IsTrue done
must_be_done true steps limit stopped few = refl
must_be_done false steps limit stopped few =
    let all = stopped refl in absurd (omega (arith, all, few))

pub returns : goal.returns
returns g c =
    let m = g.C.ScalarFnVTable.meaning in
    let applied = g.L.RewriteLeaf.applied in
    let rule = g.L.Leaf.rule in
    let is = g.met.L.RewriteLeaf.rule_is in
    let o = c.in_ok-optimized.optimized in
    let run = c.in_ok-optimized.ensures in
    let t = g.L.Leaf.tree_of c.args.self.now in
    let u = g.L.Leaf.tree_of o.tree in
    let k = type_of c.dtype-typed.result.now in
    let typed = c.dtype-typed.ensures.dtype in
    let lightens = rule_lightens m applied rule is g.met.L.RewriteLeaf.lightens in
    let fewer = run_fewer m rule o.steps t u k typed run.run lightens in
    record {
      run = subst (λ r. Runs r o.steps t u) is run.run;
      kept = run_rewrites m rule o.steps t u k typed run.run
          (rule_sound m applied rule is g.met.L.RewriteLeaf.sound);
      limited = run.limited;
      done = subst (λ r. IsTrue o.done ↔ (step r u ≡ None)) is run.done;
      stopped = run.stopped;
      lighter = run_lighter m rule o.steps t u k typed run.run lightens;
      fewer = fewer;
      -- a tree does not have as many steps as its weight
      ends = λ shipped enough.
          must_be_done o.done o.steps c.args.limit run.stopped
          (let few = fewer shipped in omega (arith, few, enough));
      same_rows = run.same_rows;
    }
