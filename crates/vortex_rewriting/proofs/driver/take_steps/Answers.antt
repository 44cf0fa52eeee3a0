use Rattle.std.proofs.Common.{◌≡◌, add-one, arith, ap, subst, ◌∙◌, Option, Some, None, false}
use Rattle.std.specs.Prelude.{IsSome, IsTrue}
use Rattle.vortex_types.specs.TypeOf.{type_of}
use Rattle.vortex_interface.specs.Eval.{tree_type}
use Rattle.vortex_interface.specs.Driver.{step}
use Rattle.vortex_rewriting.specs.Frames.{plug, frames_in, HaveRows}
use Rattle.vortex_rewriting.specs.FoundRewrite.{IsFound, FoundHasRows}
use Rattle.vortex_rewriting.proofs.Optimizing.{run_typed, rule_sound}
use Rattle.vortex_rewriting.proofs.StepsBelow.{run_on, step_plug}
use Rattle.vortex_rewriting.proofs.driver.take_steps.Goals as goal

pub seek-requires-clause-typed : goal.seek-requires-clause-typed
seek-requires-clause-typed g c =
    let m = g.C.ScalarFnVTable.meaning in
    let tree = g.L.Leaf.tree_of in
    let l = c.loop-tree in
    run_typed m g.L.Leaf.rule l.steps (tree c.args.tree.now)
    (plug (frames_in tree l.above.items) (tree l.place)) (type_of c.dtype-typed.result.now)
    c.dtype-typed.ensures.dtype l.invariant.run
    (rule_sound m g.L.RewriteLeaf.applied g.L.Leaf.rule g.met.L.RewriteLeaf.rule_is
    g.met.L.RewriteLeaf.sound)

pub whole_tree-requires-clause-typed : goal.whole_tree-requires-clause-typed
whole_tree-requires-clause-typed g c =
    let m = g.C.ScalarFnVTable.meaning in
    let tree = g.L.Leaf.tree_of in
    let l = c.loop-tree in
    let root = plug (frames_in tree l.above.items) (tree l.place) in
    let found = subst (IsFound g.L.Leaf.rule tree root) c.in-Place.is c.in_ok-tree.ensures.answer in
    subst (λ t. IsSome (tree_type m t)) found.1
    (run_typed m g.L.Leaf.rule l.steps (tree c.args.tree.now) root
    (type_of c.dtype-typed.result.now) c.dtype-typed.ensures.dtype l.invariant.run
    (rule_sound m g.L.RewriteLeaf.applied g.L.Leaf.rule g.met.L.RewriteLeaf.rule_is
    g.met.L.RewriteLeaf.sound))

some_is_none : {A : Type 0} (a : A) (o : Option A) → o ≡ Some a → o ≡ None → IsTrue false
some_is_none a o e f = cc

false_is : {A : Type 0} (o : Option A) → IsTrue false → o ≡ None
false_is o h = cc

pub returns-then-steps-limit-clause-done : goal.returns-then-steps-limit-clause-done
returns-then-steps-limit-clause-done g c =
    let tree = g.L.Leaf.tree_of in
    let rule = g.L.Leaf.rule in
    let l = c.loop-tree in
    let whole = tree c.in_ok-whole_tree-in-Place.field-0 in
    let frames = frames_in tree c.in-Place.frames.items in
    let found = subst (IsFound rule tree (plug (frames_in tree l.above.items) (tree l.place)))
    c.in-Place.is c.in_ok-tree.ensures.answer in
    let goes = ap (step rule) c.in_ok-whole_tree-in-Place.ensures.0
    ∙ step_plug rule frames (tree c.in-Place.old) (tree c.in-Place.made) found.0 found.2 in (
      false_is (step rule whole),
      some_is_none (plug frames (tree c.in-Place.made)) (step rule whole) goes,
    )

pub loop-tree-preserved : goal.loop-tree-preserved
loop-tree-preserved g c =
    let tree = g.L.Leaf.tree_of in
    let rows = g.L.Leaf.context_of in
    let rule = g.L.Leaf.rule in
    let l = c.loop-tree in
    let root = plug (frames_in tree l.above.items) (tree l.place) in
    let frames = c.in-Place.frames.items in
    let found = subst (IsFound rule tree root) c.in-Place.is c.in_ok-tree.ensures.answer in
    let same = subst (FoundHasRows rows (rows l.place)) c.in-Place.is
    c.in_ok-tree.ensures.same_rows in
    record {
      run =
          rw add-one
          (run_on rule l.steps (tree c.args.tree.now) root (tree c.in-Place.old)
          (tree c.in-Place.made) (frames_in tree frames) l.invariant.run found.1 found.0 found.2);
      frames = found.0;
      rows_above = subst (λ n. HaveRows rows n frames) l.invariant.rows_place same.0;
      rows_place = same.2 ∙ l.invariant.rows_place;
      within = (let few = l.invariant.within in omega (arith, few));
    }
