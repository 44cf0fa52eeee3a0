use Rattle.std.proofs.Common.{sym, ap, ◌∙◌}
use Rattle.std.proofs.lemmas.List.{nil_from_length}
use Rattle.vortex_rewriting.proofs.Unions.{JoinsLast, joined_beside, joined_alone, last_truth}
use Rattle.vortex_rewriting.proofs.union.join_last.Goals as goal
use Rattle.vortex_rewriting.proofs.union.join_last.Goals.{in-Some+in_ok-right-in-Some, in-None}

pub returns : goal.returns
returns g c =
    let m = g.C.ScalarFnVTable.meaning in
    let seen = g.T.ReduceTree.seen in
    let n = (seen c.args.node.now).context in
    let joined = c.args.joined.items in
    let rest = c.pop.new.self.items in
    let after = c.push.new.self.items in
    let all : JoinsLast m seen n joined c.args.last after =
    elim c.match-pop.branch [
      | in-Some+in_ok-right-in-Some w ↦
          joined_beside m seen n joined rest after w.in-Some.left w.in_ok-right-in-Some.right
          c.match-pop.right c.args.last w.in-Some.ensures.items c.in_ok-push.ensures.items
          w.right-is (ap (λ s. s.tree) w.in_ok-right-in-Some.ensures) c.requires.truths
          c.requires.truth
          (ap (λ s. s.context) w.in_ok-right-in-Some.ensures
          ∙ (last_truth m seen n joined rest w.in-Some.left w.in-Some.ensures.items
          c.requires.truths).1)
      | in-None w ↦
          joined_alone m seen n joined rest after c.match-pop.right c.args.last
          (nil_from_length joined (sym c.args.joined.ok.0 ∙ w.in-None.ensures.cases.0))
          (nil_from_length rest (sym c.pop.new.self.ok.0 ∙ w.in-None.ensures.cases.1))
          c.in_ok-push.ensures.items w.right-is (c.requires.truth, c.requires.same_context)
    ] in
    record { answer = all.0; truths = all.1 }
