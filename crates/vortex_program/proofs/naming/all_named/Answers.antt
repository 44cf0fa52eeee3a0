use Rattle.std.proofs.Common.{ℕ, add-one, map, length, Vec, Global}
use Rattle.vortex_types.specs.TypeOf.{struct_fields}
use Rattle.vortex_expressions.specs.Answers.{answer_in}
use Rattle.vortex_program.specs.Naming.{IsNamedAnswer}
use Rattle.vortex_program.proofs.NamedTrees.{worded_more, worded_all}
use Rattle.vortex_program.proofs.naming.all_named.Goals as goal

pub loop-i-preserved : goal.loop-i-preserved
loop-i-preserved c =
    rw c.in_ok-push.ensures.items
    (worded_more (IsNamedAnswer (struct_fields c.args.scope.now)) answer_in c.args.list.now
    (map (λ (w : Vec ℕ Global). w.items) c.args.words.now) c.loop-i.answers.items c.loop-i.i _
    c.index-list-i.result c.words_at.result.now _ (add-one c.loop-i.i) c.loop-i-test.true
    c.index-list-i.is c.words_at.ensures c.loop-i.invariant c.in_ok-named.ensures)

pub returns : goal.returns
returns c =
    rw (worded_all answer_in c.args.list.now
    (map (λ (w : Vec ℕ Global). w.items) c.args.words.now) c.loop-i.i c.loop-i-test.false)
    at c.loop-i.invariant
