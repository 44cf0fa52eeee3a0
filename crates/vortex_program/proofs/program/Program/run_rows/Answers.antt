use Rattle.std.proofs.Common.{List, subst, sym}
use Rattle.std.specs.Prelude.{All}
use Rattle.vortex_interface.specs.Execution.{Executes}
use Rattle.vortex_functions.specs.Walks.{AllMean}
use Rattle.vortex_rewriting.specs.Keeping.{RewritesKeepRows}
use Rattle.vortex_expressions.specs.Items.{meaning}
use Rattle.vortex_program.specs.declared.answer.Answer as bound
use Rattle.vortex_program.specs.Executing.{AllFit}
use Rattle.vortex_program.specs.Programs.{trees_of}
use Rattle.vortex_program.proofs.Fitting.{fit_rewrites}
use Rattle.vortex_program.proofs.Keeping.{kept_answers}
use Rattle.vortex_program.proofs.program.Program.run_rows.Goals as goal

pub execute_all-requires : goal.execute_all-requires
execute_all-requires c = λ known.
    let cs = c.args.columns.now in
    let n = c.args.rows in
    let x = c.args.self.now in
    subst (λ (xs : List bound.Answer). AllFit cs n (trees_of xs)) (sym c.deref-2.ensures.value)
    (fit_rewrites cs n (trees_of x.written.items) (trees_of x.optimized.items) x.rewrites
    (subst (λ (xs : List bound.Answer). AllFit cs n (trees_of xs)) c.deref.ensures.value
    c.in_default.ensures.fit))

pub returns-in-Ok-clause-answer : goal.returns-in-Ok-clause-answer
returns-in-Ok-clause-answer c rewrites =
    let cs = c.args.columns.now in
    let n = c.args.rows in
    let answers = c.in-Ok.answers.items in
    let written = c.args.self.now.written.items in
    let optimized = c.args.self.now.optimized.items in
    kept_answers cs n (trees_of written) (trees_of optimized) answers rewrites
    (subst (λ (xs : List bound.Answer). AllFit cs n (trees_of xs)) c.deref.ensures.value
    c.in_default.ensures.fit)
    (subst (λ (xs : List bound.Answer). All (RewritesKeepRows meaning cs n) (trees_of xs))
    c.deref.ensures.value c.in_default.ensures.kept)
    (subst (λ (xs : List bound.Answer). AllMean (Executes meaning cs n) (trees_of xs) answers)
    c.deref-2.ensures.value c.in-Ok.ensures)

pub returns-in-Ok-clause-executed : goal.returns-in-Ok-clause-executed
returns-in-Ok-clause-executed c =
    let n = c.args.rows in
    let cs = c.args.columns.now in
    subst
    (λ (xs : List bound.Answer). AllMean (Executes meaning cs n) (trees_of xs) c.in-Ok.answers.items)
    c.deref-2.ensures.value c.in-Ok.ensures
