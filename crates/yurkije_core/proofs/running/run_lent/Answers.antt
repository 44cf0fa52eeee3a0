use Rattle.std.proofs.Common.{List, map, subst}
use Rattle.std.specs.Prelude.{All}
use Rattle.vortex_types.specs.TypeOf.{struct_fields}
use Rattle.vortex_interface.specs.Bound.{IsBound}
use Rattle.vortex_interface.specs.Execution.{Executes}
use Rattle.vortex_functions.specs.Walks.{AllMean}
use Rattle.vortex_expressions.specs.Items.{meaning}
use Rattle.vortex_logical.specs.declared.kind.Kind.{Kind}
use Rattle.vortex_program.specs.Programs.{trees_of}
use Rattle.vortex_program.specs.declared.answer.Answer.{Answer}
use Rattle.yurkije_columns.specs.Batches.{AllServe, batch_column}
use Rattle.yurkije_core.proofs.ChunkRows.{served_counted, even_columns}
use Rattle.yurkije_core.proofs.LentAnswers.{answers_lent}
use Rattle.yurkije_core.proofs.running.run_lent.Goals as goal

pub execute_parts-requires : goal.execute_parts-requires
execute_parts-requires c =
    even_columns c.args.rows c.args.columns.now
    (served_counted (struct_fields c.args.program.now.scope) c.deref.result.now c.args.rows
    c.args.columns.now c.in-Ok.ensures)

pub returns : goal.returns
returns c = λ rewrites.
    let n = c.args.rows in
    let program = c.args.program.now in
    let cs = map (batch_column n) c.args.columns.now in
    let ts = trees_of program.written.items in
    let us = trees_of program.optimized.items in
    let ds = c.in-Some.answers.items in
    let lent = c.is_lent.ensures c.if-not-is_lent.false n in
    let even =
    even_columns n c.args.columns.now
    (served_counted (struct_fields program.scope) c.deref.result.now n c.args.columns.now
    c.in-Ok.ensures) in
    let bound : All IsBound ts =
    subst (λ (xs : List Answer). All IsBound (trees_of xs)) c.deref-2.ensures.value
    c.learn_bound.ensures in
    let run : AllMean (Executes meaning cs n) us ds =
    subst (λ (xs : List Answer). AllMean (Executes meaning cs n) (trees_of xs) ds)
    c.deref-3.ensures.value c.in-Some.ensures in
    record {
      served =
          subst
          (λ (kinds : List Kind).
          AllServe (struct_fields program.scope) kinds n c.args.columns.now)
          c.deref.ensures.value c.in-Ok.ensures;
      answered = answers_lent cs n even lent.typed ts us ds rewrites lent.fit bound run;
    }
