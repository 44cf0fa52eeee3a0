use Rattle.std.proofs.Common.{◌≡◌, List, None, Option, map, subst, sym}
use Rattle.vortex_errors.specs.Answers.{UnlessMemory}
use Rattle.vortex_columns.specs.ColumnView.{ColumnView}
use Rattle.vortex_interface.specs.Execution.{Executes, other_length}
use Rattle.vortex_functions.specs.Walks.{AllMean}
use Rattle.vortex_expressions.specs.Items.{meaning}
use Rattle.vortex_arrow.specs.declared.column.ArrowColumn.{ArrowColumn}
use Rattle.vortex_program.specs.declared.answer.Answer.{Answer}
use Rattle.yurkije_columns.specs.Batches.{batch_column}
use Rattle.vortex_program.specs.Executing.{RefusesColumnsFirst}
use Rattle.vortex_program.specs.Programs.{trees_of}
use Rattle.vortex_program.specs.Running.{AnswersTrees, FaultsFirstThere, RefusesTrees}
use Rattle.yurkije_core.proofs.ChunkAnswers.{chunk_run, chunk_answered, chunk_refused, chunk_fault}
use Rattle.yurkije_core.proofs.ChunkRows.{even_chunk}
use Rattle.yurkije_core.proofs.LentAnswers.{answered_lent}
use Rattle.yurkije_core.proofs.chunks.run_chunk.Goals as goal

pub execute_parts-requires : goal.execute_parts-requires
execute_parts-requires c =
    let count = c.args.count in
    subst
    (λ (ps : List (Option ArrowColumn)). other_length count (map (batch_column count) ps) ≡ None)
    (sym c.deref-2.ensures.value)
    (even_chunk c.args.first count (map (batch_column c.args.rows) c.args.columns.now)
    (map (batch_column count) c.in-Some.parts.items) (c.in-Some.ensures c.args.rows))

pub returns-in-Some-execute_parts-clause-run : goal.returns-in-Some-execute_parts-clause-run
returns-in-Some-execute_parts-clause-run c =
    let count = c.args.count in
    let cs = map (batch_column c.args.rows) c.args.columns.now in
    let ds = map (batch_column count) c.in-Some.parts.items in
    let us = trees_of c.args.program.now.optimized.items in
    let os = c.in-Some-execute_parts.answers.items in
    let there : AllMean (Executes meaning ds count) (trees_of c.deref.result.now) os =
    subst
    (λ (ps : List (Option ArrowColumn)).
    AllMean (Executes meaning (map (batch_column count) ps) count)
    (trees_of c.deref.result.now) os)
    c.deref-2.ensures.value c.in-Some-execute_parts.ensures in
    chunk_run c.args.first count cs ds (c.in-Some.ensures c.args.rows) us os c.requires.optimized
    (subst (λ (xs : List Answer). AllMean (Executes meaning ds count) (trees_of xs) os)
    c.deref.ensures.value there)

pub returns-in-Some-execute_parts-clause-answered :
    goal.returns-in-Some-execute_parts-clause-answered
returns-in-Some-execute_parts-clause-answered c rewrites =
    let cs = map (batch_column c.args.rows) c.args.columns.now in
    let ts = trees_of c.args.program.now.written.items in
    let us = trees_of c.args.program.now.optimized.items in
    let lent = c.requires.lent c.if-is_lent.true in
    answered_lent cs c.args.rows c.requires.even lent.typed c.args.first c.args.count
    c.requires.within ts us c.in-Some-execute_parts.answers.items rewrites lent.fit
    c.requires.written (returns-in-Some-execute_parts-clause-run c)

pub returns-in-Ok-clause-run : goal.returns-in-Ok-clause-run
returns-in-Ok-clause-run c =
    let cs = map (batch_column c.args.rows) c.args.columns.now in
    let ts = trees_of c.args.program.now.optimized.items in
    let os = c.in-Ok.answers.items in
    chunk_run c.args.first c.args.count cs c.in-Some-read_chunk.chunk.items (c.in-Some-read_chunk.ensures c.args.rows) ts os
    c.requires.optimized
    (subst (λ (ds : List ColumnView). AllMean (Executes meaning ds c.args.count) ts os)
    c.deref-3.ensures.value c.in-Ok.ensures.executed)

pub returns-in-Ok-clause-answered : goal.returns-in-Ok-clause-answered
returns-in-Ok-clause-answered c rewrites =
    let cs = map (batch_column c.args.rows) c.args.columns.now in
    let ts = trees_of c.args.program.now.written.items in
    let os = c.in-Ok.answers.items in
    chunk_answered c.args.first c.args.count cs c.in-Some-read_chunk.chunk.items (c.in-Some-read_chunk.ensures c.args.rows) ts os
    c.requires.written
    (subst (λ (ds : List ColumnView). AnswersTrees ds c.args.count ts os)
    c.deref-3.ensures.value (c.in-Ok.ensures.answer rewrites))

pub returns-in-Err-Fault-clause-refused : goal.returns-in-Err-Fault-clause-refused
returns-in-Err-Fault-clause-refused c rewrites =
    let cs = map (batch_column c.args.rows) c.args.columns.now in
    let us = trees_of c.args.program.now.optimized.items in
    let e = c.in-Err-Fault in
    chunk_fault c.args.first c.args.count cs c.in-Some-read_chunk.chunk.items (c.in-Some-read_chunk.ensures c.args.rows) c.args.rows
    (trees_of c.args.program.now.written.items) us c.requires.within c.requires.optimized
    c.requires.given e.row e.answer e.error c.fault_at.result c.fault_at.ensures
    (subst (λ (ds : List ColumnView). FaultsFirstThere ds c.args.count us e.row e.answer e.error)
    c.deref-3.ensures.value
    (subst
    (RefusesTrees c.deref-3.result.now c.args.count (trees_of c.args.program.now.written.items) us)
    e.field-0-is (e.ensures.answer rewrites)))

pub returns-in-Err-Refused-clause-refused : goal.returns-in-Err-Refused-clause-refused
returns-in-Err-Refused-clause-refused c rewrites =
    let cs = map (batch_column c.args.rows) c.args.columns.now in
    let ts = trees_of c.args.program.now.written.items in
    let e = c.in-Err-Refused in
    chunk_refused c.args.first c.args.count cs c.in-Some-read_chunk.chunk.items (c.in-Some-read_chunk.ensures c.args.rows) c.args.rows ts
    (trees_of c.args.program.now.optimized.items) c.requires.even e.error
    (subst (λ (ds : List ColumnView). UnlessMemory (RefusesColumnsFirst ds c.args.count ts) e.error)
    c.deref-3.ensures.value
    (subst
    (RefusesTrees c.deref-3.result.now c.args.count ts
    (trees_of c.args.program.now.optimized.items))
    e.field-0-is (e.ensures.answer rewrites)))
