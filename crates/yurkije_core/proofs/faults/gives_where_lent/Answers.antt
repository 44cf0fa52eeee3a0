use Rattle.std.proofs.Common.{◌≡◌, List, None, Option, map, subst, sym}
use Rattle.vortex_interface.specs.Execution.{Executes, other_length}
use Rattle.vortex_functions.specs.Walks.{AllMean}
use Rattle.vortex_expressions.specs.Items.{meaning}
use Rattle.vortex_arrow.specs.declared.column.ArrowColumn.{ArrowColumn}
use Rattle.vortex_program.specs.declared.answer.Answer.{Answer}
use Rattle.vortex_program.specs.Programs.{trees_of}
use Rattle.yurkije_columns.specs.Batches.{batch_column}
use Rattle.yurkije_core.proofs.ChunkAnswers.{chunk_run}
use Rattle.yurkije_core.proofs.ChunkRows.{even_chunk}
use Rattle.yurkije_core.proofs.Looked.{run_gives}
use Rattle.yurkije_core.proofs.faults.gives_where_lent.Goals as goal

pub execute_parts-requires : goal.execute_parts-requires
execute_parts-requires c =
    let count = c.args.count in
    subst
    (λ (ps : List (Option ArrowColumn)). other_length count (map (batch_column count) ps) ≡ None)
    (sym c.deref-2.ensures.value)
    (even_chunk c.args.first count (map (batch_column 0) c.args.columns.now)
    (map (batch_column count) c.in-Some.parts.items) (c.in-Some.ensures 0))

pub returns-in-Some-execute_parts : goal.returns-in-Some-execute_parts
returns-in-Some-execute_parts c = λ yes n j lt.
    let count = c.args.count in
    let cs = map (batch_column n) c.args.columns.now in
    let ds = map (batch_column count) c.in-Some.parts.items in
    let us = trees_of c.args.program.now.optimized.items in
    let os = c.in-Some-execute_parts.field-0.items in
    let there : AllMean (Executes meaning ds count) (trees_of c.deref.result.now) os =
    subst
    (λ (ps : List (Option ArrowColumn)).
    AllMean (Executes meaning (map (batch_column count) ps) count)
    (trees_of c.deref.result.now) os)
    c.deref-2.ensures.value c.in-Some-execute_parts.ensures in
    run_gives cs c.args.first count us os
    (chunk_run c.args.first count cs ds (c.in-Some.ensures n) us os c.requires.optimized
    (subst (λ (xs : List Answer). AllMean (Executes meaning ds count) (trees_of xs) os)
    c.deref.ensures.value there)) j lt
