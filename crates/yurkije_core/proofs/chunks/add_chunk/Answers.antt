use Rattle.std.proofs.Common.{List, map, subst, sym}
use Rattle.vortex_columns.specs.ColumnView.{ColumnView}
use Rattle.vortex_functions.specs.Walks.{AllMean}
use Rattle.yurkije_columns.specs.Batches.{batch_column}
use Rattle.vortex_program.specs.Programs.{trees_of}
use Rattle.yurkije_core.specs.Chunks.{TakesRows, ArePut}
use Rattle.yurkije_core.proofs.ChunkRuns.{all_given, take_rows, all_run_more, all_answered_more}
use Rattle.yurkije_core.proofs.chunks.add_chunk.Goals as goal

pub run_chunk-requires-clause-given : goal.run_chunk-requires-clause-given
run_chunk-requires-clause-given c =
    all_given (map (batch_column c.args.rows) c.args.columns.now) c.args.first
    (trees_of c.args.program.now.optimized.items) c.args.joined.now.items c.requires.run

pub push_all-requires : goal.push_all-requires
push_all-requires c =
    let cs = map (batch_column c.args.rows) c.args.columns.now in
    let us = trees_of c.args.program.now.optimized.items in
    let os = c.args.joined.now.items in
    subst (λ (ds : List ColumnView). AllMean TakesRows os ds) (sym c.deref.ensures.value)
    (take_rows cs c.args.first c.args.count us os c.in-Ok.answers.items c.requires.run
    c.in-Ok.ensures.run c.requires.whole)

pub returns-in-Ok-push_all-clause-run : goal.returns-in-Ok-push_all-clause-run
returns-in-Ok-push_all-clause-run c =
    let cs = map (batch_column c.args.rows) c.args.columns.now in
    let us = trees_of c.args.program.now.optimized.items in
    let os = c.args.joined.now.items in
    let es = c.push_all.new.joined.items in
    all_run_more cs c.args.first c.args.count us os c.in-Ok.answers.items es c.requires.run
    c.in-Ok.ensures.run
    (subst (λ (ds : List ColumnView). ArePut os ds es) c.deref.ensures.value
    c.in-Ok-push_all.ensures)

pub returns-in-Ok-push_all-clause-answered : goal.returns-in-Ok-push_all-clause-answered
returns-in-Ok-push_all-clause-answered c rewrites before =
    let cs = map (batch_column c.args.rows) c.args.columns.now in
    let ts = trees_of c.args.program.now.written.items in
    let us = trees_of c.args.program.now.optimized.items in
    let os = c.args.joined.now.items in
    let es = c.push_all.new.joined.items in
    all_answered_more cs c.args.first c.args.count ts us os c.in-Ok.answers.items es c.requires.run
    c.in-Ok.ensures.run before (c.in-Ok.ensures.answered rewrites)
    (subst (λ (ds : List ColumnView). ArePut os ds es) c.deref.ensures.value
    c.in-Ok-push_all.ensures)
