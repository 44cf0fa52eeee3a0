use Rattle.std.proofs.Common.{List, map, subst, sym}
use Rattle.vortex_columns.specs.ColumnView.{ColumnView}
use Rattle.yurkije_columns.specs.Batches.{batch_column}
use Rattle.vortex_program.specs.Programs.{trees_of}
use Rattle.vortex_program.specs.Running.{AnswersTrees}
use Rattle.yurkije_core.proofs.ChunkRuns.{none_answered, all_answered}
use Rattle.yurkije_core.proofs.chunks.run_chunks.Goals as goal

pub returns-in-Ok-columns_of : goal.returns-in-Ok-columns_of
returns-in-Ok-columns_of c rewrites =
    let cs = map (batch_column c.args.rows) c.args.columns.now in
    let n = c.args.rows in
    let ts = trees_of c.args.program.now.written.items in
    let us = trees_of c.args.program.now.optimized.items in
    subst (λ (os : List ColumnView). AnswersTrees cs n ts os) (sym c.in-Ok-columns_of.ensures)
    (all_answered cs n c.requires.even c.requires.some ts us c.add_chunks.new.joined.items rewrites
    c.in-Ok.ensures.run
    (c.in-Ok.ensures.answered rewrites
    (none_answered cs ts us c.args.begun.items rewrites c.requires.run)))
