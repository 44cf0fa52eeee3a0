use Rattle.vortex_types.specs.TypeOf.{struct_fields}
use Rattle.yurkije_core.proofs.ChunkRows.{served_chunk, served_place, served_counted, even_columns}
use Rattle.yurkije_core.proofs.running.run_flat.Goals as goal

pub check_faults-requires-clause-chunk : goal.check_faults-requires-clause-chunk
check_faults-requires-clause-chunk c =
    served_chunk (struct_fields c.args.program.now.scope) c.deref.result.now c.args.rows c.args.columns.now
    c.in-Ok.ensures c.requires.flat

pub check_faults-requires-clause-place : goal.check_faults-requires-clause-place
check_faults-requires-clause-place c =
    served_place (struct_fields c.args.program.now.scope) c.deref.result.now c.args.rows c.args.columns.now
    c.in-Ok.ensures c.requires.flat

pub check_faults-requires-clause-even : goal.check_faults-requires-clause-even
check_faults-requires-clause-even c =
    even_columns c.args.rows c.args.columns.now
    (served_counted (struct_fields c.args.program.now.scope) c.deref.result.now c.args.rows c.args.columns.now
    c.in-Ok.ensures)

pub run_chunks-requires-clause-chunk : goal.run_chunks-requires-clause-chunk
run_chunks-requires-clause-chunk c =
    served_chunk (struct_fields c.args.program.now.scope) c.deref.result.now c.args.rows c.args.columns.now
    c.in-Ok.ensures c.requires.flat

pub run_chunks-requires-clause-place : goal.run_chunks-requires-clause-place
run_chunks-requires-clause-place c =
    served_place (struct_fields c.args.program.now.scope) c.deref.result.now c.args.rows c.args.columns.now
    c.in-Ok.ensures c.requires.flat

pub run_chunks-requires-clause-even : goal.run_chunks-requires-clause-even
run_chunks-requires-clause-even c =
    even_columns c.args.rows c.args.columns.now
    (served_counted (struct_fields c.args.program.now.scope) c.deref.result.now c.args.rows c.args.columns.now
    c.in-Ok.ensures)
