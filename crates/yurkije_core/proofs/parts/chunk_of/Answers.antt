use Rattle.std.proofs.Common.{◌≡◌, true, false, sym, ◌∙◌}
use Rattle.vortex_arrow.specs.Layouts.{layout_of}
use Rattle.yurkije_core.proofs.ChunkOf.{chunk_has}
use Rattle.yurkije_core.proofs.parts.chunk_of.Goals.{then-column, else-column}
use Rattle.yurkije_core.proofs.parts.chunk_of.Goals as goal

pub returns : goal.returns
returns c =
    let column = c.args.column.now in
    chunk_has (layout_of column.values) column.offset column.length c.args.first c.args.count
    c.requires.within column.nullable column.validity c.if-column.result
    (elim c.if-column.branch [
      | then-column w ↦ λ nullable. w.result-is
      | else-column w ↦ λ nullable. let both : true ≡ false = sym nullable ∙ w.if-column.false in cc
    ])
