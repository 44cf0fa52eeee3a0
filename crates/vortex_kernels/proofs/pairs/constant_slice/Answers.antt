use Rattle.std.proofs.Common.{sym, ap, ◌∙◌}
use Rattle.vortex_columns.specs.Cells.{cell_value}
use Rattle.vortex_types.specs.Values.{text}
use Rattle.vortex_kernels.proofs.Comparing.{constant_text, constant_bytes}
use Rattle.vortex_kernels.proofs.pairs.constant_slice.Goals as goal

pub returns-in-Text : goal.returns-in-Text
returns-in-Text c =
    let s = c.in_ok-scalar.scalar.now in
    let is =
    sym c.cell.ensures.value ∙ ap cell_value c.in-Text.is
    ∙ ap text (sym c.as_bytes.ensures.value) in
    constant_text s c.args.column.now c.as_bytes.result.now c.in_ok-scalar.ensures
    c.dtype.ensures.typed is

pub returns-in-Bytes : goal.returns-in-Bytes
returns-in-Bytes c =
    let s = c.in_ok-scalar.scalar.now in
    let is = sym c.cell.ensures.value ∙ ap cell_value c.in-Bytes.is in
    constant_bytes s c.args.column.now c.in-Bytes.bytes.now c.in_ok-scalar.ensures
    c.dtype.ensures.typed is
