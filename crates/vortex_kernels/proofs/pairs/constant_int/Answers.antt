use Rattle.std.proofs.Common.{◌≡◌, sym, ap, ◌∙◌, arith, to_z-of_z}
use Rattle.std.specs.Int.{w128}
use mir.Val.{to_z, of_z}
use Rattle.vortex_columns.specs.Cells.{cell_value}
use Rattle.vortex_types.specs.Typing.{FitsPType}
use Rattle.vortex_types.specs.Values.{number}
use Rattle.vortex_kernels.proofs.Comparing.{constant_row, fitting_constant}
use Rattle.vortex_kernels.proofs.Calculating.{null_column_is, null_where_none, cell_number}
use Rattle.vortex_kernels.proofs.pairs.constant_int.Goals as goal

pub returns-in-Int-clause-value : goal.returns-in-Int-clause-value
returns-in-Int-clause-value g c =
    let n = c.in-Int.number in
    let z = to_z w128 (of_z w128 n) in
    let same : n ≡ z = grind (arith, to_z-of_z) in
    let s = c.in_ok-scalar.scalar.now in
    fitting_constant g.T.NativePType.number (FitsPType g.T.NativePType.ptype z) z c.args.column.now
    c.from_i128.result c.from_i128.ensures
    (λ i h.
    constant_row s c.args.column.now c.in_ok-scalar.ensures i h
    ∙ sym c.cell.ensures.value
    ∙ ap cell_value c.in-Int.is
    ∙ ap number same)

pub returns-in-Int-clause-null : goal.returns-in-Int-clause-null
returns-in-Int-clause-null g c =
    let p = g.T.NativePType.ptype in
    let n = c.in-Int.number in
    let z = to_z w128 (of_z w128 n) in
    let same : n ≡ z = grind (arith, to_z-of_z) in
    let s = c.in_ok-scalar.scalar.now in
    let is : s.value ≡ number z =
    sym c.cell.ensures.value ∙ ap cell_value c.in-Int.is ∙ ap number same in
    null_where_none p z s c.args.column.now c.in_ok-scalar.ensures c.dtype.ensures.typed is
    c.from_i128.result (λ x. g.T.NativePType.number x ≡ z) c.from_i128.ensures

pub returns-in_default : goal.returns-in_default
returns-in_default g c =
    let s = c.in_ok-scalar.scalar.now in
    record {
      value = tt;
      null = λ some is.
          null_column_is g.T.NativePType.ptype s c.args.column.now c.in_ok-scalar.ensures is
          c.dtype.ensures.typed
          (λ z e.
          absurd
          (cell_number c.cell.result c.in_default.not-Int z (c.cell.ensures.value ∙ e)));
    }
