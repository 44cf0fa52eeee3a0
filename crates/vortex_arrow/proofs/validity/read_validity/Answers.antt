use Rattle.std.proofs.Common.{sym, ap}
use Rattle.vortex_arrow.specs.Columns.{validity_from}
use Rattle.vortex_arrow.proofs.Nulls.{null_found, none_found}
use Rattle.vortex_arrow.proofs.validity.read_validity.Goals as goal

pub returns-in-Some-first_unset : goal.returns-in-Some-first_unset
returns-in-Some-first_unset c =
    null_found c.args.column.now c.in-Some.bitmap c.in_ok-bits.bits c.in-Some.is c.if-column-2.false
    c.in_ok-bits.ensures c.in-Some-first_unset.row c.in-Some-first_unset.ensures

pub returns : goal.returns
returns c =
    let column = c.args.column.now in (
      none_found column c.in-Some.bitmap c.in_ok-bits.bits c.in-Some.is c.if-column-2.false
          c.in_ok-bits.ensures c.in-None-first_unset.ensures,
      ap (λ n. validity_from n column.validity column.offset column.length)
          (sym c.if-column-2.false),
    )
