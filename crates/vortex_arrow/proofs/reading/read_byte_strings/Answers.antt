use Rattle.std.proofs.Common.{◌∙◌}
use Rattle.vortex_types.specs.LogicalTypes.{bytes_type}
use Rattle.vortex_types.specs.Values.{bytes}
use Rattle.vortex_columns.specs.ValidityView.{validity_of, form_allows_null}
use Rattle.vortex_arrow.proofs.Rows.{strings_from}
use Rattle.vortex_arrow.proofs.reading.read_byte_strings.Goals as goal

pub returns-in-Ok : goal.returns-in-Ok
returns-in-Ok g c =
    let v = validity_of c.args.validity in
    let read = c.in_ok-values.ensures in (
      read.0,
      read.1,
      c.in-Ok.ensures.1
          ∙ strings_from (bytes_type (form_allows_null v.form)) bytes
          (g.R.ByteRows.item c.args.rows.now) v c.args.from c.args.count c.in_ok-values.values
          read.2,
    )
