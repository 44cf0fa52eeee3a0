use Rattle.std.proofs.Common.{◌∙◌, ap, length, sym, to_z-of_z}
use Rattle.vortex_types.specs.Values.{number}
use Rattle.vortex_columns.specs.ColumnView.{ColumnView, row}
use Rattle.vortex_sql_float_columns.proofs.FloatRows.{constant_row, held}
use Rattle.vortex_sql_float_columns.proofs.execute.constant_key.Goals as goal

pub returns-in-Some-key_in : goal.returns-in-Some-key_in
returns-in-Some-key_in c =
    let column = c.args.column.now in
    record {
      there = λ i lt. tt;
      each = λ i lt w.
          ap (λ (x : ColumnView). row x.rows i) c.in-Some.ensures
          ∙ constant_row c.in-Some.scalar.now (length column.rows) i lt
          ∙ sym c.cell.ensures.value
          ∙ c.in-Some-key_in.ensures.value
          ∙ ap number (sym (to_z-of_z (held c.in-Some-key_in.key c.in-Some-key_in.ensures.range)));
    }
