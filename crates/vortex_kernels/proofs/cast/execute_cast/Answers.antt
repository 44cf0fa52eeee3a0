use Rattle.std.proofs.Common.{true, length, sym, subst, List, Bool}
use Rattle.std.specs.Prelude.{not}
use Rattle.vortex_types.specs.Values.{is_null}
use Rattle.vortex_columns.specs.ColumnView.{row, AreBits}
use Rattle.vortex_columns.specs.ValidityView.{validity_of}
use Rattle.vortex_kernels.proofs.CastRows.{kept_row}
use Rattle.vortex_kernels.proofs.RowLemmas.{bool_answers}
use Rattle.vortex_kernels.proofs.cast.execute_cast.Goals as goal

pub returns-in_ok-validity-in-None-Some-clause-rows :
    goal.returns-in_ok-validity-in-None-Some-clause-rows
returns-in_ok-validity-in-None-Some-clause-rows c =
    let input = c.args.input.now in
    let bits = c.in_ok-values-in-None-Some.values in
    let are =
    subst (λ (bs : List Bool). AreBits input bs) (sym c.in_ok-values-in-None-Some.ensures)
    c.in-None-Some.ensures'.1 in
    bool_answers true (length input.rows) (λ i. not (is_null (row input.rows i)))
    (λ i. row input.rows i) bits (validity_of c.in_ok-validity-in-None-Some.validity)
    c.try_bool.result are.count c.in_ok-validity-in-None-Some.ensures (kept_row input bits are)
    c.try_bool.ensures
