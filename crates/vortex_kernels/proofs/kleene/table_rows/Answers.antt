use Rattle.std.proofs.Common.{ℕ, Bool, length, subst, sym}
use Rattle.std.specs.Prelude.{false, slice_index_or}
use Rattle.vortex_types.specs.TypeOf.{allows_null}
use Rattle.vortex_columns.specs.ValidityView.{validity_of, is_valid_row}
use Rattle.vortex_columns.specs.ValidRows.{valid_view}
use Rattle.vortex_operators.specs.Kleene.{kleene}
use Rattle.vortex_kernels.specs.Truths.{IsValueOf, rows_truth}
use Rattle.vortex_kernels.proofs.RowLemmas.{truth_answers}
use Rattle.vortex_kernels.proofs.kleene.table_rows.Goals as goal

pub returns : goal.returns
returns g c =
    let l = c.args.left in
    let r = c.args.right in
    let truth = λ (i : ℕ). kleene g.K.KleeneTable.operator (rows_truth l i) (rows_truth r i) in
    let told = c.in_ok-values.ensures in
    truth_answers (allows_null c.args.nullability) (length l.bits.now) truth c.in_ok-values.values
    (validity_of c.in_ok-validity.validity) c.try_bool.result told.count
    c.in_ok-validity.ensures
    (λ i lt.
    subst (λ (v : Bool). IsValueOf v (truth i)) (sym (told.each i lt))
    (g.met.K.KleeneTable.table (is_valid_row (valid_view l.valid) i)
    (is_valid_row (valid_view r.valid) i) (slice_index_or l.bits.now i false)
    (slice_index_or r.bits.now i false)))
    c.try_bool.ensures
