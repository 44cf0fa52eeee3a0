use Rattle.std.proofs.Common.{◌≡◌, Bool, true, false, List, length, ap}
use Rattle.std.specs.Prelude.{slice_index_or}
use Rattle.vortex_types.specs.TypeOf.{allows_null}
use Rattle.vortex_columns.specs.ValidityView.{validity_of, is_valid_row}
use Rattle.vortex_columns.specs.ValidRows.{valid_view}
use Rattle.vortex_kernels.specs.Truths.{IsValueOf, present, rows_truth}
use Rattle.vortex_kernels.proofs.RowLemmas.{truth_answers}
use Rattle.vortex_kernels.proofs.kleene.copied.Goals as goal

value_present : (p a b : Bool) → b ≡ a → IsValueOf b (present p a)
value_present true a b e = e
value_present false a b e = tt

pub returns : goal.returns
returns c =
    let rows = c.args.rows in
    let bits = c.in_ok-values.values in
    truth_answers (allows_null c.args.nullability) (length rows.bits.now) (rows_truth rows) bits
    (validity_of c.in_ok-validity.validity) c.try_bool.result (ap length c.in_ok-values.ensures)
    c.in_ok-validity.ensures
    (λ i lt.
    value_present (is_valid_row (valid_view rows.valid) i) (slice_index_or rows.bits.now i false)
    (slice_index_or bits i false)
    (ap (λ (xs : List Bool). slice_index_or xs i false) c.in_ok-values.ensures))
    c.try_bool.ensures
