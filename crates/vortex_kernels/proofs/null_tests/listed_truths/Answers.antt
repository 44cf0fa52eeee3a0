use Rattle.std.proofs.Common.{true, false, length, refl, slice_index_or}
use Rattle.vortex_types.specs.Values.{truth}
use Rattle.vortex_columns.specs.ValidityView.{ValidityView, non_nullable}
use Rattle.std.specs.Prelude.{[]}
use Rattle.vortex_kernels.proofs.RowLemmas.{bool_answers}
use Rattle.vortex_kernels.proofs.null_tests.listed_truths.Goals as goal

pub returns : goal.returns
returns c =
    let bits = c.args.bits in
    let v : ValidityView = record { form = non_nullable; bits = [] } in
    bool_answers false (length bits) (λ i. true) (λ i. truth (slice_index_or bits i false)) bits v
    c.try_bool.result refl
    (record { nullability = refl; fits = tt; each = λ i lt. refl })
    (λ i lt. refl)
    c.try_bool.ensures
