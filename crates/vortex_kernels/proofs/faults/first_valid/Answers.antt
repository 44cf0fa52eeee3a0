use Rattle.std.proofs.Common.{◌≡◌, ◌∙◌, ℕ, false, length, slice_index_or, subst, sym}
use Rattle.vortex_columns.specs.ValidityView.{is_valid_row, validity_of, FitsRows}
use Rattle.vortex_columns.specs.ValidRows.{valid_view}
use Rattle.vortex_columns.specs.declared.valid_rows.ValidRows.{ValidRows}
use Rattle.vortex_kernels.proofs.FaultRows.{finds_listed}
use Rattle.vortex_kernels.proofs.faults.first_valid.Goals as goal

pub returns-in-Listed : goal.returns-in-Listed
returns-in-Listed c =
    let bits = c.args.bits.now in
    let valid = c.in-Listed.valid.now in
    let w = validity_of c.args.validity.now in
    let same : (i : ℕ) → slice_index_or valid i false ≡ is_valid_row w i =
    λ i. (λ j. is_valid_row (valid_view (sym c.in-Listed.is j)) i) ∙ c.of.ensures.rows.each i in
    let fits : length valid ≡ length bits =
    subst (λ (v : ValidRows). FitsRows (valid_view v) (length bits)) c.in-Listed.is
    (c.of.ensures.rows.fits (length bits) c.requires) in
    finds_listed bits valid c.slice-set.result c.slice.result w c.len.result c.len-in-Listed.result
    c.first_of_both-in-Listed.result c.slice-set.ensures c.len.ensures c.slice.ensures
    c.len-in-Listed.ensures fits same c.first_of_both-in-Listed.ensures
