-- The bits of a validity as a column, and the validity of a column as a tree.
use Rattle.std.proofs.Common.{◌≡◌, ℕ, Bool, true, false, not, List, [], ◌∷◌, map, length, None}
use Rattle.std.proofs.Common.{refl, sym, ap, ◌∙◌, arith, ◌<◌}
use Rattle.std.specs.Prelude.{slice_index_or}
use Rattle.std.specs.List.{range_with_len}
use Rattle.std.proofs.lemmas.List.{ext_get_or, get_or-map, length-map}
use Rattle.std.proofs.lemmas.List.FromFn.{get_or-map-range_with_len, length-map-range_with_len}
use Rattle.vortex_types.specs.LogicalTypes.{bool_type}
use Rattle.vortex_types.specs.Values.{Value, null, truth, is_null}
use Rattle.vortex_columns.specs.ColumnView.{ColumnView, valid_rows}
use Rattle.vortex_columns.specs.ValidityView.{ValidityForm, ValidityView, non_nullable, all_valid}
use Rattle.vortex_columns.specs.ValidityView.{all_invalid, array}
use Rattle.vortex_columns.specs.Stored.{bool_column}
use Rattle.vortex_interface.specs.ValidityRules.{validity_column}
use Rattle.vortex_rewriting.specs.ColumnValidity.{validity_by_form}

abbrev pub plain : ValidityView
plain = record { form = non_nullable; bits = [] }

listed : (bits : List Bool)
    → map (λ i. truth (slice_index_or bits i false)) (range_with_len 0 (length bits))
    ≡ map truth bits
listed bits =
    let n = length bits in
    let truth_at = λ (i : ℕ). truth (slice_index_or bits i false) in
    let counted = length-map-range_with_len truth_at 0 n in
    ext_get_or null (map truth_at (range_with_len 0 n)) (map truth bits)
    (counted ∙ sym (length-map bits truth))
    (λ i h.
    let lt : i < n = omega (arith, h, counted) in
    get_or-map-range_with_len truth_at 0 n i i null lt (omega arith)
    ∙ sym (get_or-map truth bits i false null lt))

truths_of : (vs : List Value)
    → map truth (map (λ v. not (is_null v)) vs) ≡ map (λ v. truth (not (is_null v))) vs
truths_of [] = refl
truths_of (v ∷ vs) = ap (λ ws. truth (not (is_null v)) ∷ ws) (truths_of vs)

pub bits_are_validity : (c : ColumnView) (bits : List Bool) → bits ≡ valid_rows c.rows
    → bool_column bits plain ≡ validity_column c
bits_are_validity c bits is =
    let rows = listed bits ∙ ap (map truth) is ∙ truths_of c.rows in
    λ j. record { dtype = bool_type false; rows = rows j; constant = None; form = non_nullable }

pub rows_by_form : (form : ValidityForm) (c : ColumnView)
    → length (validity_by_form form c).rows ≡ length c.rows
rows_by_form non_nullable c = length-map-range_with_len (λ i. truth true) 0 (length c.rows)
rows_by_form all_valid c = length-map-range_with_len (λ i. truth true) 0 (length c.rows)
rows_by_form all_invalid c = length-map-range_with_len (λ i. truth false) 0 (length c.rows)
rows_by_form array c = length-map c.rows (λ v. truth (not (is_null v)))
