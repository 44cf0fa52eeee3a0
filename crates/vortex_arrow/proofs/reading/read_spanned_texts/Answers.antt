use Rattle.std.proofs.Common.{◌≡◌, ◌+◌, ◌∙◌, ℕ, true, map, ap, subst}
use Rattle.std.specs.Prelude.{IsUtf8}
use Rattle.vortex_columns.specs.ValidityView.{validity_of, is_valid_row}
use Rattle.vortex_columns.specs.Made.{borrowed_texts}
use Rattle.vortex_arrow.specs.Values.{offset_at, bytes_between, LieWithin}
use Rattle.vortex_arrow.proofs.Found.{FindsTexts, found_told}
use Rattle.vortex_arrow.proofs.reading.read_spanned_texts.Goals as goal

pub returns-in-Some : goal.returns-in-Some
returns-in-Some g c =
    let v = validity_of c.args.validity in
    let bytes = c.args.rows.now.data.now in
    let os = map g.O.IndexType.number c.args.rows.now.offsets.now in
    let from = c.args.from in
    let item = λ (p : ℕ). bytes_between bytes (offset_at os p) (offset_at os (p + 1)) in
    let found =
    subst (FindsTexts g.O.IndexType.number c.args.rows.now.offsets.now bytes from c.args.count v)
    c.in-Some.is c.in_ok-found.ensures in
    found_told c.args.count
    (λ i. LieWithin bytes (offset_at os (from + i)) (offset_at os (from + i + 1)))
    (λ i. is_valid_row v i ≡ true → IsUtf8 (item (from + i))) _ c.column_of_texts.result
    c.deref.result.now item v from c.requires.fits
    (λ i lt. ((found.0 i lt).0, λ valid. (found.0 i lt).1))
    (ap borrowed_texts c.deref.ensures.value ∙ found.1) c.column_of_texts.ensures
