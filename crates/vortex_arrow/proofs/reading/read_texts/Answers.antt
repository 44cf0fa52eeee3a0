use Rattle.std.specs.Borrow.{Bor}
use Rattle.std.proofs.Common.{◌∙◌, ap, sym, subst, List, ℕ, length, ◌≡◌}
use Rattle.vortex_types.specs.LogicalTypes.{text_type}
use Rattle.vortex_types.specs.Values.{text}
use Rattle.vortex_views.specs.Collected.{HaveRoom}
use Rattle.vortex_columns.specs.ValidityView.{validity_of, form_allows_null, FitsRows}
use Rattle.vortex_columns.specs.Made.{borrowed_texts}
use Rattle.std.proofs.lemmas.List.{length-map}
use Rattle.vortex_arrow.proofs.Rows.{strings_from, length_values}
use Rattle.vortex_arrow.proofs.Collecting.{push_refused}
use Rattle.vortex_arrow.proofs.reading.read_texts.Goals as goal

pub returns-in-Ok : goal.returns-in-Ok
returns-in-Ok g c =
    let v = validity_of c.args.validity in
    let read = c.in_ok-texts.ensures in
    let same = ap borrowed_texts c.deref.ensures.value ∙ read.1 in (
      read.0,
      subst HaveRoom same c.in-Ok.ensures.0.1,
      c.in-Ok.ensures.1
          ∙ strings_from (text_type (form_allows_null v.form)) text
          (g.R.ByteRows.item c.args.rows.now) v c.args.from c.args.count
          (borrowed_texts c.deref.result.now) same,
    )

pub returns : goal.returns
returns g c =
    let v = validity_of c.args.validity in
    let item = g.R.ByteRows.item c.args.rows.now in
    let same = ap borrowed_texts c.deref.ensures.value ∙ c.in_ok-texts.ensures.1 in
    let count : length c.deref.result.now ≡ c.args.count =
    sym (length-map c.deref.result.now (λ (t : Bor (List ℕ)). t.now))
    ∙ ap length same ∙ length_values item v c.args.from c.args.count in
    push_refused _ _ _ _ _ _ c.in-Err.error
    (λ room. (subst (FitsRows v) (sym count) c.requires.fits, subst HaveRoom (sym same) room))
    c.in-Err.ensures
