use Rattle.std.proofs.Common.{ap, sym, subst, ◌∙◌, length, List, Bor, ℕ, [], rules}
use Rattle.std.specs.Prelude.{All, IsUtf8}
use Rattle.std.proofs.lemmas.List.Elements.{All-map}
use Rattle.std.proofs.lemmas.List.{length-map}
use Rattle.vortex_columns.specs.ValidityView.{FitsRows, validity_of}
use Rattle.vortex_columns.proofs.column.Column.try_texts.Goals as goal

pub of_text_values-requires : goal.of_text_values-requires
of_text_values-requires c =
    let same = c.in_ok-views.ensures.1 in
    let texts : All IsUtf8 c.in_ok-views.views =
    subst (λ (ts : List (List ℕ)). All IsUtf8 ts) (sym same)
    (All-map IsUtf8 (λ (t : Bor (List ℕ)). t.now) c.args.values.now c.learn_texts.ensures) in (
      subst (FitsRows (validity_of c.args.validity))
          (sym (ap length same ∙ length-map c.args.values.now (λ (t : Bor (List ℕ)). t.now)))
          (c.fits.ensures.0 (search rules)),
      λ i h valid. texts i [] h,
    )
