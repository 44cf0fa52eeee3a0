use Rattle.std.proofs.Common.{string_bytes, ap, sym, subst, ◌∙◌, length, map, List, ℕ, [], arith}
use Rattle.std.proofs.Common.{rules, ◌≡◌}
use Rattle.std.specs.Prelude.{All, IsUtf8, slice_index_or}
use Rattle.std.proofs.lemmas.List.Elements.{All-map}
use Rattle.std.proofs.lemmas.List.{length-map}
use Rattle.std.proofs.lemmas.Str.{IsUtf8-string_bytes}
use Rattle.vortex_columns.specs.ValidityView.{FitsRows, validity_of}
use Rattle.vortex_columns.proofs.column.Column.try_utf8.Goals as goal

pub of_text_values-requires : goal.of_text_values-requires
of_text_values-requires c =
    let same : c.in_ok-views.views ≡ map string_bytes c.args.values.items =
    c.in_ok-views.ensures.1 ∙ ap (map string_bytes) c.as_slice.ensures.value in
    let texts : All IsUtf8 c.in_ok-views.views =
    subst (λ (ts : List (List ℕ)). All IsUtf8 ts) (sym same)
    (All-map IsUtf8 string_bytes c.args.values.items
    (λ i d h. IsUtf8-string_bytes (slice_index_or c.args.values.items i d))) in (
      subst (FitsRows (validity_of c.args.validity))
          (sym (ap length same ∙ length-map c.args.values.items string_bytes
          ∙ omega (arith, c.args.values.ok.0, c.len.ensures)))
          (c.fits.ensures.0 (search rules)),
      λ i h valid. texts i [] h,
    )
