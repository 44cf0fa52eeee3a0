use Rattle.std.proofs.Common.{◌≡◌, ◌∙◌, ◌∷◌, ◌++◌, ◌+◌, ap, length, arith, drop}
use Rattle.std.specs.Fmt.{decimal}
use Rattle.vortex_logical.specs.DecimalTexts.{last_digits}
use Rattle.vortex_logical.proofs.DecimalWriting.{marked}
use Rattle.vortex_logical.proofs.decimals.write_fraction.Goals as goal

pub without_first-requires : goal.without_first-requires
without_first-requires c =
    let text : c.as_bytes-text.result.now ≡ 49 ∷ last_digits c.args.scale c.args.number =
    c.as_bytes-text.ensures.value ∙ c.format.ensures.text
    ∙ ap (λ p. decimal (p + c.args.number)) c.power_u64.ensures.value
    ∙ marked c.args.scale c.args.number c.requires.few c.requires.small in
    omega (arith, ap length text)

pub returns : goal.returns
returns c =
    let text : c.as_bytes-text.result.now ≡ 49 ∷ last_digits c.args.scale c.args.number =
    c.as_bytes-text.ensures.value ∙ c.format.ensures.text
    ∙ ap (λ p. decimal (p + c.args.number)) c.power_u64.ensures.value
    ∙ marked c.args.scale c.args.number c.requires.few c.requires.small in
    c.in_ok-extend_from_slice.ensures.items
    ∙ ap (λ bs. c.args.out.now.items ++ bs) (c.without_first.ensures ∙ ap (drop 1) text)
