use Rattle.std.proofs.Common.{◌∙◌, ◌++◌, ◌∷◌, ◌/◌, ◌%◌, ap, arith}
use Rattle.std.specs.Fmt.{decimal}
use Rattle.vortex_logical.specs.DecimalTexts.{last_digits}
use Rattle.vortex_logical.proofs.DecimalWriting.{magnitude_parts, joined}
use Rattle.vortex_logical.proofs.decimals.write_magnitude.Goals as goal

pub returns : goal.returns
returns c =
    let n = c.args.number in
    let power = c.power_u64-power.ensures.value in
    let text = c.as_bytes.ensures.value ∙ c.format.ensures.text in
    joined _ _ _ _ _ _ c.in_ok-extend_from_slice.ensures.items c.in_ok-push.ensures.items c.in_ok-write_fraction.ensures
    ∙ (λ i. c.args.out.now.items ++ (text i ++ 46 ∷ last_digits c.args.scale (n % c.power_u64-power.result)))
    ∙ (λ i. c.args.out.now.items ++ (decimal (n / power i) ++ 46 ∷ last_digits c.args.scale (n % power i)))
    ∙ ap (λ bs. c.args.out.now.items ++ bs) (magnitude_parts c.args.scale n (omega arith))
