use Rattle.std.proofs.Common.{◌≡◌, ◌-◌, ◌*◌, ◌/◌, ◌^◌, ◌∙◌, ap, sym, arith, rules}
use Rattle.vortex_views.proofs.FirstBytes.{of_bits}
use Rattle.vortex_views.proofs.literals.first_of_four.Goals as goal

pub returns : goal.returns
returns c =
    let bits : 32 - 8 * c.args.len ≡ 8 * (4 - c.args.len) = omega arith in
    let same : c.from.result ≡ c.args.word = search rules in
    ap (λ k. c.from.result / 2 ^ k) bits
    ∙ ap (λ p. c.from.result / p) (sym (of_bits (4 - c.args.len)))
    ∙ ap (λ x. x / 256 ^ (4 - c.args.len)) same
