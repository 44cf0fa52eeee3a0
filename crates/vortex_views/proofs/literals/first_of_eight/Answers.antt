use Rattle.std.proofs.Common.{◌≡◌, ◌-◌, ◌*◌, ◌/◌, ◌^◌, ◌∙◌, ap, sym, arith}
use Rattle.vortex_views.proofs.FirstBytes.{of_bits}
use Rattle.vortex_views.proofs.literals.first_of_eight.Goals as goal

pub returns : goal.returns
returns c =
    let bits : 64 - 8 * c.args.len ≡ 8 * (8 - c.args.len) = omega arith in
    ap (λ k. c.args.word / 2 ^ k) bits ∙ ap (λ p. c.args.word / p) (sym (of_bits (8 - c.args.len)))
