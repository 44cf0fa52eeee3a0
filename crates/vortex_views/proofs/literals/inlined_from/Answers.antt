use Rattle.std.proofs.Common.{◌*◌, ◌/◌, ◌^◌, ◌∙◌, ap, sym}
use Rattle.std.specs.Int.{w128, from_le_bytes}
use Rattle.vortex_views.specs.ViewBytes.{view_bytes}
use Rattle.vortex_views.proofs.FirstBytes.{of_bits}
use Rattle.vortex_views.proofs.literals.inlined_from.Goals as goal

pub returns : goal.returns
returns c =
    let at = c.args.at in
    ap (λ x. x / 2 ^ 32 / 2 ^ (8 * at)) c.as_u128.ensures
    ∙ ap (λ p. from_le_bytes w128 (view_bytes c.args.view.now) / 2 ^ 32 / p) (sym (of_bits at))
