use Rattle.std.proofs.lemmas.Bool.{eq-eqb, eqb-true}
use Rattle.std.proofs.Common.{ap, ◌∙◌}
use Rattle.std.specs.Int.{w32, from_be_bytes}
use Rattle.vortex_views.proofs.Digits.{are_bytes}
use Rattle.vortex_views.proofs.ByteOrder.{tells_four}
use Rattle.vortex_views.proofs.words.same_four.Goals as goal

pub returns : goal.returns
returns c =
    let both = tells_four c.args.i c.args.j c.args.a.now c.args.b.now c.from_be_bytes.result
    c.from_be_bytes-2.result
    (are_bytes _ c.type_inv.a) (are_bytes _ c.type_inv.b) c.requires.a_room c.requires.b_room
    (c.from_be_bytes.ensures ∙ ap (λ xs. from_be_bytes w32 xs) c.four_at.ensures)
    (c.from_be_bytes-2.ensures ∙ ap (λ xs. from_be_bytes w32 xs) c.four_at-2.ensures) in (
      (λ h. both.0 (eqb-true c.from_be_bytes.result c.from_be_bytes-2.result h)),
      (λ s. eq-eqb c.from_be_bytes.result c.from_be_bytes-2.result (both.1 s)),
    )
