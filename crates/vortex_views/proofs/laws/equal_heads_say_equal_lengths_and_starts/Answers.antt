use Rattle.vortex_views.proofs.Digits.{are_bytes}
use Rattle.vortex_views.proofs.Layouts.{same_heads}
use Rattle.vortex_views.proofs.laws.equal_heads_say_equal_lengths_and_starts.Goals as goal

pub returns : goal.returns
returns c =
    let same = same_heads c.args.a.now c.args.b.now (are_bytes _ c.type_inv.a)
    (are_bytes _ c.type_inv.b)
    c.requires.a_len c.requires.b_len c.requires.heads in
    record { lengths = same.0; starts = same.1 }
