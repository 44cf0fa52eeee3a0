use Rattle.std.proofs.Common.{◌≡◌, ℕ, length, subst, arith}
use Rattle.std.specs.Prelude.{slice_index}
use Rattle.vortex_like.specs.Gathered.{IsNext}
use Rattle.vortex_like.proofs.gathered.Search.run.Goals as goal

pub pass_over-requires-clause-next : goal.pass_over-requires-clause-next
pass_over-requires-clause-next c =
    let at : c.len-in-loop-held-2.result ≡ length c.loop-held.held.items =
    omega (arith, c.loop-held.held.ok.0) in
    subst
    (λ (k : ℕ).
    IsNext c.args.self.now.bytes.now c.args.self.now.test.now.finder
    (slice_index c.args.self.now.places.now k) c.next_place-place.result)
    at c.next_place-place.ensures
