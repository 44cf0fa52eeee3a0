use Rattle.std.proofs.Common.{ℕ, ◌<◌, [], map, get_or}
use Rattle.vortex_views.specs.ViewBytes.{view_bytes}
use Rattle.vortex_views.specs.Resolved.{IsViewIn}
use Rattle.vortex_views.proofs.resolved.check_views.Given as goal

abbrev pub invariant-loop-view : goal.invariant-loop-view
invariant-loop-view l = (k : ℕ) → k < l.view-index
    → IsViewIn (map (λ b. b.items) l.buffers) (get_or (map view_bytes l.views) k [])
