use Rattle.std.proofs.Common.{◌≡◌, map, take}
use Rattle.vortex_views.proofs.values.copy_buffers.Given as goal

abbrev pub invariant-loop-buffer : goal.invariant-loop-buffer
invariant-loop-buffer l =
    map (λ b. b.items) l.copies.items ≡ map (λ b. b.items) (take l.buffer-index l.buffer-items)
