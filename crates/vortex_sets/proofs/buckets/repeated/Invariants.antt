use Rattle.std.proofs.Common.{◌≡◌, Bool, length, true}
use Rattle.std.specs.List.{list_all}
use Rattle.vortex_sets.proofs.buckets.repeated.Given as goal

-- so many so far
abbrev pub invariant-loop : goal.invariant-loop
invariant-loop g l =
    (length l.slots.items ≡ l.counter)
    × ((p : g.row.I.Denot → Bool) → p l.item ≡ true → list_all p l.slots.items ≡ true)
