use Rattle.std.proofs.Common.{ℕ, ◌≤◌, ◌-◌, length, map}
use Rattle.rowfn_batches.specs.Fields.{field_in}
use Rattle.rowfn_batches.specs.Skipping.{PassesParts}
use Rattle.rowfn_batches.proofs.Spent.{IsSpent}
use Rattle.rowfn_batches.proofs.stream.Stream.pass_parts.Given as goal

-- the rows before the next were passed on, and no more were tried than may be
abbrev pub invariant-parts : goal.invariant-parts
invariant-parts g l =
    (total : ℕ)
    × PassesParts (map field_in l.fields) (map field_in l.asked) l.spans l.first l.initial.self
    (g.W.Write.contents l.initial.writer) l.initial.refusals.count l.next l.self
    (g.W.Write.contents l.writer) l.refusals.count total
    × IsSpent (length l.spans) l.first l.next l.count total × (l.first ≤ l.next)

abbrev pub decreases-parts : goal.decreases-parts
decreases-parts g l = length l.spans - l.next
