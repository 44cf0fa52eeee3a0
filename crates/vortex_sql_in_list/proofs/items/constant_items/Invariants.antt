use Rattle.std.proofs.Common.{◌≤◌, ◌<◌, ℕ, drop, map, take}
use Rattle.vortex_interface.specs.Outcomes.{values_at}
use Rattle.vortex_sql_in_list.specs.InLists.{AreListed}
use Rattle.vortex_sql_in_list.proofs.items.constant_items.Given as goal

-- the items so far
abbrev pub invariant-loop-k : goal.invariant-loop-k
invariant-loop-k g l =
    (1 ≤ l.k)
    × ((i : ℕ) → i < g.A.ExecutionArgs.rows l.args
    → AreListed (map g.I.SetItem.value l.items.values.items) l.items.has_null
    (drop 1 (values_at (take l.k (g.A.ExecutionArgs.inputs l.args)) i)))
