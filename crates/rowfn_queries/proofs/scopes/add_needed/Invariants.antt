use Rattle.std.proofs.Common.{◌≡◌, map, string_bytes}
use Rattle.rowfn_queries.specs.Columns.{gathered_in, scope_in, name_in, column_at, is_among}
use Rattle.rowfn_queries.specs.Columns.{with_first}
use Rattle.rowfn_queries.proofs.scopes.add_needed.Given as goal

-- the wanted columns of the scope so far are there
abbrev pub invariant-loop-place : goal.invariant-loop-place
invariant-loop-place l =
    gathered_in l.columns
    ≡ with_first (name_in (scope_in l.from)) (column_at (scope_in l.from))
    (is_among (map string_bytes l.wanted)) (gathered_in l.initial.columns) l.place
