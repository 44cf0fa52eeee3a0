use Rattle.std.proofs.Common.{◌≡◌, true}
use Rattle.rowfn_queries.specs.Columns.{gathered_in, scope_in, name_in, column_at, with_first}
use Rattle.rowfn_queries.proofs.scopes.add_all.Given as goal

-- the columns of the scope so far are there
abbrev pub invariant-loop-place : goal.invariant-loop-place
invariant-loop-place l =
    gathered_in l.columns
    ≡ with_first (name_in (scope_in l.from)) (column_at (scope_in l.from)) (λ name. true)
    (gathered_in l.initial.columns) l.place
