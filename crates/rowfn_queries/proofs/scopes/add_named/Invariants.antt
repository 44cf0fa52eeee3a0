use Rattle.std.proofs.Common.{◌≡◌, take}
use Rattle.rowfn_queries.specs.Columns.{gathered_in, with_texts}
use Rattle.rowfn_queries.proofs.scopes.add_named.Given as goal

-- the columns of the names so far are there
abbrev pub invariant-loop-name : goal.invariant-loop-name
invariant-loop-name l =
    gathered_in l.columns
    ≡ with_texts (take l.name-index l.names) (gathered_in l.initial.columns)
