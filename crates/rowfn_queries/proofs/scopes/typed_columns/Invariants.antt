use Rattle.std.proofs.Common.{◌≡◌, [], true, map, string_bytes, get_or}
use Rattle.vortex_types.specs.LogicalTypes.{null_type}
use Rattle.rowfn_queries.specs.ColumnTypes.{type_in, plain}
use Rattle.rowfn_queries.specs.Columns.{gathered_in, none, with_first}
use Rattle.rowfn_queries.proofs.scopes.typed_columns.Given as goal

-- the columns so far are there
abbrev pub invariant-loop-place : goal.invariant-loop-place
invariant-loop-place l =
    gathered_in l.columns
    ≡ with_first (λ k. get_or (map string_bytes l.names) k [])
    (λ k. get_or (map (λ t. type_in t) l.types) k (plain null_type))
    (λ name. true) none l.place
