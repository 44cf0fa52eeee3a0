use Rattle.std.proofs.Common.{◌≡◌, length, map}
use Rattle.vortex_syntax.specs.Tokens.{token_in}
use Rattle.rowfn_queries.specs.DeclaredColumns.{declared_by}
use Rattle.rowfn_queries.specs.Scopes.{columns_of, columns_behind}
use Rattle.rowfn_queries.proofs.declared.read_columns.Given as goal

-- what is left is read behind the columns so far
abbrev pub invariant-columns : goal.invariant-columns
invariant-columns l =
    columns_of (map token_in l.tokens) ≡ columns_behind (declared_by l.declared) (map token_in l.rest)

abbrev pub decreases-columns : goal.decreases-columns
decreases-columns l = length l.rest
