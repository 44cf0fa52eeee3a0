use Rattle.std.proofs.lemmas.List.{take_rest}
use Rattle.rowfn_queries.specs.DeclaredColumns.{declared_by}
use Rattle.rowfn_queries.proofs.TypeTokens.{numbered_so, unnumbered}
use Rattle.rowfn_queries.proofs.declared.read_column.Goals as goal

pub returns-in-Number-clause-column : goal.returns-in-Number-clause-column
returns-in-Number-clause-column c =
    let xs = c.args.tokens.now in
    numbered_so (declared_by c.args.declared.now) (declared_by c.read_placed.new.declared) xs _ _
    c.in-Number.digits c.in_ok-count.count c.requires c.in-Number.is (take_rest xs 1)
    c.in_ok-count.ensures.column

pub returns-clause-column : goal.returns-clause-column
returns-clause-column c =
    rw (unnumbered (declared_by c.args.declared.now) c.args.tokens.now _ c.requires c.in_default.not-Number)
    c.read_named.ensures.column
