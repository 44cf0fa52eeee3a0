use Rattle.std.proofs.Common.{◌∙◌, ap, sym}
use Rattle.std.proofs.lemmas.List.{take_rest}
use Rattle.std.specs.Option.{option_copied}
use Rattle.rowfn_queries.specs.DeclaredColumns.{declared_by}
use Rattle.rowfn_queries.proofs.TypeTokens.{placed_so}
use Rattle.rowfn_queries.proofs.declared.read_placed.Goals as goal

pub returns-in-Ok-read_named-clause-column : goal.returns-in-Ok-read_named-clause-column
returns-in-Ok-read_named-clause-column c =
    let xs = c.args.tokens.now in
    placed_so (declared_by c.args.declared.now) (declared_by c.read_named.new.declared) _ c.in-Ok.place xs _
    c.in-Some.word.now c.in-Ok-read_named.count c.in-Ok.ensures
    (sym c.first.ensures.value ∙ ap option_copied c.in-Some.is)
    (sym c.is_as.ensures ∙ c.if-not-is_as.false) (take_rest xs 1) c.in-Ok-read_named.ensures.column
