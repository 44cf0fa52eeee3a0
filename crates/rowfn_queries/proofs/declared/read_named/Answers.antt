use Rattle.std.proofs.Common.{◌∙◌, ap, sym, map, drop, ◌+◌, string_bytes}
use Rattle.std.proofs.lemmas.List.{take_rest}
use Rattle.vortex_syntax.specs.Tokens.{token_in}
use Rattle.rowfn_queries.specs.DeclaredColumns.{DeclaredColumns, declared_by}
use Rattle.rowfn_queries.specs.DeclaredTypes.{type_by}
use Rattle.rowfn_queries.specs.Scopes.{more_behind}
use Rattle.rowfn_queries.proofs.TypeTokens.{named_so}
use Rattle.rowfn_queries.proofs.declared.read_named.Goals as goal

pub returns-in-Ok-push-clause-column : goal.returns-in-Ok-push-clause-column
returns-in-Ok-push-clause-column c =
    let xs = c.args.tokens.now in
    let written = c.in-Ok-type_at.written in
    let second = c.in-Some.ensures.lookup in
    named_so (declared_by c.args.declared.now) c.args.place xs _ _ c.in-Some.token.now
    (string_bytes c.in-Ok.name) (type_by written) second.3.0 second.1 c.in-Ok.ensures (take_rest xs 2)
    c.in-Ok-type_at.ensures.given
    ∙ ap (λ (d : DeclaredColumns). more_behind d (map token_in (drop (written.further + 2) xs)))
    (sym c.in-Ok-push.ensures)
