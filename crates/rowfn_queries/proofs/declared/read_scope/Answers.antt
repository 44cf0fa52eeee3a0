use Rattle.std.proofs.Common.{map, subst, sym}
use Rattle.vortex_syntax.specs.Tokens.{token_in}
use Rattle.vortex_syntax.specs.Lexing.{Lexes}
use Rattle.rowfn_queries.proofs.Refusing.{refused_so}
use Rattle.rowfn_queries.proofs.declared.read_scope.Goals as goal

pub returns-clause-found : goal.returns-clause-found
returns-clause-found c =
    let ts = map token_in c.in-Ok.read.tokens.items in
    let lexed = subst (λ w. Lexes w ts) c.as_bytes.ensures.value c.in-Ok.ensures.found in
    refused_so c.args.text.now (map token_in c.deref.result.now)
    (subst (λ xs. Lexes c.args.text.now (map token_in xs)) (sym c.deref.ensures.value) lexed)
    c.in-Err-read_columns.stop.reason c.error_at.result.reason c.in-Err-read_columns.ensures
    c.error_at.ensures
