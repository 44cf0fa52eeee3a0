use Rattle.std.proofs.Common.{sym, subst}
use Rattle.rowfn_queries.specs.DeclaredColumns.{declared_by}
use Rattle.rowfn_queries.specs.Reading.{AreInferred}
use Rattle.rowfn_queries.proofs.WordsRead.{answers_asked, condition_asked, are_read}
use Rattle.rowfn_queries.proofs.WordsRead.{refused_so}
use Rattle.rowfn_queries.proofs.query.read_query.Goals as goal

pub returns-in-Ok-bind-clause-read : goal.returns-in-Ok-bind-clause-read
returns-in-Ok-bind-clause-read g c =
    let words = c.args.words in
    let texts = c.in-Ok-parse.texts in
    let parsed = c.in-Ok-parse.ensures in
    let read = are_read texts words.answers words.condition parsed.answers parsed.condition in
    let bound = c.in-Ok-bind.ensures read in
    let here = c.scope-columns.ensures in
    let there = c.scope-sampled.ensures in
    record {
      declared = declared_by c.in-Ok.declared;
      declares = c.in-Ok.ensures;
      inferred = c.in-Ok-sampled.ensures.inferred;
      answers = answers_asked texts bound here there parsed.answers;
      condition = condition_asked texts bound here there parsed.condition;
    }

pub returns-clause-refused : goal.returns-clause-refused
returns-clause-refused g c =
    let words = c.args.words in
    let texts = c.in-Ok-parse.texts in
    let parsed = c.in-Ok-parse.ensures in
    let read = are_read texts words.answers words.condition parsed.answers parsed.condition in
    let inferred = subst AreInferred (sym c.scope-sampled.ensures) c.in-Ok-sampled.ensures.inferred in
    refused_so _ texts (declared_by c.in-Ok.declared) _ c.in-Err-bind.error
    c.with_header_names.result c.scope-columns.ensures c.in-Ok.ensures inferred parsed.answers
    parsed.condition (c.in-Err-bind.ensures read) (c.with_header_names.ensures read)
