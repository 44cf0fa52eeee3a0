use Rattle.std.proofs.lemmas.Str.{IsCharBoundary-start}
use Rattle.vortex_sql_patterns.proofs.replacing.replaced_first.Goals as goal

pub push_match-requires-clause-cut : goal.push_match-requires-clause-cut
push_match-requires-clause-cut c = IsCharBoundary-start c.args.text.now c.utf8.text
