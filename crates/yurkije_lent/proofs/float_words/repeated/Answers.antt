use Rattle.std.proofs.lemmas.List.{get_or-replicate}
use Rattle.std.specs.Float.{float_zero}
use Rattle.yurkije_lent.proofs.float_words.repeated.Goals as goal

pub returns-clause-each : goal.returns-clause-each
returns-clause-each c = λ j lt. get_or-replicate 64 j c.args.float float_zero lt
