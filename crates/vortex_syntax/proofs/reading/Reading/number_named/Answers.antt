use Rattle.std.proofs.Common.{ℕ, List, Option, subst}
use Rattle.vortex_syntax.specs.Postfix.{Step}
use Rattle.vortex_syntax.specs.Reading as specs
use Rattle.vortex_syntax.specs.Reading.{frames_in, Gives}
use Rattle.vortex_syntax.proofs.LastStep.{name_taken}
use Rattle.vortex_syntax.proofs.reading.Reading.number_named.Goals as goal

pub returns-in-Some : goal.returns-in-Some
returns-in-Some c =
    subst (λ (o : Option (List Step × List ℕ)).
    Gives c.number_of.result c.number_of.new.self
    (specs.number_of (frames_in c.args.self.now) c.args.digits.now o))
    (name_taken _ _ _ c.in-Some.ensures) c.number_of.ensures
