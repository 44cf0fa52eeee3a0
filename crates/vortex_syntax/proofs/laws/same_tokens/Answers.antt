use Rattle.vortex_syntax.specs.declared.writing.Ending.TheVariants as at
use Rattle.vortex_syntax.proofs.Written.{lexes}
use Rattle.vortex_syntax.proofs.laws.same_tokens.Goals as goal

pub returns : goal.returns
returns c = λ ts w. lexes at.Tight ts w
