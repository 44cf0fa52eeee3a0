use Rattle.std.proofs.Common.{rules}
use Rattle.vortex_arrow.proofs.validity.first_unset.Goals as goal

pub returns-then-not-value : goal.returns-then-not-value
returns-then-not-value c = record {
  within = search rules;
  misfit = λ h. cc;
  before = c.loop-i.invariant;
}
