-- The range that excludes nothing admits each outcome.
use Rattle.std.specs.Prelude.{refl}
use Rattle.vortex_types.specs.Values.{Value, null}
use Rattle.vortex_interface.specs.Outcomes.{Outcome, gives, faults}
use Rattle.vortex_ranges.specs.Ranges.{Admits, anything}
use Rattle.vortex_ranges.specs.Calls.{AdmitsOutcome}

pub anything-value : (v : Value) → Admits anything v
anything-value null = refl
anything-value v = refl

pub anything-admits : (o : Outcome) → AdmitsOutcome anything o
anything-admits (faults x) = refl
anything-admits (gives v) = anything-value v
