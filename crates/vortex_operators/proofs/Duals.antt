-- De Morgan's laws, for the search.
use Rattle.vortex_operators.specs.Kleene.{and-or, or-and}

pub ruleset duals = (and-or, or-and)
