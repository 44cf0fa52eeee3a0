use Rattle.std.proofs.Common.{[], refl, subst, sym}
use Rattle.rowfn_queries.specs.Columns.{none}
use Rattle.rowfn_queries.specs.Reading.{AreInferred}
use Rattle.rowfn_queries.proofs.sample.no_columns.Goals as goal

none_inferred : AreInferred none
none_inferred = record { names = []; fields = []; rows = 0; even = refl; typed = refl }

pub returns-clause-inferred : goal.returns-clause-inferred
returns-clause-inferred c = subst AreInferred (sym c.none.ensures) none_inferred
