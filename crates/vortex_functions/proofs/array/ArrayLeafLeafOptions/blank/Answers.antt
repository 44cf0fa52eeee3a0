use Rattle.vortex_functions.proofs.ArrayColumns.{nulls_stand, nulls_are_typed}
use Rattle.vortex_functions.proofs.array.ArrayLeafLeafOptions.blank.Goals as goal

pub returns-clause-fits : goal.returns-clause-fits
returns-clause-fits g c = nulls_stand c.args.context c.null.result c.null.ensures

pub returns-clause-whole : goal.returns-clause-whole
returns-clause-whole g c = nulls_are_typed _ _ c.args.context c.null.result c.null.ensures
