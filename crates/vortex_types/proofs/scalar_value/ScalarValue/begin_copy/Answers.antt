use Rattle.std.proofs.Common.{◌∙◌, ap, sym}
use Rattle.vortex_types.specs.ValueOf.{value_of}
use Rattle.vortex_types.proofs.ScalarViews.{view-List}
use Rattle.vortex_types.proofs.scalar_value.ScalarValue.begin_copy.Goals as goal

pub returns-in-List-clause-value : goal.returns-in-List-clause-value
returns-in-List-clause-value c = sym (view-List c.in-List.items) ∙ ap value_of (sym c.in-List.is)
