use Rattle.std.proofs.Common.{◌∙◌, ap, sym}
use Rattle.vortex_types.specs.Values.{list}
use Rattle.vortex_types.specs.ValueCopies.{begun_value}
use Rattle.vortex_types.proofs.ScalarViews.{view-List}
use Rattle.vortex_types.proofs.scalar_value.ScalarValue.copy.Goals as goal

pub returns-in_ok-copy_items-in-Items : goal.returns-in_ok-copy_items-in-Items
returns-in_ok-copy_items-in-Items c =
    view-List c.in_ok-copy_items-in-Items.field-0
    ∙ ap list c.in_ok-copy_items-in-Items.ensures
    ∙ sym (ap begun_value c.in-Items.is) ∙ c.in_ok-copy.ensures.value
