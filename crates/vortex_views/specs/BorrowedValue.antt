-- The value of a borrowed view, and of a constant with its words.
use Rattle.std.specs.Prelude.{ℕ, List, map}
use Rattle.vortex_views.specs.declared.ordered.Row.{Row}
use Rattle.vortex_views.specs.declared.ordered.ConstantBytes.{ConstantBytes}
use Rattle.vortex_views.specs.ViewBytes.{view_bytes}
use Rattle.vortex_views.specs.Resolved.{value_in}

abbrev pub row_value : Row → List ℕ
row_value r = value_in (map (λ b. b.items) r.buffers.now) (view_bytes r.view.now)

abbrev pub constant_value : ConstantBytes → List ℕ
constant_value c = c.bytes.now
