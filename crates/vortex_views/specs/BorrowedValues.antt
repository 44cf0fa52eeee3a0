-- Borrowed views with their buffers, and their values.
use Rattle.std.specs.Prelude.{ℕ, List, map}
use Rattle.vortex_views.specs.declared.view.BinaryView.{BinaryView}
use Rattle.vortex_views.specs.declared.resolved.ResolvedViews.{ResolvedViews}
use Rattle.vortex_views.specs.Resolved.{values_in}

abbrev pub borrowed_views : ResolvedViews → List BinaryView
borrowed_views r = r.views.now

abbrev pub borrowed_buffers : ResolvedViews → List (List ℕ)
borrowed_buffers r = map (λ b. b.items) r.buffers.now

abbrev pub borrowed_values : ResolvedViews → List (List ℕ)
borrowed_values r = values_in (borrowed_buffers r) (borrowed_views r)
