-- What a builder of views has made, and what it can still take.
use Rattle.std.specs.Prelude.{◌≡◌, ℕ, ◌≤◌, List, [], ◌∷◌, ◌++◌, length}
use Rattle.vortex_views.specs.declared.builder.ViewsBuilder.TheInside.{Inside}
use Rattle.vortex_views.specs.Placing.{placed, most_bytes, most_buffers, buffers_needed}
use Rattle.vortex_views.specs.Building.{all_buffers, filled, AreInRange}
use Rattle.vortex_views.specs.Resolved.{AreViewsIn, values_in}

-- one more value is not too long, and does not need too many buffers
pub record HasRoomFor (values : List (List ℕ)) (value : List ℕ) : Type 0 where
  pub len : length value ≤ most_bytes
  pub buffers : buffers_needed (values ++ value ∷ []) ≤ most_buffers

abbrev pub built : Inside → List (List ℕ)
built a = values_in (all_buffers a.buffers) a.views.items

pub record IsBuilder (a : Inside) : Type 0 where
  pub fit : AreViewsIn (all_buffers a.buffers) a.views.items
  pub filled_is : filled a.buffers ≡ placed (built a)
  pub range : AreInRange (filled a.buffers)
