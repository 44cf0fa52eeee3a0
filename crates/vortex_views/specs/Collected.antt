-- The values that views can be made of.
use Rattle.std.specs.Prelude.{ℕ, ◌≤◌, List, length, All}
use Rattle.vortex_views.specs.Placing.{most_bytes, most_buffers, buffers_needed}

-- no value is too long, and together they do not need too many buffers
pub record HaveRoom (values : List (List ℕ)) : Type 0 where
  pub lens : All (λ v. length v ≤ most_bytes) values
  pub buffers : buffers_needed values ≤ most_buffers
