-- The places that are named, in whichever form.
use Rattle.std.specs.Prelude.{ℕ, List}
use Rattle.vortex_views.specs.declared.places.Places.{Places}
use Rattle.vortex_views.specs.declared.places.Places.TheVariants.{Codes, Indices}

abbrev pub places_of : Places → List ℕ
places_of (Codes codes) = codes.now
places_of (Indices indices) = indices.now
