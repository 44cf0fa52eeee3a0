-- Identities and options determine functions.
use Rattle.std.proofs.Common.{◌≡◌, Bool, true, false, refl, ap, sym}
use Rattle.std.proofs.lemmas.Slice.Eq.{bytes_eq-Decides}
use Rattle.vortex_interface.specs.Meaning.{Meaning}
use Rattle.vortex_interface.specs.Shipped as shipped
use Rattle.vortex_interface.specs.Shipped.{Shipped, shipped_id}
use Rattle.vortex_interface.specs.Functions.{ours, custom}
use Rattle.vortex_functions.specs.SameFunctions.{held_by}
use Rattle.vortex_functions.specs.SameFunctions.{SameByIdentityAndOptions}

-- by the bytes of the identities, if two functions differ and have the same contents
told : (s t : Shipped) → shipped_id s ≡ shipped_id t → held_by s ≡ held_by t → s ≡ t
told (shipped.Binary o) (shipped.Binary p) i h = cc
told (shipped.Between o) (shipped.Between p) i h = cc
told (shipped.Like o) (shipped.Like p) i h = cc
told s (shipped.Binary p) i h = cc
told (shipped.NullTest false) (shipped.NullTest false) i h = refl
told (shipped.NullTest true) (shipped.NullTest true) i h = refl
told s (shipped.NullTest false) i h =
    let same = (bytes_eq-Decides (shipped_id s) (shipped_id (shipped.NullTest false))).1 i in cc
told s (shipped.NullTest true) i h =
    let same = (bytes_eq-Decides (shipped_id s) (shipped_id (shipped.NullTest true))).1 i in cc
told (shipped.NullTest false) t i h =
    let same = (bytes_eq-Decides (shipped_id (shipped.NullTest false)) (shipped_id t)).1 i in cc
told (shipped.NullTest true) t i h =
    let same = (bytes_eq-Decides (shipped_id (shipped.NullTest true)) (shipped_id t)).1 i in cc
told s t i h = let same = (bytes_eq-Decides (shipped_id s) (shipped_id t)).1 i in cc

pub told_by : {V O : Type 0} (m : Meaning V O) (E : O → O → Bool) → SameByIdentityAndOptions m E
told_by m E never (ours s) (ours t) =
    (λ e. (ap shipped_id e, ap held_by e), λ h. told s t h.0 h.1)
told_by m E never (custom f o) (custom g p) = (λ h. h, λ h. h)
told_by m E never (ours s) (custom g p) = (λ h. absurd h, λ h. never g s (sym h.0))
told_by m E never (custom f o) (ours t) = (λ h. absurd h, λ h. never f t h.0)
