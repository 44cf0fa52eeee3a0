-- What closes before a sign, and what stays.
use Rattle.std.proofs.Common.{◌≡◌, ℕ, ◌<◌, ◌≤◌, List, [], ◌∷◌, ◌++◌, refl}
use Rattle.vortex_syntax.specs.Frames.{Frame, guard, whole, closing}
use Rattle.vortex_syntax.specs.Postfix.{Step}
use Rattle.vortex_syntax.specs.Reading.{operand_of, settled}
use Rattle.vortex_syntax.proofs.Tables.{lower, not_lower}

pub none_stays : (p l : ℕ) (fs : List Frame) (out : List Step) → fs ≡ []
    → settled p l fs out ≡ operand_of l fs out
unfolding settled
none_stays p l fs out e = rw e refl

stays_at : (p l : ℕ) (f : Frame) (fs : List Frame) (out : List Step) → guard f ≤ p
    → settled p l (f ∷ fs) out ≡ operand_of l (f ∷ fs) out
unfolding settled
stays_at p l f fs out h = rw (not_lower p (guard f) h) refl

closes_at : (p l : ℕ) (f : Frame) (fs : List Frame) (out : List Step) → p < guard f
    → settled p l (f ∷ fs) out ≡ settled p (whole f) fs (out ++ (closing f ∷ []))
unfolding settled
closes_at p l f fs out h = rw (lower p (guard f) h) refl

pub stays : (p l : ℕ) (fs : List Frame) (out : List Step) (f : Frame) (gs : List Frame)
    → fs ≡ f ∷ gs → guard f ≤ p → settled p l fs out ≡ operand_of l fs out
stays p l fs out f gs e h = rw e (stays_at p l f gs out h)

pub closes : (p l : ℕ) (fs : List Frame) (out : List Step) (f : Frame) (gs hs : List Frame)
    (xs : List Step) → fs ≡ f ∷ gs → p < guard f → hs ≡ gs → xs ≡ out ++ (closing f ∷ [])
    → settled p l fs out ≡ settled p (whole f) hs xs
closes p l fs out f gs hs xs e h k j = rw (e, k, j) (closes_at p l f gs out h)
