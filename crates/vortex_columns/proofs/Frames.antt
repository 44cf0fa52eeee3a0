-- Frames that are pushed and popped.
use Rattle.std.proofs.Common.{◌≡◌, ℕ, ◌+◌, List, [], ◌∷◌, ◌++◌, arith, refl, sym, ap, ◌∙◌, subst}
use Rattle.vortex_columns.specs.Frames.{Make, frames_weight}

module _ {F X : Type 0} (Fits : F → X → Type 0) (filled : F → X → X) where
  frame_pushed : (fs : List F) (f : F) (x whole : X) → Fits f x
      → Make Fits filled fs (filled f x) whole → Make Fits filled (fs ++ f ∷ []) x whole
  frame_pushed [] f x whole fits h = (x, refl, fits, h)
  frame_pushed (g ∷ gs) f x whole fits h = (h.0, frame_pushed gs f x h.0 fits h.1, h.2, h.3)

  frame_popped : (fs : List F) (f : F) (x whole : X) → Make Fits filled (fs ++ f ∷ []) x whole
      → Fits f x × Make Fits filled fs (filled f x) whole
  frame_popped [] f x whole h = (
    subst (λ (d : X). Fits f d) (sym h.1) h.2,
    ap (filled f) h.1 ∙ h.3,
  )
  frame_popped (g ∷ gs) f x whole h =
      let deeper = frame_popped gs f x h.0 h.1 in
      (deeper.0, (h.0, deeper.1, h.2, h.3))

  -- opening leaves a frame after the others
  pub frame_put : (fs gs : List F) (f : F) (x y whole : X) → y ≡ filled f x → gs ≡ fs ++ f ∷ []
      → Fits f x → Make Fits filled fs y whole → Make Fits filled gs x whole
  frame_put fs gs f x y whole is pushed fits h =
      subst (λ (hs : List F). Make Fits filled hs x whole) (sym pushed)
      (frame_pushed fs f x whole fits
      (subst (λ (z : X). Make Fits filled fs z whole) is h))

  -- a finished item goes into the last of the frames
  pub frame_taken : (fs gs : List F) (f : F) (x y whole : X) → y ≡ x → fs ≡ gs ++ f ∷ []
      → Make Fits filled fs y whole → Fits f x × Make Fits filled gs (filled f x) whole
  frame_taken fs gs f x y whole is popped h =
      frame_popped gs f x whole
      (subst (λ (hs : List F). Make Fits filled hs x whole) popped
      (subst (λ (z : X). Make Fits filled fs z whole) is h))

pub frames_pushed : {F : Type 0} (weight : F → ℕ) (fs : List F) (f : F)
    → frames_weight weight (fs ++ f ∷ []) ≡ frames_weight weight fs + weight f
frames_pushed weight [] f = omega arith
frames_pushed weight (g ∷ gs) f = omega (arith, frames_pushed weight gs f)
