-- Frames on the heap that wait for what is inside them, the outermost first.
use Rattle.std.specs.Prelude.{◌≡◌, ℕ, ◌+◌, List, [], ◌∷◌}

-- what fits a frame, and what the frame makes of it
module _ {F X : Type 0} (Fits : F → X → Type 0) (filled : F → X → X) where
  -- frames make one thing of another
  abbrev pub Make : List F → X → X → Type 0
  Make [] x whole = x ≡ whole
  Make (f ∷ fs) x whole = (d : X) × Make fs x d × Fits f d × (filled f d ≡ whole)

abbrev pub frames_weight : {F : Type 0} → (F → ℕ) → List F → ℕ
frames_weight weight [] = 0
frames_weight weight (f ∷ fs) = weight f + frames_weight weight fs
