-- The text of a tree from left to right: what comes before each child, what a step writes, and what
-- is left.
use Rattle.std.specs.Prelude.{◌≡◌, ◌-◌, ℕ, suc, ◌++◌, ⊤, List, [], map, length, Option, Some, codes}
use Rattle.std.specs.Prelude.{slice_get, String}
use Rattle.std.specs.declared.alloc.Global.{Global}
use Rattle.std.specs.Option.{unwrap_or}
use Rattle.vortex_interface.specs.CallTexts.{Appends, told}
use Rattle.vortex_interface.specs.Shipped.{shipped_before, shipped_printed}
use Rattle.vortex_interface.specs.Functions.{Function, ours, custom}
use Rattle.vortex_interface.specs.Printing.{literal_text, tree_text}
use Rattle.vortex_interface.specs.Trees.{Tree, leaf, place, held, constant, call, children_of}

-- what a call writes before the argument that is printed k-th, and which that is; unspecified for a
-- caller's function
abbrev pub WritesBeforeOf : {V O : Type 0} → Function V O → ℕ → String Global → String Global → ℕ
    → Type 0
WritesBeforeOf (ours s) k old new i =
    Appends old (shipped_before s k) new × (i ≡ shipped_printed s k)
WritesBeforeOf (custom f o) k old new i = ⊤

module _ {V O : Type 0} where
  -- the text of a node that is no call
  abbrev pub leaf_text : Tree V O → List ℕ
  leaf_text (leaf (place p name t)) = codes "$." ++ name
  leaf_text (leaf (held c)) = []
  leaf_text (constant s) = literal_text s.dtype s.value
  leaf_text (call f ts) = []

  abbrev pub tree_before : Tree V O → ℕ → List ℕ
  tree_before (call (ours s) ts) k = shipped_before s k
  tree_before t k = leaf_text t

  abbrev pub tree_printed : Tree V O → ℕ → ℕ
  tree_printed (call (ours s) ts) k = shipped_printed s k
  tree_printed t k = k

  -- the tree has a text: it contains no caller's function
  abbrev pub HasText : Tree V O → Type 0
  HasText t = (text : List ℕ) × (tree_text t ≡ Some text)

  abbrev pub text_in : Tree V O → List ℕ
  text_in t = unwrap_or (tree_text t) []

  abbrev pub child_texts : Tree V O → List (List ℕ)
  child_texts t = map text_in (children_of t)

  -- what is left of a node's text from its k-th part on; it has one part more than children
  abbrev pub left_of : Tree V O → ℕ → List ℕ
  left_of t k =
      told (tree_before t) (tree_printed t) k (suc (length (children_of t)) - k) (child_texts t)

  -- a step writes what comes before the k-th child of the text, and returns that child
  abbrev pub WritesPart : Tree V O → ℕ → String Global → String Global → Option (Tree V O) → Type 0
  WritesPart t k old new child =
      (i : ℕ) × (child ≡ slice_get (children_of t) i)
      × (HasText t → Appends old (tree_before t k) new × (i ≡ tree_printed t k))
