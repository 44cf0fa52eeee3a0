-- How trees are printed, in the bytes of UTF-8.
use Rattle.std.specs.Prelude.{ℕ, List, [], ◌∷◌, ◌++◌, Option, Some, None, codes}
use Rattle.std.specs.Option.{option_and_then}
pub use Rattle.vortex_columns.specs.Printing.{literal_text}
pub use Rattle.vortex_interface.specs.CallTexts.{joined, comma, Appends}
use Rattle.vortex_interface.specs.Shipped.{shipped_text}
use Rattle.vortex_interface.specs.Functions.{Function, ours, custom}
use Rattle.vortex_interface.specs.Trees.{place, held, Tree, leaf, constant, call, Trees, no_trees}
use Rattle.vortex_interface.specs.Trees.{tree}

abbrev pub with_text : Option (List ℕ) → Option (List (List ℕ)) → Option (List (List ℕ))
with_text None more = None
with_text (Some first) None = None
with_text (Some first) (Some more) = Some (first ∷ more)

module _ {V O : Type 0} where
  -- the text of a call, from the texts of its arguments; unspecified for a caller's function
  abbrev pub function_text : Function V O → List (List ℕ) → Option (List ℕ)
  function_text (ours s) texts = Some (shipped_text s texts)
  function_text (custom f o) texts = None

  -- the text of an expression without callers' functions
  abbrev mutual
    pub tree_text : Tree V O → Option (List ℕ)
    tree_text (leaf (place p name t)) = Some (codes "$." ++ name)
    tree_text (leaf (held c)) = None
    tree_text (constant s) = Some (literal_text s.dtype s.value)
    tree_text (call f ts) = option_and_then (function_text f) (tree_texts ts)

    pub tree_texts : Trees V O → Option (List (List ℕ))
    tree_texts no_trees = Some []
    tree_texts (tree t ts) = with_text (tree_text t) (tree_texts ts)
