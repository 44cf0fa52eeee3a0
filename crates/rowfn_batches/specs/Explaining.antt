-- What is printed of a program: each answer as it was written and, where that prints itself otherwise,
-- as rules make it.
use Rattle.std.specs.Prelude.{◌≡◌, ◌≢◌, ◌++◌, ◌∷◌, ◌<◌, [], ℕ, suc, List, Option, Some, None}
use Rattle.std.specs.Prelude.{slice_get, get_or, length, codes, decimal, unwrap_or, string_bytes}
use Rattle.std.specs.Prelude.{IfSome, if◌then◌else◌}
use Rattle.vortex_types.specs.DTypeTexts.{type_text}
use Rattle.vortex_types.specs.LogicalTypes.{LogicalType, is_nullable}
use Rattle.vortex_logical.specs.declared.kind.Kind.{Kind}
use Rattle.vortex_logical.specs.declared.kind.Kind.TheVariants.{Plain}
use Rattle.vortex_logical.specs.Kinds.{kind_name}
use Rattle.vortex_interface.specs.Eval.{tree_type}
use Rattle.vortex_interface.specs.Printing.{tree_text}
use Rattle.vortex_interface.specs.Weights.{weight_told}
use Rattle.vortex_expressions.specs.Items.{Tree, meaning}
use Rattle.vortex_expressions.specs.Writing.{text_of_tree}
use Rattle.vortex_program.specs.declared.answer.Answer.{Answer}

-- a tree's title, its text, and how it prints itself
abbrev pub tree_head : List ℕ → List ℕ → List ℕ → List ℕ
tree_head title words printed =
    codes "  " ++ (title ++ (codes ": " ++ (words ++ ((10 ∷ codes "    printed ")
    ++ (printed ++ (10 ∷ codes "    type "))))))

-- its weight, after its type
abbrev pub weight_end : ℕ → List ℕ
weight_end weight = codes ", weight " ++ (decimal weight ++ (10 ∷ []))

-- the name of a kind, with the mark of a type that has null; the type where there is no kind
abbrev pub kind_type : Kind → LogicalType → List ℕ
kind_type Plain t = type_text t
kind_type k t = kind_name k ++ (if is_nullable t then codes "?" else [])

-- the lines of a tree, which prints itself so and has values of the kind, are added under a title
pub record AddsTree (title : List ℕ) (t : Tree) (k : Kind) (printed old new : List ℕ) : Type 0
  where
    pub dtype : LogicalType
    pub typed : tree_type meaning t ≡ Some dtype
    pub prints : IfSome (tree_text t) (λ words. printed ≡ words)
    pub added : new ≡ old ++ (tree_head title
        (unwrap_or (text_of_tree t) (codes "no expression")) printed
        ++ (kind_type k dtype ++ weight_end (weight_told meaning t)))

-- those of what rules make of a tree are added, if it prints itself otherwise than the tree does
pub data AddsRules (printed : List ℕ) (optimized : Option Answer) (old new : List ℕ) : Type 0 where
  no_tree : optimized ≡ None → new ≡ old → AddsRules printed optimized old new
  prints_so : (o : Answer) → optimized ≡ Some o
      → IfSome (tree_text o.tree) (λ words. printed ≡ words) → new ≡ old
      → AddsRules printed optimized old new
  prints_otherwise : (o : Answer) (other : List ℕ) → optimized ≡ Some o → other ≢ printed
      → AddsTree (codes "optimized") o.tree o.kind other old new
      → AddsRules printed optimized old new

-- the lines of an answer are added: its name, its tree, and what rules make of that
pub record AddsAnswer (a : Answer) (optimized : Option Answer) (old new : List ℕ) : Type 0 where
  pub printed : List ℕ
  pub named : List ℕ
  pub written : List ℕ
  pub name : named ≡ old ++ (string_bytes a.name ++ (10 ∷ []))
  pub tree : AddsTree (codes "tree") a.tree a.kind printed named written
  pub rules : AddsRules printed optimized written new

-- a text has the lines of the first answers, in their order
pub data AreExplained (written optimized : List Answer) : ℕ → List ℕ → Type 0 where
  none_yet : (text : List ℕ) → text ≡ [] → AreExplained written optimized 0 text
  one_more : (k : ℕ) (a : Answer) (text more : List ℕ) → AreExplained written optimized k text
      → k < length written → a ≡ get_or written k a
      → AddsAnswer a (slice_get optimized k) text more
      → AreExplained written optimized (suc k) more
