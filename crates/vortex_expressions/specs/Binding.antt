-- The tree that an expression binds to over the columns of a scope.
use Rattle.std.specs.Prelude.{◌≡◌, ℕ, List, [], ◌∷◌, false, None, reverse}
use Rattle.vortex_types.specs.LogicalTypes.{Fields}
use Rattle.vortex_syntax.specs.Syntax.{Syntax, operand, negative, typed, grouped, negated, joined}
use Rattle.vortex_syntax.specs.Syntax.{minus, tested, distinct, between, matched, listed, cast}
use Rattle.vortex_syntax.specs.Syntax.{chosen, chosen_else, nullary, applied, Arguments}
use Rattle.vortex_syntax.specs.Syntax.{no_arguments, argument, Branches, without_operand}
use Rattle.vortex_syntax.specs.Syntax.{of_operand, branch, plus, bit_not, null_tested, converted}
use Rattle.vortex_syntax.specs.Syntax.{titled, measured, extracted, parted, parted_for, placed}
use Rattle.vortex_syntax.specs.Syntax.{trimmed, trimmed_by}
use Rattle.vortex_syntax.specs.Tokens.{text}
use Rattle.vortex_syntax.specs.declared.step.Test.TheVariants as test
use Rattle.vortex_syntax.specs.Grammar.{Reads}
use Rattle.vortex_logical.specs.declared.kind.Kind.{Kind}
use Rattle.vortex_logical.specs.declared.kind.Kind.TheVariants.{Plain, F64}
use Rattle.vortex_expressions.specs.declared.item.LogicalTree as held
use Rattle.vortex_expressions.specs.declared.refusal.Refusal.{Refusal}
use Rattle.vortex_expressions.specs.Outcomes.{Outcome, answers, refuses, and_then}
use Rattle.vortex_expressions.specs.Items.{Item, kinded, fraction, Tree, settled}
use Rattle.vortex_expressions.specs.Kinded.{text_literal}
use Rattle.vortex_expressions.specs.Calls.{Names, names_of, names_in, operand_by, negative_item}
use Rattle.vortex_expressions.specs.Calls.{typed_by, cast_by}
use Rattle.vortex_expressions.specs.Calls.{not_item, joined_item, tested_item, distinct_item}
use Rattle.vortex_expressions.specs.Calls.{between_item, minus_item, listed_item, chosen_item}
use Rattle.vortex_syntax.specs.Postfix.{has_operand, test_of, side_of}
use Rattle.vortex_expressions.specs.Calls.{matched_item, plus_item, bit_not_item}
use Rattle.vortex_expressions.specs.Functions.{applied_by, trimmed_item, trimmed_by_item}

-- one more item, before those that come before it
abbrev pub with_item : Outcome (List Item) → Outcome Item → Outcome (List Item)
with_item o p = and_then o (λ is. and_then p (λ i. answers (i ∷ is)))

-- of items in their order
abbrev pub of_items : (List Item → Outcome Item) → Outcome (List Item) → Outcome Item
of_items f o = and_then o (λ is. f (reverse is))

module _ (columns : Names) where
  -- the meaning of a syntax tree, from left to right, by what names of columns mean; literals have
  -- no types yet
  abbrev mutual
    pub item_by : Syntax → Outcome Item
    item_by (operand t) = operand_by columns t
    item_by (negative ds) = negative_item columns.has_kinds ds
    item_by (minus a) = and_then (item_by a) minus_item
    item_by (plus a) = and_then (item_by a) plus_item
    item_by (bit_not a) = and_then (item_by a) bit_not_item
    item_by (typed a w n) = and_then (item_by a) (typed_by columns.has_kinds w n)
    item_by (titled w bs) =
        and_then (operand_by columns (text bs)) (typed_by columns.has_kinds w false)
    item_by (measured w t u) =
        and_then (operand_by columns t) (typed_by columns.has_kinds u false)
    item_by (grouped a) = item_by a
    item_by (negated a) = and_then (item_by a) not_item
    item_by (joined o a b) = and_then (item_by a) (λ x. and_then (item_by b) (joined_item o x))
    item_by (tested k n a) = and_then (item_by a) (tested_item (test_of k) n)
    item_by (null_tested n a) = and_then (item_by a) (tested_item test.Null n)
    item_by (distinct n a b) =
        and_then (item_by a) (λ x. and_then (item_by b) (distinct_item n x))
    item_by (between k a low high) =
        and_then (item_by a) (λ x. and_then (item_by low) (λ y. and_then (item_by high)
        (between_item k x y)))
    item_by (matched k a p e) =
        and_then (item_by a) (λ x. and_then (item_by p) (matched_item k e x))
    item_by (cast p a w n) = and_then (item_by a) (cast_by columns.has_kinds p w n)
    item_by (converted a w n) = and_then (item_by a) (cast_by columns.has_kinds false w n)
    item_by (listed n a args b) =
        of_items (listed_item n)
        (with_item (items_by (with_item (answers []) (item_by a)) args) (item_by b))
    item_by (chosen bs c v) =
        of_items (chosen_item (has_operand bs))
        (with_item (with_item (branches_by bs) (item_by c)) (item_by v))
    item_by (chosen_else bs c v e) =
        of_items (chosen_item (has_operand bs))
        (with_item (with_item (with_item (branches_by bs) (item_by c)) (item_by v)) (item_by e))
    item_by (nullary p w) = applied_by columns.has_kinds w []
    item_by (applied p w args a) =
        of_items (applied_by columns.has_kinds w)
        (with_item (items_by (answers []) args) (item_by a))
    item_by (extracted p f w a) =
        of_items (applied_by columns.has_kinds f)
        (with_item (with_item (answers []) (operand_by columns (text w))) (item_by a))
    item_by (parted p f s a) =
        of_items (applied_by columns.has_kinds f)
        (with_item (with_item (answers []) (item_by s)) (item_by a))
    item_by (parted_for p f s a w b) =
        of_items (applied_by columns.has_kinds f)
        (with_item (with_item (with_item (answers []) (item_by s)) (item_by a)) (item_by b))
    item_by (placed p f a b) =
        of_items (applied_by columns.has_kinds f)
        (with_item (with_item (answers []) (item_by a)) (item_by b))
    item_by (trimmed p f d a) = and_then (item_by a) (trimmed_item columns.has_kinds d)
    item_by (trimmed_by p f o c a) =
        and_then (item_by c) (λ x. and_then (item_by a)
        (trimmed_by_item columns.has_kinds (side_of o) x))

    -- items after these; the last is first
    pub items_by : Outcome (List Item) → Arguments → Outcome (List Item)
    items_by o no_arguments = o
    items_by o (argument args a) = with_item (items_by o args) (item_by a)

    pub branches_by : Branches → Outcome (List Item)
    branches_by without_operand = answers []
    branches_by (of_operand a) = with_item (answers []) (item_by a)
    branches_by (branch bs c v) = with_item (with_item (branches_by bs) (item_by c)) (item_by v)

module _ (scope : Fields) where
  -- over columns without kinds
  abbrev pub item_of : Syntax → Outcome Item
  item_of = item_by (names_of scope)

  abbrev pub items_after : Outcome (List Item) → Arguments → Outcome (List Item)
  items_after = items_by (names_of scope)

  abbrev pub branch_items : Branches → Outcome (List Item)
  branch_items = branches_by (names_of scope)

  abbrev pub items_of : Arguments → Outcome (List Item)
  items_of args = items_after (answers []) args

  -- an expression that is only a literal has its default type
  abbrev pub tree_of : Syntax → Outcome Tree
  tree_of t = and_then (item_of t) (settled None)

  -- the text means the tree
  pub record Expresses (text : List ℕ) (tree : Tree) : Type 0 where
    pub syntax : Syntax
    pub read : Reads text syntax
    pub bound : tree_of syntax ≡ answers tree

  -- the text is an expression with this error
  pub record IsRefused (text : List ℕ) (r : Refusal) : Type 0 where
    pub syntax : Syntax
    pub read : Reads text syntax
    pub refused : tree_of syntax ≡ refuses r

-- a tree, and the kind of its values
pub record LogicalTree : Type 0 where
  pub tree : Tree
  pub kind : Kind

abbrev pub logical_in : held.LogicalTree → LogicalTree
logical_in t = record { tree = t.tree; kind = t.kind }

-- an expression that is only a literal has its default type, one with a fraction is a float
abbrev pub ended : Item → Outcome LogicalTree
ended (kinded k t) = answers (record { tree = t; kind = k })
ended (fraction w) =
    and_then (text_literal F64 w) (λ x. answers (record { tree = x.tree; kind = F64 }))
ended i = and_then (settled None i) (λ t. answers (record { tree = t; kind = Plain }))

module _ (scope : Fields) (kinds : List Kind) where
  -- over columns with kinds
  abbrev pub logical_of : Syntax → Outcome LogicalTree
  logical_of t = and_then (item_by (names_in scope kinds) t) ended

  -- the text means the tree, whose values are of that kind
  pub record ExpressesLogical (text : List ℕ) (t : LogicalTree) : Type 0 where
    pub syntax : Syntax
    pub read : Reads text syntax
    pub bound : logical_of syntax ≡ answers t

  -- the text is an expression with this error
  pub record IsRefusedLogical (text : List ℕ) (r : Refusal) : Type 0 where
    pub syntax : Syntax
    pub read : Reads text syntax
    pub refused : logical_of syntax ≡ refuses r
