-- A caller's rules, and the words used in the shipped ones.
use Rattle.std.specs.Prelude.{Option, Some, None, Bool, true, false, if◌then◌else◌}
use Rattle.std.specs.Option.{option_and_then}
use Rattle.vortex_types.specs.LogicalTypes.{LogicalType, bool_type, is_nullable}
use Rattle.vortex_types.specs.Values.{truth, truth_of}
use Rattle.vortex_interface.specs.Meaning.{Meaning}
use Rattle.vortex_interface.specs.Shipped.{IsNull, IsNotNull, Cast}
use Rattle.vortex_interface.specs.Functions.{ours}
use Rattle.vortex_interface.specs.Trees.{Tree, constant, call, Trees, no_trees, tree, literal}
use Rattle.vortex_interface.specs.Eval.{tree_type}

-- for functions V with options O, from a call's children: the tree that is true where the call is
-- not null, and the reduced and simplified trees; none where no rule applies
pub record Rules (V O : Type 0) : Type 0 where
  pub validity_of : V → O → Trees V O → Option (Tree V O)
  pub reduce_of : V → O → Trees V O → Option (Tree V O)
  pub simplify_of : V → O → Trees V O → Option (Tree V O)

-- the rules of functions that have none
abbrev pub no_rules : {V O : Type 0} → Rules V O
no_rules =
    record {
      validity_of = λ f o ts. None;
      reduce_of = λ f o ts. None;
      simplify_of = λ f o ts. None;
    }

-- the constant of a truth value, of Bool, nullable or not
abbrev pub truth_constant : {V O : Type 0} → Bool → Bool → Tree V O
truth_constant n b = constant (record { dtype = bool_type n; value = truth b })

-- whether the tree is null
abbrev pub is_null_of : {V O : Type 0} → Tree V O → Tree V O
is_null_of t = call (ours IsNull) (tree t no_trees)

-- whether it is not
abbrev pub is_not_null_of : {V O : Type 0} → Tree V O → Tree V O
is_not_null_of t = call (ours IsNotNull) (tree t no_trees)

-- the tree, of nullable Bool
abbrev pub cast_of : {V O : Type 0} → Tree V O → Tree V O
cast_of t = call (ours Cast) (tree t no_trees)

-- the truth value of a constant that has one: of Bool, and not null
abbrev pub constant_truth : {V O : Type 0} → Tree V O → Option Bool
constant_truth t = option_and_then (λ s. truth_of s.value) (literal t)

-- whether null may be a value of that type; true if there is no type
abbrev pub may_be_null : Option LogicalType → Bool
may_be_null None = true
may_be_null (Some t) = is_nullable t

module _ {V O : Type 0} (m : Meaning V O) where
  -- whether null is a value of the tree's type
  abbrev pub is_nullable_tree : Tree V O → Bool
  is_nullable_tree t = may_be_null (tree_type m t)

  -- an operand in place of its node, which is nullable or not: cast if only the node is nullable
  abbrev pub widened : Bool → Tree V O → Tree V O
  widened true t = if is_nullable_tree t then t else cast_of t
  widened false t = t
