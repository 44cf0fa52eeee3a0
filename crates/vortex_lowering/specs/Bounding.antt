-- Operands between two bounds, row by row, and why they are not.
use Rattle.std.specs.Prelude.{◌≡◌, ◌⊎◌, ◌&&◌, ℕ, List, Option, Bool, true}
use Rattle.std.specs.Prelude.{None, is_some, if◌then◌else◌}
use Rattle.vortex_errors.specs.declared.error.NumericOperator.TheVariants.{Mul}
use Rattle.vortex_errors.specs.Answers.{UnlessMemory}
use Rattle.vortex_types.specs.Values.{truth_or_null}
use Rattle.vortex_columns.specs.ColumnView.{ColumnView}
use Rattle.vortex_operators.specs.declared.between.BetweenOptions.{BetweenOptions}
use Rattle.vortex_operators.specs.declared.operators.Operator.TheVariants.{And}
use Rattle.vortex_operators.specs.Between.{bound_operator}
use Rattle.vortex_operators.specs.Kleene.{kleene}
use Rattle.vortex_interface.specs.Meaning.{Meaning}
use Rattle.vortex_interface.specs.Outcomes.{gives, faults, arithmetic}
use Rattle.vortex_interface.specs.Trees.{Tree}
use Rattle.vortex_interface.specs.Eval.{tree_type, eval}
use Rattle.vortex_logical.specs.StandsFor as logical
use Rattle.vortex_lowering.specs.declared.refusal.Refusal.{Refusal}
use Rattle.vortex_lowering.specs.declared.refusal.Refusal.TheVariants as refusal
use Rattle.vortex_lowering.specs.Operands.{bounds_scale, held_at}
use Rattle.vortex_lowering.specs.Truths.{IsTruth}
use Rattle.vortex_lowering.specs.Rows.{Lowered, IsTyped, IsRow}
use Rattle.vortex_lowering.specs.LoweredTrees.{bounded_tree}
use Rattle.vortex_lowering.specs.Comparing.{AreCompared, RefusesPair}

module _ {V O : Type 0} (m : Meaning V O) where
  -- in each row of any columns: Kleene's And of both comparisons by the order of what the operands
  -- mean; E7 where 64 bits do not hold one of them at the largest scale
  abbrev pub Bounds : BetweenOptions → Lowered V O → Lowered V O → Lowered V O → Tree V O → Type 0
  Bounds o x low high t =
      (cs : List ColumnView) (i : ℕ) (v w z : Option logical.Meaning) (p q : Option Bool)
      → IsRow m cs i x v → IsRow m cs i low w → IsRow m cs i high z
      → IsTruth (bound_operator o.lower_strict) w v p
      → IsTruth (bound_operator o.upper_strict) v z q
      → let u = bounds_scale x.operand low.operand high.operand in
      eval m cs t i
      ≡ (if held_at u x.operand v && (held_at u low.operand w && held_at u high.operand z)
      then gives (truth_or_null (kleene And p q)) else faults (arithmetic Mul))

  -- an operand and its bounds
  pub record IsBounded (o : BetweenOptions) (x low high : Lowered V O) (t : Tree V O) : Type 0
    where
      pub lower : AreCompared low.operand x.operand
      pub upper : AreCompared x.operand high.operand
      pub tree : t ≡ bounded_tree o x low high
      pub takes : is_some (tree_type m t) ≡ true
      pub rows : Bounds o x low high t

  -- why not: the lower bound first; E3 where the tree has no type, which is only where an operand
  -- is not of its stored type
  abbrev pub RefusesBounds : BetweenOptions → Lowered V O → Lowered V O → Lowered V O → Refusal
      → Type 0
  RefusesBounds o x low high (refusal.Binding e) =
      UnlessMemory (λ e. AreCompared low.operand x.operand × AreCompared x.operand high.operand
      × (tree_type m (bounded_tree o x low high) ≡ None)
      × ¬ (IsTyped m x × IsTyped m low × IsTyped m high)) e
  RefusesBounds o x low high e =
      RefusesPair low.operand x.operand e
      ⊎ (AreCompared low.operand x.operand × RefusesPair x.operand high.operand e)
