-- Sums, differences and products of operands, row by row, and why two have none.
use Rattle.std.specs.Prelude.{◌≡◌, ◌&&◌, ℕ, List, Option, Some, None, true, false, IsSome}
use Rattle.std.specs.Prelude.{is_some}
use Rattle.std.specs.Bool.{MatchBool}
use Rattle.vortex_errors.specs.declared.error.NumericOperator.{NumericOperator}
use Rattle.vortex_errors.specs.declared.error.NumericOperator.TheVariants as numeric
use Rattle.vortex_errors.specs.Answers.{UnlessMemory}
use Rattle.vortex_columns.specs.ColumnView.{ColumnView}
use Rattle.vortex_interface.specs.Meaning.{Meaning}
use Rattle.vortex_interface.specs.Outcomes.{faults, arithmetic}
use Rattle.vortex_interface.specs.Eval.{tree_type, eval}
use Rattle.vortex_logical.specs.declared.operand.Operand.{Operand}
use Rattle.vortex_logical.specs.StandsFor as logical
use Rattle.vortex_lowering.specs.declared.refusal.Refusal.{Refusal}
use Rattle.vortex_lowering.specs.declared.refusal.Refusal.TheVariants as refusal
use Rattle.vortex_lowering.specs.Operands.{held_at}
use Rattle.vortex_lowering.specs.Results.{result_operand, are_computed, met_scale, IsResult}
use Rattle.vortex_lowering.specs.Results.{result_held}
use Rattle.vortex_lowering.specs.Rows.{Lowered, IsTyped, IsRow}
use Rattle.vortex_lowering.specs.LoweredTrees.{computed_tree}

-- the two have a result of some kind, and shipped functions compute it
abbrev pub AreComputed : NumericOperator → Operand → Operand → Type 0
AreComputed o a b = IsSome (result_operand o a b) × (are_computed o a b ≡ true)

-- the error names both operands
abbrev pub RefusesOperands : NumericOperator → Operand → Operand → Refusal → Type 0
RefusesOperands o a b (refusal.NoCommonKind c d) =
    (c ≡ a) × (d ≡ b) × (result_operand o a b ≡ None)
RefusesOperands o a b (refusal.NotShipped c d) =
    (c ≡ a) × (d ≡ b) × IsSome (result_operand o a b) × (are_computed o a b ≡ false)
RefusesOperands o a b e = ⊥

module _ {V O : Type 0} (m : Meaning V O) where
  -- in each row of any columns: the result of what the operands mean, null beside null; E7 where 64
  -- bits do not hold one of them at the scale, or the type does not hold the result
  abbrev pub Computes : NumericOperator → Lowered V O → Lowered V O → Lowered V O → Type 0
  Computes o x y z =
      (cs : List ColumnView) (i : ℕ) (v w r : Option logical.Meaning)
      → IsRow m cs i x v → IsRow m cs i y w → IsResult o v w r
      → let u = met_scale o x.operand y.operand in
      MatchBool (held_at u x.operand v && held_at u y.operand w)
      (MatchBool (result_held z.operand r) (IsRow m cs i z r)
      (eval m cs z.tree i ≡ faults (arithmetic o)))
      (eval m cs z.tree i ≡ faults (arithmetic numeric.Mul))

  -- the result of two operands, each of its stored type
  pub record IsComputed (o : NumericOperator) (x y z : Lowered V O) : Type 0 where
    pub kind : result_operand o x.operand y.operand ≡ Some z.operand
    pub shipped : are_computed o x.operand y.operand ≡ true
    pub tree : z.tree ≡ computed_tree o x y
    pub takes : is_some (tree_type m z.tree) ≡ true
    pub typed : IsTyped m x → IsTyped m y → IsTyped m z
    pub rows : IsTyped m x → IsTyped m y → Computes o x y z

  -- why there is none: the operands first; E3 where the tree has no type, which is only where an operand is not of its
  -- stored type
  abbrev pub RefusesResult : NumericOperator → Lowered V O → Lowered V O → Refusal → Type 0
  RefusesResult o x y (refusal.Binding e) =
      UnlessMemory (λ e. AreComputed o x.operand y.operand
      × (tree_type m (computed_tree o x y) ≡ None) × ¬ (IsTyped m x × IsTyped m y)) e
  RefusesResult o x y e = RefusesOperands o x.operand y.operand e
