-- Comparisons of operands, row by row, and why two are not compared.
use Rattle.std.specs.Prelude.{◌≡◌, ◌&&◌, ℕ, List, Option, None, Bool, true, false, IsSome}
use Rattle.std.specs.Prelude.{is_some, if◌then◌else◌}
use Rattle.vortex_errors.specs.declared.error.NumericOperator.TheVariants.{Mul}
use Rattle.vortex_errors.specs.Answers.{UnlessMemory}
use Rattle.vortex_types.specs.Values.{truth_or_null}
use Rattle.vortex_columns.specs.ColumnView.{ColumnView}
use Rattle.vortex_operators.specs.declared.operators.CompareOperator.{CompareOperator}
use Rattle.vortex_interface.specs.Meaning.{Meaning}
use Rattle.vortex_interface.specs.Outcomes.{gives, faults, arithmetic}
use Rattle.vortex_interface.specs.Trees.{Tree}
use Rattle.vortex_interface.specs.Eval.{tree_type, eval}
use Rattle.vortex_logical.specs.declared.operand.Operand.{Operand}
use Rattle.vortex_logical.specs.CommonKinds.{common_operand}
use Rattle.vortex_logical.specs.StandsFor as logical
use Rattle.vortex_lowering.specs.declared.refusal.Refusal.{Refusal}
use Rattle.vortex_lowering.specs.declared.refusal.Refusal.TheVariants as refusal
use Rattle.vortex_lowering.specs.Operands.{common_scale, held_at, are_shipped}
use Rattle.vortex_lowering.specs.Truths.{IsTruth}
use Rattle.vortex_lowering.specs.Rows.{Lowered, IsTyped, IsRow}
use Rattle.vortex_lowering.specs.LoweredTrees.{compared_tree}

-- the two meet in a kind, and shipped functions compare them
abbrev pub AreCompared : Operand → Operand → Type 0
AreCompared a b = IsSome (common_operand a b) × (are_shipped a b ≡ true)

-- the error names both operands
abbrev pub RefusesPair : Operand → Operand → Refusal → Type 0
RefusesPair a b (refusal.NoCommonKind c d) =
    (c ≡ a) × (d ≡ b) × (common_operand a b ≡ None)
RefusesPair a b (refusal.NotShipped c d) =
    (c ≡ a) × (d ≡ b) × IsSome (common_operand a b) × (are_shipped a b ≡ false)
RefusesPair a b e = ⊥

module _ {V O : Type 0} (m : Meaning V O) where
  -- in each row of any columns: the truth of the comparison by the order of what the operands mean,
  -- null beside null; E7 where 64 bits do not hold one of them at the common scale
  abbrev pub Compares : CompareOperator → Lowered V O → Lowered V O → Tree V O → Type 0
  Compares op x y t =
      (cs : List ColumnView) (i : ℕ) (v w : Option logical.Meaning) (p : Option Bool)
      → IsRow m cs i x v → IsRow m cs i y w → IsTruth op v w p
      → let u = common_scale x.operand y.operand in
      eval m cs t i
      ≡ (if held_at u x.operand v && held_at u y.operand w
      then gives (truth_or_null p) else faults (arithmetic Mul))

  -- two operands are compared
  pub record IsCompared (op : CompareOperator) (x y : Lowered V O) (t : Tree V O) : Type 0 where
    pub meet : AreCompared x.operand y.operand
    pub tree : t ≡ compared_tree op x y
    pub takes : is_some (tree_type m t) ≡ true
    pub rows : Compares op x y t

  -- why not: the operands first; E3 where the tree has no type, which is only where an operand is
  -- not of its stored type
  abbrev pub RefusesComparison : CompareOperator → Lowered V O → Lowered V O → Refusal → Type 0
  RefusesComparison op x y (refusal.Binding e) =
      UnlessMemory (λ e. AreCompared x.operand y.operand
      × (tree_type m (compared_tree op x y) ≡ None) × ¬ (IsTyped m x × IsTyped m y)) e
  RefusesComparison op x y e = RefusesPair x.operand y.operand e
