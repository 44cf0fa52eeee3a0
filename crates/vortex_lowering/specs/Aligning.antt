-- Operands in the kind in which several meet.
use Rattle.std.specs.Prelude.{◌≡◌, ◌-◌, ℕ, List, Option, true, None, is_some}
use Rattle.std.specs.Bool.{MatchBool}
use Rattle.std.specs.Option.{option_map}
use Rattle.vortex_errors.specs.declared.error.NumericOperator.TheVariants.{Mul}
use Rattle.vortex_errors.specs.declared.error.VortexError.{VortexError}
use Rattle.vortex_columns.specs.ColumnView.{ColumnView}
use Rattle.vortex_interface.specs.Meaning.{Meaning}
use Rattle.vortex_interface.specs.Outcomes.{faults, arithmetic}
use Rattle.vortex_interface.specs.Trees.{Tree}
use Rattle.vortex_interface.specs.Eval.{tree_type, eval}
use Rattle.vortex_logical.specs.declared.operand.Operand.{Operand}
use Rattle.vortex_logical.specs.Decimals.{shifted}
use Rattle.vortex_logical.specs.StandsFor as logical
use Rattle.vortex_logical.specs.StandsFor.{number}
use Rattle.vortex_lowering.specs.Operands.{scale_of, held_at}
use Rattle.vortex_lowering.specs.Rows.{Lowered, lowered, IsRow}
use Rattle.vortex_lowering.specs.LoweredTrees.{tree_at_scale}

-- the same value, a number with u digits after the point
abbrev pub at_scale : ℕ → logical.Meaning → logical.Meaning
at_scale u (number m s) = number (shifted m (u - s)) u
at_scale u v = v

module _ {V O : Type 0} (m : Meaning V O) (common : Operand) (x : Lowered V O) where
  -- the operand with as many digits after the point as the common kind has
  pub record IsAligned (t : Tree V O) : Type 0 where
    pub tree : t ≡ tree_at_scale (scale_of common) x
    pub takes : is_some (tree_type m t) ≡ true

  -- that tree has no type, which is only where the operand is not of its stored type
  abbrev pub RefusesAligning : VortexError → Type 0
  RefusesAligning e = tree_type m (tree_at_scale (scale_of common) x) ≡ None

  -- in each row of any columns the tree means in the common kind what the operand means, null where
  -- that is null; E7 where 64 bits do not hold it
  abbrev pub Aligns : Tree V O → Type 0
  Aligns t =
      (cs : List ColumnView) (i : ℕ) (v : Option logical.Meaning) → IsRow m cs i x v
      → let u = scale_of common in
      MatchBool (held_at u x.operand v) (IsRow m cs i (lowered t common) (option_map (at_scale u) v))
      (eval m cs t i ≡ faults (arithmetic Mul))
