-- What the rows of a tree over stored integers mean.
use Rattle.std.specs.Prelude.{◌≡◌, ℕ, ℤ, List, Option, Some, None, Bool}
use Rattle.vortex_types.specs.declared.dtype.PType.{PType}
use Rattle.vortex_types.specs.LogicalTypes.{integer_type}
use Rattle.vortex_types.specs.Values.{null, number}
use Rattle.vortex_columns.specs.ColumnView.{ColumnView}
use Rattle.vortex_interface.specs.Meaning.{Meaning}
use Rattle.vortex_interface.specs.Outcomes.{gives}
use Rattle.vortex_interface.specs.Trees.{Tree}
use Rattle.vortex_interface.specs.Eval.{tree_type, eval}
use Rattle.vortex_logical.specs.declared.operand.Operand.{Operand}
use Rattle.vortex_logical.specs.StandsFor as logical
use Rattle.vortex_lowering.specs.Operands.{operand_ptype, OperandMeans}

-- a tree over stored integers, and what its values are
pub record Lowered (V O : Type 0) : Type 0 where
  pub tree : Tree V O
  pub operand : Operand

abbrev pub lowered : {V O : Type 0} → Tree V O → Operand → Lowered V O
lowered t a = record { tree = t; operand = a }

module _ {V O : Type 0} (m : Meaning V O) where
  -- the tree is of that integer type, with null or without
  abbrev pub IsOfType : PType → Tree V O → Type 0
  IsOfType p t = (n : Bool) × (tree_type m t ≡ Some (integer_type p n))

  -- the tree is of the type of the operand's stored values
  abbrev pub IsTyped : Lowered V O → Type 0
  IsTyped x = (p : PType) × (operand_ptype x.operand ≡ Some p) × IsOfType p x.tree

  module _ (cs : List ColumnView) (i : ℕ) where
    -- in row i over these columns the tree has the stored integer of the value
    pub record IsValue (x : Lowered V O) (v : logical.Meaning) : Type 0 where
      pub stored : ℤ
      pub given : eval m cs x.tree i ≡ gives (number stored)
      pub means : OperandMeans x.operand stored v

    -- null, or the stored integer of the value
    abbrev pub IsRow : Lowered V O → Option logical.Meaning → Type 0
    IsRow x None = eval m cs x.tree i ≡ gives null
    IsRow x (Some v) = IsValue x v
