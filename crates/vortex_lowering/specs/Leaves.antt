-- Columns and literals of a kind.
use Rattle.std.specs.Prelude.{◌≡◌, ℕ, ℤ, List, Option, Some, None, Bool, false}
use Rattle.std.specs.Prelude.{if◌then◌else◌}
use Rattle.vortex_types.specs.declared.dtype.PType.{PType}
use Rattle.vortex_types.specs.LogicalTypes.{LogicalType, integer_type, Fields, field_type}
use Rattle.vortex_types.specs.TypeEquality.{ptype_eq}
use Rattle.vortex_types.specs.ScalarView.{ScalarView}
use Rattle.vortex_errors.specs.Answers.{UnlessMemory}
use Rattle.vortex_columns.specs.ScalarOf.{int_scalar}
use Rattle.vortex_interface.specs.Trees.{constant}
use Rattle.vortex_functions.specs.Binding.{field_leaf}
use Rattle.vortex_logical.specs.declared.kind.Kind.{Kind}
use Rattle.vortex_logical.specs.declared.kind.Kind.TheVariants.{Plain}
use Rattle.vortex_logical.specs.declared.operand.Operand.{Operand}
use Rattle.vortex_logical.specs.declared.operand.Operand.TheVariants.{Whole, Of}
use Rattle.vortex_logical.specs.Kinds.{stored_ptype}
use Rattle.vortex_logical.specs.Cells.{stored_of_text}
use Rattle.vortex_lowering.specs.declared.refusal.Refusal.{Refusal}
use Rattle.vortex_lowering.specs.declared.refusal.Refusal.TheVariants.{NotStored, Binding}
use Rattle.vortex_lowering.specs.Rows.{Lowered}

abbrev pub is_ptype : Option PType → PType → Bool
is_ptype None p = false
is_ptype (Some q) p = ptype_eq q p

-- what the values of a column are, by its kind and its type; none if that does not store the kind
abbrev pub column_operand : Kind → LogicalType → Option Operand
column_operand Plain (integer_type p n) = Some (Whole p)
column_operand Plain t = Some (Of Plain)
column_operand k (integer_type p n) = if is_ptype (stored_ptype k) p then Some (Of k) else None
column_operand k t = None

-- the column at that place of the scope
pub record IsColumn {V O : Type 0} (k : Kind) (place : ℕ) (scope : Fields) (x : Lowered V O) :
    Type 0 where
  pub tree : x.tree ≡ field_leaf place scope
  pub operand : column_operand k (field_type place scope) ≡ Some x.operand

-- the constant of the integer that stores the text's value
pub record IsLiteral {V O : Type 0} (k : Kind) (text : List ℕ) (x : Lowered V O) : Type 0 where
  pub stored : ℤ
  pub ptype : PType
  pub read : stored_of_text k text ≡ Some stored
  pub stores : stored_ptype k ≡ Some ptype
  pub tree : x.tree ≡ constant (int_scalar ptype stored)
  pub operand : x.operand ≡ Of k

-- the scalar that a column of the kind has for the integer
abbrev pub IsConstantOf : Kind → ℤ → ScalarView → Type 0
IsConstantOf k z s = (p : PType) × (stored_ptype k ≡ Some p) × (s ≡ int_scalar p z)

abbrev pub RefusesColumn : Kind → LogicalType → Refusal → Type 0
RefusesColumn k t (NotStored l) = (l ≡ k) × (column_operand k t ≡ None)
RefusesColumn k t (Binding e) = UnlessMemory (λ e. ⊥) e
RefusesColumn k t e = ⊥
