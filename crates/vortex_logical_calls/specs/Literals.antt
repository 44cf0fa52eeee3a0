-- Literals next to values of a kind.
use Rattle.std.specs.Prelude.{ℕ, ℤ, pos, ◌*ℤ◌, List, [], ◌∷◌, length, ◌==◌, Option, Some, None}
use Rattle.std.specs.Prelude.{option_and_then, if◌then◌else◌}
use Rattle.std.specs.Option.{option_or}
use Rattle.vortex_checked.specs.Exact.{is_outside}
use Rattle.vortex_types.specs.declared.dtype.PType.{PType}
use Rattle.vortex_types.specs.declared.dtype.PType.TheVariants.{I64}
use Rattle.vortex_types.specs.Typing.{least_of, greatest_of}
use Rattle.vortex_columns.specs.ScalarOf.{int_scalar}
use Rattle.vortex_interface.specs.Trees.{constant}
use Rattle.vortex_logical.specs.declared.kind.Kind.{Kind}
use Rattle.vortex_logical.specs.declared.kind.Kind.TheVariants.{Date, Timestamp, Decimal}
use Rattle.vortex_logical.specs.declared.kind.Kind.TheVariants.{F64, F32}
use Rattle.vortex_logical.specs.declared.operand.Operand.{Operand}
use Rattle.vortex_logical.specs.declared.operand.Operand.TheVariants.{Of}
use Rattle.vortex_logical.specs.Kinds.{stored_ptype, decimal_kind}
use Rattle.vortex_logical.specs.Cells.{stored_of_text}
use Rattle.vortex_lowering.specs.declared.refusal.Refusal.TheVariants.{NotOfKind}
use Rattle.vortex_lowering.specs.Rows.{lowered}
use Rattle.vortex_logical_calls.specs.Outcomes.{Outcome, made, refused, untyped}
use Rattle.vortex_logical_calls.specs.Calls.{Lowered}

-- what follows the first point
abbrev pub behind_point : List ℕ → List ℕ
behind_point [] = []
behind_point (b ∷ bs) = if b == 46 then bs else behind_point bs

-- decimals of 18 digits, as many of them after the point as the number has
abbrev pub number_kind : List ℕ → Option Kind
number_kind w = decimal_kind 18 (length (behind_point w))

-- the kind that a number takes next to an operand
abbrev pub kind_beside : Operand → List ℕ → Option Kind
kind_beside (Of (Decimal d)) w = number_kind w
kind_beside (Of F64) w = Some F64
kind_beside (Of F32) w = Some F32
kind_beside a w = None

-- the constant of the integer that stands for a text
abbrev pub constant_of : Kind → Option ℤ → Option PType → Outcome Lowered
constant_of k None p = refused (NotOfKind k)
constant_of k (Some z) None = untyped
constant_of k (Some z) (Some p) = made (lowered (constant (int_scalar p z)) (Of k))

-- the microseconds of a day's midnight, if 64 bits hold them
abbrev pub midnight : ℤ → Option ℤ
midnight z =
    let micros = z *ℤ pos 86_400_000_000 in
    if is_outside (least_of I64) (greatest_of I64) micros then None else Some micros

-- the stored integer of a literal's text: a date is midnight where a timestamp is wanted
abbrev pub number_of_text : Kind → List ℕ → Option ℤ
number_of_text Timestamp text =
    option_or (option_and_then midnight (stored_of_text Date text)) (stored_of_text Timestamp text)
number_of_text k text = stored_of_text k text

abbrev pub literal_of : Kind → List ℕ → Outcome Lowered
literal_of k text = constant_of k (number_of_text k text) (stored_ptype k)
