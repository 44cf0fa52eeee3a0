-- Scalars made from plain values, of types without null.
use Rattle.std.specs.Prelude.{ℕ, ℤ, Bool, false, List}
use Rattle.vortex_types.specs.declared.dtype.PType.{PType}
use Rattle.vortex_types.specs.LogicalTypes.{bool_type, integer_type, text_type}
use Rattle.vortex_types.specs.Values.{truth, number, text}
use Rattle.vortex_types.specs.ScalarView.{ScalarView}

abbrev pub bool_scalar : Bool → ScalarView
bool_scalar b = record { dtype = bool_type false; value = truth b }

abbrev pub int_scalar : PType → ℤ → ScalarView
int_scalar p z = record { dtype = integer_type p false; value = number z }

abbrev pub text_scalar : List ℕ → ScalarView
text_scalar bs = record { dtype = text_type false; value = text bs }
