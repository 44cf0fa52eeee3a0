-- The outcome of a row whose result is a float, by the integer that stands for it; and of a row of a
-- number that is a stored integer.
use Rattle.std.specs.Prelude.{Option, Some, None}
use Rattle.std.specs.Float.{Float, binary64}
use Rattle.vortex_types.specs.Values.{number}
use Rattle.vortex_interface.specs.Outcomes.{Outcome, gives}
use Rattle.vortex_logical.specs.FloatKeys.{key_of_float}
use Rattle.vortex_sql_rows.specs.declared.faults.RowFault.TheVariants.{OtherValues}
use Rattle.vortex_sql_rows.specs.Faults.{faults_by}
use Rattle.vortex_sql_rows.specs.declared.faults.RowFault.{RowFault}

abbrev pub gives_float : Float → Outcome
gives_float x = gives (number (key_of_float binary64 x))

abbrev pub gives_unless : Option RowFault → Float → Outcome
gives_unless (Some f) x = faults_by f
gives_unless None x = gives_float x

-- no call passes a number that is none
abbrev pub on_key : {A : Type 0} → (A → Outcome) → Option A → Outcome
on_key f (Some a) = f a
on_key f None = faults_by OtherValues
