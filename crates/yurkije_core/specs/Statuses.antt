-- The numbers of what is refused.
use Rattle.std.specs.Prelude.{ℕ}
use Rattle.vortex_errors.specs.Errors.{number_of}
use Rattle.vortex_expressions.specs.declared.error.Reason.{Reason}
use Rattle.vortex_expressions.specs.declared.error.Reason.TheVariants as reason
use Rattle.vortex_expressions.specs.declared.refusal.Refusal.{Refusal}
use Rattle.vortex_expressions.specs.declared.refusal.Refusal.TheVariants as refusal
use Rattle.vortex_lowering.specs.declared.refusal.Refusal as lowering
use Rattle.vortex_lowering.specs.declared.refusal.Refusal.TheVariants as unlowered
use Rattle.vortex_program.specs.declared.running.RunError as fault
use Rattle.vortex_program.specs.declared.running.RunError.TheVariants as fault_of
use Rattle.yurkije_columns.specs.Statuses.{column_status}
use Rattle.yurkije_core.specs.declared.reading.ProgramError.{ProgramError}
use Rattle.yurkije_core.specs.declared.reading.ProgramError.TheVariants as program
use Rattle.yurkije_core.specs.declared.running.BatchRunError.{BatchRunError}
use Rattle.yurkije_core.specs.declared.running.BatchRunError.TheVariants as run

-- a text that is none of a kind has a status of its own; else kinds are types that do not fit
abbrev pub kinds_status : lowering.Refusal → ℕ
kinds_status (unlowered.NotOfKind k) = 119
kinds_status (unlowered.Binding e) = number_of e
kinds_status r = 3

abbrev pub refusal_status : Refusal → ℕ
refusal_status refusal.NotUtf8 = 110
refusal_status refusal.UnknownType = 113
refusal_status refusal.NotHeld = 114
refusal_status refusal.UntypedNull = 115
refusal_status refusal.NoEscape = 116
refusal_status refusal.NoCast = 117
refusal_status refusal.NoFunction = 118
refusal_status (refusal.OfKind k) = 3
refusal_status (refusal.Kinds r) = kinds_status r
refusal_status (refusal.Binding e) = number_of e

abbrev pub reason_status : Reason → ℕ
reason_status (reason.Refused r) = refusal_status r
reason_status r = 112

abbrev pub program_status : ProgramError → ℕ
program_status program.NotUtf8 = 110
program_status (program.Text e) = reason_status e.reason

abbrev pub fault_status : fault.RunError → ℕ
fault_status (fault_of.Fault row k e) = number_of e
fault_status (fault_of.Refused e) = number_of e
fault_status fault_of.OutOfMemory = 9

abbrev pub run_status : BatchRunError → ℕ
run_status (run.Batch e) = column_status e.fault
run_status (run.Program e) = fault_status e
