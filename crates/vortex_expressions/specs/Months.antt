-- Dates and timestamps so many months later.
use Rattle.std.specs.Prelude.{ℤ, [], ◌∷◌}
use Rattle.vortex_types.specs.declared.dtype.PType.TheVariants.{I64}
use Rattle.vortex_columns.specs.ScalarOf.{int_scalar}
use Rattle.vortex_interface.specs.Trees.{constant}
use Rattle.vortex_logical.specs.declared.kind.Kind.{Kind}
use Rattle.vortex_logical.specs.declared.kind.Kind.TheVariants.{Date, Timestamp}
use Rattle.vortex_standard.specs.declared.standard.Standard.{Standard}
use Rattle.vortex_standard.specs.declared.standard.Standard.TheVariants as standard
use Rattle.vortex_expressions.specs.declared.refusal.Refusal.TheVariants.{OfKind}
use Rattle.vortex_expressions.specs.Outcomes.{Outcome, answers, refuses, and_then}
use Rattle.vortex_expressions.specs.Items.{Item, kinded, Tree, callable, call_of}

abbrev pub months_function : Kind → Outcome Standard
months_function Date = answers standard.DateAddMonths
months_function Timestamp = answers standard.TimestampAddMonths
months_function k = refuses (OfKind k)

-- a value moved by so many months
abbrev pub months_moved : Kind → Tree → ℤ → Outcome Item
months_moved k t n =
    and_then (months_function k) (λ f.
    and_then (call_of (callable f) (t ∷ constant (int_scalar I64 n) ∷ []))
    (λ u. answers (kinded k u)))
