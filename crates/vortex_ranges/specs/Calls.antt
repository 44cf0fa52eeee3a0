-- Ranges of calls: which of them admit the outcome of a call for all values of its arguments.
use Rattle.std.specs.Prelude.{◌≡◌, List, [], ◌∷◌, Option, Some, ⊤, true}
use Rattle.vortex_types.specs.LogicalTypes.{LogicalType}
use Rattle.vortex_types.specs.Values.{Value}
use Rattle.vortex_interface.specs.Outcomes.{Outcome, gives, faults}
use Rattle.vortex_interface.specs.Meaning.{HaveTypes}
use Rattle.vortex_ranges.specs.Ranges.{RangeView, Admits}

-- the range does not exclude the outcome
abbrev pub AdmitsOutcome : RangeView → Outcome → Type 0
AdmitsOutcome r (gives v) = Admits r v
AdmitsOutcome r (faults x) = r.may_fault ≡ true

-- each range admits the value at its index
abbrev pub AllAdmit : List RangeView → List Value → Type 0
AllAdmit [] [] = ⊤
AllAdmit (r ∷ rs) (v ∷ vs) = Admits r v × AllAdmit rs vs
AllAdmit rs vs = ⊥

-- of calls of that type: whatever arguments the ranges admit, the last range admits the outcome
abbrev pub AdmitsCalls : (List LogicalType → Option LogicalType)
    → (List LogicalType → List Value → Outcome) → LogicalType → List RangeView → RangeView → Type 0
AdmitsCalls return_type means t rs r =
    (ts : List LogicalType) (vs : List Value) → return_type ts ≡ Some t → HaveTypes ts vs
    → AllAdmit rs vs → AdmitsOutcome r (means ts vs)
