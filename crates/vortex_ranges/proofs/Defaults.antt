-- What the marks of a function and the type of a call say of its outcomes.
use Rattle.std.specs.Prelude.{◌≡◌, suc, List, [], ◌∷◌, ◌||◌, Bool, true, false, not, map}
use Rattle.std.specs.Prelude.{None, Any, refl}
use Rattle.std.specs.List.{list_any}
use Rattle.std.proofs.Common.{arith, sym, ◌∙◌}
use Rattle.vortex_types.specs.LogicalTypes.{LogicalType}
use Rattle.vortex_types.specs.Values.{Value, null}
use Rattle.vortex_interface.specs.Outcomes.{Outcome, gives, faults, GivesType, GivesValue, GivesNull}
use Rattle.vortex_interface.specs.Meaning.{Meaning, Lawful}
use Rattle.vortex_ranges.specs.declared.range.Range.{Range}
use Rattle.vortex_ranges.specs.BoundViews.{range_of}
use Rattle.vortex_ranges.specs.Ranges.{RangeView, Admits}
use Rattle.vortex_ranges.specs.TypeRanges.{of_type}
use Rattle.vortex_ranges.specs.Calls.{AdmitsOutcome, AllAdmit, AdmitsCalls}
use Rattle.vortex_ranges.proofs.OfType.{typed_admitted}

abbrev AnyNull : List Value → Type 0
AnyNull vs = Any (λ v. v ≡ null) vs

null_here : (r : RangeView) (v : Value) (vs : List Value) → r.may_be_value ≡ false → Admits r v
    → AnyNull (v ∷ vs)
null_here r null vs e a = (0, null, omega arith, refl, refl)
null_here r v vs e a = cc

null_behind : (v : Value) (vs : List Value) → AnyNull vs → AnyNull (v ∷ vs)
null_behind v vs a = (suc a.0, a.1, omega (arith, a.2), a.3, a.4)

-- an argument that is always null is null
any_null : (rs : List Range) (vs : List Value) → AllAdmit (map range_of rs) vs
    → list_any (λ r. not r.may_be_value) rs ≡ true → AnyNull vs
any_null [] vs h e = cc
any_null (r ∷ rs) [] h e = absurd h
any_null (r ∷ rs) (v ∷ vs) h e = by r.may_be_value refl e (any_null rs vs h.1)
  where
    by : (b : Bool) → r.may_be_value ≡ b
        → (not b || list_any (λ r. not r.may_be_value) rs) ≡ true
        → (list_any (λ r. not r.may_be_value) rs ≡ true → AnyNull vs) → AnyNull (v ∷ vs)
    by false d f others = null_here (range_of r) v vs d h.0
    by true d f others = null_behind v vs (others f)

abbrev null_or_fault : Bool → RangeView
null_or_fault may_fault = record {
  may_fault = may_fault;
  may_be_null = true;
  may_be_value = false;
  low = None;
  high = None;
}

module _ {V O : Type 0} (m : Meaning V O) (lawful : Lawful m) (f : V) (o : O) (t : LogicalType)
    (b : Bool) (marked : b ≡ m.infallible f o) (rs : List RangeView) where
  typed_by : (c : Bool) (x : Outcome) → GivesType t x → (c ≡ true → GivesValue x)
      → AdmitsOutcome (of_type (not c) t) x
  typed_by true (faults y) p q = absurd (q refl)
  typed_by false (faults y) p q = refl
  typed_by c (gives v) p q = typed_admitted.typed (not c) t v p

  pub typed_calls : AdmitsCalls (m.return_type f o) (m.means f o) t rs (of_type (not b) t)
  typed_calls ts vs e h a =
      typed_by b (m.means f o ts vs) (lawful.typed f o ts t vs e h)
      (λ p. lawful.never_faults f o ts t vs (sym marked ∙ p) e h)

null_by : (c : Bool) (x : Outcome) → GivesNull x → (c ≡ true → GivesValue x)
    → AdmitsOutcome (null_or_fault (not c)) x
null_by true (faults y) p q = absurd (q refl)
null_by false (faults y) p q = refl
null_by c (gives null) p q = refl
null_by c (gives v) p q = cc

module _ {V O : Type 0} (m : Meaning V O) (lawful : Lawful m) (f : V) (o : O) (t : LogicalType)
    (b : Bool) (marked : b ≡ m.infallible f o) (strict : m.strict f o ≡ true) (rs : List Range)
    (one : list_any (λ r. not r.may_be_value) rs ≡ true) where
  pub null_calls : AdmitsCalls (m.return_type f o) (m.means f o) t (map range_of rs)
      (null_or_fault (not b))
  null_calls ts vs e h a =
      null_by b (m.means f o ts vs)
      (lawful.strict_value f o ts t vs strict e h (any_null rs vs a one))
      (λ p. lawful.never_faults f o ts t vs (sym marked ∙ p) e h)
