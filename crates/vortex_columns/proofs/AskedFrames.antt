-- Sequences with values that are still to be checked: one value further, into it, and out again.
use Rattle.std.proofs.Common.{◌≡◌, ℕ, suc, ◌+◌, ◌<◌, ◌≤◌, ◌↔◌, All, List, [], ◌∷◌}
use Rattle.std.proofs.Common.{◌++◌, Option, Some, None, IfSome, option_to_list, refl, sym, ap}
use Rattle.std.proofs.Common.{◌∙◌, subst, arith, ⊎_elim, if◌then◌else◌}
use Rattle.std.specs.List.{sum_by}
use Rattle.std.proofs.Math.Nat.{eq-or-lt_of_le}
use Rattle.std.proofs.lemmas.Bool.{lt-ltb, le-ltb, cases_lt}
use Rattle.std.proofs.lemmas.List.{append-nil}
use Rattle.std.proofs.lemmas.List.Elements.{All-nil, All-push, All-pop}
use Rattle.std.proofs.lemmas.List.Sums.{sum_by-append}
use Rattle.vortex_types.specs.Values.{Value, value_depth}
use Rattle.vortex_types.specs.LogicalTypes.{LogicalType}
use Rattle.vortex_types.specs.Typing.{HasType}
use Rattle.vortex_columns.specs.ColumnView.{row}
use Rattle.vortex_columns.specs.Cells.{sequence_value, sequence_values}
use Rattle.vortex_columns.specs.Shapes.{shape_type}
use Rattle.vortex_columns.specs.declared.cell.Sequence.{Sequence}
use Rattle.vortex_columns.specs.declared.typing.SequenceCheck.{SequenceCheck}
use Rattle.vortex_columns.specs.Questions.{part_type, asked_count, IsAsking, PartHasType}
use Rattle.vortex_columns.specs.Questions.{IsOpened, RestHave, with_rest}
use Rattle.vortex_columns.proofs.Compare.{depth_inside}
use Rattle.vortex_columns.specs.ValueSizes.{value_size, size_from}
use Rattle.vortex_columns.proofs.Copied.{from_next}
use Rattle.vortex_columns.proofs.HaveTypes.{parts_typed}

-- what is left to check means the same as the whole
abbrev pub Mean : SequenceCheck → List SequenceCheck → Type 0 → Type 0
Mean f fs Whole = (RestHave f × All RestHave fs) ↔ Whole

-- one value further
abbrev pub further : SequenceCheck → SequenceCheck
further f = record { values = f.values; shape = f.shape; next = f.next + 1 }

-- what it reads is in range, and nests no deeper
abbrev pub IsWithin : ℕ → SequenceCheck → Type 0
IsWithin depth f = IsAsking f × (value_depth (sequence_value f.values) ≤ depth)

rest_next : (P : ℕ → Type 0) (k n : ℕ) → k < n
    → (P k × ((j : ℕ) → k + 1 ≤ j → j < n → P j)) ↔ ((j : ℕ) → k ≤ j → j < n → P j)
rest_next P k n b = (
  λ h j low high.
      ⊎_elim (λ (e : k ≡ j). subst P e h.0) (λ (l : k < j). h.1 j (omega arith) high)
      (eq-or-lt_of_le low),
  λ h. (h k (omega arith) b, λ j low high. h j (omega arith) high),
)

further_rest : (f : SequenceCheck) → f.next < asked_count f
    → (PartHasType f f.next × RestHave (further f)) ↔ RestHave f
further_rest f b = rest_next (PartHasType f) f.next (asked_count f) b

opened : (f : SequenceCheck) (s : Sequence) (t : LogicalType) → IsOpened f s t
    → RestHave f ↔ HasType t (sequence_value s)
opened f s t o =
    let whole = parts_typed (shape_type f.shape) (sequence_values f.values) in
    subst (λ (u : LogicalType). RestHave f ↔ HasType u (sequence_value s)) o.3
    (subst (λ (r : Sequence). RestHave f ↔ HasType (shape_type f.shape) (sequence_value r)) o.2 (
      λ h. whole.0 (o.0.1, λ k b. h k (omega (arith, o.1)) b),
      λ h k low b. (whole.1 h).1 k b,
    ))

pub begun : (f : SequenceCheck) (s : Sequence) (t : LogicalType) → IsOpened f s t
    → Mean f [] (HasType t (sequence_value s))
begun f s t o =
    let whole = opened f s t o in (λ h. whole.0 h.0, λ w. (whole.1 w, All-nil RestHave))

-- another spelling of the next value and of its type
pub part_is : (f : SequenceCheck) (t : LogicalType) (v : Value)
    → t ≡ part_type (shape_type f.shape) f.next → v ≡ row (sequence_values f.values) f.next
    → HasType t v ↔ PartHasType f f.next
part_is f t v e d =
    subst
    (λ (u : LogicalType). HasType t v ↔ HasType u (row (sequence_values f.values) f.next)) e
    (subst (λ (w : Value). HasType t v ↔ HasType t w) d (λ h. h, λ h. h))

-- with one more frame, or with none
all_with : (P : SequenceCheck → Type 0) (fs : List SequenceCheck) (r : Option SequenceCheck)
    → (All P fs × IfSome r P) ↔ All P (fs ++ option_to_list r)
all_with P fs None = (
  λ h. subst (All P) (sym (append-nil fs)) h.0,
  λ h. All-pop P (fs ++ []) fs None refl h,
)
all_with P fs (Some f) = (
  λ h. All-push P fs f h.0 h.1,
  λ h. All-pop P (fs ++ f ∷ []) fs (Some f) refl h,
)

rest_some : (f : SequenceCheck) → f.next < asked_count f → with_rest f ≡ Some f
rest_some f h = ap (λ b. if b then Some f else None) (lt-ltb f.next (asked_count f) h)

rest_none : (f : SequenceCheck) → asked_count f ≤ f.next → with_rest f ≡ None
rest_none f h = ap (λ b. if b then Some f else None) (le-ltb f.next (asked_count f) h)

rest_cases : (f : SequenceCheck) (Q : Option SequenceCheck → Type 0) → (f.next < asked_count f → Q (Some f))
    → (asked_count f ≤ f.next → Q None) → Q (with_rest f)
rest_cases f Q some none =
    ⊎_elim (λ (h : f.next < asked_count f). subst Q (sym (rest_some f h)) (some h))
    (λ (h : asked_count f ≤ f.next). subst Q (sym (rest_none f h)) (none h))
    (cases_lt f.next (asked_count f))

rest_have : (f : SequenceCheck) → IfSome (with_rest f) RestHave ↔ RestHave f
rest_have f =
    rest_cases f (λ r. IfSome r RestHave ↔ RestHave f) (λ _. (λ h. h, λ h. h))
    (λ b. (λ _ k low c. absurd (omega arith), λ _. tt))

-- into the next value
pub went_in : (f inner : SequenceCheck) (s : Sequence) (t : LogicalType) (fs gs : List SequenceCheck)
    (Whole : Type 0) → f.next < asked_count f
    → gs ≡ fs ++ option_to_list (with_rest (further f)) → IsOpened inner s t
    → t ≡ part_type (shape_type f.shape) f.next
    → sequence_value s ≡ row (sequence_values f.values) f.next → Mean f fs Whole
    → Mean inner gs Whole
went_in f inner s t fs gs Whole b e o same_type same m =
    let whole = opened inner s t o in
    let part = part_is f t (sequence_value s) same_type same in
    let next = further_rest f b in
    let all = all_with RestHave fs (with_rest (further f)) in
    let rest = rest_have (further f) in
    subst (λ (hs : List SequenceCheck). Mean inner hs Whole) (sym e) (
      λ h. let a = all.1 h.1 in m.0 (next.0 (part.0 (whole.0 h.0), rest.0 a.1), a.0),
      λ w.
          let g = m.1 w in
          let n = next.1 g.0 in
          (whole.1 (part.1 n.0), all.0 (g.1, rest.1 n.1)),
    )

-- and out again
pub went_out : (f g : SequenceCheck) (fs gs : List SequenceCheck) (Whole : Type 0) → asked_count f ≤ f.next
    → fs ≡ gs ++ g ∷ [] → Mean f fs Whole → Mean g gs Whole
went_out f g fs gs Whole b e m =
    let all = all_with RestHave gs (Some g) in (
      λ h.
          m.0
          (λ k low c. absurd (omega arith), subst (All RestHave) (sym e) (all.0 (h.1, h.0))),
      λ w. let a = all.1 (subst (All RestHave) e (m.1 w).1) in (a.1, a.0),
    )

pub within_more : (depth : ℕ) (f : SequenceCheck) (fs gs : List SequenceCheck)
    → gs ≡ fs ++ option_to_list (with_rest f) → IsWithin depth f → All (IsWithin depth) fs
    → All (IsWithin depth) gs
within_more depth f fs gs e h all =
    let last : IfSome (with_rest f) (IsWithin depth) =
    rest_cases f (λ r. IfSome r (IsWithin depth)) (λ _. h) (λ _. tt) in
    subst (All (IsWithin depth)) (sym e)
    ((all_with (IsWithin depth) fs (with_rest f)).0 (all, last))

pub within_less : (depth : ℕ) (g : SequenceCheck) (fs gs : List SequenceCheck) → fs ≡ gs ++ g ∷ []
    → All (IsWithin depth) fs → IsWithin depth g × All (IsWithin depth) gs
within_less depth g fs gs e all =
    let a =
    (all_with (IsWithin depth) gs (Some g)).1 (subst (All (IsWithin depth)) e all) in
    (a.1, a.0)

pub within_opened : (depth : ℕ) (f : SequenceCheck) (s : Sequence) (t : LogicalType) → IsOpened f s t
    → value_depth (sequence_value s) ≤ depth → IsWithin depth f
within_opened depth f s t o h =
    (o.0, omega (arith, h, ap (λ (r : Sequence). value_depth (sequence_value r)) o.2))

pub deeper : (f : SequenceCheck) (v : Value) → f.next < asked_count f
    → v ≡ row (sequence_values f.values) f.next
    → value_depth v < value_depth (sequence_value f.values)
deeper f v b e =
    omega (arith, depth_inside (sequence_values f.values) f.next b, ap value_depth e)

-- how many steps are left
abbrev pub rest_size : SequenceCheck → ℕ
rest_size f = suc (size_from f.next f.values)

abbrev pub rest_sizes : List SequenceCheck → ℕ
rest_sizes fs = sum_by rest_size fs

sizes_more : (f : SequenceCheck) (fs gs : List SequenceCheck) → gs ≡ fs ++ option_to_list (with_rest f)
    → rest_sizes gs ≤ rest_sizes fs + rest_size f
sizes_more f fs gs e =
    let joined : rest_sizes gs
    ≡ rest_sizes fs + sum_by rest_size (option_to_list (with_rest f)) =
    ap rest_sizes e ∙ sum_by-append rest_size fs (option_to_list (with_rest f)) in
    let last : sum_by rest_size (option_to_list (with_rest f)) ≤ rest_size f =
    rest_cases f (λ r. sum_by rest_size (option_to_list r) ≤ rest_size f) (λ _. omega arith)
    (λ _. omega arith) in
    omega (arith, joined, last)

pub less_in : (f inner : SequenceCheck) (s : Sequence) (t : LogicalType) (fs gs : List SequenceCheck)
    → f.next < asked_count f → sequence_value s ≡ row (sequence_values f.values) f.next
    → gs ≡ fs ++ option_to_list (with_rest (further f)) → IsOpened inner s t
    → rest_sizes gs + size_from inner.next inner.values
    < rest_sizes fs + size_from f.next f.values
less_in f inner s t fs gs b e same o =
    let begins : size_from inner.next inner.values ≡ size_from 0 s =
    (λ i. size_from (o.1 i) (o.2 i)) in
    omega (
      arith,
      begins,
      from_next f.next f.values b,
      ap value_size e,
      sizes_more (further f) fs gs same,
    )
