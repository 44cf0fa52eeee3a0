-- Types of the values of a list, one by one.
use Rattle.std.proofs.Common.{◌≡◌, ℕ, zero, suc, ◌<◌, Bool, false, IsTrue, ◌↔◌, List, [], ◌∷◌}
use Rattle.std.proofs.Common.{length, refl, sym, ap, ◌∙◌, subst, arith, true≢false}
use Rattle.vortex_types.specs.Values.{Value, null, truth, number, text, bytes, list, no_values}
use Rattle.vortex_types.specs.Values.{value, values_of, value_count}
use Rattle.vortex_types.specs.LogicalTypes.{LogicalType, null_type, bool_type, integer_type}
use Rattle.vortex_types.specs.LogicalTypes.{text_type, bytes_type, struct_type, list_type}
use Rattle.vortex_types.specs.LogicalTypes.{fixed_size_list_type, map_type, Fields, no_fields}
use Rattle.vortex_types.specs.LogicalTypes.{field, field_count, field_type}
use Rattle.vortex_types.specs.Typing.{Each, HasType, HaveFields}
use Rattle.vortex_columns.specs.CellTypes.{IsEntryOf}
use Rattle.vortex_columns.specs.ColumnView.{row}
use Rattle.vortex_columns.specs.Printing.{entry_type}
use Rattle.vortex_columns.specs.Questions.{IsMadeOf, part_type}

pub each_all : (P : Value → Type 0) (vs : List Value) → ((j : ℕ) → j < length vs → P (row vs j))
    → Each P (values_of vs)
each_all P [] h = tt
each_all P (v ∷ vs) h = (h 0 (omega arith), each_all P vs (λ j b. h (suc j) (omega arith)))

each_at : (P : Value → Type 0) (vs : List Value) (k : ℕ) → k < length vs → Each P (values_of vs)
    → P (row vs k)
each_at P [] k b h = absurd (omega arith)
each_at P (v ∷ vs) zero b h = h.0
each_at P (v ∷ vs) (suc k) b h = each_at P vs k (omega arith) h.1

have_all : (fs : Fields) (vs : List Value) → length vs ≡ field_count fs
    → ((j : ℕ) → j < length vs → HasType (field_type j fs) (row vs j))
    → HaveFields fs (values_of vs)
have_all no_fields [] e h = tt
have_all (field name k fs) (v ∷ vs) e h =
    (h 0 (omega arith), have_all fs vs (omega arith) (λ j b. h (suc j) (omega arith)))
have_all no_fields (v ∷ vs) e h = absurd (omega arith)
have_all (field name k fs) [] e h = absurd (omega arith)

have_count : (fs : Fields) (vs : List Value) → HaveFields fs (values_of vs)
    → length vs ≡ field_count fs
have_count no_fields [] h = refl
have_count (field name k fs) (v ∷ vs) h = ap suc (have_count fs vs h.1)
have_count no_fields (v ∷ vs) h = absurd h
have_count (field name k fs) [] h = absurd h

have_at : (fs : Fields) (vs : List Value) (k : ℕ) → k < length vs → HaveFields fs (values_of vs)
    → HasType (field_type k fs) (row vs k)
have_at (field name l fs) (v ∷ vs) zero b h = h.0
have_at (field name l fs) (v ∷ vs) (suc k) b h = have_at fs vs k (omega arith) h.1
have_at no_fields [] k b h = absurd (omega arith)
have_at no_fields (v ∷ vs) k b h = absurd h
have_at (field name l fs) [] k b h = absurd h

pub value_count_of : (vs : List Value) → value_count (values_of vs) ≡ length vs
value_count_of [] = refl
value_count_of (v ∷ vs) = ap suc (value_count_of vs)

-- an entry is a struct of its key and value
entry_typed : (k v : LogicalType) (w : Value) → HasType (entry_type k v) w ↔ IsEntryOf k v w
entry_typed k v null = (λ h. absurd (true≢false (sym h)), λ h. absurd h)
entry_typed k v (truth b) = (λ h. h, λ h. h)
entry_typed k v (number z) = (λ h. h, λ h. h)
entry_typed k v (text bs) = (λ h. h, λ h. h)
entry_typed k v (bytes bs) = (λ h. h, λ h. h)
entry_typed k v (list no_values) = (λ h. h, λ h. h)
entry_typed k v (list (value x no_values)) = (λ h. h.1, λ h. absurd h)
entry_typed k v (list (value x (value y no_values))) = (
  λ h. (h.0, h.1.0),
  λ h. (h.0, (h.1, tt)),
)
entry_typed k v (list (value x (value y (value z zs)))) = (λ h. h.1.1, λ h. absurd h)

-- a sequence has the type that its values determine
pub parts_typed : (t : LogicalType) (vs : List Value)
    → (IsMadeOf t (length vs) × ((k : ℕ) → k < length vs → HasType (part_type t k) (row vs k)))
    ↔ HasType t (list (values_of vs))
parts_typed (struct_type fs n) vs = (
  λ h. have_all fs vs h.0 h.1,
  λ h. (have_count fs vs h, λ k b. have_at fs vs k b h),
)
parts_typed (list_type t n) vs = (
  λ h. each_all (HasType t) vs h.1,
  λ h. (tt, λ k b. each_at (HasType t) vs k b h),
)
parts_typed (fixed_size_list_type t s n) vs = (
  λ h. (value_count_of vs ∙ h.0, each_all (HasType t) vs h.1),
  λ h. (sym (value_count_of vs) ∙ h.0, λ k b. each_at (HasType t) vs k b h.1),
)
parts_typed (map_type k v n) vs = (
  λ h. each_all (IsEntryOf k v) vs (λ j b. (entry_typed k v (row vs j)).0 (h.1 j b)),
  λ h. (tt, λ j b. (entry_typed k v (row vs j)).1 (each_at (IsEntryOf k v) vs j b h)),
)
parts_typed null_type vs = (λ h. absurd h.0, λ h. absurd h)
parts_typed (bool_type n) vs = (λ h. absurd h.0, λ h. absurd h)
parts_typed (integer_type p n) vs = (λ h. absurd h.0, λ h. absurd h)
parts_typed (text_type n) vs = (λ h. absurd h.0, λ h. absurd h)
parts_typed (bytes_type n) vs = (λ h. absurd h.0, λ h. absurd h)

pub not_made : (t : LogicalType) (vs : List Value) (n : ℕ) (made : Bool) → n ≡ length vs
    → (IsTrue made ↔ IsMadeOf t n) → made ≡ false → HasType t (list (values_of vs)) → ⊥
not_made t vs n made e iff is h =
    let so_many : IsMadeOf t (length vs) = ((parts_typed t vs).1 h).0 in
    true≢false (sym (iff.1 (subst (IsMadeOf t) (sym e) so_many)) ∙ is)
