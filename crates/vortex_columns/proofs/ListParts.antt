-- The range of a list that is one row of a list or map column.
use Rattle.std.proofs.Common.{◌≡◌, ℕ, zero, suc, ◌+◌, ◌<◌, ◌≤◌, List, [], ◌∷◌, length, take, drop}
use Rattle.std.proofs.Common.{refl, sym, ap, ◌∙◌, subst, arith}
use Rattle.std.specs.Prelude.{All}
use Rattle.std.proofs.lemmas.List.{get_or-take, get_or-drop, length-take, length-drop}
use Rattle.std.proofs.lemmas.List.Elements.{All-nil, All-cons, All-head, All-tail}
use Rattle.vortex_types.specs.Values.{Value, null, values_of}
use Rattle.vortex_types.specs.Typing.{Each, IsList, IsPair}
use Rattle.vortex_columns.specs.ColumnView.{row, entry, entries}
use Rattle.vortex_columns.proofs.HaveTypes.{each_all}

pub length_part : (rows : List Value) (start count : ℕ) → start + count ≤ length rows
    → length (take count (drop start rows)) ≡ count
length_part rows start count h = simp (length-take, length-drop) (omega arith)

pub part_row : (rows : List Value) (start count k : ℕ) → k < count
    → row rows (start + k) ≡ row (take count (drop start rows)) k
part_row rows start count k h =
    sym (get_or-take count (drop start rows) k null h ∙ get_or-drop start rows k null)

pub part_each : (P : Value → Type 0) (rows : List Value) (start count : ℕ)
    → start + count ≤ length rows → All P rows → Each P (values_of (take count (drop start rows)))
part_each P rows start count h all =
    let n = length_part rows start count h in
    each_all P (take count (drop start rows)) (λ j b.
    let inside : j < count = omega arith in
    subst (λ (v : Value). P v) (part_row rows start count j inside)
    (all (start + j) null (omega arith)))

pub length_entries : (ks vs : List Value) → length ks ≡ length vs
    → length (entries ks vs) ≡ length ks
length_entries [] [] h = refl
length_entries (k ∷ ks) (v ∷ vs) h = ap suc (length_entries ks vs (omega arith))
length_entries [] (v ∷ vs) h = absurd (omega arith)
length_entries (k ∷ ks) [] h = absurd (omega arith)

pub entries_row : (ks vs : List Value) (i : ℕ) → i < length ks → length ks ≡ length vs
    → row (entries ks vs) i ≡ entry (row ks i) (row vs i)
entries_row [] vs i b h = absurd (omega arith)
entries_row (k ∷ ks) [] i b h = absurd (omega arith)
entries_row (k ∷ ks) (v ∷ vs) zero b h = refl
entries_row (k ∷ ks) (v ∷ vs) (suc i) b h = entries_row ks vs i (omega arith) (omega arith)

pub entries_typed : (P Q : Value → Type 0) (ks vs : List Value) → length ks ≡ length vs → All P ks
    → All Q vs → All (IsList (IsPair P Q)) (entries ks vs)
entries_typed P Q [] [] h p q = All-nil (IsList (IsPair P Q))
entries_typed P Q (k ∷ ks) (v ∷ vs) h p q =
    All-cons (IsList (IsPair P Q)) (entry k v) (entries ks vs)
    (All-head P k ks p, All-head Q v vs q)
    (entries_typed P Q ks vs (omega arith) (All-tail P k ks p) (All-tail Q v vs q))
entries_typed P Q [] (v ∷ vs) h p q = absurd (omega arith)
entries_typed P Q (k ∷ ks) [] h p q = absurd (omega arith)
