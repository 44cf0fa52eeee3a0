-- The values around one that is being copied, and how much work is left.
use Rattle.std.proofs.Common.{◌≡◌, ℕ, zero, suc, ◌+◌, ◌<◌, ◌≤◌, List, [], ◌∷◌, ◌++◌, length, map}
use Rattle.std.proofs.Common.{drop, Option, Some, Vec, Global, refl, sym, ap, ◌∙◌, arith}
use Rattle.std.proofs.lemmas.List.{drop_more, append-nil, append_assoc, map-append, length-append}
use Rattle.vortex_types.specs.Values.{Value, null, truth, number, text, bytes, list, values_of}
use Rattle.vortex_types.specs.ValueOf.{value_or_null, values_or_null}
use Rattle.vortex_types.specs.declared.scalar_value.ScalarValue.{ScalarValue}
use Rattle.vortex_types.specs.declared.scalar_value.ScalarValue.{List as ListValue}
use Rattle.vortex_types.proofs.ScalarViews.{view-List}
use Rattle.vortex_columns.specs.ColumnView.{row}
use Rattle.vortex_columns.specs.Cells.{sequence_value, sequence_values, IsSequence}
use Rattle.vortex_columns.specs.ValueSizes.{value_size, values_size, size_from}
use Rattle.vortex_columns.specs.declared.cell.Sequence.{Sequence}
use Rattle.vortex_columns.specs.declared.cell.Copying.{Copying}

-- copies of the first values, then the others
abbrev pub focus : Sequence → List (Option ScalarValue) → Value
focus s copies =
    list (values_of (map value_or_null copies ++ drop (length copies) (sequence_values s)))

-- the same with another value at the index being copied
abbrev pub around : Copying → Value → Value
around f v =
    list
    (values_of
    (map value_or_null f.copies.items
    ++ (v ∷ drop (length f.copies.items + 1) (sequence_values f.values))))

-- the whole, with that value inside
abbrev pub plug : List Copying → Value → Value
plug [] v = v
plug (f ∷ fs) v = around f (plug fs v)

abbrev pub AreThere : List Copying → Type 0
AreThere [] = Unit {0}
AreThere (f ∷ fs) = IsSequence f.values × AreThere fs

plug_one_more : (fs : List Copying) (f : Copying) (v : Value)
    → plug (fs ++ f ∷ []) v ≡ plug fs (around f v)
plug_one_more [] f v = refl
plug_one_more (g ∷ fs) f v = ap (around g) (plug_one_more fs f v)

pub there_one_more : (fs : List Copying) (f : Copying) → AreThere fs → IsSequence f.values
    → AreThere (fs ++ f ∷ [])
there_one_more [] f h g = (g, tt)
there_one_more (x ∷ fs) f h g = (h.0, there_one_more fs f h.1 g)

pub there_one_less : (fs : List Copying) (f : Copying) → AreThere (fs ++ f ∷ [])
    → AreThere fs × IsSequence f.values
there_one_less [] f h = (tt, h.0)
there_one_less (x ∷ fs) f h = let r = there_one_less fs f h.1 in ((h.0, r.0), r.1)

-- one more copy
filled : (xs : List (Option ScalarValue)) (x : Option ScalarValue) (vs : List Value)
    → map value_or_null (xs ++ x ∷ []) ++ drop (length (xs ++ x ∷ [])) vs
    ≡ map value_or_null xs ++ (value_or_null x ∷ drop (length xs + 1) vs)
filled xs x vs =
    (λ i. map-append value_or_null xs (x ∷ []) i ++ drop (length-append xs (x ∷ []) i) vs)
    ∙ append_assoc (map value_or_null xs) (value_or_null x ∷ []) (drop (length xs + 1) vs)

pub one_copied : (s : Sequence) (xs : List (Option ScalarValue)) (x : Option ScalarValue)
    → length xs < length (sequence_values s)
    → value_or_null x ≡ row (sequence_values s) (length xs) → focus s (xs ++ x ∷ []) ≡ focus s xs
one_copied s xs x h e =
    ap (λ l. list (values_of l))
    (filled xs x (sequence_values s)
    ∙ ap (λ l. map value_or_null xs ++ l)
    (ap (λ v. v ∷ drop (length xs + 1) (sequence_values s)) e
    ∙ sym (drop_more (sequence_values s) (length xs) null h)))

-- into the next value
pub entered : (fs : List Copying) (f : Copying) (inner : Sequence)
    → length f.copies.items < length (sequence_values f.values)
    → sequence_value inner ≡ row (sequence_values f.values) (length f.copies.items)
    → plug (fs ++ f ∷ []) (focus inner []) ≡ plug fs (focus f.values f.copies.items)
entered fs f inner h e =
    plug_one_more fs f (focus inner [])
    ∙ ap (λ l. plug fs (list (values_of (map value_or_null f.copies.items ++ l))))
    (ap (λ v. v ∷ drop (length f.copies.items + 1) (sequence_values f.values)) e
    ∙ sym (drop_more (sequence_values f.values) (length f.copies.items) null h))

drop_all : (n : ℕ) (vs : List Value) → length vs ≤ n → drop n vs ≡ []
drop_all zero [] h = refl
drop_all (suc n) [] h = refl
drop_all zero (v ∷ vs) h = absurd (omega arith)
drop_all (suc n) (v ∷ vs) h = drop_all n vs (omega arith)

-- every value is copied
pub all_copied : (s : Sequence) (copies : Vec (Option ScalarValue) Global)
    → length (sequence_values s) ≤ length copies.items
    → focus s copies.items ≡ list (values_or_null copies.items)
all_copied s copies h =
    ap (λ l. list (values_of l))
    (ap (λ l. map value_or_null copies.items ++ l)
    (drop_all (length copies.items) (sequence_values s) h)
    ∙ append-nil (map value_or_null copies.items))

-- and out again
pub left : (fs : List Copying) (f : Copying) (s : Sequence)
    (copies : Vec (Option ScalarValue) Global)
    → length (sequence_values s) ≤ length copies.items
    → plug fs (focus f.values (f.copies.items ++ Some (ListValue copies) ∷ []))
    ≡ plug (fs ++ f ∷ []) (focus s copies.items)
left fs f s copies h =
    ap (λ l. plug fs (list (values_of l)))
    (filled f.copies.items (Some (ListValue copies)) (sequence_values f.values))
    ∙ ap (λ v. plug fs (around f v)) (view-List copies ∙ sym (all_copied s copies h))
    ∙ sym (plug_one_more fs f (focus s copies.items))

abbrev pub size_above : List Copying → ℕ
size_above [] = 0
size_above (f ∷ fs) = suc (size_from (length f.copies.items + 1) f.values) + size_above fs

above_one_more : (fs : List Copying) (f : Copying)
    → size_above (fs ++ f ∷ [])
    ≡ size_above fs + suc (size_from (length f.copies.items + 1) f.values)
above_one_more [] f = omega arith
above_one_more (x ∷ fs) f = omega (arith, above_one_more fs f)

size_positive : (v : Value) → 0 < value_size v
size_positive null = omega arith
size_positive (truth b) = omega arith
size_positive (number z) = omega arith
size_positive (text bs) = omega arith
size_positive (bytes bs) = omega arith
size_positive (list vs) = omega arith

pub from_next : (k : ℕ) (s : Sequence) → k < length (sequence_values s)
    → size_from k s ≡ value_size (row (sequence_values s) k) + size_from (k + 1) s
from_next k s h = ap (λ l. values_size (values_of l)) (drop_more (sequence_values s) k null h)

length_one_more : (xs : List (Option ScalarValue)) (x : Option ScalarValue)
    → length (xs ++ x ∷ []) ≡ length xs + 1
length_one_more xs x = length-append xs (x ∷ [])

pub less_one_copied : (s : Sequence) (xs : List (Option ScalarValue)) (x : Option ScalarValue)
    → length xs < length (sequence_values s)
    → size_from (length (xs ++ x ∷ [])) s < size_from (length xs) s
less_one_copied s xs x h =
    let e = ap (λ k. size_from k s) (length_one_more xs x) in
    let n = from_next (length xs) s h in
    omega (arith, e, n, size_positive (row (sequence_values s) (length xs)))

pub less_entered : (fs : List Copying) (f : Copying) (inner : Sequence)
    → length f.copies.items < length (sequence_values f.values)
    → sequence_value inner ≡ row (sequence_values f.values) (length f.copies.items)
    → size_above (fs ++ f ∷ []) + size_from 0 inner
    < size_above fs + size_from (length f.copies.items) f.values
less_entered fs f inner h e =
    let n = from_next (length f.copies.items) f.values h in
    let same = ap value_size e in
    omega (arith, n, same, above_one_more fs f)

pub less_left : (all fs : List Copying) (f : Copying) (xs : List (Option ScalarValue))
    (x : Option ScalarValue) (more : ℕ) → all ≡ fs ++ f ∷ [] → xs ≡ f.copies.items ++ x ∷ []
    → size_above fs + size_from (length xs) f.values < size_above all + more
less_left all fs f xs x more e same =
    let above = ap size_above e ∙ above_one_more fs f in
    let long = ap length same ∙ length_one_more f.copies.items x in
    let left_there = ap (λ k. size_from k f.values) long in
    omega (arith, above, left_there)
