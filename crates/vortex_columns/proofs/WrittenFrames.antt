-- The remaining texts of the values around one that is being written, and how much work is left.
use Rattle.std.proofs.Common.{◌≡◌, ℕ, zero, suc, ◌+◌, ◌<◌, ◌≤◌, List, [], ◌∷◌, ◌++◌, length, drop}
use Rattle.std.proofs.Common.{get_or, refl, sym, ap, ◌∙◌, arith, append_assoc, add-one, Bool}
use Rattle.std.specs.List.{flat_map}
use Rattle.std.proofs.lemmas.List.{drop_more, drop_all, append-nil}
use Rattle.vortex_types.specs.LogicalTypes.{LogicalType, null_type, bool_type, integer_type}
use Rattle.vortex_types.specs.LogicalTypes.{text_type, bytes_type, struct_type, list_type}
use Rattle.vortex_types.specs.LogicalTypes.{fixed_size_list_type, map_type}
use Rattle.vortex_types.specs.Texts.{joined, comma, separator_before}
use Rattle.vortex_types.specs.Values.{Value, list, values_of}
use Rattle.vortex_columns.specs.ColumnView.{row}
use Rattle.vortex_columns.specs.Cells.{sequence_value, sequence_values, IsSequence}
use Rattle.vortex_columns.specs.Printing.{value_text, value_texts, field_texts, element_type}
use Rattle.vortex_columns.specs.Shapes.{shape_type}
use Rattle.vortex_columns.specs.WrittenValues.{opening, closing, count_written, name_before}
use Rattle.vortex_columns.specs.WrittenValues.{inner_type}
use Rattle.vortex_columns.specs.declared.cell.Sequence.{Sequence}
use Rattle.vortex_columns.specs.declared.value_text.Shape.{Shape}
use Rattle.vortex_columns.specs.declared.value_text.Writing.{Writing}
use Rattle.vortex_columns.specs.ValueSizes.{value_size, size_from}
use Rattle.vortex_columns.proofs.Copied.{from_next}
use Rattle.vortex_columns.proofs.ValueTexts.{value_texts-length, value_text_at}
use Rattle.vortex_columns.proofs.ValueTexts.{field_texts-length, field_text_at}

-- the texts of the values in a list, a map or a struct; in a struct each follows its field's name
abbrev pub inner_texts : Bool → LogicalType → List Value → List (List ℕ)
inner_texts typed (struct_type fs n) vs = field_texts typed fs (values_of vs)
inner_texts typed t vs = value_texts typed (element_type t) (values_of vs)

-- those from index k on, after the others
abbrev pub joined_from : ℕ → List (List ℕ) → List ℕ
joined_from zero texts = joined comma texts
joined_from (suc k) texts = flat_map (λ (t : List ℕ). comma ++ t) (drop (suc k) texts)

-- the remaining text of one of them
abbrev pub rest : Bool → Writing → List ℕ
rest typed f =
    joined_from f.next (inner_texts typed (shape_type f.shape) (sequence_values f.values))
    ++ closing (shape_type f.shape)

-- and of all, the outermost first
abbrev pub rests : Bool → List Writing → List ℕ
rests typed [] = []
rests typed (f ∷ fs) = rests typed fs ++ rest typed f

abbrev pub AreThere : List Writing → Type 0
AreThere [] = Unit {0}
AreThere (f ∷ fs) = IsSequence f.values × AreThere fs

-- one more value is written
abbrev pub after_next : Writing → Writing
after_next f = record { values = f.values; shape = f.shape; next = f.next + 1 }

rests_one_more : (typed : Bool) (fs : List Writing) (f : Writing)
    → rests typed (fs ++ f ∷ []) ≡ rest typed f ++ rests typed fs
rests_one_more typed [] f = sym (append-nil (rest typed f))
rests_one_more typed (g ∷ fs) f =
    ap (λ (bs : List ℕ). bs ++ rest typed g) (rests_one_more typed fs f)
    ∙ append_assoc (rest typed f) (rests typed fs) (rest typed g)

pub there_one_more : (fs : List Writing) (f : Writing) → AreThere fs → IsSequence f.values
    → AreThere (fs ++ f ∷ [])
there_one_more [] f h g = (g, tt)
there_one_more (x ∷ fs) f h g = (h.0, there_one_more fs f h.1 g)

pub there_one_less : (fs : List Writing) (f : Writing) → AreThere (fs ++ f ∷ [])
    → AreThere fs × IsSequence f.values
there_one_less [] f h = (tt, h.0)
there_one_less (x ∷ fs) f h = let r = there_one_less fs f h.1 in ((h.0, r.0), r.1)

-- the text of a list, a map or a struct, in its pieces
in_brackets : (typed : Bool) (t : LogicalType) (vs : List Value)
    → value_text typed t (list (values_of vs))
    ≡ opening t ++ joined comma (inner_texts typed t vs) ++ closing t
in_brackets typed null_type vs = refl
in_brackets typed (bool_type n) vs = refl
in_brackets typed (integer_type p n) vs = refl
in_brackets typed (text_type n) vs = refl
in_brackets typed (bytes_type n) vs = refl
in_brackets typed (struct_type fs n) vs = refl
in_brackets typed (list_type t n) vs = refl
in_brackets typed (fixed_size_list_type t s n) vs = refl
in_brackets typed (map_type k v n) vs = refl

inner_texts-length : (typed : Bool) (t : LogicalType) (vs : List Value)
    → length (inner_texts typed t vs) ≡ count_written t vs
inner_texts-length typed null_type vs = value_texts-length typed null_type vs
inner_texts-length typed (bool_type n) vs = value_texts-length typed (bool_type n) vs
inner_texts-length typed (integer_type p n) vs = value_texts-length typed (integer_type p n) vs
inner_texts-length typed (text_type n) vs = value_texts-length typed (text_type n) vs
inner_texts-length typed (bytes_type n) vs = value_texts-length typed (bytes_type n) vs
inner_texts-length typed (struct_type fs n) vs = field_texts-length typed fs vs
inner_texts-length typed (list_type t n) vs = value_texts-length typed t vs
inner_texts-length typed (fixed_size_list_type t s n) vs = value_texts-length typed t vs
inner_texts-length typed (map_type k v n) vs =
    value_texts-length typed (element_type (map_type k v n)) vs

inner_text_at : (typed : Bool) (t : LogicalType) (vs : List Value) (k : ℕ) (d : List ℕ)
    → k < count_written t vs
    → name_before k t ++ value_text typed (inner_type k t) (row vs k)
    ≡ get_or (inner_texts typed t vs) k d
inner_text_at typed null_type vs k d h = value_text_at typed null_type vs k d h
inner_text_at typed (bool_type n) vs k d h = value_text_at typed (bool_type n) vs k d h
inner_text_at typed (integer_type p n) vs k d h = value_text_at typed (integer_type p n) vs k d h
inner_text_at typed (text_type n) vs k d h = value_text_at typed (text_type n) vs k d h
inner_text_at typed (bytes_type n) vs k d h = value_text_at typed (bytes_type n) vs k d h
inner_text_at typed (struct_type fs n) vs k d h =
    field_text_at typed fs vs k d (omega (arith, h)) (omega (arith, h))
inner_text_at typed (list_type t n) vs k d h = value_text_at typed t vs k d h
inner_text_at typed (fixed_size_list_type t s n) vs k d h = value_text_at typed t vs k d h
inner_text_at typed (map_type a b n) vs k d h =
    value_text_at typed (element_type (map_type a b n)) vs k d h

pub count_within : (t : LogicalType) (vs : List Value) → count_written t vs ≤ length vs
count_within null_type vs = omega arith
count_within (bool_type n) vs = omega arith
count_within (integer_type p n) vs = omega arith
count_within (text_type n) vs = omega arith
count_within (bytes_type n) vs = omega arith
count_within (struct_type fs n) vs = omega arith
count_within (list_type t n) vs = omega arith
count_within (fixed_size_list_type t s n) vs = omega arith
count_within (map_type k v n) vs = omega arith

from_place : (texts : List (List ℕ)) (k : ℕ) (t : List ℕ) → k < length texts
    → t ≡ get_or texts k t
    → joined_from k texts ≡ separator_before comma k ++ (t ++ joined_from (k + 1) texts)
from_place [] k t h e = absurd (omega arith)
from_place (x ∷ xs) zero t h e =
    ap (λ (ys : List ℕ). ys ++ flat_map (λ (y : List ℕ). comma ++ y) xs) (sym e)
from_place (x ∷ xs) (suc k) t h e =
    ap (λ (ys : List (List ℕ)). flat_map each ys) (drop_more xs k t (omega arith))
    ∙ append_assoc comma (get_or xs k t) (flat_map each (drop (k + 1) xs))
    ∙ ap (λ (y : List ℕ). comma ++ (y ++ flat_map each (drop (k + 1) xs))) (sym e)
    ∙ ap (λ (n : ℕ). comma ++ (t ++ flat_map each (drop n xs))) (add-one k)
    ∙ ap (λ (n : ℕ). comma ++ (t ++ joined_from n (x ∷ xs))) (sym (add-one (suc k)))
  where
    each : List ℕ → List ℕ
    each y = comma ++ y

from_end : (texts : List (List ℕ)) (k : ℕ) → length texts ≤ k → joined_from k texts ≡ []
from_end [] zero h = refl
from_end (x ∷ xs) zero h = absurd (omega arith)
from_end texts (suc k) h =
    ap (λ (ys : List (List ℕ)). flat_map (λ (y : List ℕ). comma ++ y) ys)
    (drop_all (suc k) texts h)

-- one more value, of any kind
pub one_written : (typed : Bool) (f : Writing) (old more last tail : List ℕ)
    → f.next < count_written (shape_type f.shape) (sequence_values f.values)
    → more ≡ old
    ++ (separator_before comma f.next ++ name_before f.next (shape_type f.shape))
    → last ≡ more ++ value_text typed (inner_type f.next (shape_type f.shape))
    (row (sequence_values f.values) f.next)
    → last ++ (rest typed (after_next f) ++ tail) ≡ old ++ (rest typed f ++ tail)
one_written typed f old more last tail h e g =
    ap (λ (bs : List ℕ). bs ++ (rest typed (after_next f) ++ tail))
    (g ∙ ap (λ (bs : List ℕ). bs ++ text) e)
    ∙ regrouped old separator name text (joined_from (f.next + 1) texts) (closing t) tail
    ∙ ap (λ (bs : List ℕ). old ++ ((bs ++ closing t) ++ tail)) (sym next)
  where
    t : LogicalType
    t = shape_type f.shape

    vs : List Value
    vs = sequence_values f.values

    texts : List (List ℕ)
    texts = inner_texts typed t vs

    separator : List ℕ
    separator = separator_before comma f.next

    name : List ℕ
    name = name_before f.next t

    text : List ℕ
    text = value_text typed (inner_type f.next t) (row vs f.next)

    next : joined_from f.next texts
        ≡ separator ++ ((name ++ text) ++ joined_from (f.next + 1) texts)
    next =
        from_place texts f.next (name ++ text) (omega (arith, h, inner_texts-length typed t vs))
        (inner_text_at typed t vs f.next (name ++ text) h)

    regrouped : (a s n x j c z : List ℕ)
        → ((a ++ (s ++ n)) ++ x) ++ ((j ++ c) ++ z)
        ≡ a ++ (((s ++ ((n ++ x) ++ j)) ++ c) ++ z)
    regrouped a s n x j c z = simp append_assoc refl

-- a sequence of which only the opening bracket is written
abbrev pub at_start : Sequence → Shape → Writing
at_start values shape = record { values = values; shape = shape; next = 0 }

opened : (typed : Bool) (values : Sequence) (shape : Shape) (old last tail : List ℕ)
    → last ≡ old ++ opening (shape_type shape)
    → last ++ (rest typed (at_start values shape) ++ tail)
    ≡ (old ++ value_text typed (shape_type shape) (sequence_value values)) ++ tail
opened typed values shape old last tail e =
    ap (λ (bs : List ℕ). bs ++ ((pieces ++ closing t) ++ tail)) e
    ∙ regrouped old (opening t) pieces (closing t) tail
    ∙ ap (λ (bs : List ℕ). (old ++ bs) ++ tail) (sym (in_brackets typed t vs))
  where
    t : LogicalType
    t = shape_type shape

    vs : List Value
    vs = sequence_values values

    pieces : List ℕ
    pieces = joined comma (inner_texts typed t vs)

    regrouped : (a o j c z : List ℕ) → (a ++ o) ++ ((j ++ c) ++ z) ≡ (a ++ (o ++ j ++ c)) ++ z
    regrouped a o j c z = simp append_assoc refl

-- a sequence begins inside another
pub entered : (typed : Bool) (fs : List Writing) (f : Writing) (inner : Sequence) (shape : Shape)
    (old more last : List ℕ)
    → f.next < count_written (shape_type f.shape) (sequence_values f.values)
    → sequence_value inner ≡ row (sequence_values f.values) f.next
    → shape_type shape ≡ inner_type f.next (shape_type f.shape)
    → more ≡ old
    ++ (separator_before comma f.next ++ name_before f.next (shape_type f.shape))
    → last ≡ more ++ opening (shape_type shape)
    → last ++ (rest typed (at_start inner shape) ++ rests typed (fs ++ after_next f ∷ []))
    ≡ old ++ (rest typed f ++ rests typed fs)
entered typed fs f inner shape old more last h same ty e g =
    ap (λ (bs : List ℕ). last ++ (rest typed (at_start inner shape) ++ bs))
    (rests_one_more typed fs (after_next f))
    ∙ opened typed inner shape more last (rest typed (after_next f) ++ rests typed fs) g
    ∙ one_written typed f old more
    (more ++ value_text typed (shape_type shape) (sequence_value inner))
    (rests typed fs) h e
    (λ i. more ++ value_text typed (ty i) (same i))

-- only the bracket is left
only_bracket : (typed : Bool) (f : Writing)
    → count_written (shape_type f.shape) (sequence_values f.values) ≤ f.next
    → rest typed f ≡ closing (shape_type f.shape)
only_bracket typed f h =
    ap (λ (bs : List ℕ). bs ++ closing (shape_type f.shape))
    (from_end (inner_texts typed (shape_type f.shape) (sequence_values f.values)) f.next
    (omega (
      arith,
      h,
      inner_texts-length typed (shape_type f.shape) (sequence_values f.values),
    )))

ended : (typed : Bool) (f : Writing) (old last tail : List ℕ)
    → count_written (shape_type f.shape) (sequence_values f.values) ≤ f.next
    → last ≡ old ++ closing (shape_type f.shape)
    → last ++ tail ≡ old ++ (rest typed f ++ tail)
ended typed f old last tail h e =
    ap (λ (bs : List ℕ). bs ++ tail)
    (e ∙ ap (λ (bs : List ℕ). old ++ bs) (sym (only_bracket typed f h)))
    ∙ append_assoc old (rest typed f) tail

-- a sequence ends inside another
pub left : (typed : Bool) (fs : List Writing) (p f : Writing) (old last : List ℕ)
    → count_written (shape_type f.shape) (sequence_values f.values) ≤ f.next
    → last ≡ old ++ closing (shape_type f.shape)
    → last ++ (rest typed p ++ rests typed fs)
    ≡ old ++ (rest typed f ++ rests typed (fs ++ p ∷ []))
left typed fs p f old last h e =
    ap (λ (bs : List ℕ). last ++ bs) (sym (rests_one_more typed fs p))
    ∙ ended typed f old last (rests typed (fs ++ p ∷ [])) h e

-- the outermost sequence ends
pub finished : (typed : Bool) (f : Writing) (old last : List ℕ)
    → count_written (shape_type f.shape) (sequence_values f.values) ≤ f.next
    → last ≡ old ++ closing (shape_type f.shape)
    → last ≡ old ++ (rest typed f ++ [])
finished typed f old last h e = sym (append-nil last) ∙ ended typed f old last [] h e

-- how many steps the enclosing sequences take
abbrev pub size_around : List Writing → ℕ
size_around [] = 0
size_around (f ∷ fs) = suc (size_from f.next f.values) + size_around fs

around_one_more : (fs : List Writing) (f : Writing)
    → size_around (fs ++ f ∷ []) ≡ size_around fs + suc (size_from f.next f.values)
around_one_more [] f = omega arith
around_one_more (g ∷ fs) f = omega (arith, around_one_more fs f)

pub less_entered : (fs : List Writing) (f : Writing) (inner : Sequence)
    → f.next < length (sequence_values f.values)
    → sequence_value inner ≡ row (sequence_values f.values) f.next
    → size_around (fs ++ after_next f ∷ []) + size_from 0 inner
    < size_around fs + size_from f.next f.values
less_entered fs f inner h e =
    omega (
      arith,
      from_next f.next f.values h,
      ap value_size e,
      around_one_more fs (after_next f),
    )

pub less_left : (all fs : List Writing) (p : Writing) (more : ℕ) → all ≡ fs ++ p ∷ []
    → size_around fs + size_from p.next p.values < size_around all + more
less_left all fs p more e = omega (arith, ap size_around e, around_one_more fs p)
