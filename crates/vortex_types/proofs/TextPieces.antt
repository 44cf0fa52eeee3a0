-- The pieces of a type's text, and their cost, as lists of them grow.
use Rattle.std.proofs.Common.{◌≡◌, ℕ, suc, ◌+◌, Bool, List, [], ◌∷◌, ◌++◌, drop, sym, ap, ◌∙◌}
use Rattle.std.proofs.Common.{arith, add-one, refl, String, string_bytes, Global}
use Rattle.std.proofs.lemmas.List.{append-nil, append_assoc}
use Rattle.std.specs.Prelude.{codes}
use Rattle.std.specs.Fmt.{decimal}
use Rattle.std.specs.List.{flat_map}
use Rattle.vortex_types.specs.LogicalTypes.{LogicalType, null_type, bool_type, integer_type}
use Rattle.vortex_types.specs.LogicalTypes.{text_type, bytes_type, struct_type, list_type}
use Rattle.vortex_types.specs.LogicalTypes.{fixed_size_list_type, map_type, Fields}
use Rattle.vortex_types.specs.Texts.{joined, comma, separator_before}
use Rattle.vortex_types.specs.TypeOf.{type_of, fields_view}
use Rattle.vortex_types.specs.TypeCopies.{HasParts}
use Rattle.vortex_types.specs.DTypeTexts.{type_text, field_type_texts, opening, null_mark}
use Rattle.vortex_types.specs.TypePieces.{ending, joined_from, fields_text}
use Rattle.vortex_types.specs.TypePieces.{piece_text, pieces_text, piece_cost, pieces_cost}
use Rattle.vortex_types.specs.declared.dtype.DType.{DType}
use Rattle.vortex_types.specs.declared.dtype.StructFields.{StructFields}
use Rattle.vortex_types.specs.declared.dtype.text.Piece.{Piece}

pieces_push : (ps : List Piece) (p : Piece)
    → pieces_text (ps ++ p ∷ []) ≡ piece_text p ++ pieces_text ps
pieces_push [] p = sym (append-nil (piece_text p))
pieces_push (q ∷ ps) p =
    ap (λ (ys : List ℕ). ys ++ piece_text q) (pieces_push ps p)
    ∙ append_assoc (piece_text p) (pieces_text ps) (piece_text q)

pieces_cost_push : (ps : List Piece) (p : Piece)
    → pieces_cost (ps ++ p ∷ []) ≡ pieces_cost ps + piece_cost p
pieces_cost_push [] p = omega arith
pieces_cost_push (q ∷ ps) p = omega (arith, pieces_cost_push ps p)

pub piece_more : (ps new : List Piece) (p : Piece) (below : List ℕ) → new ≡ ps ++ p ∷ []
    → pieces_text ps ≡ below → pieces_text new ≡ piece_text p ++ below
piece_more ps new p below e h =
    ap pieces_text e ∙ pieces_push ps p ∙ ap (λ (ys : List ℕ). piece_text p ++ ys) h

pub piece_cost_more : (ps new : List Piece) (p : Piece) → new ≡ ps ++ p ∷ []
    → pieces_cost new ≡ pieces_cost ps + piece_cost p
piece_cost_more ps new p e = ap pieces_cost e ∙ pieces_cost_push ps p

-- a type without types inside is its opening and its mark
pub flat_text : (t : LogicalType) → ¬ HasParts t → opening t ++ null_mark t ≡ type_text t
flat_text null_type h = refl
flat_text (bool_type n) h = refl
flat_text (integer_type p n) h = refl
flat_text (text_type n) h = refl
flat_text (bytes_type n) h = refl
flat_text (struct_type fs n) h = absurd (h tt)
flat_text (list_type t n) h = absurd (h tt)
flat_text (fixed_size_list_type t s n) h = absurd (h tt)
flat_text (map_type k v n) h = absurd (h tt)

-- what is listed after an opening is the rest of a type
pub listed_as : (t u : LogicalType) (inside pieces below : List ℕ) → t ≡ u
    → pieces ≡ inside ++ (ending t ++ below)
    → opening u ++ (inside ++ (ending u ++ below)) ≡ type_text u ++ below
    → opening t ++ pieces ≡ type_text t ++ below
listed_as t u inside pieces below is e h =
    ap (λ (ys : List ℕ). opening t ++ ys) e
    ∙ ap (λ (w : LogicalType). opening w ++ (inside ++ (ending w ++ below))) is
    ∙ h
    ∙ ap (λ (w : LogicalType). type_text w ++ below) (sym is)

regrouped : (o x c m below : List ℕ)
    → o ++ (x ++ ((c ++ m) ++ below)) ≡ ((o ++ x ++ c) ++ m) ++ below
regrouped o x c m below = simp append_assoc

pub list_whole : (e : LogicalType) (n : Bool) (below : List ℕ)
    → opening (list_type e n) ++ (type_text e ++ (ending (list_type e n) ++ below))
    ≡ type_text (list_type e n) ++ below
list_whole e n below =
    regrouped (codes "list[") (type_text e) (codes "]") (null_mark (list_type e n)) below

regrouped_fixed : (o x s d c m below : List ℕ)
    → o ++ (x ++ ((s ++ d ++ c ++ m) ++ below)) ≡ ((o ++ x ++ s ++ d ++ c) ++ m) ++ below
regrouped_fixed o x s d c m below = simp append_assoc

pub fixed_whole : (e : LogicalType) (s : ℕ) (n : Bool) (below : List ℕ)
    → opening (fixed_size_list_type e s n)
    ++ (type_text e ++ (ending (fixed_size_list_type e s n) ++ below))
    ≡ type_text (fixed_size_list_type e s n) ++ below
fixed_whole e s n below =
    regrouped_fixed (codes "list[") (type_text e) (codes "; ") (decimal s) (codes "]")
    (null_mark (fixed_size_list_type e s n)) below

regrouped_map : (o k s v c m below : List ℕ)
    → o ++ ((k ++ (s ++ v)) ++ ((c ++ m) ++ below)) ≡ ((o ++ k ++ s ++ v ++ c) ++ m) ++ below
regrouped_map o k s v c m below = simp append_assoc

pub map_whole : (k v : LogicalType) (n : Bool) (below : List ℕ)
    → opening (map_type k v n)
    ++ ((type_text k ++ (comma ++ type_text v)) ++ (ending (map_type k v n) ++ below))
    ≡ type_text (map_type k v n) ++ below
map_whole k v n below =
    regrouped_map (codes "map[") (type_text k) comma (type_text v) (codes "]")
    (null_mark (map_type k v n)) below

-- a map's pieces, each before the one that was listed before it
pub map_grouped : (k s v below : List ℕ) → k ++ (s ++ (v ++ below)) ≡ (k ++ (s ++ v)) ++ below
map_grouped k s v below = simp append_assoc

joined_rest : (sep : List ℕ) (k : ℕ) (ts : List (List ℕ))
    → joined_from sep (suc k) ts ≡ flat_map (λ (t : List ℕ). sep ++ t) ts
joined_rest sep k [] = refl
joined_rest sep k (t ∷ ts) = ap (λ (ys : List ℕ). sep ++ t ++ ys) (joined_rest sep (suc k) ts)

pub joined_all : (sep : List ℕ) (ts : List (List ℕ)) → joined_from sep 0 ts ≡ joined sep ts
joined_all sep [] = refl
joined_all sep (t ∷ ts) = ap (λ (ys : List ℕ). t ++ ys) (joined_rest sep 0 ts)

pub struct_whole : (fs : Fields) (n : Bool) (below : List ℕ)
    → opening (struct_type fs n)
    ++ (joined_from comma 0 (field_type_texts fs) ++ (ending (struct_type fs n) ++ below))
    ≡ type_text (struct_type fs n) ++ below
struct_whole fs n below =
    ap (λ (ys : List ℕ). codes "struct{" ++ (ys ++ (ending (struct_type fs n) ++ below)))
    (joined_all comma (field_type_texts fs))
    ∙ regrouped (codes "struct{") (joined comma (field_type_texts fs)) (codes "}")
    (null_mark (struct_type fs n)) below

-- the field at an index, and the fields after it
pub fields_at : (s : StructFields) (k : ℕ) (f : String Global × DType)
    → drop k s.fields.items ≡ f ∷ drop (k + 1) s.fields.items
    → fields_text s k
    ≡ separator_before comma k ++ (string_bytes f.0 ++ codes ": " ++ type_text (type_of f.1))
    ++ fields_text s (k + 1)
fields_at s k f h =
    ap (λ (fs : List (String Global × DType)).
    joined_from comma k (field_type_texts (fields_view fs))) h
    ∙ ap (λ (m : ℕ).
    separator_before comma k ++ (string_bytes f.0 ++ codes ": " ++ type_text (type_of f.1))
    ++ joined_from comma m (field_type_texts (fields_view (drop (k + 1) s.fields.items))))
    (sym (add-one k))

pub field_grouped : (old s n c t rest below : List ℕ)
    → (old ++ (s ++ n ++ c)) ++ (t ++ (rest ++ below))
    ≡ old ++ ((s ++ (n ++ c ++ t) ++ rest) ++ below)
field_grouped old s n c t rest below = simp append_assoc
