-- What is known of fields, with one field more.
use Rattle.std.proofs.Common.{◌≡◌, ◌∙◌, ℕ, ◌+◌, ◌*◌, ◌<◌, ◌≤◌, List, [], ◌∷◌, ◌++◌, Bool, true, false, ◌&&◌}
use Rattle.std.proofs.Common.{◌||◌, refl, ap, sym, map, arith, length, get_or, Option, None, Bor}
use Rattle.std.proofs.Common.{option_map, not, is_some}
use Rattle.std.specs.List.{list_all, list_any, range_with_len}
use Rattle.std.proofs.lemmas.List.Folds.{list_all-append, list_any-append}
use Rattle.std.proofs.lemmas.List.FromFn.{map-range_with_len_more}
use Rattle.std.proofs.lemmas.List.{get_or-map, map-append}
use Rattle.std.proofs.Math.Nat.{mul-le-mul_left}
use Rattle.vortex_types.specs.LogicalTypes.{bool_type}
use Rattle.vortex_logical.specs.declared.kind.Kind.TheVariants.{Date, Timestamp}
use Rattle.rowfn_queries.specs.Inference.{Field, holds, column_fields}
use Rattle.rowfn_queries.specs.Inference.{is_number, is_numeric, is_of_kind}
use Rattle.rowfn_queries.specs.Seen.{seen, seen_with}

and_true : (b : Bool) → (b && true) ≡ b
and_true true = refl
and_true false = refl

or_false : (b : Bool) → (b || false) ≡ b
or_false true = refl
or_false false = refl

all_more : (p : Field → Bool) (fs : List Field) (f : Field)
    → (list_all p fs && p f) ≡ list_all p (fs ++ f ∷ [])
all_more p fs f =
    sym (list_all-append p fs (f ∷ []) ∙ ap (λ (b : Bool). list_all p fs && b) (and_true (p f)))

any_more : (p : Field → Bool) (fs : List Field) (f : Field)
    → (list_any p fs || p f) ≡ list_any p (fs ++ f ∷ [])
any_more p fs f =
    sym (list_any-append p fs (f ∷ []) ∙ ap (λ (b : Bool). list_any p fs || b) (or_false (p f)))

pub seen_more : (fs : List Field) (f : Field) → seen_with (seen fs) f ≡ seen (fs ++ f ∷ [])
seen_more fs f = λ i. record {
  is_bool = all_more (holds (bool_type false)) fs f i;
  is_integer = all_more is_number fs f i;
  is_real = all_more is_numeric fs f i;
  is_date = all_more (is_of_kind Date) fs f i;
  is_timestamp = all_more (is_of_kind Timestamp) fs f i;
  has_null = any_more (λ (f : Field). not (is_some f)) fs f i;
  has_value = any_more is_some fs f i;
}

pub column_more : (fs : List Field) (w n j : ℕ)
    → column_fields fs w (n + 1) j
    ≡ column_fields fs w n j ++ (get_or fs (n * w + j) None ∷ [])
column_more fs w n j =
    map-range_with_len_more (λ i. get_or fs (i * w + j) None) 0 n n (omega arith)

-- a place in a row lies within the fields of the rows
pub place_within : (w n i j l : ℕ) → l ≡ w * n → i < n → j < w → i * w + j < l
place_within w n i j l even below within =
    let row : w * (i + 1) ≤ w * n = mul-le-mul_left w (omega arith) in
    omega (arith, row)

-- a field that is borrowed
pub field_is : (fs : List (Option (Bor (List ℕ)))) (k : ℕ) (d : Option (Bor (List ℕ)))
    → k < length fs
    → option_map (λ f. f.now) (get_or fs k d) ≡ get_or (map (option_map (λ f. f.now)) fs) k None
field_is fs k d within = sym (get_or-map (option_map (λ f. f.now)) fs k d None within)

-- a list that is made by a function of the place, and one element more
pub made_more : {A B : Type 0} (g : A → B) (f : ℕ → B) (xs : List A) (x : A) (i : ℕ)
    → map g xs ≡ map f (range_with_len 0 i) → g x ≡ f i
    → map g (xs ++ x ∷ []) ≡ map f (range_with_len 0 (i + 1))
made_more g f xs x i h e =
    map-append g xs (x ∷ [])
    ∙ (λ j. h j ++ e j ∷ [])
    ∙ sym (map-range_with_len_more f 0 i i (omega arith))
