-- Cells that are read one by one, and the column made of them.
use Rattle.std.proofs.Common.{tests, ◌≡◌, ℕ, zero, suc, ◌+◌, take, ◌<◌, ◌≤◌, Bool, true}
use Rattle.std.proofs.Common.{false, Option, Some, None, Result, List, [], ◌∷◌, ◌++◌, ℤ, pos, map}
use Rattle.std.proofs.Common.{length, get_or, refl, sym, ap, subst, ◌∙◌, arith, length-append}
use Rattle.std.proofs.Common.{◌&&◌, if◌then◌else◌, All}
use Rattle.std.specs.Prelude.{slice_index_or, is_some, unwrap_or, nat_le}
use Rattle.vortex_views.specs.Placing.{Placed, none_placed, placed_from, most_bytes, most_buffers}
use Rattle.vortex_views.specs.Placing.{buffers_needed}
use Rattle.vortex_views.specs.Collected.{HaveRoom}
use Rattle.std.specs.List.{list_all}
use Rattle.std.specs.Option.{option_and_then}
use Rattle.std.proofs.lemmas.Bool.{and_from, and_parts, le-leb, leb-true}
use Rattle.std.proofs.lemmas.List.{get_or-map, length-map, map-append, map_push, ext_get_or}
use Rattle.std.proofs.lemmas.List.FromFn.{get_or-map-range_with_len, length-map-range_with_len}
use Rattle.vortex_errors.specs.declared.error.VortexError.{VortexError}
use Rattle.vortex_errors.specs.Answers.{AnswersWhere}
use Rattle.vortex_errors.proofs.Answering.{Answers-weaker}
use Rattle.vortex_types.specs.LogicalTypes.{LogicalType, bool_type, integer_type, text_type}
use Rattle.vortex_types.specs.LogicalTypes.{is_nullable}
use Rattle.vortex_types.specs.Values.{Value, null, truth, number, text}
use Rattle.vortex_columns.specs.ValidityView.{ValidityView, FitsRows, is_valid_row}
use Rattle.vortex_columns.specs.ValidityView.{form_allows_null}
use Rattle.vortex_columns.specs.ValidityView.{array, non_nullable}
use Rattle.vortex_columns.specs.ColumnView.{ColumnView, row}
use Rattle.vortex_columns.specs.Stored.{made_of}
use Rattle.vortex_cells.specs.Ranges.{in_range}
use Rattle.vortex_cells.specs.CellValues.{integer_of, number_where, value_of_text, cell_value}
use Rattle.vortex_cells.specs.CellValues.{cell_values, text_bytes, texts_fit, fit_column}
use Rattle.vortex_cells.specs.CellValues.{column_of, column_where, all_some}
use Rattle.vortex_cells.specs.Cells.{cells_from, item_or_null, IsMade, AreItems, AreCells}
use Rattle.vortex_cells.specs.Cells.{cells_validity}
use Rattle.vortex_cells.proofs.AllSome.{next_some}

pub answers_same : {A : Type 0} (r : Result A VortexError) (C D : Type 0) (P Q : A → Type 0)
    (refusal : VortexError)
    → (C → D) → (D → C) → ((x : A) → P x → Q x) → AnswersWhere r C P refusal
    → AnswersWhere r D Q refusal
answers_same r C D P Q refusal f g h k =
    Answers-weaker r (λ x. C × P x) (λ x. D × Q x) (λ e. (¬ C) × (e ≡ refusal))
    (λ e. (¬ D) × (e ≡ refusal)) (λ x p. (f p.0, h x p.1)) (λ e p. ((λ d. p.0 (g d)), p.1)) k

-- the result of a constructor, row by row
pub made_is : (kind : Bool → LogicalType) (v : ValidityView) (n : ℕ) (f : ℕ → Value)
    (vs : List Value) (c : ColumnView)
    → n ≡ length vs → ((i : ℕ) → i < length vs → f i ≡ slice_index_or vs i null)
    → c ≡ made_of (kind (form_allows_null v.form)) v n f → IsMade kind v vs c
made_is kind v n f vs c count same e = record {
  dtype = ap (λ (d : ColumnView). d.dtype) e;
  count =
      ap (λ (d : ColumnView). length d.rows) e
      ∙ length-map-range_with_len (λ i. if is_valid_row v i then f i else null) 0 n ∙ count;
  each = λ i lt.
      ap (λ (d : ColumnView). row d.rows i) e
      ∙ get_or-map-range_with_len (λ i. if is_valid_row v i then f i else null) 0 n i i null
      (omega (arith, count)) (omega arith)
      ∙ ap (λ x. if is_valid_row v i then x else null) (same i lt);
  computed = ap (λ (d : ColumnView). d.constant) e;
  form = ap (λ (d : ColumnView). d.form) e;
}

pub truths_at : (xs bits : List Bool) → bits ≡ xs → (i : ℕ) → i < length (map truth xs)
    → truth (slice_index_or bits i false) ≡ slice_index_or (map truth xs) i null
truths_at xs bits e i h =
    ap (λ ys. truth (slice_index_or ys i false)) e
    ∙ sym (get_or-map truth xs i false null (omega (arith, length-map xs truth)))

pub numbers_at : {X : Type 0} (f : X → ℤ) (xs : List X) (i : ℕ)
    → i < length (map (λ x. number (f x)) xs)
    → number (slice_index_or (map f xs) i (pos 0))
    ≡ slice_index_or (map (λ x. number (f x)) xs) i null
numbers_at f [] i h = absurd (omega arith)
numbers_at f (x ∷ xs) zero h = refl
numbers_at f (x ∷ xs) (suc i) h = numbers_at f xs i (omega arith)

pub texts_at : {X : Type 0} (f : X → List ℕ) (xs : List X) (i : ℕ)
    → i < length (map (λ x. text (f x)) xs)
    → text (slice_index_or (map f xs) i []) ≡ slice_index_or (map (λ x. text (f x)) xs) i null
texts_at f [] i h = absurd (omega arith)
texts_at f (x ∷ xs) zero h = refl
texts_at f (x ∷ xs) (suc i) h = texts_at f xs i (omega arith)

-- which values fit in a column
texts_of_none : {X : Type 0} (f : X → Value) → ((x : X) → text_bytes (f x) ≡ []) → (xs : List X)
    → map text_bytes (map f xs) ≡ map (λ x. []) xs
texts_of_none f h [] = refl
texts_of_none f h (x ∷ xs) = λ i. h x i ∷ texts_of_none f h xs i

none_long : {X : Type 0} (xs : List X)
    → list_all (λ (t : List ℕ). nat_le (length t) most_bytes) (map (λ x. []) xs) ≡ true
none_long [] = refl
none_long (x ∷ xs) = none_long xs

none_place : {X : Type 0} (p : Placed) (xs : List X) → placed_from p (map (λ x. []) xs) ≡ p
none_place p [] = refl
none_place p (x ∷ xs) = none_place p xs

none_fit : {X : Type 0} (xs : List X) → texts_fit (map (λ x. []) xs) ≡ true
none_fit xs = λ i. none_long xs i && nat_le (none_place none_placed xs i).count most_buffers

pub all_fit : {X : Type 0} (f : X → Value) → ((x : X) → text_bytes (f x) ≡ []) → (xs : List X)
    → fit_column (map f xs) ≡ true
all_fit f h xs = ap texts_fit (texts_of_none f h xs) ∙ none_fit xs

texts_of_texts : {X : Type 0} (f : X → List ℕ) (xs : List X)
    → map text_bytes (map (λ x. text (f x)) xs) ≡ map f xs
texts_of_texts f [] = refl
texts_of_texts f (x ∷ xs) = λ i. f x ∷ texts_of_texts f xs i

short_all : (ts : List (List ℕ)) → All (λ t. length t ≤ most_bytes) ts
    → list_all (λ t. nat_le (length t) most_bytes) ts ≡ true
short_all [] h = refl
short_all (t ∷ ts) h =
    and_from _ _ (grind (arith, tests, h 0 t (omega arith)))
    (short_all ts (λ k d lt. h (suc k) d (omega arith)))

all_short : (ts : List (List ℕ)) → list_all (λ t. nat_le (length t) most_bytes) ts ≡ true
    → All (λ t. length t ≤ most_bytes) ts
all_short [] h k d lt = absurd (omega arith)
all_short (t ∷ ts) h zero d lt =
    let here = (and_parts (nat_le (length t) most_bytes) _ h).0 in grind (arith, tests)
all_short (t ∷ ts) h (suc k) d lt =
    all_short ts (and_parts (nat_le (length t) most_bytes) _ h).1 k d (omega arith)

pub room_fits : {X : Type 0} (f : X → List ℕ) (xs : List X) → HaveRoom (map f xs)
    → fit_column (map (λ x. text (f x)) xs) ≡ true
room_fits f xs h =
    ap texts_fit (texts_of_texts f xs)
    ∙ and_from _ _ (short_all (map f xs) h.lens)
    (le-leb (buffers_needed (map f xs)) most_buffers h.buffers)

pub fitting_room : {X : Type 0} (f : X → List ℕ) (xs : List X)
    → fit_column (map (λ x. text (f x)) xs) ≡ true → HaveRoom (map f xs)
fitting_room f xs h =
    let both =
    and_parts (list_all (λ (t : List ℕ). nat_le (length t) most_bytes) (map f xs)) _
    (sym (ap texts_fit (texts_of_texts f xs)) ∙ h) in
    record {
      lens = all_short (map f xs) both.0;
      buffers = leb-true (buffers_needed (map f xs)) most_buffers both.1;
    }

cells_more : (vs : List Value) (valid : List Bool) (v : Value) (b : Bool) → length valid ≡ length vs
    → cells_from (vs ++ v ∷ []) (valid ++ b ∷ [])
    ≡ cells_from vs valid ++ (if b then v else null) ∷ []
cells_more [] [] v b h = refl
cells_more [] (c ∷ cs) v b h = absurd (omega (arith, h))
cells_more (w ∷ ws) [] v b h = absurd (omega (arith, h))
cells_more (w ∷ ws) (c ∷ cs) v b h =
    ap (λ (xs : List Value). (if c then w else null) ∷ xs) (cells_more ws cs v b (omega (arith, h)))

texts_alike : (v : Value) (b : Bool) → (b ≡ false → text_bytes v ≡ [])
    → text_bytes (if b then v else null) ≡ text_bytes v
texts_alike v true h = refl
texts_alike v false h = sym (h refl)

last_or_before : (xs : List Bool) (x : Bool) (i : ℕ) → i < length (xs ++ x ∷ [])
    → ((k : ℕ) → k < length xs → slice_index_or xs k true ≡ true) → x ≡ true
    → slice_index_or (xs ++ x ∷ []) i true ≡ true
last_or_before [] x zero lt h e = e
last_or_before [] x (suc i) lt h e = absurd (omega arith)
last_or_before (y ∷ ys) x zero lt h e = h 0 (omega arith)
last_or_before (y ∷ ys) x (suc i) lt h e =
    last_or_before ys x i (omega (arith, lt)) (λ k l. h (suc k) (omega arith)) e

-- one more item
pub items_more : (n : Bool) (vs : List Value) (valid : List Bool) (v : Value) (b : Bool)
    → AreItems n vs valid → (n ≡ false → b ≡ true) → (b ≡ false → text_bytes v ≡ [])
    → AreItems n (vs ++ v ∷ []) (valid ++ b ∷ [])
items_more n vs valid v b h p f = record {
  count = omega (arith, length-append vs (v ∷ []), length-append valid (b ∷ []), h.count);
  plain = λ e i lt. last_or_before valid b i lt (h.plain e) (p e);
  texts =
      ap (map text_bytes) (cells_more vs valid v b h.count)
      ∙ map_push text_bytes (cells_from vs valid) (if b then v else null)
      ∙ (λ i. h.texts i ++ texts_alike v b f i ∷ [])
      ∙ sym (map_push text_bytes vs v);
}

null_truth : (a b : Bool)
    → (if a then Some (truth true) else (if b then Some (truth false) else None)) ≡ Some null → ⊥
null_truth true b e = cc
null_truth false true e = cc
null_truth false false e = cc

null_number : (o : Option ℤ) (f : ℤ → Bool)
    → option_and_then (λ z. number_where (f z) z) o ≡ Some null → ⊥
null_number None f e = cc
null_number (Some z) f e = by (f z) e
  where
    by : (b : Bool) → number_where b z ≡ Some null → ⊥
    by true g = cc
    by false g = cc

said_not_null : (t : LogicalType) (w : List ℕ) → value_of_text t w ≡ Some null → ⊥
said_not_null (bool_type n) w e = null_truth _ _ e
said_not_null (integer_type p n) w e = null_number (integer_of w) (in_range p) e
said_not_null (text_type n) w e = cc
said_not_null t w e = cc

-- a cell is null only if the type has null
pub null_allowed : (t : LogicalType) (c : Option (List ℕ)) → cell_value t c ≡ Some null
    → is_nullable t ≡ true
null_allowed t (Some w) e = absurd (said_not_null t w e)
null_allowed t None e = by (is_nullable t) refl e
  where
    by : (b : Bool) → is_nullable t ≡ b → (if b then Some null else None) ≡ Some null
        → is_nullable t ≡ true
    by true g h = g
    by false g h = cc

cell_at : (vs : List Value) (valid : List Bool) (i : ℕ) → i < length vs → length valid ≡ length vs
    → slice_index_or (cells_from vs valid) i null
    ≡ (if slice_index_or valid i false then slice_index_or vs i null else null)
cell_at [] valid i h e = absurd (omega arith)
cell_at (v ∷ vs) [] i h e = absurd (omega (arith, e))
cell_at (v ∷ vs) (b ∷ bs) zero h e = refl
cell_at (v ∷ vs) (b ∷ bs) (suc i) h e = cell_at vs bs i (omega arith) (omega (arith, e))

cells_count : (vs : List Value) (valid : List Bool) → length valid ≡ length vs
    → length (cells_from vs valid) ≡ length vs
cells_count [] [] e = refl
cells_count [] (b ∷ bs) e = absurd (omega (arith, e))
cells_count (v ∷ vs) [] e = absurd (omega (arith, e))
cells_count (v ∷ vs) (b ∷ bs) e = omega (arith, cells_count vs bs (omega (arith, e)))

valid_is : (n : Bool) (valid : List Bool) (i : ℕ) → i < length valid
    → (n ≡ false → slice_index_or valid i true ≡ true)
    → is_valid_row (cells_validity n valid) i ≡ slice_index_or valid i false
valid_is true valid i h p = refl
valid_is false valid i h p = sym (p refl) ∙ same valid i h
  where
    same : (xs : List Bool) (i : ℕ) → i < length xs
        → slice_index_or xs i true ≡ slice_index_or xs i false
    same [] i h = absurd (omega arith)
    same (x ∷ xs) zero h = refl
    same (x ∷ xs) (suc i) h = same xs i (omega arith)

allows : (n : Bool) (valid : List Bool) → form_allows_null (cells_validity n valid).form ≡ n
allows true valid = refl
allows false valid = refl

form_is : (n : Bool) (valid : List Bool)
    → (cells_validity n valid).form ≡ (if n then array else non_nullable)
form_is true valid = refl
form_is false valid = refl

pub fits_cells : (n : Bool) (vs : List Value) (valid : List Bool) → length valid ≡ length vs
    → FitsRows (cells_validity n valid) (length vs)
fits_cells true vs valid e = e
fits_cells false vs valid e = tt

-- the column made of the cells is the column that they mean
pub column_made : (kind : Bool → LogicalType) (n : Bool) (vs : List Value) (valid : List Bool)
    (said : Option (List Value)) (v : ValidityView) (c : ColumnView)
    → is_nullable (kind n) ≡ n → AreCells n vs valid said → v ≡ cells_validity n valid
    → fit_column vs ≡ true → IsMade kind v vs c
    → Some c ≡ option_and_then (column_where (kind n)) said
column_made kind n vs valid said v c nullable cells validity fit made =
    ap Some is
    ∙ sym
    (ap (λ b. if b then Some (column_of (kind n) (cells_from vs valid)) else None)
    (ap texts_fit cells.items.texts ∙ fit))
    ∙ sym (ap (option_and_then (column_where (kind n))) cells.says)
  where
    rows_are : c.rows ≡ cells_from vs valid
    rows_are =
        ext_get_or null c.rows (cells_from vs valid)
        (made.count ∙ sym (cells_count vs valid cells.items.count))
        (λ i lt.
        let below : i < length vs = omega (arith, made.count) in
        made.each i below
        ∙ ap (λ u. if is_valid_row u i then slice_index_or vs i null else null) validity
        ∙ ap (λ b. if b then slice_index_or vs i null else null)
        (valid_is n valid i (omega (arith, cells.items.count))
        (λ e. cells.items.plain e i (omega (arith, cells.items.count))))
        ∙ sym (cell_at vs valid i below cells.items.count))

    is : c ≡ column_of (kind n) (cells_from vs valid)
    is = λ j. record {
      dtype =
          (made.dtype ∙ ap (λ u. kind (form_allows_null u.form)) validity
          ∙ ap kind (allows n valid))
          j;
      rows = rows_are j;
      constant = made.computed j;
      form =
          (made.form ∙ ap (λ u. u.form) validity ∙ form_is n valid
          ∙ ap (λ b. if b then array else non_nullable) (sym nullable))
          j;
    }

-- and if a text does not fit, there is none
pub column_unmade : (t : LogicalType) (n : Bool) (vs : List Value) (valid : List Bool)
    (said : Option (List Value)) (v : ValidityView)
    → AreCells n vs valid said → v ≡ cells_validity n valid
    → ¬ (FitsRows v (length vs) × (fit_column vs ≡ true))
    → None ≡ option_and_then (column_where t) said
column_unmade t n vs valid said v cells validity unfit = by (fit_column vs) refl
  where
    by : (b : Bool) → fit_column vs ≡ b → None ≡ option_and_then (column_where t) said
    by true e =
        absurd (unfit (
          subst (λ (u : ValidityView). FitsRows u (length vs)) (sym validity)
              (fits_cells n vs valid cells.items.count),
          e,
        ))
    by false e =
        sym
        (ap (option_and_then (column_where t)) cells.says
        ∙ ap (λ b. if b then Some (column_of t (cells_from vs valid)) else None)
        (ap texts_fit cells.items.texts ∙ e))

item_is : {X : Type 0} (f : X → Value) (o : Option X) (d : X)
    → item_or_null f o ≡ (if is_some o then f (unwrap_or o d) else null)
item_is f None d = refl
item_is f (Some x) d = refl

blank_fits : {X : Type 0} (f : X → Value) (o : Option X) (d : X) → text_bytes (f d) ≡ []
    → is_some o ≡ false → text_bytes (f (unwrap_or o d)) ≡ []
blank_fits f None d h e = h
blank_fits f (Some x) d h e = cc

pub is_there : {X : Type 0} (f : X → Value) (o : Option X) (t : LogicalType) (n : Bool)
    (c : Option (List ℕ))
    → is_nullable t ≡ n → cell_value t c ≡ Some (item_or_null f o) → n ≡ false → is_some o ≡ true
is_there f (Some x) t n c k e h = refl
is_there f None t n c k e h = let allowed = null_allowed t c e in cc

-- one more value of those found at the elements of a list
pub value_read : {X W : Type 0} (f : Option (List ℕ) → Option Value) (n : Bool) (value : X → Value)
    (cell : W → Option (List ℕ)) (places : List W) (i : ℕ) (d : W) (items : List X)
    (valid : List Bool) (item : Option X) (blank : X)
    → i < length places
    → AreCells n (map value items) valid (all_some (map f (map cell (take i places))))
    → f (cell (get_or places i d)) ≡ Some (item_or_null value item)
    → (n ≡ false → is_some item ≡ true)
    → text_bytes (value blank) ≡ []
    → AreCells n (map value (items ++ unwrap_or item blank ∷ [])) (valid ++ is_some item ∷ [])
    (all_some (map f (map cell (take (i + 1) places))))
value_read f n value cell places i d items valid item blank lt h e there fit = record {
  says =
      next_some f cell places i d (cells_from (map value items) valid)
      (item_or_null value item) lt h.says e
      ∙ ap (λ (vs : List Value). Some vs)
      (sym
      (ap (λ (vs : List Value). cells_from vs (valid ++ b ∷ [])) more
      ∙ cells_more (map value items) valid v b h.items.count
      ∙ ap (λ (y : Value). cells_from (map value items) valid ++ y ∷ [])
      (sym (item_is value item blank))));
  items = subst (λ (vs : List Value). AreItems n vs (valid ++ b ∷ [])) (sym more)
      (items_more n (map value items) valid v b h.items there
      (blank_fits value item blank fit));
}
  where
    v : Value
    v = value (unwrap_or item blank)

    b : Bool
    b = is_some item

    more : map value (items ++ unwrap_or item blank ∷ []) ≡ map value items ++ v ∷ []
    more = map-append value items (unwrap_or item blank ∷ [])

-- the same for cells
pub cell_read : {X W : Type 0} (t : LogicalType) (n : Bool) (value : X → Value)
    (cell : W → Option (List ℕ)) (places : List W) (i : ℕ) (d : W) (items : List X)
    (valid : List Bool) (item : Option X) (blank : X)
    → is_nullable t ≡ n → i < length places
    → AreCells n (map value items) valid (cell_values t (map cell (take i places)))
    → cell_value t (cell (get_or places i d)) ≡ Some (item_or_null value item)
    → text_bytes (value blank) ≡ []
    → AreCells n (map value (items ++ unwrap_or item blank ∷ [])) (valid ++ is_some item ∷ [])
    (cell_values t (map cell (take (i + 1) places)))
cell_read t n value cell places i d items valid item blank nullable lt h e fit =
    value_read (cell_value t) n value cell places i d items valid item blank lt h e
    (is_there value item t n (cell (get_or places i d)) nullable e) fit
