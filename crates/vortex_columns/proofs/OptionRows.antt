-- Values with a bit validity are rows of options.
use Rattle.std.proofs.Common.{◌≡◌, ℕ, ◌<◌, ℤ, pos, Bool, true, false, List, [], ◌∷◌, Bor, map}
use Rattle.std.proofs.Common.{length, refl}
use Rattle.std.proofs.Common.{sym, ap}
use Rattle.std.proofs.Common.{◌∙◌, arith, cond, subst}
use Rattle.std.specs.Prelude.{slice_index_or, Result, Option, Some, None, is_some, unwrap_or}
use Rattle.std.specs.List.{range_with_len}
use Rattle.std.proofs.lemmas.List.{same_lists, get_or-map, length-map}
use Rattle.std.proofs.lemmas.List.FromFn.{get_or-map-range_with_len, length-map-range_with_len}
use Rattle.vortex_types.specs.declared.dtype.PType.{PType}
use Rattle.vortex_types.specs.LogicalTypes.{LogicalType, bool_type, integer_type, text_type}
use Rattle.vortex_types.specs.Values.{Value, null, truth, number, text}
use Rattle.vortex_errors.specs.declared.error.VortexError.{VortexError}
use Rattle.vortex_errors.specs.declared.error.VortexError.TheVariants.{InvalidColumn}
use Rattle.vortex_errors.specs.Answers.{AnswersUnlessMemory, AnswersWhere}
use Rattle.vortex_errors.proofs.Answering.{Answers-weaker, answers_where}
use Rattle.vortex_columns.specs.ColumnView.{ColumnView}
use Rattle.vortex_columns.specs.ValidityView.{array, ValidityView, is_valid_row, FitsRows}
use Rattle.vortex_columns.specs.Stored.{made_of, bool_column}
use Rattle.vortex_columns.specs.Made.{int_column, text_rows, borrowed_texts, MakeBorrowedTexts}
use Rattle.vortex_views.specs.Collected.{HaveRoom}
use Rattle.vortex_columns.specs.Options.{option_row, option_validity, option_column}
use Rattle.vortex_columns.specs.Options.{optional_bools, optional_ints, option_text, optional_texts}

row_of_option : {A : Type 0} (f : A → Value) (under : A) (o : Option A)
    → cond (is_some o) (f (unwrap_or o under)) null ≡ option_row f o
row_of_option f under (Some x) = refl
row_of_option f under None = refl

module _ {A : Type 0} (f : A → Value) (under : A) (xs : List (Option A)) (n : ℕ) (g : ℕ → Value)
    (len : n ≡ length xs)
    (each : (i : ℕ) → i < length xs → g i ≡ f (unwrap_or (slice_index_or xs i None) under)) where
  abbrev shown : ℕ → Value
  shown i = cond (is_valid_row (option_validity xs) i) (g i) null

  shown_is : (i : ℕ) → i < length xs → shown i ≡ option_row f (slice_index_or xs i None)
  shown_is i h =
      (λ j. cond (get_or-map is_some xs i None false h j) (each i h j) null)
      ∙ row_of_option f under (slice_index_or xs i None)

  rows_are : map shown (range_with_len 0 n) ≡ map (option_row f) xs
  rows_are =
      let many : length (map shown (range_with_len 0 n))
      ≡ n = length-map-range_with_len shown 0 n in
      same_lists (map shown (range_with_len 0 n)) (map (option_row f) xs)
      (many ∙ len ∙ sym (length-map xs (option_row f)))
      (λ k d h.
      let here : k < length xs = omega (arith, many, len, h) in
      get_or-map-range_with_len shown 0 n k k d (omega (arith, many, h)) (omega arith)
      ∙ shown_is k here ∙ sym (get_or-map (option_row f) xs k None d here))

  pub made_of_options : (t : LogicalType)
      → made_of t (option_validity xs) n g ≡ option_column t f xs
  made_of_options t = ap (λ rows. record { dtype = t; rows = rows; constant = None; form = array })
      rows_are

pub bools_are : (xs : List (Option Bool)) (bits : List Bool) (v : ValidityView)
    → bits ≡ map (λ o. unwrap_or o false) xs → v ≡ option_validity xs
    → bool_column bits v ≡ optional_bools xs
bools_are xs bits v bits_are v_is =
    (λ i. bool_column (bits_are i) (v_is i))
    ∙ made_of_options truth false xs _ _ (length-map xs (λ o. unwrap_or o false))
    (λ i h. ap truth (get_or-map (λ o. unwrap_or o false) xs i None false h)) (bool_type true)

pub ints_are : {A : Type 0} (p : PType) (f : A → ℤ) (under : A) (xs : List (Option A)) (ns : List A)
    (v : ValidityView)
    → ns ≡ map (λ o. unwrap_or o under) xs → v ≡ option_validity xs
    → int_column p f ns v ≡ optional_ints p f xs
ints_are p f under xs ns v ns_are v_is =
    let values = map (λ o. unwrap_or o under) xs in
    let many = length-map xs (λ o. unwrap_or o under) in
    (λ i. int_column p f (ns_are i) (v_is i))
    ∙ made_of_options (λ x. number (f x)) under xs _ _ many
    (λ i h. ap number (get_or-map f values i under (pos 0) (omega (arith, many, h))
    ∙ ap f (get_or-map (λ o. unwrap_or o under) xs i None under h))) (integer_type p true)

fits_options : {A B : Type 0} (xs : List (Option A)) (ys : List B) (v : ValidityView)
    → length ys ≡ length xs → v ≡ option_validity xs → FitsRows v (length ys)
fits_options xs ys v len v_is =
    subst (λ (w : ValidityView). FitsRows w (length ys)) (sym v_is)
    (length-map xs is_some ∙ sym len)

module _ (r : Result ColumnView VortexError) (v : ValidityView) where
  pub answers_bools : (xs : List (Option Bool)) (bits : List Bool)
      → bits ≡ map (λ o. unwrap_or o false) xs → v ≡ option_validity xs
      → AnswersWhere r (FitsRows v (length bits)) (λ c. c ≡ bool_column bits v) InvalidColumn
      → AnswersUnlessMemory r (λ c. c ≡ optional_bools xs)
  answers_bools xs bits bits_are v_is h =
      answers_where r (FitsRows v (length bits)) (λ c. c ≡ bool_column bits v)
      (λ c. c ≡ optional_bools xs) InvalidColumn
      (fits_options xs bits v (ap length bits_are ∙ length-map xs (λ o. unwrap_or o false)) v_is)
      (λ c e. e ∙ bools_are xs bits v bits_are v_is) h

  pub answers_ints : {A : Type 0} (p : PType) (f : A → ℤ) (under : A) (xs : List (Option A))
      (ns : List A)
      → ns ≡ map (λ o. unwrap_or o under) xs → v ≡ option_validity xs
      → AnswersWhere r (FitsRows v (length ns)) (λ c. c ≡ int_column p f ns v) InvalidColumn
      → AnswersUnlessMemory r (λ c. c ≡ optional_ints p f xs)
  answers_ints p f under xs ns ns_are v_is h =
      answers_where r (FitsRows v (length ns)) (λ c. c ≡ int_column p f ns v)
      (λ c. c ≡ optional_ints p f xs) InvalidColumn
      (fits_options xs ns v (ap length ns_are ∙ length-map xs (λ o. unwrap_or o under)) v_is)
      (λ c e. e ∙ ints_are p f under xs ns v ns_are v_is) h

-- texts of options, blank for none
texts_of_options : (under : Bor (List ℕ)) (xs : List (Option (Bor (List ℕ)))) → under.now ≡ []
    → borrowed_texts (map (λ o. unwrap_or o under) xs) ≡ map option_text xs
texts_of_options under [] blank = refl
texts_of_options under (Some t ∷ xs) blank = ap (λ ts. t.now ∷ ts) (texts_of_options under xs blank)
texts_of_options under (None ∷ xs) blank = λ i. blank i ∷ texts_of_options under xs blank i

module _ (under : Bor (List ℕ)) (xs : List (Option (Bor (List ℕ)))) (vs : List (Bor (List ℕ)))
    (v : ValidityView) (blank : under.now ≡ []) (vs_are : vs ≡ map (λ o. unwrap_or o under) xs)
    (v_is : v ≡ option_validity xs) where
  same_texts : borrowed_texts vs ≡ map option_text xs
  same_texts = ap borrowed_texts vs_are ∙ texts_of_options under xs blank

  value_at : (i : ℕ) → i < length xs
      → text (slice_index_or (map option_text xs) i [])
      ≡ text (unwrap_or (slice_index_or xs i None) under).now
  value_at i h =
      ap text (ap (λ ts. slice_index_or ts i []) (sym (texts_of_options under xs blank))
      ∙ get_or-map (λ (t : Bor (List ℕ)). t.now) (map (λ o. unwrap_or o under) xs) i under []
      (omega (arith, length-map xs (λ o. unwrap_or o under), h))
      ∙ ap (λ (t : Bor (List ℕ)). t.now) (get_or-map (λ o. unwrap_or o under) xs i None under h))

  texts_are : text_rows (borrowed_texts vs) v ≡ optional_texts xs
  texts_are =
      (λ i. text_rows (same_texts i) (v_is i))
      ∙ made_of_options (λ (t : Bor (List ℕ)). text t.now) under xs _ _ (length-map xs option_text)
      value_at (text_type true)

  pub answers_texts : (r : Result ColumnView VortexError)
      → AnswersWhere r (MakeBorrowedTexts vs v) (λ c. c ≡ text_rows (borrowed_texts vs) v) InvalidColumn
      → AnswersWhere r (HaveRoom (map option_text xs)) (λ c. c ≡ optional_texts xs) InvalidColumn
  answers_texts r h =
      Answers-weaker r (λ c. MakeBorrowedTexts vs v × (c ≡ text_rows (borrowed_texts vs) v))
      (λ c. HaveRoom (map option_text xs) × (c ≡ optional_texts xs))
      (λ e. (¬ (MakeBorrowedTexts vs v)) × (e ≡ InvalidColumn))
      (λ e. (¬ (HaveRoom (map option_text xs))) × (e ≡ InvalidColumn))
      (λ c p. (subst HaveRoom same_texts p.0.1, p.1 ∙ texts_are))
      (λ e p. (
        λ room. p.0 (
          fits_options xs vs v (ap length vs_are ∙ length-map xs (λ o. unwrap_or o under))
              v_is,
          subst HaveRoom (sym same_texts) room,
        ),
        p.1,
      )) h
