-- Results of tests for the texts of a column, row by row.
use Rattle.std.proofs.Common.{◌≡◌, ℕ, ◌<◌, Bool, false, List, length, refl, sym, ap, ◌∙◌, arith}
use Rattle.std.specs.Prelude.{slice_index_or}
use Rattle.vortex_bits.specs.Rows.{AreRows}
use Rattle.vortex_types.specs.Values.{Value, null, truth, number, text, bytes, list, is_null}
use Rattle.vortex_columns.specs.ColumnView.{ColumnView, row}
use Rattle.vortex_like.specs.Rows.{AreTold, IsSaid, turned}
use Rattle.vortex_like.specs.TextRows.{IsTextOf, AreTexts, text_at}

module _ (f g : List ℕ → Bool) (negated : Bool) where
  -- tests with equal results for the bytes of a value have equal results for the value
  said_alike : (v : Value) (own : List ℕ) (b : Bool) → IsTextOf v own
      → (is_null v ≡ false → f own ≡ g own) → IsSaid f negated v b → IsSaid g negated v b
  said_alike (text bs) own b h alike said =
      let borrowed : text bs ≡ text own = h.value refl in
      let same : bs ≡ own = cc in
      said ∙ ap (turned negated) (ap f same ∙ alike refl ∙ ap g (sym same))
  said_alike null own b h alike said = tt
  said_alike (truth x) own b h alike said = tt
  said_alike (number x) own b h alike said = tt
  said_alike (bytes x) own b h alike said = tt
  said_alike (list x) own b h alike said = tt

  -- and for the texts of a column
  pub told_alike : (c : ColumnView) (texts : List (List ℕ)) (bits : List Bool)
      → AreTexts c texts
      → ((i : ℕ) → i < length c.rows → is_null (row c.rows i) ≡ false
      → f (text_at texts i) ≡ g (text_at texts i))
      → AreTold (length c.rows) (λ i b. IsSaid f negated (row c.rows i) b) bits
      → AreTold (length c.rows) (λ i b. IsSaid g negated (row c.rows i) b) bits
  told_alike c texts bits h alike told = record {
    count = told.count;
    each = λ i lt.
        said_alike (row c.rows i) (text_at texts i) (slice_index_or bits i false) (h.each i lt)
        (alike i lt) (told.each i lt);
  }

module _ (f : List ℕ → Bool) (negated : Bool) where
  -- a result for the bytes of a value is the result for the value
  said_text : (v : Value) (own : List ℕ) (b : Bool) → IsTextOf v own
      → (is_null v ≡ false → b ≡ turned negated (f own)) → IsSaid f negated v b
  said_text (text bs) own b h told =
      let borrowed : text bs ≡ text own = h.value refl in
      let same : bs ≡ own = cc in
      told refl ∙ ap (turned negated) (ap f (sym same))
  said_text null own b h told = tt
  said_text (truth x) own b h told = tt
  said_text (number x) own b h told = tt
  said_text (bytes x) own b h told = tt
  said_text (list x) own b h told = tt

  -- and for a column, text by text
  pub told_held : (c : ColumnView) (texts : List (List ℕ)) (held bits : List Bool) (n : ℕ)
      → AreTexts c texts
      → ((i : ℕ) → i < length c.rows → is_null (row c.rows i) ≡ false
      → slice_index_or held i false ≡ f (text_at texts i))
      → n ≡ length c.rows → AreRows n (λ i. turned negated (slice_index_or held i false)) bits
      → AreTold (length c.rows) (λ i b. IsSaid f negated (row c.rows i) b) bits
  told_held c texts held bits n h alike e rows = record {
    count = rows.count ∙ e;
    each = λ i lt.
        let below : i < n = omega arith in
        said_text (row c.rows i) (text_at texts i) (slice_index_or bits i false) (h.each i lt)
        (λ valid. rows.each i below ∙ ap (turned negated) (alike i lt valid));
  }
