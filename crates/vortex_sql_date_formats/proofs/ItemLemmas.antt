-- The first item of a format, and those of the format after it.
use Rattle.std.proofs.Common.{◌≡◌, ◌∙◌, ◌∷◌, ◌-◌, ◌<◌, ◌≤◌, ◌==◌, ℕ, zero, suc, [], List, Bool, true, false, Some, None, ap, arith, cond, drop, get_or, length, refl, sym, take}
use Rattle.std.specs.Prelude.{not}
use Rattle.std.proofs.lemmas.List.{take_rest}
use Rattle.vortex_sql_date_formats.specs.declared.items.FormatItem.{FormatItem}
use Rattle.vortex_sql_date_formats.specs.declared.items.FormatItem.TheVariants as item
use Rattle.vortex_sql_date_formats.specs.FormatWords.{word}
use Rattle.vortex_sql_date_formats.specs.Formats.{begins_quote, first_item, items_after, items_bound, items_from, items_of, literal, quoted}

-- what is passed over might as well not be there
items_passed : (k : ℕ) (bs : List ℕ) → items_after k false bs ≡ items_of (drop k bs)
unfolding items_after
items_passed zero bs = refl
items_passed (suc k) [] = refl
items_passed (suc k) (b ∷ bs) = items_passed k bs

passed_more : (k b : ℕ) (bs : List ℕ) → 1 ≤ k → drop (k - 1) bs ≡ drop k (b ∷ bs)
passed_more zero b bs h = absurd (omega (arith, h))
passed_more (suc k) b bs h = ap (λ n. drop n bs) (omega arith)

pub no_items : (fs : List ℕ) → length fs < 1 → items_of fs ≡ []
unfolding items_after
no_items [] h = refl
no_items (b ∷ bs) h = absurd (omega (arith, h))

pub word_items : (fs : List ℕ) (i : FormatItem) (k : ℕ) → begins_quote fs ≡ false
    → word fs ≡ Some (i, k) → 1 ≤ k → k ≤ length fs
    → items_of fs ≡ i ∷ items_of (take (length fs - k) (drop k fs))
unfolding items_after
word_items [] i k q e h l = absurd (omega (arith, h, l))
word_items (b ∷ bs) i k q e h l =
    ap (λ t. cond t (items_after 0 true bs) ((first_item (word (b ∷ bs)) b).0 ∷ items_after (first_item (word (b ∷ bs)) b).1 false bs)) q
    ∙ ap (λ w. (first_item w b).0 ∷ items_after (first_item w b).1 false bs) e
    ∙ ap (λ is. i ∷ is) (items_passed (k - 1) bs ∙ ap items_of (passed_more k b bs h ∙ sym (take_rest (b ∷ bs) k)))

pub literal_items : (fs : List ℕ) → begins_quote fs ≡ false → word fs ≡ None → 1 ≤ length fs
    → items_of fs ≡ literal (get_or fs 0 0) ∷ items_of (take (length fs - 1) (drop 1 fs))
unfolding items_after
literal_items [] q e h = absurd (omega (arith, h))
literal_items (b ∷ bs) q e h =
    ap (λ t. cond t (items_after 0 true bs) ((first_item (word (b ∷ bs)) b).0 ∷ items_after (first_item (word (b ∷ bs)) b).1 false bs)) q
    ∙ ap (λ w. (first_item w b).0 ∷ items_after (first_item w b).1 false bs) e
    ∙ ap (λ rest. literal b ∷ items_of rest) (sym (take_rest (b ∷ bs) 1))

-- a quote turns what the format after it begins in
pub quote_passed : (q : Bool) (fs : List ℕ) → 1 ≤ length fs → get_or fs 0 0 ≡ 34
    → items_from q fs ≡ items_from (not q) (take (length fs - 1) (drop 1 fs))
unfolding items_after
quote_passed q [] h e = absurd (omega (arith, h))
quote_passed false (b ∷ bs) h e =
    ap (λ c. cond (c == 34) (items_after 0 true bs) ((first_item (word (b ∷ bs)) b).0 ∷ items_after (first_item (word (b ∷ bs)) b).1 false bs)) e
    ∙ ap (items_from true) (sym (take_rest (b ∷ bs) 1))
quote_passed true (b ∷ bs) h e =
    ap (λ c. cond (c == 34) (items_after 0 false bs) (quoted b ∷ items_after 0 true bs)) e
    ∙ ap (items_from false) (sym (take_rest (b ∷ bs) 1))

pub quoted_items : (fs : List ℕ) → begins_quote fs ≡ false → 1 ≤ length fs
    → items_from true fs ≡ quoted (get_or fs 0 0) ∷ items_from true (take (length fs - 1) (drop 1 fs))
unfolding items_after
quoted_items [] q h = absurd (omega (arith, h))
quoted_items (b ∷ bs) q h =
    ap (λ t. cond t (items_after 0 false bs) (quoted b ∷ items_after 0 true bs)) q
    ∙ ap (λ rest. quoted b ∷ items_from true rest) (sym (take_rest (b ∷ bs) 1))

pub unended : (fs : List ℕ) → length fs < 1 → items_from true fs ≡ item.Unknown ∷ items_of fs
unfolding items_after
unended [] h = refl
unended (b ∷ bs) h = absurd (omega (arith, h))

pub fewer_passed : (q : Bool) (fs : List ℕ) → 1 ≤ length fs
    → items_bound (not q) (take (length fs - 1) (drop 1 fs)) ≤ items_bound q fs
fewer_passed q [] h = absurd (omega (arith, h))
fewer_passed false (b ∷ bs) h = rw (take_rest (b ∷ bs) 1) (omega arith)
fewer_passed true (b ∷ bs) h = rw (take_rest (b ∷ bs) 1) (omega arith)
