-- The row numbers of the true rows, one more row at a time.
use Rattle.std.proofs.Common.{◌≡◌, ℕ, ◌+◌, ◌<◌, ◌++◌, ◌∷◌, Bool, true, false, List, [], length}
use Rattle.std.proofs.Common.{ap, sym, ◌∙◌, subst, arith}
use Rattle.std.specs.Prelude.{All, cond}
use Rattle.std.specs.List.{filter, range_with_len}
use Rattle.std.proofs.lemmas.List.{map-id, append-nil}
use Rattle.std.proofs.lemmas.List.Elements.{All-filter}
use Rattle.std.proofs.lemmas.List.FromFn.{filter_of_map_range_with_len_more, get_or-range_with_len}
use Rattle.std.proofs.lemmas.List.FromFn.{length-range_with_len}
use Rattle.vortex_types.specs.Values.{Value}
use Rattle.vortex_columns.specs.ColumnView.{row}
use Rattle.vortex_columns.specs.TrueRows.{is_true, true_among}

one_more : (p : ℕ → Bool) (n : ℕ)
    → filter p (range_with_len 0 (n + 1))
    ≡ filter p (range_with_len 0 n) ++ cond (p n) (n ∷ []) []
one_more p n =
    ap (filter p) (sym (map-id (range_with_len 0 (n + 1))))
    ∙ filter_of_map_range_with_len_more p (λ i. i) 0 n n (omega arith)
    ∙ ap (λ xs. filter p xs ++ cond (p n) (n ∷ []) []) (map-id (range_with_len 0 n))

pub one_more_true : (rows : List Value) (n : ℕ) (codes more : List ℕ)
    → codes ≡ true_among n rows → more ≡ codes ++ n ∷ [] → is_true (row rows n) ≡ true
    → more ≡ true_among (n + 1) rows
one_more_true rows n codes more before pushed h =
    pushed ∙ ap (λ xs. xs ++ n ∷ []) before
    ∙ ap (λ b. true_among n rows ++ cond b (n ∷ []) []) (sym h)
    ∙ sym (one_more (λ i. is_true (row rows i)) n)

pub one_more_other : (rows : List Value) (n : ℕ) (codes : List ℕ)
    → codes ≡ true_among n rows → is_true (row rows n) ≡ false
    → codes ≡ true_among (n + 1) rows
one_more_other rows n codes before h =
    before ∙ sym (append-nil (true_among n rows))
    ∙ ap (λ b. true_among n rows ++ cond b (n ∷ []) []) (sym h)
    ∙ sym (one_more (λ i. is_true (row rows i)) n)

-- they are numbers of rows
pub among_below : (n : ℕ) (rows : List Value) → All (λ code. code < n) (true_among n rows)
among_below n rows = All-filter _ (λ code. code < n) (range_with_len 0 n) below
  where
    below : All (λ code. code < n) (range_with_len 0 n)
    below k d within =
        let k_in : k < n = subst (λ m. k < m) (length-range_with_len 0 n) within in
        subst (λ m. m < n) (sym (get_or-range_with_len 0 n k d k_in))
        (omega (arith, k_in))

-- the same for a list that is claimed to be them
pub are_rows : (rows : List Value) (n : ℕ) (codes : List ℕ) → length rows ≡ n
    → codes ≡ true_among n rows → All (λ code. code < length rows) codes
are_rows rows n codes count is =
    subst (λ m. All (λ code. code < m) codes) (sym count)
    (subst (All (λ code. code < n)) (sym is) (among_below n rows))
