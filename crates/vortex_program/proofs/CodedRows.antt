-- Rows with codes, and one row more.
use Rattle.std.proofs.Common.{◌≡◌, ◌≢◌, ℕ, zero, suc, ◌+◌, ◌<◌, ◌≤◌, Bool, true, false, not}
use Rattle.std.proofs.Common.{List, [], ◌∷◌, ◌++◌, length, nat_lt, nat_eq, refl, sym, ap, subst}
use Rattle.std.proofs.Common.{◌∙◌, inl, inr, arith, get_or, length-append}
use Rattle.std.specs.Prelude.{◌⊎◌, All, slice_index_or}
use Rattle.std.proofs.lemmas.List.{get_or_append_left, get_or-append-add}
use Rattle.vortex_types.specs.Values.{null, truth, is_null}
use Rattle.vortex_columns.specs.ColumnView.{ColumnView, row, AreBits}
use Rattle.vortex_columns.specs.ValidityView.{ValidityView, is_valid_row}
use Rattle.vortex_columns.specs.ValidRows.{AreValid}
use Rattle.vortex_program.specs.Rows.{numbered}
use Rattle.vortex_program.specs.Coded.{HasBit, HasCode, HaveCodes}

not_null : (b : Bool) → true ≡ not b → b ≡ false
not_null true e = cc
not_null false e = refl

-- a row of that bit that is not null is that truth value
pub bit_row : (b : Bool) (c : ColumnView) (bits : List Bool) (v : ValidityView) (i : ℕ)
    → AreBits c bits → AreValid v c.rows → i < length c.rows → HasBit b bits v i
    → row c.rows i ≡ truth b
bit_row b c bits v i are valid lt h =
    let there : i < length bits = omega (arith, lt, are.count) in
    let some = not_null (is_null (row c.rows i)) (sym h.1 ∙ valid.each i lt) in
    are.each i there some ∙ ap truth h.0

-- the last of a longer list, and those before it
last_is : (xs : List ℕ) (x d : ℕ) → get_or (xs ++ x ∷ []) (length xs) d ≡ x
last_is xs x d =
    let end : length xs + 0 ≡ length xs = omega arith in
    ap (λ k. get_or (xs ++ x ∷ []) k d) (sym end) ∙ get_or-append-add xs (x ∷ []) 0 d

all_more : (P : ℕ → Type 0) (xs : List ℕ) (x : ℕ) → All P xs → P x → All P (xs ++ x ∷ [])
all_more P xs x h p k d below = by (nat_lt k (length xs)) refl
  where
    by : (b : Bool) → nat_lt k (length xs) ≡ b → P (get_or (xs ++ x ∷ []) k d)
    by true e =
        let lt : k < length xs = grind (arith, e) in
        subst P (sym (get_or_append_left xs (x ∷ []) d k lt)) (h k d lt)
    by false e =
        let is : k ≡ length xs = grind (arith, e, below, length-append xs (x ∷ [])) in
        subst P (sym (ap (λ j. get_or (xs ++ x ∷ []) j d) is ∙ last_is xs x d)) p

module _ (b : Bool) (c : ColumnView) (ns cs : List ℕ) (i : ℕ) (h : HaveCodes b c ns cs i) where
  -- the codes so far, and one more
  codes_more : (ms : List ℕ) (x : ℕ)
      → ((k : ℕ) → k < i → HasCode b c ms k (get_or cs k 0)) → HasCode b c ms i x
      → (k : ℕ) → k < suc i → HasCode b c ms k (get_or (cs ++ x ∷ []) k 0)
  codes_more ms x before here k below = by (nat_lt k i) refl
    where
      by : (q : Bool) → nat_lt k i ≡ q → HasCode b c ms k (get_or (cs ++ x ∷ []) k 0)
      by true e =
          let lt : k < i = grind (arith, e) in
          let there : k < length cs = omega (arith, lt, h.counted) in
          subst (λ j. HasCode b c ms k j) (sym (get_or_append_left cs (x ∷ []) 0 k there))
          (before k lt)
      by false e =
          let is : k ≡ i = grind (arith, e, below) in
          let end : k ≡ length cs = is ∙ sym h.counted in
          subst (λ j. HasCode b c ms k j)
          (sym (ap (λ j. get_or (cs ++ x ∷ []) j 0) end ∙ last_is cs x 0))
          (subst (λ j. HasCode b c ms j x) (sym is) here)

  -- a row that is decided, as the one of the first number is
  pub decided_more : (j first : ℕ) → j ≡ suc i → 0 < length ns → numbered ns 0 ≡ first
      → row c.rows first ≡ truth b → row c.rows i ≡ truth b
      → HaveCodes b c ns (cs ++ 0 ∷ []) j
  decided_more j first next some is there here =
      subst (HaveCodes b c ns (cs ++ 0 ∷ [])) (sym next) (record {
        rows = h.rows;
        counted = length-append cs (0 ∷ []) ∙ (let one : length cs + 1 ≡ suc i = omega (arith, h.counted) in one);
        coded = all_more (λ k. k < length ns) cs 0 h.coded some;
        each = codes_more ns 0 h.each (inr (here, ap (row c.rows) is ∙ there));
      })

  -- a row that is open has a number of its own
  pub open_more : (j : ℕ) → j ≡ suc i → i < length c.rows
      → HaveCodes b c (ns ++ i ∷ []) (cs ++ length ns ∷ []) j
  open_more j next lt =
      let longer : length (ns ++ i ∷ []) ≡ length ns + 1 = length-append ns (i ∷ []) in
      subst (HaveCodes b c (ns ++ i ∷ []) (cs ++ length ns ∷ [])) (sym next) (record {
        rows = all_more (λ k. k < length c.rows) ns i h.rows lt;
        counted = length-append cs (length ns ∷ []) ∙ (let one : length cs + 1 ≡ suc i = omega (arith, h.counted) in one);
        coded = all_more (λ k. k < length (ns ++ i ∷ [])) cs (length ns)
            (λ k d below. let lower = h.coded k d below in omega (arith, lower, longer))
            (omega (arith, longer));
        each = codes_more (ns ++ i ∷ []) (length ns) kept (inl (last_is ns i 0));
      })
    where
      kept : (k : ℕ) → k < i → HasCode b c (ns ++ i ∷ []) k (get_or cs k 0)
      kept k below =
          let there : get_or cs k 0 < length ns = h.coded k 0 (omega (arith, below, h.counted)) in
          let same = get_or_append_left ns (i ∷ []) 0 (get_or cs k 0) there in
          by same (h.each k below)
        where
          by : numbered (ns ++ i ∷ []) (get_or cs k 0) ≡ numbered ns (get_or cs k 0)
              → HasCode b c ns k (get_or cs k 0) → HasCode b c (ns ++ i ∷ []) k (get_or cs k 0)
          by same (inl e) = inl (same ∙ e)
          by same (inr e) = inr (e.0, ap (row c.rows) same ∙ e.1)

-- no row yet, and the number of one that is decided
pub none_coded : (b : Bool) (c : ColumnView) (first : ℕ) → first < length c.rows
    → HaveCodes b c (first ∷ []) [] 0
none_coded b c first lt = record {
  rows = all_more (λ k. k < length c.rows) [] first (λ k d no. absurd (omega (arith, no))) lt;
  counted = refl;
  coded = λ k d no. absurd (omega (arith, no));
  each = λ i no. absurd (omega (arith, no));
}

-- so it is with the rows so far, the first number being that of a decided row
abbrev pub HaveCodesSo : Bool → ColumnView → ℕ → List ℕ → List ℕ → ℕ → Type 0
HaveCodesSo b c first ns cs i =
    HaveCodes b c ns cs i × (numbered ns 0 ≡ first) × (0 < length ns) × (length ns ≤ suc i)

pub decided_next : (b : Bool) (c : ColumnView) (first : ℕ) (ns cs : List ℕ) (i : ℕ)
    → HaveCodesSo b c first ns cs i → row c.rows first ≡ truth b → row c.rows i ≡ truth b
    → HaveCodesSo b c first ns (cs ++ 0 ∷ []) (i + 1)
decided_next b c first ns cs i h there here = (
  decided_more b c ns cs i h.0 (i + 1) first (omega arith) h.2 h.1 there here,
  h.1,
  h.2,
  omega (arith, h.3),
)

pub open_next : (b : Bool) (c : ColumnView) (first : ℕ) (ns cs : List ℕ) (i code : ℕ)
    → HaveCodesSo b c first ns cs i → i < length c.rows → code ≡ length ns
    → HaveCodesSo b c first (ns ++ i ∷ []) (cs ++ code ∷ []) (i + 1)
open_next b c first ns cs i code h lt is =
    let longer : length (ns ++ i ∷ []) ≡ length ns + 1 = length-append ns (i ∷ []) in (
      subst (λ k. HaveCodes b c (ns ++ i ∷ []) (cs ++ k ∷ []) (i + 1)) (sym is)
          (open_more b c ns cs i h.0 (i + 1) (omega arith) lt),
      get_or_append_left ns (i ∷ []) 0 0 h.2 ∙ h.1,
      omega (arith, longer),
      omega (arith, longer, h.3),
    )
