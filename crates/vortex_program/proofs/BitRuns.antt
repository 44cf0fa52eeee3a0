-- Bits that are all one truth value, and the rows that they tell of.
use Rattle.std.proofs.Common.{◌≡◌, ℕ, suc, ◌+◌, ◌-◌, ◌*◌, ◌<◌, ◌≤◌, Bool, true, false, not, List}
use Rattle.std.proofs.Common.{length, nat_lt, refl, sym, ap, subst, ◌∙◌, arith}
use Rattle.std.specs.Prelude.{slice_index_or}
use Rattle.std.proofs.lemmas.List.FromFn.{get_or-map-range_with_len}
use Rattle.vortex_types.specs.Values.{null, truth, is_null}
use Rattle.vortex_types.specs.ScalarView.{ScalarView}
use Rattle.vortex_bits.specs.Bits.{bit}
use Rattle.vortex_bits.specs.Rows.{AreRows}
use Rattle.vortex_columns.specs.ColumnView.{ColumnView, row, AreBits, constant_column}
use Rattle.vortex_columns.specs.ValidityView.{ValidityForm, non_nullable, all_valid, all_invalid}
use Rattle.vortex_columns.specs.ValidityView.{array, ValidityView, is_valid_by, FitsRowsBy}
use Rattle.vortex_columns.specs.ValidRows.{AreValid}
use Rattle.vortex_program.specs.Deciding.{AreAllBetween, AreAll, AllValidBy, AllValid, IsTruth}

-- the bits up to the middle, and those from there on
pub joined : (b : Bool) (from middle to : ℕ) (bits : List Bool) → AreAllBetween b from middle bits
    → AreAllBetween b middle to bits → AreAllBetween b from to bits
joined b from middle to bits before after i low below = by (nat_lt i middle) refl
  where
    by : (q : Bool) → nat_lt i middle ≡ q → slice_index_or bits i false ≡ b
    by true e = before i low (grind (arith, e))
    by false e = after i (grind (arith, e)) below

-- one bit more
pub one_more : (b : Bool) (from k next : ℕ) (bits : List Bool) → next ≡ suc k
    → slice_index_or bits k false ≡ b → AreAllBetween b from k bits
    → AreAllBetween b from next bits
one_more b from k next bits more here before = joined b from k next bits before last
  where
    last : AreAllBetween b k next bits
    last i low below =
        let is : i ≡ k = omega (arith, low, below, more) in
        subst (λ (j : ℕ). slice_index_or bits j false ≡ b) (sym is) here

-- the bits of one word more
pub word_more : (b : Bool) (bits view : List Bool) (word expected k next : ℕ) → next ≡ suc k
    → 64 * next ≤ length bits
    → AreRows (length bits) (λ i. slice_index_or bits (0 + i) false) view
    → ((j : ℕ) → j < 64 → bit word j ≡ slice_index_or view (64 * k + j) false)
    → ((j : ℕ) → j < 64 → bit expected j ≡ b) → word ≡ expected
    → AreAllBetween b 0 (64 * k) bits → AreAllBetween b 0 (64 * next) bits
word_more b bits view word expected k next more within seen reads all same before =
    joined b 0 (64 * k) (64 * next) bits before word_bits
  where
    word_bits : AreAllBetween b (64 * k) (64 * next) bits
    word_bits i low below =
        let lt : i - 64 * k < 64 = omega (arith, low, below, more) in
        let is : 64 * k + (i - 64 * k) ≡ i = omega (arith, low) in
        let there : i < length bits = omega (arith, below, within) in
        let from_zero : i ≡ 0 + i = omega arith in
        ap (λ (p : ℕ). slice_index_or bits p false) from_zero ∙ sym (seen.each i there)
        ∙ ap (λ (p : ℕ). slice_index_or view p false) (sym is)
        ∙ sym (reads (i - 64 * k) lt) ∙ ap (λ (w : ℕ). bit w (i - 64 * k)) same
        ∙ all (i - 64 * k) lt

-- a row that is valid by its bit
valid_by : (f : ValidityForm) (bits : List Bool) (n i : ℕ) → i < n → FitsRowsBy f bits n
    → AllValidBy f bits → is_valid_by f bits i ≡ true
valid_by non_nullable bits n i lt fits h = refl
valid_by all_valid bits n i lt fits h = refl
valid_by all_invalid bits n i lt fits h = absurd h
valid_by array bits n i lt fits h = h i (omega arith) (omega (arith, lt, fits))

not_null : (b : Bool) → true ≡ not b → b ≡ false
not_null true e = cc
not_null false e = refl

-- a column whose bits are that truth value, and of which no row is null
pub bits_decide : (b : Bool) (c : ColumnView) (bits : List Bool) (v : ValidityView)
    → AreBits c bits → AreAll b bits → AreValid v c.rows → AllValid v → IsTruth b c
bits_decide b c bits v are all valid every i lt =
    let there : i < length bits = omega (arith, lt, are.count) in
    let here = valid_by v.form v.bits (length c.rows) i lt valid.fits every in
    let some = not_null (is_null (row c.rows i)) (sym here ∙ valid.each i lt) in
    are.each i there some ∙ ap truth (all i (omega arith) there)

-- a constant of that truth value
pub constant_decides : (b : Bool) (c : ColumnView) (s : ScalarView)
    → c ≡ constant_column s (length c.rows) → s.value ≡ truth b → IsTruth b c
constant_decides b c s is value i lt =
    ap (λ (d : ColumnView). row d.rows i) is
    ∙ get_or-map-range_with_len (λ (k : ℕ). s.value) 0 (length c.rows) i i null lt (omega arith)
    ∙ value
