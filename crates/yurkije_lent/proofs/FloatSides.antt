-- The integers of the sides of a comparison of floats, and their orders.
use Rattle.std.proofs.Common.{◌≡◌, ℕ, ◌+◌, ◌-◌, ◌<◌, ◌≤◌, ℤ, pos, Bool, List, length, map, take}
use Rattle.std.proofs.Common.{drop, set, get_or, Option, Some, None, Ok, Err, refl, subst, sym, ap}
use Rattle.std.proofs.Common.{◌∙◌, arith}
use Rattle.std.proofs.Common.{below_more}
use Rattle.std.specs.Bool.{⊤}
use Rattle.std.specs.Ordering.{int_cmp}
use Rattle.std.specs.Prelude.{Result, IfSome, replicate}
use Rattle.std.specs.Result.{result_ok}
use Rattle.std.proofs.lemmas.List.{map-set, get_or-set_same, get_or-set_other, length-map}
use Rattle.std.proofs.lemmas.List.{length-take, length-drop, get_or-map, get_or-replicate}
use Rattle.std.proofs.lemmas.List.{length-replicate}
use Rattle.vortex_errors.specs.declared.error.VortexError.{VortexError}
use Rattle.vortex_errors.specs.Answers.{AnswersUnlessMemory}
use Rattle.vortex_types.specs.declared.dtype.PType.{PType}
use Rattle.vortex_types.specs.Order.{compare_values}
use Rattle.vortex_types.specs.Values.{number}
use Rattle.vortex_columns.specs.ColumnView.{ColumnView, AreInts}
use Rattle.vortex_bits.specs.Bits.{bit}
use Rattle.vortex_operators.specs.OperatorValues.{holds}
use Rattle.vortex_operators.specs.declared.operators.CompareOperator.{CompareOperator}
use Rattle.vortex_kernels.specs.Comparison.{IsOrderAt, IsConstantOf, AreHeld, AreComparisons}
use Rattle.vortex_kernels.specs.Numeric.{AreNumbers}
use Rattle.vortex_kernels.proofs.Comparing.{answers_compare}
use Rattle.vortex_kernels.proofs.LaneWords.{row_of_part}
use Rattle.vortex_arrow.specs.declared.column.ArrowColumn.{ArrowColumn}
use Rattle.vortex_arrow.specs.Columns.{arrow_column}
use Rattle.vortex_arrow.specs.Layouts.{numbers, layout_of}
use Rattle.vortex_float_bits.specs.FloatBits.{wide_key}
use Rattle.yurkije_lent.proofs.LentRows.{lent_numbers}

-- one more integer is in its place
pub put_more : {X Y : Type 0} (f : X → ℤ) (g : Y → ℤ) (xs : List X) (ys : List Y) (i : ℕ) (x : X)
    → i < length xs
    → ((j : ℕ) → j < i → get_or (map f xs) j (pos 0) ≡ get_or (map g ys) j (pos 0))
    → f x ≡ get_or (map g ys) i (pos 0)
    → (j : ℕ) → j < i + 1 → get_or (map f (set xs i x)) j (pos 0) ≡ get_or (map g ys) j (pos 0)
put_more f g xs ys i x lt so_far here =
    below_more _ _
    (λ j h. at j ∙ get_or-set_other (map f xs) i j (f x) (pos 0) (omega (arith, h)) ∙ so_far j h)
    (at i
    ∙ get_or-set_same (map f xs) i (f x) (pos 0) (omega (arith, lt, length-map xs f))
    ∙ here)
  where
    at : (j : ℕ) → get_or (map f (set xs i x)) j (pos 0) ≡ get_or (set (map f xs) i (f x)) j (pos 0)
    at j = ap (λ (zs : List ℤ). get_or zs j (pos 0)) (map-set f xs i x)

-- an item that is read
pub read_at : {X : Type 0} (f : X → ℤ) (xs : List X) (i : ℕ) (x : X) → i < length xs
    → x ≡ get_or xs i x → f x ≡ get_or (map f xs) i (pos 0)
read_at f xs i x lt is = ap f is ∙ sym (get_or-map f xs i x (pos 0) lt)

-- one item at each place
pub same_each : {X : Type 0} (f : X → ℤ) (n : ℕ) (x : X) (j : ℕ) → j < n
    → get_or (map f (replicate n x)) j (pos 0) ≡ f x
same_each f n x j lt =
    get_or-map f (replicate n x) j x (pos 0) (omega (arith, lt, length-replicate n x))
    ∙ ap f (get_or-replicate n j x x lt)

-- integers that are listed
pub listed_numbers : {X : Type 0} (f : X → ℤ) (xs : List X) (c : ColumnView) → AreInts c (map f xs)
    → AreNumbers c (λ i. i < length xs) (λ i. get_or (map f xs) i (pos 0))
listed_numbers f xs c h = record {
  there = λ i lt. omega (arith, lt, h.count, length-map xs f);
  each = λ i lt. h.each i (omega (arith, lt, h.count));
}

-- one integer in each row
pub one_number : (z : ℤ) (c : ColumnView) → IsConstantOf (number z) c
    → AreNumbers c (λ i. ⊤) (λ i. z)
one_number z c h = record {
  there = λ i lt. tt;
  each = λ i lt valid. h i lt;
}

-- the order of the integers of both sides is that of the rows
pub sides_order : (l r : ColumnView) (has_left has_right : ℕ → Type 0) (left right : ℕ → ℤ)
    → length l.rows ≡ length r.rows → AreNumbers l has_left left → AreNumbers r has_right right
    → (i : ℕ) → i < length l.rows → IsOrderAt l.rows r.rows i (int_cmp (left i) (right i))
sides_order l r has_left has_right left right same on_left on_right i lt p q =
    λ j. compare_values (sym (on_left.each i lt p) j)
    (sym (on_right.each i (omega (arith, lt, same)) q) j)

-- so they compare as the rows do
pub sides_compare : (op : CompareOperator) (l r : ColumnView) (has_left has_right : ℕ → Type 0)
    (left right : ℕ → ℤ) (a : Result (List Bool) VortexError)
    → length l.rows ≡ length r.rows → AreNumbers l has_left left → AreNumbers r has_right right
    → AnswersUnlessMemory a (AreHeld op (λ i. int_cmp (left i) (right i)) (length l.rows))
    → AnswersUnlessMemory a (AreComparisons op l.rows r.rows)
sides_compare op l r has_left has_right left right a same on_left on_right =
    answers_compare op (λ i. int_cmp (left i) (right i)) l.rows r.rows a
    (sides_order l r has_left has_right left right same on_left on_right)

-- what holds of a result
pub ok_holds : {A : Type 0} (r : Result A VortexError) (P : A → Type 0) (o : Option A)
    → o ≡ result_ok r → AnswersUnlessMemory r P → IfSome o P
ok_holds (Ok x) P o is h = subst (λ q. IfSome q P) (sym is) h
ok_holds (Err e) P o is h = subst (λ q. IfSome q P) (sym is) tt

-- the rows of two sides where the left one is patterns
pub patterns_told : (op : CompareOperator) (o : Option ℕ) (xs : List ℤ) (at : ℕ)
    (left right keys : ℕ → ℤ) → length xs ≡ 64
    → ((j : ℕ) → j < 64 → get_or (map wide_key xs) j (pos 0) ≡ left (at + j))
    → ((j : ℕ) → j < 64 → keys j ≡ right (at + j))
    → IfSome o (λ word. (j : ℕ) → j < 64
    → bit word j ≡ holds op (int_cmp (wide_key (get_or xs j (pos 0))) (keys j)))
    → IfSome o (λ word. (j : ℕ) → j < 64
    → bit word j ≡ holds op (int_cmp (left (at + j)) (right (at + j))))
patterns_told op None xs at left right keys e lefts rights h = tt
patterns_told op (Some word) xs at left right keys e lefts rights h = λ j lt.
    h j lt
    ∙ (λ i.
    holds op
    (int_cmp
    ((sym (get_or-map wide_key xs j (pos 0) (pos 0) (omega (arith, e, lt))) ∙ lefts j lt) i)
    (rights j lt i)))

-- and the right one too
pub pattern_keys : (ys : List ℤ) (at : ℕ) (right : ℕ → ℤ) → length ys ≡ 64
    → ((j : ℕ) → j < 64 → get_or (map wide_key ys) j (pos 0) ≡ right (at + j))
    → (j : ℕ) → j < 64 → wide_key (get_or ys j (pos 0)) ≡ right (at + j)
pattern_keys ys at right e rights j lt =
    sym (get_or-map wide_key ys j (pos 0) (pos 0) (omega (arith, e, lt))) ∙ rights j lt

module _ {X : Type 0} (f : X → ℤ) (c : ArrowColumn) (p : PType) (xs : List X)
    (is : layout_of c.values ≡ numbers p (map f xs)) where
  lies : (n : ℕ) → c.offset + n ≤ length xs → n ≡ c.length
      → AreInts (arrow_column c) (map f (take (c.offset + n - c.offset) (drop c.offset xs)))
  lies n room same =
      let rest : List X = drop c.offset xs in
      let part : List X = take (c.offset + n - c.offset) rest in
      lent_numbers c p (map f xs) (map f part) is
      (length-map part f
      ∙ omega (
        arith,
        room,
        same,
        length-take (c.offset + n - c.offset) rest,
        length-drop c.offset xs,
      ))
      (λ i lt. row_of_part f xs c.offset n i (omega (arith, lt, same)))

  -- the keys of the patterns of the rows that are lent
  pub lent_keys : (end : ℕ) → end ≡ c.offset + c.length → end ≤ length xs
      → AreInts (arrow_column c) (map f (take (end - c.offset) (drop c.offset xs)))
  lent_keys end at room =
      subst (λ (e : ℕ). AreInts (arrow_column c) (map f (take (e - c.offset) (drop c.offset xs))))
      (sym at) (lies c.length (omega (arith, at, room)) refl)
