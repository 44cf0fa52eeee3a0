-- The marks of the columns that trees read, while some of their nodes are still to be read.
use Rattle.std.proofs.Common.{◌≡◌, ◌≢◌, ◌↔◌, ◌⊎◌, ℕ, zero, suc, ◌<◌, ◌≤◌, List, [], ◌∷◌, ◌++◌}
use Rattle.std.proofs.Common.{inl, inr, length, take, take_all, get_or, replicate}
use Rattle.std.proofs.Common.{Bool, true, false, IsTrue, true≢false}
use Rattle.std.proofs.Common.{refl, sym, ap, subst, ◌∙◌, arith}
use Rattle.std.specs.Prelude.{slice_index_or, slice_set}
use Rattle.std.proofs.lemmas.List.{length-set, length-replicate}
use Rattle.std.proofs.lemmas.List.{get_or-replicate, get_or-set_same, get_or-set_other}
use Rattle.vortex_types.specs.LogicalTypes.{LogicalType}
use Rattle.vortex_interface.specs.Trees.{place, held, Tree, leaf, constant, call, Trees}
use Rattle.vortex_interface.specs.Trees.{no_trees, tree, list_of, children_of}
use Rattle.vortex_interface.specs.Leaves.{IsLeafIn}
use Rattle.vortex_functions.specs.Binding.{IsLeaf, IsLeafAt}
use Rattle.vortex_program.specs.declared.answer.Answer as bound
use Rattle.vortex_program.specs.Programs.{trees_of}
use Rattle.vortex_program.specs.Reads.{Reads, AnyReads, AreRead, Marks}

abbrev marked : List Bool → ℕ → Bool
marked read k = slice_index_or read k false

same_place : (p q : ℕ) (m n : List ℕ) (t u : LogicalType) → place p m t ≡ place q n u → p ≡ q
same_place p q m n t u e = cc

module _ {V O : Type 0} (k : ℕ) where
  -- what several trees read, and more trees
  in_either : (xs ys : List (Tree V O)) → AnyReads k (xs ++ ys) → AnyReads k xs ⊎ AnyReads k ys
  in_either [] ys h = inr h
  in_either (x ∷ xs) ys (inl h) = inl (inl h)
  in_either (x ∷ xs) ys (inr h) = later (in_either xs ys h)
    where
      later : AnyReads k xs ⊎ AnyReads k ys → AnyReads k (x ∷ xs) ⊎ AnyReads k ys
      later (inl g) = inl (inr g)
      later (inr g) = inr g

  in_first : (xs ys : List (Tree V O)) → AnyReads k xs → AnyReads k (xs ++ ys)
  in_first [] ys h = absurd h
  in_first (x ∷ xs) ys (inl h) = inl h
  in_first (x ∷ xs) ys (inr h) = inr (in_first xs ys h)

  in_second : (xs ys : List (Tree V O)) → AnyReads k ys → AnyReads k (xs ++ ys)
  in_second [] ys h = h
  in_second (x ∷ xs) ys h = inr (in_second xs ys h)

  -- what a call reads is what its children read
  in_list : (name : List ℕ) (dtype : LogicalType) (ts : Trees V O)
      → IsLeafIn (place k name dtype) ts → AnyReads k (list_of ts)
  in_list name dtype no_trees h = absurd h
  in_list name dtype (tree t ts) (inl h) = inl (name, dtype, h)
  in_list name dtype (tree t ts) (inr h) = inr (in_list name dtype ts h)

  of_list : (ts : Trees V O) → AnyReads k (list_of ts)
      → (name : List ℕ) × (dtype : LogicalType) × IsLeafIn (place k name dtype) ts
  of_list no_trees h = absurd h
  of_list (tree t ts) (inl h) = (h.0, h.1, inl h.2)
  of_list (tree t ts) (inr h) = let g = of_list ts h in (g.0, g.1, inr g.2)

  -- a tree reads what it is, and what its children read
  read_below : (t : Tree V O) → Reads k t → IsLeafAt k t ⊎ AnyReads k (children_of t)
  read_below (leaf (place p name dtype)) h = inl (same_place k p h.0 name h.1 dtype h.2)
  read_below (leaf (held c)) h = let other : place k h.0 h.1 ≡ held c = h.2 in cc
  read_below (constant s) h = absurd h.2
  read_below (call f ts) h = inr (in_list h.0 h.1 ts h.2)

  read_above : (t : Tree V O) → IsLeafAt k t ⊎ AnyReads k (children_of t) → Reads k t
  read_above (leaf (place p name dtype)) (inl e) = (name, dtype, ap (λ q. place q name dtype) e)
  read_above (leaf (place p name dtype)) (inr h) = absurd h
  read_above (leaf (held c)) (inl h) = absurd h
  read_above (leaf (held c)) (inr h) = absurd h
  read_above (constant s) (inl h) = absurd h
  read_above (constant s) (inr h) = absurd h
  read_above (call f ts) (inl h) = absurd h
  read_above (call f ts) (inr h) = of_list ts h

-- the leaf that a tree is, where it is one
leaf_place : {V O : Type 0} (k p : ℕ) (t : Tree V O) → IsLeafAt p t → IsLeafAt k t ↔ (k ≡ p)
leaf_place k p (leaf (place q name dtype)) h = (λ e. e ∙ sym h, λ e. e ∙ h)
leaf_place k p (leaf (held c)) h = absurd h
leaf_place k p (constant s) h = absurd h
leaf_place k p (call f ts) h = absurd h

no_place : {V O : Type 0} (k : ℕ) (t : Tree V O) → (IsLeaf t → ⊥) → IsLeafAt k t → ⊥
no_place k (leaf (place q name dtype)) none h = none tt
no_place k (leaf (held c)) none h = h
no_place k (constant s) none h = h
no_place k (call f ts) none h = h

-- marks that stay
pub marks_stay : (P : ℕ → Type 0) (old : List Bool) → ((k : ℕ) → k < length old → P k → ⊥)
    → Marks P old old
marks_stay P old none = record {
  counted = refl;
  each = λ k lt. (λ h. inl h, λ h. kept k lt h);
}
  where
    kept : (k : ℕ) → k < length old → IsTrue (marked old k) ⊎ P k → IsTrue (marked old k)
    kept k lt (inl h) = h
    kept k lt (inr h) = absurd (none k lt h)

pub no_leaf_marked : {V O : Type 0} (t : Tree V O) (old : List Bool) → (IsLeaf t → ⊥)
    → Marks (λ k. IsLeafAt k t) old old
no_leaf_marked t old none =
    marks_stay (λ k. IsLeafAt k t) old (λ k lt h. no_place k t none h)

-- a leaf past the marks
pub past_marked : {V O : Type 0} (t : Tree V O) (old : List Bool) (p : ℕ) → IsLeafAt p t
    → length old ≤ p → Marks (λ k. IsLeafAt k t) old old
past_marked t old p is past =
    marks_stay (λ k. IsLeafAt k t) old
    (λ k lt h. let same = (leaf_place k p t is).0 h in omega (arith, lt, past, same))

same_or_other : (k p : ℕ) → (k ≡ p) ⊎ (k ≢ p)
same_or_other k p = grind arith

-- a leaf among the marks
pub leaf_marked : {V O : Type 0} (t : Tree V O) (old : List Bool) (p : ℕ) → IsLeafAt p t
    → p < length old → Marks (λ k. IsLeafAt k t) old (slice_set old p true)
leaf_marked t old p is within = record {
  counted = length-set old p true;
  each = λ k lt. by k (same_or_other k p);
}
  where
    by : (k : ℕ) → (k ≡ p) ⊎ (k ≢ p)
        → IsTrue (marked (slice_set old p true) k) ↔ (IsTrue (marked old k) ⊎ IsLeafAt k t)
    by k (inl same) = (
      λ h. inr ((leaf_place k p t is).1 same),
      λ h.
          ap (λ j. marked (slice_set old p true) j) same
          ∙ get_or-set_same old p true false within,
    )
    by k (inr other) =
        let kept = get_or-set_other old p k true false other in (
          λ h. inl (sym kept ∙ h),
          λ h. kept ∙ before h,
        )
      where
        before : IsTrue (marked old k) ⊎ IsLeafAt k t → IsTrue (marked old k)
        before (inl h) = h
        before (inr h) = absurd (other ((leaf_place k p t is).0 h))

module _ {V O : Type 0} (old : List Bool) (root : Tree V O) where
  -- what is marked, or still to be read, is what was marked and what the tree reads
  abbrev pub AreMarked : List Bool → List (Tree V O) → Type 0
  AreMarked read ts =
      (length read ≡ length old)
      × ((k : ℕ) → k < length old
      → (IsTrue (marked read k) ⊎ AnyReads k ts) ↔ (IsTrue (marked old k) ⊎ Reads k root))

  pub marked_first : AreMarked old (root ∷ [])
  marked_first = (refl, λ k lt. (forth k, back k))
    where
      forth : (k : ℕ) → IsTrue (marked old k) ⊎ AnyReads k (root ∷ [])
          → IsTrue (marked old k) ⊎ Reads k root
      forth k (inl h) = inl h
      forth k (inr (inl h)) = inr h
      forth k (inr (inr h)) = absurd h

      back : (k : ℕ) → IsTrue (marked old k) ⊎ Reads k root
          → IsTrue (marked old k) ⊎ AnyReads k (root ∷ [])
      back k (inl h) = inl h
      back k (inr h) = inr (inl h)

  -- a node is read, and its children are listed
  looked : (read now : List Bool) (t : Tree V O) (list : List (Tree V O))
      → AreMarked read (t ∷ list) → Marks (λ k. IsLeafAt k t) read now
      → AreMarked now (list ++ children_of t)
  looked read now t list inv marks = (
    marks.counted ∙ inv.0,
    λ k lt. (λ h. (inv.1 k lt).0 (forth k lt h), λ h. back k lt ((inv.1 k lt).1 h)),
  )
    where
      here : (k : ℕ) → k < length old → k < length read
      here k lt = omega (arith, lt, inv.0)

      of_mark : (k : ℕ) → IsTrue (marked read k) ⊎ IsLeafAt k t
          → IsTrue (marked read k) ⊎ AnyReads k (t ∷ list)
      of_mark k (inl h) = inl h
      of_mark k (inr h) = inr (inl (read_above k t (inl h)))

      of_lists : (k : ℕ) → AnyReads k list ⊎ AnyReads k (children_of t)
          → IsTrue (marked read k) ⊎ AnyReads k (t ∷ list)
      of_lists k (inl h) = inr (inr h)
      of_lists k (inr h) = inr (inl (read_above k t (inr h)))

      forth : (k : ℕ) → k < length old → IsTrue (marked now k) ⊎ AnyReads k (list ++ children_of t)
          → IsTrue (marked read k) ⊎ AnyReads k (t ∷ list)
      forth k lt (inl h) = of_mark k ((marks.each k (here k lt)).0 h)
      forth k lt (inr h) = of_lists k (in_either k list (children_of t) h)

      of_node : (k : ℕ) → k < length old → IsLeafAt k t ⊎ AnyReads k (children_of t)
          → IsTrue (marked now k) ⊎ AnyReads k (list ++ children_of t)
      of_node k lt (inl h) = inl ((marks.each k (here k lt)).1 (inr h))
      of_node k lt (inr h) = inr (in_second k list (children_of t) h)

      back : (k : ℕ) → k < length old → IsTrue (marked read k) ⊎ AnyReads k (t ∷ list)
          → IsTrue (marked now k) ⊎ AnyReads k (list ++ children_of t)
      back k lt (inl h) = inl ((marks.each k (here k lt)).1 (inl h))
      back k lt (inr (inl h)) = of_node k lt (read_below k t h)
      back k lt (inr (inr h)) = inr (in_first k list (children_of t) h)

  -- the last that is listed is read next
  moved : (now : List Bool) (next : Tree V O) (rest : List (Tree V O))
      → AreMarked now (rest ++ next ∷ []) → AreMarked now (next ∷ rest)
  moved now next rest inv =
      (inv.0, λ k lt. (λ h. (inv.1 k lt).0 (forth k h), λ h. back k ((inv.1 k lt).1 h)))
    where
      forth : (k : ℕ) → IsTrue (marked now k) ⊎ AnyReads k (next ∷ rest)
          → IsTrue (marked now k) ⊎ AnyReads k (rest ++ next ∷ [])
      forth k (inl h) = inl h
      forth k (inr (inl h)) = inr (in_second k rest (next ∷ []) (inl h))
      forth k (inr (inr h)) = inr (in_first k rest (next ∷ []) h)

      of_lists : (k : ℕ) → AnyReads k rest ⊎ AnyReads k (next ∷ [])
          → IsTrue (marked now k) ⊎ AnyReads k (next ∷ rest)
      of_lists k (inl h) = inr (inr h)
      of_lists k (inr (inl h)) = inr (inl h)
      of_lists k (inr (inr h)) = absurd h

      back : (k : ℕ) → IsTrue (marked now k) ⊎ AnyReads k (rest ++ next ∷ [])
          → IsTrue (marked now k) ⊎ AnyReads k (next ∷ rest)
      back k (inl h) = inl h
      back k (inr h) = of_lists k (in_either k rest (next ∷ []) h)

  pub looked_next : (read now : List Bool) (t next : Tree V O) (list rest : List (Tree V O))
      → AreMarked read (t ∷ list) → Marks (λ k. IsLeafAt k t) read now
      → list ++ children_of t ≡ rest ++ next ∷ [] → AreMarked now (next ∷ rest)
  looked_next read now t next list rest inv marks same =
      moved now next rest
      (subst (λ (ts : List (Tree V O)). AreMarked now ts) same (looked read now t list inv marks))

  -- all were read
  pub looked_last : (read now : List Bool) (t : Tree V O) (list : List (Tree V O))
      → AreMarked read (t ∷ list) → Marks (λ k. IsLeafAt k t) read now
      → list ++ children_of t ≡ [] → Marks (λ k. Reads k root) old now
  looked_last read now t list inv marks none =
      let all : AreMarked now [] =
      subst (λ (ts : List (Tree V O)). AreMarked now ts) none (looked read now t list inv marks) in
      record {
        counted = all.0;
        each = λ k lt. (λ h. (all.1 k lt).0 (inl h), λ h. there k ((all.1 k lt).1 h));
      }
    where
      there : (k : ℕ) → IsTrue (marked now k) ⊎ AnyReads {V = V} {O = O} k []
          → IsTrue (marked now k)
      there k (inl h) = h
      there k (inr h) = absurd h

-- of so many columns those are marked that the first answers read
abbrev pub FirstRead : List bound.Answer → ℕ → ℕ → List Bool → Type 0
FirstRead xs i count read =
    (length read ≡ count)
    × ((k : ℕ) → k < count → IsTrue (marked read k) ↔ AnyReads k (trees_of (take i xs)))

pub none_read : (xs : List bound.Answer) (count : ℕ) → FirstRead xs 0 count (replicate count false)
none_read xs count = (
  length-replicate count false,
  λ k lt. (
    λ h. absurd (true≢false (sym h ∙ get_or-replicate count k false false lt)),
    λ h. absurd h,
  ),
)

-- what the first trees read, and one tree more
more_reads : (k : ℕ) (xs : List bound.Answer) (i : ℕ) (x : bound.Answer) → i < length xs
    → x ≡ get_or xs i x
    → AnyReads k (trees_of (take (suc i) xs)) ↔ (AnyReads k (trees_of (take i xs)) ⊎ Reads k x.tree)
more_reads k [] i x below at = absurd (omega (arith, below))
more_reads k (y ∷ xs) zero x below at = (forth, back)
  where
    forth : Reads k y.tree ⊎ ⊥ → ⊥ ⊎ Reads k x.tree
    forth (inl h) = inr (subst (λ (z : bound.Answer). Reads k z.tree) (sym at) h)
    forth (inr h) = absurd h

    back : ⊥ ⊎ Reads k x.tree → Reads k y.tree ⊎ ⊥
    back (inl h) = absurd h
    back (inr h) = inl (subst (λ (z : bound.Answer). Reads k z.tree) at h)
more_reads k (y ∷ xs) (suc i) x below at =
    with_rest (more_reads k xs i x (omega (arith, below)) at)
  where
    on : AnyReads k (trees_of (take i xs)) ⊎ Reads k x.tree
        → AnyReads k (trees_of (take (suc i) (y ∷ xs))) ⊎ Reads k x.tree
    on (inl h) = inl (inr h)
    on (inr h) = inr h

    forth : (AnyReads k (trees_of (take (suc i) xs))
        → AnyReads k (trees_of (take i xs)) ⊎ Reads k x.tree)
        → AnyReads k (trees_of (take (suc (suc i)) (y ∷ xs)))
        → AnyReads k (trees_of (take (suc i) (y ∷ xs))) ⊎ Reads k x.tree
    forth rest (inl h) = inl (inl h)
    forth rest (inr h) = on (rest h)

    back : (AnyReads k (trees_of (take i xs)) ⊎ Reads k x.tree
        → AnyReads k (trees_of (take (suc i) xs)))
        → AnyReads k (trees_of (take (suc i) (y ∷ xs))) ⊎ Reads k x.tree
        → AnyReads k (trees_of (take (suc (suc i)) (y ∷ xs)))
    back rest (inl (inl h)) = inl h
    back rest (inl (inr h)) = inr (rest (inl h))
    back rest (inr h) = inr (rest (inr h))

    with_rest : (AnyReads k (trees_of (take (suc i) xs))
        ↔ (AnyReads k (trees_of (take i xs)) ⊎ Reads k x.tree))
        → AnyReads k (trees_of (take (suc (suc i)) (y ∷ xs)))
        ↔ (AnyReads k (trees_of (take (suc i) (y ∷ xs))) ⊎ Reads k x.tree)
    with_rest rest = (λ h. forth rest.0 h, λ h. back rest.1 h)

pub more_read : (xs : List bound.Answer) (i j count : ℕ) (read now : List Bool) (x : bound.Answer)
    → j ≡ suc i → i < length xs → x ≡ get_or xs i x → FirstRead xs i count read
    → Marks (λ k. Reads k x.tree) read now → FirstRead xs j count now
more_read xs i j count read now x next below at inv marks =
    subst (λ (n : ℕ). FirstRead xs n count now) (sym next)
    (marks.counted ∙ inv.0, λ k lt. (forth k lt, back k lt))
  where
    both : (k : ℕ) → AnyReads k (trees_of (take (suc i) xs))
        ↔ (AnyReads k (trees_of (take i xs)) ⊎ Reads k x.tree)
    both k = more_reads k xs i x below at

    here : (k : ℕ) → k < count → k < length read
    here k lt = omega (arith, lt, inv.0)

    on : (k : ℕ) → k < count → IsTrue (marked read k) ⊎ Reads k x.tree
        → AnyReads k (trees_of (take i xs)) ⊎ Reads k x.tree
    on k lt (inl h) = inl ((inv.1 k lt).0 h)
    on k lt (inr h) = inr h

    off : (k : ℕ) → k < count → AnyReads k (trees_of (take i xs)) ⊎ Reads k x.tree
        → IsTrue (marked read k) ⊎ Reads k x.tree
    off k lt (inl h) = inl ((inv.1 k lt).1 h)
    off k lt (inr h) = inr h

    forth : (k : ℕ) → k < count → IsTrue (marked now k) → AnyReads k (trees_of (take (suc i) xs))
    forth k lt h = (both k).1 (on k lt ((marks.each k (here k lt)).0 h))

    back : (k : ℕ) → k < count → AnyReads k (trees_of (take (suc i) xs)) → IsTrue (marked now k)
    back k lt h = (marks.each k (here k lt)).1 (off k lt ((both k).0 h))

-- all answers were read
pub all_read : (xs : List bound.Answer) (i count : ℕ) (read : List Bool) → length xs ≤ i
    → FirstRead xs i count read → AreRead (trees_of xs) count read
all_read xs i count read past inv = record {
  counted = inv.0;
  each = λ k lt.
      subst
      (λ (ys : List bound.Answer). IsTrue (marked read k) ↔ AnyReads k (trees_of ys))
      (take_all i xs past) (inv.1 k lt);
}
