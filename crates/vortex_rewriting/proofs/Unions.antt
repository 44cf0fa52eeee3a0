-- Nodes joined by And in rounds.
use Rattle.std.proofs.Common.{◌≡◌, ℕ, zero, suc, ◌+◌, ◌-◌, ◌*◌, ◌<◌, ◌≤◌, Bool, true, false}
use Rattle.std.proofs.Common.{List, [], ◌∷◌, ◌++◌, length, map, take, drop, Some, refl, sym, ap}
use Rattle.std.proofs.Common.{◌∙◌, add-one, arith}
use Rattle.std.specs.Prelude.{slice_get, if◌then◌else◌}
use Rattle.std.proofs.lemmas.List.{append-nil, drop-map, length-drop, length-map}
use Rattle.std.proofs.lemmas.List.{length-take-le, map-append, take-map}
use Rattle.std.proofs.lemmas.List.Elements.{All-cons, All-drop, All-nil, All-pop, All-push}
use Rattle.std.proofs.lemmas.List.Elements.{All-same, All-take}
use Rattle.vortex_types.specs.LogicalTypes.{LogicalType, bool_type, is_nullable}
use Rattle.vortex_operators.specs.declared.operators.Operator.TheVariants.{And}
use Rattle.vortex_interface.specs.Meaning.{Meaning}
use Rattle.vortex_interface.specs.Shipped.{Binary, IsNotNull}
use Rattle.vortex_interface.specs.Functions.{ours}
use Rattle.vortex_interface.specs.Trees.{Tree, call, trees_of}
use Rattle.vortex_interface.specs.Eval.{tree_type}
use Rattle.vortex_interface.specs.ComparisonTrees.{operated}
use Rattle.vortex_interface.specs.Rules.{is_not_null_of, may_be_null, is_nullable_tree}
use Rattle.vortex_interface.specs.ValidityRules.{null_tests, one_round}
use Rattle.vortex_interface.proofs.TypedCalls.{type_of_one, type_of_two}
use Rattle.vortex_rewriting.specs.Contexts.{InContext, tree_by}
use Rattle.vortex_rewriting.specs.Union.{AreTruths, pairs_of, joined_last}

module _ {V O : Type 0} where
  -- a round of an even count of trees, and of one more
  pub one_round-even : (k : ℕ) (ts : List (Tree V O)) → length ts ≡ k + k
      → one_round ts ≡ pairs_of ts
  one_round-even k [] h = refl
  one_round-even k (a ∷ []) h = absurd (omega arith)
  one_round-even k (a ∷ b ∷ []) h = refl
  one_round-even k (a ∷ b ∷ c ∷ []) h = absurd (omega arith)
  one_round-even k (a ∷ b ∷ c ∷ d ∷ ts) h =
      ap (λ us. operated And a b ∷ us) (one_round-even (k - 1) (c ∷ d ∷ ts) (omega arith))

  pub one_round-odd : (k : ℕ) (ts : List (Tree V O)) (last : Tree V O) → length ts ≡ k + k
      → one_round (ts ++ last ∷ []) ≡ joined_last (pairs_of ts) last
  one_round-odd k [] last h = refl
  one_round-odd k (a ∷ []) last h = absurd (omega arith)
  one_round-odd k (a ∷ b ∷ []) last h = refl
  one_round-odd k (a ∷ b ∷ c ∷ []) last h = absurd (omega arith)
  one_round-odd k (a ∷ b ∷ c ∷ d ∷ ts) last h =
      ap (λ us. operated And a b ∷ us) (one_round-odd (k - 1) (c ∷ d ∷ ts) last (omega arith))

  pub joined_last-append : (ts : List (Tree V O)) (t last : Tree V O)
      → joined_last (ts ++ t ∷ []) last ≡ ts ++ operated And t last ∷ []
  joined_last-append [] t last = refl
  joined_last-append (a ∷ []) t last = refl
  joined_last-append (a ∷ b ∷ ts) t last = ap (λ us. a ∷ us) (joined_last-append (b ∷ ts) t last)

  -- a round halves the trees
  round_halves : (ts : List (Tree V O)) → 2 ≤ length ts
      → length (one_round ts) + length (one_round ts) ≤ length ts
  round_halves [] h = absurd (omega arith)
  round_halves (a ∷ []) h = absurd (omega arith)
  round_halves (a ∷ b ∷ []) h = omega arith
  round_halves (a ∷ b ∷ c ∷ []) h = omega arith
  round_halves (a ∷ b ∷ c ∷ d ∷ ts) h =
      let k = round_halves (c ∷ d ∷ ts) (omega arith) in
      omega arith

  pub round_fewer : (ts : List (Tree V O)) → 2 ≤ length ts → length (one_round ts) < length ts
  round_fewer ts h = let k = round_halves ts h in omega arith

  -- the pairs of the first trees, with one more pair
  pub pairs_more : (k : ℕ) (ts : List (Tree V O)) → k + k + 2 ≤ length ts
      → pairs_of (take (suc k + suc k) ts)
      ≡ pairs_of (take (k + k) ts) ++ call (ours (Binary And)) (trees_of (take 2 (drop (k + k) ts)))
      ∷ []
  pairs_more zero [] h = absurd (omega arith)
  pairs_more zero (a ∷ []) h = absurd (omega arith)
  pairs_more zero (a ∷ b ∷ ts) h = refl
  pairs_more (suc k) [] h = absurd (omega arith)
  pairs_more (suc k) (a ∷ []) h = absurd (omega arith)
  pairs_more (suc k) (a ∷ b ∷ ts) h =
      let more : suc (suc k) + suc (suc k) ≡ suc (suc (suc k + suc k)) = omega arith in
      let here : suc k + suc k ≡ suc (suc (k + k)) = omega arith in
      ap (λ n. pairs_of (take n (a ∷ b ∷ ts))) more
      ∙ ap (λ us. operated And a b ∷ us) (pairs_more k ts (omega arith))
      ∙ sym (ap (λ n. pairs_of (take n (a ∷ b ∷ ts)) ++ call (ours (Binary And)) (trees_of (take 2
      (drop n (a ∷ b ∷ ts)))) ∷ []) here)

  -- all pairs
  pub pairs_all : (k : ℕ) (ts : List (Tree V O)) → length ts ≤ k + k + 1
      → pairs_of (take (k + k) ts) ≡ pairs_of ts
  pairs_all zero [] h = refl
  pairs_all zero (a ∷ []) h = refl
  pairs_all zero (a ∷ b ∷ ts) h = absurd (omega arith)
  pairs_all (suc k) [] h =
      let here : suc k + suc k ≡ suc (suc (k + k)) = omega arith in
      ap (λ n. pairs_of (take n [])) here
  pairs_all (suc k) (a ∷ []) h =
      let here : suc k + suc k ≡ suc (suc (k + k)) = omega arith in
      ap (λ n. pairs_of (take n (a ∷ []))) here
  pairs_all (suc k) (a ∷ b ∷ ts) h =
      let here : suc k + suc k ≡ suc (suc (k + k)) = omega arith in
      ap (λ n. pairs_of (take n (a ∷ b ∷ ts))) here
      ∙ ap (λ us. operated And a b ∷ us) (pairs_all k ts (omega arith))

  -- nodes that represent trees
  module _ {N : Type 0} (of_node : N → Tree V O) where
    pub all_pairs : (nodes joined : List N) (i : ℕ) → length nodes ≤ i + i + 1
        → map of_node joined ≡ pairs_of (take (i + i) (map of_node nodes))
        → map of_node joined ≡ pairs_of (map of_node nodes)
    all_pairs nodes joined i h so_far =
        so_far ∙ pairs_all i (map of_node nodes) (omega (arith, h, length-map nodes of_node))

    -- a round of nodes, and that fewer are left
    pub even_round : (k : ℕ) (nodes joined : List N) → length nodes ≡ k + k
        → map of_node joined ≡ pairs_of (map of_node nodes)
        → map of_node joined ≡ one_round (map of_node nodes)
    even_round k nodes joined h e =
        e ∙ sym (one_round-even k (map of_node nodes) (length-map nodes of_node ∙ h))

    pub odd_round : (k : ℕ) (nodes rest : List N) (last : N) (pairs joined : List N)
        → length rest ≡ k + k → nodes ≡ rest ++ last ∷ []
        → map of_node pairs ≡ pairs_of (map of_node rest)
        → map of_node joined ≡ joined_last (map of_node pairs) (of_node last)
        → map of_node joined ≡ one_round (map of_node nodes)
    odd_round k nodes rest last pairs joined h e p q =
        q
        ∙ ap (λ ts. joined_last ts (of_node last)) p
        ∙ sym (one_round-odd k (map of_node rest) (of_node last) (length-map rest of_node ∙ h))
        ∙ ap one_round (sym (map-append of_node rest (last ∷ [])) ∙ sym (ap (map of_node) e))

    pub fewer_nodes : (nodes joined : List N) → 2 ≤ length nodes
        → map of_node joined ≡ one_round (map of_node nodes) → length joined < length nodes
    fewer_nodes nodes joined h e =
        let many = length-map nodes of_node in
        let fewer = round_fewer (map of_node nodes) (omega (arith, many)) in
        let left : length joined ≡ length (one_round (map of_node nodes)) =
        sym (length-map joined of_node) ∙ ap length e in
        omega (arith, many, fewer, left)

-- the next two of a list
pub next_two : {N : Type 0} (nodes : List N) (i : ℕ)
    → take (2 * i + 2 - 2 * i) (drop (2 * i) nodes) ≡ take 2 (drop (i + i) nodes)
next_two nodes i =
    let two : 2 * i + 2 - 2 * i ≡ 2 = omega arith in
    let twice : 2 * i ≡ i + i = omega arith in
    λ j. take (two j) (drop (twice j) nodes)

module _ {V O : Type 0} (m : Meaning V O) where
  -- the null test of a nullable child, and none for others
  abbrev pub null_test_of : Bool → Tree V O → List (Tree V O)
  null_test_of true t = is_not_null_of t ∷ []
  null_test_of false t = []

  pub null_tests_more : (ts : List (Tree V O)) (i : ℕ) (t : Tree V O) → slice_get ts i ≡ Some t
      → null_tests m (trees_of (take (suc i) ts))
      ≡ null_tests m (trees_of (take i ts)) ++ null_test_of (is_nullable_tree m t) t
  null_tests_more [] i t h = cc
  null_tests_more (a ∷ ts) zero t h =
      let is : a ≡ t = cc in
      by (is_nullable_tree m a) ∙ ap (λ u. null_test_of (is_nullable_tree m u) u) is
    where
      by : (b : Bool) → (if b then is_not_null_of a ∷ [] else []) ≡ null_test_of b a
      by true = refl
      by false = refl
  null_tests_more (a ∷ ts) (suc i) t h =
      by (is_nullable_tree m a) (null_tests m (trees_of (take (suc i) ts)))
      (null_tests m (trees_of (take i ts))) (null_test_of (is_nullable_tree m t) t)
      (null_tests_more ts i t h)
    where
      by : (b : Bool) (us vs ws : List (Tree V O)) → us ≡ vs ++ ws
          → (if b then is_not_null_of a ∷ us else us)
          ≡ (if b then is_not_null_of a ∷ vs else vs) ++ ws
      by true us vs ws e = ap (λ xs. is_not_null_of a ∷ xs) e
      by false us vs ws e = e

  -- a null test is of Bool without null
  pub test_typed : (t : Tree V O) (k : LogicalType) → tree_type m t ≡ Some k
      → tree_type m (is_not_null_of t) ≡ Some (bool_type false)
  test_typed t k h = type_of_one m (ours IsNotNull) t k h

  -- and so is the And of two such
  pub and_typed : (t u : Tree V O) → tree_type m t ≡ Some (bool_type false)
      → tree_type m u ≡ Some (bool_type false)
      → tree_type m (operated And t u) ≡ Some (bool_type false)
  and_typed t u h k = type_of_two m (ours (Binary And)) t u (bool_type false) (bool_type false) h k

  pub pair_typed : {N B : Type 0} (seen : N → InContext V O B) (n : B) (pair : List N)
      → length pair ≡ 2 → AreTruths m seen n pair
      → tree_type m (call (ours (Binary And)) (trees_of (map (tree_by seen) pair)))
      ≡ Some (bool_type false)
  pair_typed seen n [] e h = absurd (omega arith)
  pair_typed seen n (a ∷ []) e h = absurd (omega arith)
  pair_typed {N} {B} seen n (a ∷ b ∷ []) e h =
      and_typed (seen a).tree (seen b).tree (h 0 a (omega arith)).0 (h 1 a (omega arith)).0
  pair_typed seen n (a ∷ b ∷ c ∷ ns) e h = absurd (omega arith)

  -- nodes that represent trees in that context
  module _ {N B : Type 0} (seen : N → InContext V O B) (n : B) where
    abbrev of_node : N → Tree V O
    of_node = tree_by seen

    abbrev rows : N → B
    rows node = (seen node).context

    abbrev IsTruth : N → Type 0
    IsTruth node = (tree_type m (of_node node) ≡ Some (bool_type false)) × (rows node ≡ n)

    -- the null tests of the first children
    abbrev pub TestsUpTo : List (Tree V O) → ℕ → List N → Type 0
    TestsUpTo ts i nodes =
        (map of_node nodes ≡ null_tests m (trees_of (take i ts)))
        × AreTruths m seen n nodes

    pub one_more_test : (ts : List (Tree V O)) (i : ℕ) (t : Tree V O) (k : LogicalType)
        (nodes : List N) (node : N) (pushed after : List N) → slice_get ts i ≡ Some t
        → tree_type m t ≡ Some k → is_nullable k ≡ true → TestsUpTo ts i nodes
        → pushed ≡ nodes ++ node ∷ [] → after ≡ pushed → of_node node ≡ is_not_null_of t
        → rows node ≡ n → TestsUpTo ts (i + 1) after
    one_more_test ts i t k nodes node pushed after at typed null so_far push same is here =
        let more : after ≡ nodes ++ node ∷ [] = same ∙ push in
        let nullable : is_nullable_tree m t ≡ true = ap may_be_null typed ∙ null in
        let test : tree_type m (of_node node) ≡ Some (bool_type false) =
        ap (tree_type m) is ∙ test_typed t k typed in (
          ap (map of_node) more
              ∙ map-append of_node nodes (node ∷ [])
              ∙ (λ j. so_far.0 j ++ is j ∷ [])
              ∙ ap (λ b. null_tests m (trees_of (take i ts)) ++ null_test_of b t) (sym nullable)
              ∙ sym (null_tests_more ts i t at)
              ∙ ap (λ l. null_tests m (trees_of (take l ts))) (sym (add-one i)),
          All-same IsTruth after (nodes ++ node ∷ []) more
              (All-push IsTruth nodes node so_far.1 (test, here)),
        )

    pub no_more_test : (ts : List (Tree V O)) (i : ℕ) (t : Tree V O) (k : LogicalType)
        (nodes after : List N) → slice_get ts i ≡ Some t → tree_type m t ≡ Some k
        → is_nullable k ≡ false → TestsUpTo ts i nodes → after ≡ nodes → TestsUpTo ts (i + 1) after
    no_more_test ts i t k nodes after at typed null so_far same =
        let solid : is_nullable_tree m t ≡ false = ap may_be_null typed ∙ null in (
          ap (map of_node) same
              ∙ so_far.0
              ∙ sym (append-nil (null_tests m (trees_of (take i ts))))
              ∙ ap (λ b. null_tests m (trees_of (take i ts)) ++ null_test_of b t) (sym solid)
              ∙ sym (null_tests_more ts i t at)
              ∙ ap (λ l. null_tests m (trees_of (take l ts))) (sym (add-one i)),
          All-same IsTruth after nodes same so_far.1,
        )

    -- the pairs of the first nodes
    abbrev pub PairsUpTo : List N → ℕ → List N → Type 0
    PairsUpTo nodes i joined =
        (map of_node joined ≡ pairs_of (take (i + i) (map of_node nodes)))
        × AreTruths m seen n joined

    pub next_typed : (nodes : List N) (i : ℕ) (pair : List N) → i + i + 2 ≤ length nodes
        → pair ≡ take 2 (drop (i + i) nodes) → AreTruths m seen n nodes
        → tree_type m (call (ours (Binary And)) (trees_of (map of_node pair)))
        ≡ Some (bool_type false)
    next_typed nodes i pair within is truths =
        let two : length (take 2 (drop (i + i) nodes)) ≡ 2 =
        length-take-le 2 (drop (i + i) nodes) (omega (arith, length-drop (i + i) nodes)) in
        pair_typed seen n pair (ap length is ∙ two)
        (All-same IsTruth pair (take 2 (drop (i + i) nodes)) is
        (All-take IsTruth 2 (drop (i + i) nodes) (All-drop IsTruth (i + i) nodes truths)))

    pub one_more_pair : (nodes joined : List N) (i : ℕ) (pair : List N) (node : N) (after : List N)
        → i + i + 2 ≤ length nodes → pair ≡ take 2 (drop (i + i) nodes)
        → AreTruths m seen n nodes → PairsUpTo nodes i joined
        → after ≡ joined ++ node ∷ []
        → of_node node ≡ call (ours (Binary And)) (trees_of (map of_node pair)) → rows node ≡ n
        → PairsUpTo nodes (i + 1) after
    one_more_pair nodes joined i pair node after within pair_is truths so_far more is here =
        let ts = map of_node nodes in
        let both : tree_type m (of_node node) ≡ Some (bool_type false) =
        ap (tree_type m) is ∙ next_typed nodes i pair within pair_is truths in
        let trees : map of_node pair ≡ take 2 (drop (i + i) ts) =
        ap (map of_node) pair_is
        ∙ sym (take-map of_node 2 (drop (i + i) nodes))
        ∙ ap (take 2) (sym (drop-map of_node (i + i) nodes)) in
        let next : of_node node ≡ call (ours (Binary And)) (trees_of (take 2 (drop (i + i) ts))) =
        is ∙ ap (λ us. call (ours (Binary And)) (trees_of us)) trees in
        let fits : i + i + 2 ≤ length ts = omega (arith, within, length-map nodes of_node) in (
          ap (map of_node) more
              ∙ map-append of_node joined (node ∷ [])
              ∙ (λ j. so_far.0 j ++ next j ∷ [])
              ∙ sym (pairs_more i ts fits)
              ∙ ap (λ l. pairs_of (take (l + l) ts)) (sym (add-one i)),
          All-same IsTruth after (joined ++ node ∷ []) more
              (All-push IsTruth joined node so_far.1 (both, here)),
        )

    -- the last node, removed
    pub last_truth : (nodes rest : List N) (last : N) → nodes ≡ rest ++ last ∷ []
        → AreTruths m seen n nodes → IsTruth last
    last_truth nodes rest last e truths = (All-pop IsTruth nodes rest (Some last) e truths).1

    pub rest_truths : (nodes rest : List N) (last : N) → nodes ≡ rest ++ last ∷ []
        → AreTruths m seen n nodes → AreTruths m seen n rest
    rest_truths nodes rest last e truths = (All-pop IsTruth nodes rest (Some last) e truths).0

    -- nodes that one more was joined to
    abbrev pub JoinsLast : List N → N → List N → Type 0
    JoinsLast nodes last after =
        (map of_node after ≡ joined_last (map of_node nodes) (of_node last))
        × AreTruths m seen n after

    -- with the last
    pub joined_beside : (nodes rest after : List N) (left right pushed last : N)
        → nodes ≡ rest ++ left ∷ [] → after ≡ rest ++ pushed ∷ [] → pushed ≡ right
        → of_node right ≡ operated And (of_node left) (of_node last)
        → AreTruths m seen n nodes
        → tree_type m (of_node last) ≡ Some (bool_type false) → rows right ≡ n
        → JoinsLast nodes last after
    joined_beside nodes rest after left right pushed last e push same is truths typed here =
        let more = push ∙ ap (λ node. rest ++ node ∷ []) same in
        let first = last_truth nodes rest left e truths in
        let both : tree_type m (of_node right) ≡ Some (bool_type false) =
        ap (tree_type m) is ∙ and_typed (of_node left) (of_node last) first.0 typed in (
          ap (map of_node) more
              ∙ map-append of_node rest (right ∷ [])
              ∙ ap (λ t. map of_node rest ++ t ∷ []) is
              ∙ sym (joined_last-append (map of_node rest) (of_node left) (of_node last))
              ∙ ap (λ ts. joined_last ts (of_node last))
              (sym (map-append of_node rest (left ∷ [])) ∙ sym (ap (map of_node) e)),
          All-same IsTruth after (rest ++ right ∷ []) more
              (All-push IsTruth rest right (rest_truths nodes rest left e truths) (both, here)),
        )

    -- or alone
    pub joined_alone : (nodes rest after : List N) (pushed last : N) → nodes ≡ [] → rest ≡ []
        → after ≡ rest ++ pushed ∷ [] → pushed ≡ last → IsTruth last → JoinsLast nodes last after
    joined_alone nodes rest after pushed last e none push same truth =
        let one = push ∙ (λ j. none j ++ same j ∷ []) in (
          ap (map of_node) one ∙ ap (λ xs. joined_last (map of_node xs) (of_node last)) (sym e),
          All-same IsTruth after (last ∷ []) one (All-cons IsTruth last [] truth (All-nil IsTruth)),
        )
