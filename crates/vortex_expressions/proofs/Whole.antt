-- The steps of a syntax tree leave its meaning.
use Rattle.std.proofs.Common.{◌≡◌, ℕ, List, [], ◌∷◌, ◌++◌, true, false, Some, None}
use Rattle.std.proofs.Common.{refl, ap, sym, ◌∙◌, append_assoc, length, reverse, suc, ◌+◌}
use Rattle.std.proofs.Common.{Bool, arith}
use Rattle.std.proofs.lemmas.List.{append-nil}
use Rattle.vortex_types.specs.LogicalTypes.{Fields}
use Rattle.vortex_syntax.specs.Syntax.{Syntax, operand, negative, typed, grouped, negated, joined}
use Rattle.vortex_syntax.specs.Syntax.{minus, tested, distinct, between, matched, listed, cast}
use Rattle.vortex_syntax.specs.Syntax.{chosen, chosen_else, nullary, applied, Arguments}
use Rattle.vortex_syntax.specs.Syntax.{no_arguments, argument, Branches, without_operand}
use Rattle.vortex_syntax.specs.Syntax.{of_operand, branch, plus, bit_not, null_tested, converted}
use Rattle.vortex_syntax.specs.Syntax.{titled, measured, extracted, parted, parted_for, placed}
use Rattle.vortex_syntax.specs.Syntax.{trimmed, trimmed_by}
use Rattle.vortex_syntax.specs.Tokens.{text}
use Rattle.vortex_syntax.specs.declared.step.Test.TheVariants as test
use Rattle.vortex_syntax.specs.Postfix as step
use Rattle.vortex_syntax.specs.Postfix.{Step, postfix, all_postfix, argument_count}
use Rattle.vortex_syntax.specs.Postfix.{branches_postfix, has_operand, branch_count, test_of}
use Rattle.vortex_syntax.specs.Postfix.{side_of}
use Rattle.vortex_expressions.specs.Outcomes.{Outcome, answers, refuses, missing, and_then}
use Rattle.vortex_expressions.specs.Items.{Item, settled}
use Rattle.vortex_expressions.specs.Calls.{not_item, joined_item}
use Rattle.vortex_expressions.specs.Calls.{minus_item, tested_item, distinct_item, between_item}
use Rattle.vortex_expressions.specs.Calls.{matched_item, listed_item, chosen_item, plus_item}
use Rattle.vortex_expressions.specs.Calls.{bit_not_item, Names, names_of, typed_by, cast_by}
use Rattle.vortex_expressions.specs.Calls.{operand_by}
use Rattle.vortex_expressions.specs.Binding.{with_item, of_items, item_by, items_by}
use Rattle.vortex_expressions.specs.Binding.{branches_by, tree_of}
use Rattle.vortex_expressions.specs.Functions.{applied_by, trimmed_item, trimmed_by_item}
use Rattle.vortex_expressions.specs.Stacks.{run, stepped, pushed, with_last, case_count, left_as}
use Rattle.vortex_expressions.specs.Stacks.{tree_left}
use Rattle.vortex_expressions.proofs.Chains.{and_then-assoc, and_then-same, and_then-there}
use Rattle.vortex_expressions.proofs.Lasts.{last_taken}

module _ (columns : Names) where
  -- over these items the steps leave one item in their place
  abbrev Leaves : List Item → List Step → Outcome Item → Type 0
  Leaves below ps o =
      (ss : List Step) (st : List Item)
      → run columns (ps ++ ss) (below ++ st) ≡ and_then o (λ i. run columns ss (i ∷ st))

  last : (below : List Item) (s : Step) (o : Outcome Item)
      → ((st : List Item) → stepped columns s (below ++ st) ≡ pushed st o) → Leaves below (s ∷ []) o
  unfolding run
  last below s o h = λ ss st.
      ap (λ r. and_then r (run columns ss)) (h st)
      ∙ and_then-assoc o (λ i. answers (i ∷ st)) (run columns ss)

  next : (below : List Item) (ps rest : List Step) (o : Outcome Item) (f : Item → Outcome Item)
      → Leaves [] ps o → ((i : Item) → Leaves (i ∷ below) rest (f i))
      → Leaves below (ps ++ rest) (and_then o f)
  next below ps rest o f h k = λ ss st.
      ap (λ zs. run columns zs (below ++ st)) (append_assoc ps rest ss)
      ∙ h (rest ++ ss) (below ++ st)
      ∙ and_then-same o _ _ (λ i. k i ss st)
      ∙ sym (and_then-assoc o f (λ j. run columns ss (j ∷ st)))

  -- the steps leave as many items as there are, over those below
  abbrev LeaveAll : List Step → Outcome (List Item) → Type 0
  LeaveAll ps o =
      (ss : List Step) (st : List Item)
      → run columns (ps ++ ss) st ≡ and_then o (λ is. run columns ss (is ++ st))

  one_more : (ps qs : List Step) (o : Outcome (List Item)) (p : Outcome Item) → LeaveAll ps o
      → Leaves [] qs p → LeaveAll (ps ++ qs) (with_item o p)
  one_more ps qs o p h k = λ ss st.
      ap (λ zs. run columns zs st) (append_assoc ps qs ss)
      ∙ h (qs ++ ss) st
      ∙ and_then-same o _ _ (λ is. k ss (is ++ st)
      ∙ sym (and_then-assoc p (λ i. answers (i ∷ is)) (λ js. run columns ss (js ++ st))))
      ∙ sym (and_then-assoc o (λ is. and_then p (λ i. answers (i ∷ is)))
      (λ js. run columns ss (js ++ st)))

  -- there are so many items
  abbrev Counts : Outcome (List Item) → ℕ → Type 0
  Counts o n = (is : List Item) → o ≡ answers is → length is ≡ n

  count_more : (o : Outcome (List Item)) (p : Outcome Item) (n : ℕ) → Counts o n
      → Counts (with_item o p) (suc n)
  count_more (answers js) (answers i) n h is e =
      let same : i ∷ js ≡ is = cc in ap length (sym same) ∙ ap suc (h js refl)
  count_more (answers js) (refuses r) n h is e = absurd cc
  count_more (answers js) missing n h is e = absurd cc
  count_more (refuses r) p n h is e = absurd cc
  count_more missing p n h is e = absurd cc

  -- a step that takes all of them
  abbrev TakesLast : Step → (List Item → Outcome Item) → ℕ → Type 0
  TakesLast s f n = (st : List Item) → stepped columns s st ≡ with_last f n st

  last_called : (s : Step) (f : List Item → Outcome Item) (n : ℕ) → TakesLast s f n
      → (is : List Item) → length is ≡ n → (ss : List Step) (st : List Item)
      → run columns (s ∷ ss) (is ++ st) ≡ and_then (f (reverse is)) (λ i. run columns ss (i ∷ st))
  unfolding run
  last_called s f n h is e ss st =
      ap (λ o. and_then o (run columns ss))
      (h (is ++ st) ∙ ap (λ m. with_last f m (is ++ st)) (sym e) ∙ last_taken f is st)
      ∙ and_then-assoc (f (reverse is)) (λ i. answers (i ∷ st)) (run columns ss)

  call_leaves : (ps : List Step) (o : Outcome (List Item)) (s : Step) (f : List Item → Outcome Item)
      (n : ℕ) → LeaveAll ps o → Counts o n → TakesLast s f n
      → Leaves [] (ps ++ (s ∷ [])) (of_items f o)
  call_leaves ps o s f n h k j = λ ss st.
      ap (λ zs. run columns zs st) (append_assoc ps (s ∷ []) ss)
      ∙ h (s ∷ ss) st
      ∙ and_then-there o _ _ (λ is e. last_called s f n j is (k is e) ss st)
      ∙ sym (and_then-assoc o (λ is. f (reverse is)) (λ i. run columns ss (i ∷ st)))

  -- no step, and a condition with its value
  none_leave : LeaveAll [] (answers [])
  none_leave = λ ss st. refl

  none_count : Counts (answers []) 0
  none_count is e = let same : [] ≡ is = cc in ap length (sym same)

  pair_leaves : (ps qs rs : List Step) (o : Outcome (List Item)) (p r : Outcome Item)
      → LeaveAll ps o → Leaves [] qs p → Leaves [] rs r
      → LeaveAll ((ps ++ qs) ++ rs) (with_item (with_item o p) r)
  pair_leaves ps qs rs o p r h k j =
      one_more (ps ++ qs) rs (with_item o p) r (one_more ps qs o p h k) j

  pair_count : (o : Outcome (List Item)) (p r : Outcome Item) (b : Bool) (n : ℕ)
      → Counts o (case_count b n false)
      → Counts (with_item (with_item o p) r) (case_count b (suc n) false)
  pair_count o p r b n h is e =
      count_more (with_item o p) r _ (count_more o p _ h) is e ∙ omega arith

  else_count : (o : Outcome (List Item)) (p : Outcome Item) (b : Bool) (n : ℕ)
      → Counts o (case_count b n false) → Counts (with_item o p) (case_count b n true)
  else_count o p b n h is e = count_more o p _ h is e ∙ omega arith

  counted : (args : Arguments) (o : Outcome (List Item)) (n : ℕ) → Counts o n
      → Counts (items_by columns o args) (argument_count args + n)
  counted no_arguments o n h = λ is e. h is e ∙ omega arith
  counted (argument args a) o n h =
      λ is e. count_more (items_by columns o args) (item_by columns a) _ (counted args o n h) is e
      ∙ omega arith

  applied_count : (args : Arguments) (o : Outcome (List Item)) (p : Outcome Item)
      → Counts o (argument_count args + 0) → Counts (with_item o p) (suc (argument_count args))
  applied_count args o p h is e = count_more o p _ h is e ∙ omega arith

  listed_count : (args : Arguments) (o : Outcome (List Item)) (p : Outcome Item)
      → Counts o (argument_count args + 1)
      → Counts (with_item o p) (suc (suc (argument_count args)))
  listed_count args o p h is e = count_more o p _ h is e ∙ omega arith

  branches_counted : (bs : Branches)
      → Counts (branches_by columns bs) (case_count (has_operand bs) (branch_count bs) false)
  branches_counted without_operand = none_count
  branches_counted (of_operand a) = count_more (answers []) (item_by columns a) 0 none_count
  branches_counted (branch bs c v) =
      pair_count (branches_by columns bs) (item_by columns c) (item_by columns v) (has_operand bs)
      (branch_count bs) (branches_counted bs)

  mutual
    pub leaves : (t : Syntax) → Leaves [] (postfix t) (item_by columns t)
    leaves (operand t) = last [] _ _ (λ st. refl)
    leaves (negative ds) = last [] _ _ (λ st. refl)
    leaves (typed a w n) =
        next [] (postfix a) _ _ (typed_by columns.has_kinds w n) (leaves a) (λ i. last (i ∷ []) _ _ (λ st. refl))
    leaves (titled w bs) =
        next [] (step.operand (text bs) ∷ []) (step.typed w false ∷ []) _
        (typed_by columns.has_kinds w false) (last [] _ _ (λ st. refl))
        (λ i. last (i ∷ []) (step.typed w false) _ (λ st. refl))
    leaves (measured w t u) =
        next [] (step.operand t ∷ []) (step.typed u false ∷ []) _
        (typed_by columns.has_kinds u false) (last [] _ _ (λ st. refl))
        (λ i. last (i ∷ []) (step.typed u false) _ (λ st. refl))
    leaves (grouped a) = leaves a
    leaves (negated a) =
        next [] (postfix a) _ _ not_item (leaves a) (λ i. last (i ∷ []) _ _ (λ st. refl))
    leaves (joined o a b) =
        next [] (postfix a) _ _ (λ x. and_then (item_by columns b) (joined_item o x)) (leaves a)
        (λ x. next (x ∷ []) (postfix b) _ _ (joined_item o x) (leaves b)
        (λ y. last (y ∷ x ∷ []) _ _ (λ st. refl)))
    leaves (tested k n a) =
        next [] (postfix a) _ _ (tested_item (test_of k) n) (leaves a)
        (λ i. last (i ∷ []) _ _ (λ st. refl))
    leaves (null_tested n a) =
        next [] (postfix a) _ _ (tested_item test.Null n) (leaves a)
        (λ i. last (i ∷ []) _ _ (λ st. refl))
    leaves (plus a) =
        next [] (postfix a) _ _ plus_item (leaves a) (λ i. last (i ∷ []) _ _ (λ st. refl))
    leaves (bit_not a) =
        next [] (postfix a) _ _ bit_not_item (leaves a) (λ i. last (i ∷ []) _ _ (λ st. refl))
    leaves (distinct n a b) =
        next [] (postfix a) _ _ (λ x. and_then (item_by columns b) (distinct_item n x)) (leaves a)
        (λ x. next (x ∷ []) (postfix b) _ _ (distinct_item n x) (leaves b)
        (λ y. last (y ∷ x ∷ []) _ _ (λ st. refl)))
    leaves (between k a low high) =
        next [] (postfix a) _ _
        (λ x. and_then (item_by columns low) (λ y. and_then (item_by columns high) (between_item k x y)))
        (leaves a)
        (λ x. next (x ∷ []) (postfix low) _ _
        (λ y. and_then (item_by columns high) (between_item k x y)) (leaves low)
        (λ y. next (y ∷ x ∷ []) (postfix high) _ _ (between_item k x y) (leaves high)
        (λ z. last (z ∷ y ∷ x ∷ []) _ _ (λ st. refl))))
    leaves (matched k a p None) =
        next [] (postfix a) _ _ (λ x. and_then (item_by columns p) (matched_item k None x)) (leaves a)
        (λ x. next (x ∷ []) (postfix p) _ _ (matched_item k None x) (leaves p)
        (λ y. last (y ∷ x ∷ []) _ _ (λ st. refl)))
    leaves (matched k a p (Some e)) =
        next [] (postfix a) _ _ (λ x. and_then (item_by columns p) (matched_item k (Some e) x))
        (leaves a)
        (λ x. next (x ∷ []) (postfix p) _ _ (matched_item k (Some e) x) (leaves p)
        (λ y. last (y ∷ x ∷ []) _ _ (λ st. refl)))
    leaves (converted a w n) =
        next [] (postfix a) _ _ (cast_by columns.has_kinds false w n) (leaves a)
        (λ i. last (i ∷ []) _ _ (λ st. refl))
    leaves (cast p a w n) =
        next [] (postfix a) _ _ (cast_by columns.has_kinds p w n) (leaves a) (λ i. last (i ∷ []) _ _ (λ st. refl))
    leaves (minus a) =
        next [] (postfix a) _ _ minus_item (leaves a) (λ i. last (i ∷ []) _ _ (λ st. refl))
    leaves (nullary p w) =
        last [] _ (item_by columns (nullary p w)) (λ st.
        last_taken (applied_by columns.has_kinds w) [] st)
    leaves (applied p w args a) = λ ss st.
        let n = suc (argument_count args) in
        let s : Step = step.applied w n in
        ap (λ zs. run columns (zs ++ ss) st)
        (sym (append_assoc (all_postfix args) (postfix a) (s ∷ [])))
        ∙ call_leaves _ _ s (applied_by columns.has_kinds w) n
        (one_more (all_postfix args) (postfix a) _ _ (all_leave args [] _ none_leave) (leaves a))
        (applied_count args _ _ (counted args _ 0 none_count)) (λ st. refl) ss st
    leaves (extracted p f w a) = λ ss st.
        let word : List Step = step.operand (text w) ∷ [] in
        let field = operand_by columns (text w) in
        let first = with_item (answers []) field in
        call_leaves (word ++ postfix a) (with_item first (item_by columns a)) (step.applied f 2)
        (applied_by columns.has_kinds f) 2
        (one_more word (postfix a) first (item_by columns a)
        (one_more [] word (answers []) field none_leave
        (last [] (step.operand (text w)) field (λ st. refl))) (leaves a))
        (count_more first (item_by columns a) 1 (count_more (answers []) field 0 none_count))
        (λ st. refl) ss st
    leaves (parted p f s a) = λ ss st.
        let last : Step = step.applied f 2 in
        let first = with_item (answers []) (item_by columns s) in
        ap (λ zs. run columns (zs ++ ss) st)
        (sym (append_assoc (postfix s) (postfix a) (last ∷ [])))
        ∙ call_leaves (postfix s ++ postfix a) (with_item first (item_by columns a)) last
        (applied_by columns.has_kinds f) 2
        (one_more (postfix s) (postfix a) first (item_by columns a)
        (one_more [] (postfix s) (answers []) (item_by columns s) none_leave (leaves s)) (leaves a))
        (count_more first (item_by columns a) 1
        (count_more (answers []) (item_by columns s) 0 none_count))
        (λ st. refl) ss st
    leaves (placed p f a b) = λ ss st.
        let last : Step = step.applied f 2 in
        let first = with_item (answers []) (item_by columns a) in
        ap (λ zs. run columns (zs ++ ss) st)
        (sym (append_assoc (postfix a) (postfix b) (last ∷ [])))
        ∙ call_leaves (postfix a ++ postfix b) (with_item first (item_by columns b)) last
        (applied_by columns.has_kinds f) 2
        (one_more (postfix a) (postfix b) first (item_by columns b)
        (one_more [] (postfix a) (answers []) (item_by columns a) none_leave (leaves a)) (leaves b))
        (count_more first (item_by columns b) 1
        (count_more (answers []) (item_by columns a) 0 none_count))
        (λ st. refl) ss st
    leaves (trimmed p f d a) =
        next [] (postfix a) _ _ (trimmed_item columns.has_kinds d) (leaves a)
        (λ i. last (i ∷ []) _ _ (λ st. refl))
    leaves (trimmed_by p f o c a) =
        next [] (postfix c) _ _
        (λ x. and_then (item_by columns a) (trimmed_by_item columns.has_kinds (side_of o) x))
        (leaves c)
        (λ x. next (x ∷ []) (postfix a) _ _ (trimmed_by_item columns.has_kinds (side_of o) x)
        (leaves a) (λ y. last (y ∷ x ∷ []) _ _ (λ st. refl)))
    leaves (parted_for p f s a w b) = λ ss st.
        let last : Step = step.applied f 3 in
        let first = with_item (answers []) (item_by columns s) in
        let two = with_item first (item_by columns a) in
        let steps : List Step = postfix s ++ postfix a in
        ap (λ zs. run columns (zs ++ ss) st)
        (sym (append_assoc steps (postfix b) (last ∷ [])
        ∙ append_assoc (postfix s) (postfix a) (postfix b ++ (last ∷ []))))
        ∙ call_leaves (steps ++ postfix b) (with_item two (item_by columns b)) last
        (applied_by columns.has_kinds f) 3
        (one_more steps (postfix b) two (item_by columns b)
        (one_more (postfix s) (postfix a) first (item_by columns a)
        (one_more [] (postfix s) (answers []) (item_by columns s) none_leave (leaves s)) (leaves a))
        (leaves b))
        (count_more two (item_by columns b) 2
        (count_more first (item_by columns a) 1
        (count_more (answers []) (item_by columns s) 0 none_count)))
        (λ st. refl) ss st
    leaves (listed n a args b) = λ ss st.
        let k = suc (argument_count args) in
        let s : Step = step.listed n k in
        let first = one_more [] (postfix a) (answers []) (item_by columns a) none_leave (leaves a) in
        let some = all_leave args (postfix a) _ first in
        ap (λ zs. run columns (zs ++ ss) st)
        (ap (λ zs. postfix a ++ zs) (sym (append_assoc (all_postfix args) (postfix b) (s ∷ [])))
        ∙ sym (append_assoc (postfix a) (all_postfix args ++ postfix b) (s ∷ []))
        ∙ ap (λ zs. zs ++ (s ∷ [])) (sym (append_assoc (postfix a) (all_postfix args) (postfix b))))
        ∙ call_leaves _ _ s (listed_item n) (suc k)
        (one_more (postfix a ++ all_postfix args) (postfix b) _ _ some (leaves b))
        (listed_count args _ _ (counted args _ 1 (count_more (answers []) _ 0 none_count)))
        (λ st. refl) ss st
    leaves (chosen bs c v) = λ ss st.
        let k = suc (branch_count bs) in
        let s : Step = step.chosen (has_operand bs) k false in
        ap (λ zs. run columns (zs ++ ss) st)
        (sym (append_assoc (branches_postfix bs) (postfix c ++ postfix v) (s ∷ [])
        ∙ ap (λ zs. branches_postfix bs ++ zs) (append_assoc (postfix c) (postfix v) (s ∷ []))))
        ∙ ap (λ zs. run columns ((zs ++ (s ∷ [])) ++ ss) st)
        (sym (append_assoc (branches_postfix bs) (postfix c) (postfix v)))
        ∙ call_leaves _ _ s (chosen_item (has_operand bs)) (case_count (has_operand bs) k false)
        (pair_leaves (branches_postfix bs) (postfix c) (postfix v) _ _ _ (branches_leave bs)
        (leaves c) (leaves v))
        (pair_count _ _ _ (has_operand bs) (branch_count bs) (branches_counted bs)) (λ st. refl)
        ss st
    leaves (chosen_else bs c v e) = λ ss st.
        let k = suc (branch_count bs) in
        let s : Step = step.chosen (has_operand bs) k true in
        let front = (branches_postfix bs ++ postfix c) ++ postfix v in
        ap (λ zs. run columns (zs ++ ss) st)
        (sym (append_assoc (branches_postfix bs) (postfix c)
        (postfix v ++ (postfix e ++ (s ∷ []))))
        ∙ sym (append_assoc (branches_postfix bs ++ postfix c) (postfix v) (postfix e ++ (s ∷ [])))
        ∙ sym (append_assoc front (postfix e) (s ∷ [])))
        ∙ call_leaves _ _ s (chosen_item (has_operand bs)) (case_count (has_operand bs) k true)
        (one_more front (postfix e) _ _
        (pair_leaves (branches_postfix bs) (postfix c) (postfix v) _ _ _ (branches_leave bs)
        (leaves c) (leaves v)) (leaves e))
        (else_count _ _ (has_operand bs) k
        (pair_count _ _ _ (has_operand bs) (branch_count bs) (branches_counted bs))) (λ st. refl)
        ss st

    all_leave : (args : Arguments) (ps : List Step) (o : Outcome (List Item)) → LeaveAll ps o
        → LeaveAll (ps ++ all_postfix args) (items_by columns o args)
    all_leave no_arguments ps o h = λ ss st.
        ap (λ zs. run columns (zs ++ ss) st) (append-nil ps) ∙ h ss st
    all_leave (argument args a) ps o h = λ ss st.
        ap (λ zs. run columns (zs ++ ss) st) (sym (append_assoc ps (all_postfix args) (postfix a)))
        ∙ one_more (ps ++ all_postfix args) (postfix a) (items_by columns o args) (item_by columns a)
        (all_leave args ps o h) (leaves a) ss st

    branches_leave : (bs : Branches) → LeaveAll (branches_postfix bs) (branches_by columns bs)
    branches_leave without_operand = none_leave
    branches_leave (of_operand a) =
        one_more [] (postfix a) (answers []) (item_by columns a) none_leave (leaves a)
    branches_leave (branch bs c v) = λ ss st.
        ap (λ zs. run columns (zs ++ ss) st)
        (sym (append_assoc (branches_postfix bs) (postfix c) (postfix v)))
        ∙ pair_leaves (branches_postfix bs) (postfix c) (postfix v) _ _ _ (branches_leave bs)
        (leaves c) (leaves v) ss st

  -- the only item of an expression
  pub left-is : {A : Type 0} (final : Item → Outcome A) (t : Syntax)
      → and_then (run columns (postfix t) []) (left_as final)
      ≡ and_then (item_by columns t) final
  unfolding run
  left-is final t =
      ap (λ ss. and_then (run columns ss []) (left_as final)) (sym (append-nil (postfix t)))
      ∙ ap (λ o. and_then o (left_as final)) (leaves t [] [])
      ∙ and_then-assoc (item_by columns t) (λ i. answers (i ∷ [])) (left_as final)

pub tree_left-is : (scope : Fields) (t : Syntax) → tree_left scope (postfix t) ≡ tree_of scope t
tree_left-is scope t = left-is (names_of scope) (settled None) t
