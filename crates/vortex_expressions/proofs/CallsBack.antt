-- The syntax of a tree binds to that tree.
use Rattle.std.proofs.Common.{◌≡◌, ℕ, Bool, true, false, ◌==◌, ◌&&◌, [], ◌∷◌, length, Option, Some}
use Rattle.std.proofs.Common.{None, refl, ap, sym, ◌∙◌}
use Rattle.std.specs.Prelude.{codes, ⊤, MatchOption, if◌then◌else◌, is_some, IsUtf8, encode_utf8}
use Rattle.std.specs.Str.{chars}
use Rattle.std.specs.Char.{IsScalar}
use Rattle.std.proofs.lemmas.Bool.{eqb-true, false≢true}
use Rattle.std.proofs.lemmas.Str.{IsUtf8-nil, IsUtf8-encode, chars-nil, chars_past_char}
use Rattle.std.proofs.lemmas.List.{append-nil}
use Rattle.vortex_types.specs.LogicalTypes.{Fields, LogicalType, bool_type, text_type}
use Rattle.vortex_operators.specs.declared.operators.Operator.{Operator}
use Rattle.vortex_operators.specs.declared.operators.Operator.TheVariants as operator
use Rattle.vortex_operators.specs.declared.between.BetweenOptions.{BetweenOptions}
use Rattle.vortex_operators.specs.declared.between.StrictComparison.{StrictComparison}
use Rattle.vortex_operators.specs.declared.between.StrictComparison.TheVariants.{Strict, NonStrict}
use Rattle.vortex_like.specs.declared.options.LikeOptions.{LikeOptions}
use Rattle.vortex_like.specs.Tokens.{backslash}
use Rattle.vortex_interface.specs.OptionBytes.{HasCharacters}
use Rattle.vortex_interface.specs.Shipped.{Shipped, Binary, Not, NullTest, Cast, Between, Like}
use Rattle.vortex_interface.specs.Functions.{ours, custom}
use Rattle.vortex_interface.specs.Eval.{tree_type, leaf_type}
use Rattle.vortex_interface.specs.Trees as trees
use Rattle.vortex_interface.specs.Trees.{place, held, leaf, constant, call, no_trees, list_of}
use Rattle.vortex_interface.specs.declared.options.EmptyOptions.{EmptyOptions}
use Rattle.vortex_standard.specs.declared.standard.Standard.{Standard}
use Rattle.vortex_syntax.specs.Syntax.{Null}
use Rattle.vortex_syntax.specs.declared.step.Test.TheVariants as test
use Rattle.vortex_syntax.specs.declared.step.LikeKind.{LikeKind}
use Rattle.vortex_syntax.specs.Syntax.{Syntax, operand, negated, tested, cast}
use Rattle.vortex_syntax.specs.Levels.{left, right, not_level, is_level, concat_level}
use Rattle.vortex_syntax.specs.Writing.{name_token, doubled}
use Rattle.vortex_expressions.specs.Outcomes.{answers, and_then, or_refuses}
use Rattle.vortex_expressions.specs.declared.refusal.Refusal.TheVariants.{NoEscape}
use Rattle.vortex_cells.specs.Escapes.{escape_of}
use Rattle.vortex_expressions.specs.Items.{Item, Tree, meaning, common_type, settled, called}
use Rattle.vortex_expressions.specs.Calls.{as_item, cast_to, cast_item, truth_type, joined_type}
use Rattle.vortex_expressions.specs.Calls.{not_item, not_truth, joined_item, tested_item}
use Rattle.vortex_expressions.specs.Calls.{within_bounds}
use Rattle.vortex_expressions.specs.Calls.{is_concat}
use Rattle.vortex_expressions.specs.Calls.{between_item, escape_said, liked_item, matched_item}
use Rattle.vortex_expressions.specs.Binding.{item_of, tree_of}
use Rattle.vortex_expressions.specs.Writing.{at_level, joined_syntax, written_operator}
use Rattle.vortex_expressions.specs.Writing.{is_non_strict, is_within, between_syntax, like_kind}
use Rattle.vortex_expressions.specs.Writing.{plain_kind}
use Rattle.vortex_expressions.specs.Writing.{escape_written, matched_syntax, all_three}
use Rattle.vortex_expressions.specs.Writing.{shipped_syntax, syntax_of, syntaxes_of, IsOver}
use Rattle.vortex_expressions.specs.Writing.{AllOver}
use Rattle.vortex_expressions.proofs.Options.{some_is, both_is, three_is, mapped_is, where_is}
use Rattle.vortex_expressions.proofs.LiteralsBack.{quoted_text, Standing, tree_standing}
use Rattle.vortex_expressions.proofs.LiteralsBack.{at_level_item, column_standing, bool_back}
use Rattle.vortex_expressions.proofs.LiteralsBack.{constant_standing}
use Rattle.vortex_expressions.proofs.PlainItems.{joined_plain, between_plain}
use Rattle.vortex_expressions.proofs.Beside.{stands_plain, stands_stored}
use Rattle.vortex_expressions.proofs.Beside.{settles, no_option, Operand, three_beside, none_beside}
use Rattle.vortex_expressions.proofs.Beside.{other_beside, settled_operand, operator_pair}
use Rattle.vortex_expressions.proofs.Beside.{operator_back, bounded_alike}
use Rattle.vortex_expressions.proofs.TruthsBack.{truth_stays, parts_stay, not_takes}
use Rattle.vortex_expressions.proofs.TypedCalls.{arity_is, not_one, not_two, not_three, one_called}
use Rattle.vortex_expressions.proofs.TypedCalls.{two_called, three_called, typed_one, typed_two}
use Rattle.vortex_expressions.proofs.TypedCalls.{typed_three}
use Rattle.vortex_expressions.proofs.NamedBack.{EachStood, named_stands}

abbrev Trees : Type 0
Trees = trees.Trees Standard EmptyOptions

-- the options of BETWEEN and of LIKE
within_by : (x y : StrictComparison) → (is_non_strict x && is_non_strict y) ≡ true
    → within_bounds ≡ record { lower_strict = x; upper_strict = y }
within_by NonStrict NonStrict h = refl
within_by NonStrict Strict h = absurd (false≢true h)
within_by Strict y h = absurd (false≢true h)

within_is : (o : BetweenOptions) → is_within o ≡ true → within_bounds ≡ o
within_is o h = within_by o.lower_strict o.upper_strict h

escape_back : (k : LikeKind) (e : Option ℕ) (a p : Item) → MatchOption e ⊤ IsScalar
    → matched_item k (escape_written e) a p ≡ liked_item k e a p
escape_back k None a p h =
    ap (λ v. and_then (and_then v escape_said) (λ c. liked_item k c a p))
    (quoted_text 39 [] IsUtf8-nil)
    ∙ ap (λ cs. and_then (or_refuses NoEscape (escape_of cs)) (λ c. liked_item k c a p)) chars-nil
escape_back k (Some c) a p h = by (c == backslash) refl
  where
    u : IsUtf8 (encode_utf8 c)
    u = IsUtf8-encode c h

    one : chars (encode_utf8 c) ≡ c ∷ []
    one = chars_past_char (encode_utf8 c) [] c u (sym (append-nil (encode_utf8 c)))
        ∙ ap (λ cs. c ∷ cs) chars-nil

    by : (b : Bool) → (c == backslash) ≡ b
        → matched_item k (if b then None else Some (doubled 39 (encode_utf8 c))) a p
        ≡ liked_item k (Some c) a p
    by true e = ap (λ v. liked_item k (Some v) a p) (sym (eqb-true c backslash e))
    by false e =
        ap (λ v. and_then (and_then v escape_said) (λ v. liked_item k v a p))
        (quoted_text 39 (encode_utf8 c) u)
        ∙ ap (λ cs. and_then (or_refuses NoEscape (escape_of cs)) (λ v. liked_item k v a p)) one

-- calls
-- no shipped operator joins texts
no_concat : (o : Operator) → is_concat (written_operator o) ≡ false
no_concat operator.Or = refl
no_concat operator.And = refl
no_concat operator.Eq = refl
no_concat operator.NotEq = refl
no_concat operator.Lt = refl
no_concat operator.Lte = refl
no_concat operator.Gt = refl
no_concat operator.Gte = refl
no_concat operator.Add = refl
no_concat operator.Sub = refl
no_concat operator.Mul = refl
no_concat operator.Div = refl

module _ (scope : Fields) where
  placed : (l : ℕ) (a : Syntax) (t : Tree) (s : Standing scope a t)
      → item_of scope (at_level l a) ≡ answers s.item
  placed l a t s = at_level_item scope l a ∙ s.is

  abbrev operand_of : (a : Syntax) (t : Tree) (s : Standing scope a t) (ty : LogicalType)
      → tree_type meaning t ≡ Some ty → Operand t
  operand_of a t s ty e = record { item = s.item; stands = s.stands; dtype = ty; typed = e }

  not_stands : (ts : Trees) (a : Syntax) → is_some (tree_type meaning (call (ours Not) ts)) ≡ true
      → EachStood scope ts → shipped_syntax Not (syntaxes_of ts) ≡ Some a
      → Standing scope a (call (ours Not) ts)
  not_stands no_trees a h k e = absurd cc
  not_stands (trees.tree x (trees.tree y ts)) a h k e =
      absurd (not_one (length (list_of ts))
      (arity_is (ours Not) (trees.tree x (trees.tree y ts)) h))
  not_stands (trees.tree x no_trees) a h k e =
      let m = mapped_is (λ b. negated (at_level not_level b)) (syntax_of x) a e in
      let s = k.0 m.a m.there in
      let t = typed_one (ours Not) x h in
      let p = operand_of m.a x s t.first t.first_typed in
      tree_standing scope a (call (ours Not) (trees.tree x no_trees))
      (ap (item_of scope) (sym m.made)
      ∙ ap (λ i. and_then i not_item) (placed not_level m.a x s)
      ∙ ap (λ o. and_then o not_truth)
      (truth_stays p.item x p.dtype p.stands p.typed (not_takes t.first t.taken))
      ∙ ap as_item
      (one_called (ours Not) truth_type p.item x
      (settled_operand truth_type p (other_beside (bool_type false) p.dtype refl)) h))

  test_stands : (n : Bool) (ts : Trees) (a : Syntax)
      → is_some (tree_type meaning (call (ours (NullTest n)) ts)) ≡ true → EachStood scope ts
      → shipped_syntax (NullTest n) (syntaxes_of ts) ≡ Some a
      → Standing scope a (call (ours (NullTest n)) ts)
  test_stands n no_trees a h k e = absurd cc
  test_stands n (trees.tree x (trees.tree y ts)) a h k e =
      absurd (not_one (length (list_of ts))
      (arity_is (ours (NullTest n)) (trees.tree x (trees.tree y ts)) h))
  test_stands n (trees.tree x no_trees) a h k e =
      let m = mapped_is (λ b. tested Null n (at_level is_level b)) (syntax_of x) a e in
      let s = k.0 m.a m.there in
      let t = typed_one (ours (NullTest n)) x h in
      let p = operand_of m.a x s t.first t.first_typed in
      tree_standing scope a (call (ours (NullTest n)) (trees.tree x no_trees))
      (ap (item_of scope) (sym m.made)
      ∙ ap (λ i. and_then i (tested_item test.Null n)) (placed is_level m.a x s)
      ∙ ap (λ i. as_item (called (ours (NullTest n)) None (i ∷ [])))
      (stands_stored p.item x s.stands)
      ∙ ap as_item
      (one_called (ours (NullTest n)) None p.item x
      (settled_operand None p (none_beside p.dtype)) h))

  cast_stands : (ts : Trees) (a : Syntax) → is_some (tree_type meaning (call (ours Cast) ts)) ≡ true
      → EachStood scope ts → shipped_syntax Cast (syntaxes_of ts) ≡ Some a
      → Standing scope a (call (ours Cast) ts)
  cast_stands no_trees a h k e = absurd cc
  cast_stands (trees.tree x (trees.tree y ts)) a h k e =
      absurd (not_one (length (list_of ts))
      (arity_is (ours Cast) (trees.tree x (trees.tree y ts)) h))
  cast_stands (trees.tree x no_trees) a h k e =
      let m = mapped_is (λ b. cast false b (codes "bool") true) (syntax_of x) a e in
      let s = k.0 m.a m.there in
      let t = typed_one (ours Cast) x h in
      let p = operand_of m.a x s t.first t.first_typed in
      tree_standing scope a (call (ours Cast) (trees.tree x no_trees))
      (ap (item_of scope) (sym m.made)
      ∙ ap (λ i. and_then i (cast_item false (codes "bool") true)) s.is
      ∙ ap (λ v. as_item (and_then v (cast_to false p.item))) (bool_back true)
      ∙ ap as_item
      (one_called (ours Cast) (Some (bool_type true)) p.item x
      (settled_operand (Some (bool_type true)) p (other_beside (bool_type true) p.dtype refl))
      h))

  binary_stands : (o : Operator) (ts : Trees) (a : Syntax)
      → is_some (tree_type meaning (call (ours (Binary o)) ts)) ≡ true → EachStood scope ts
      → shipped_syntax (Binary o) (syntaxes_of ts) ≡ Some a
      → Standing scope a (call (ours (Binary o)) ts)
  binary_stands o no_trees a h k e = absurd cc
  binary_stands o (trees.tree x no_trees) a h k e = let m =
      both_is (joined_syntax (written_operator o)) (syntax_of x) None a e in
      absurd (no_option m.b m.second)
  binary_stands o (trees.tree x (trees.tree y (trees.tree z ts))) a h k e =
      absurd (not_two (length (list_of ts))
      (arity_is (ours (Binary o)) (trees.tree x (trees.tree y (trees.tree z ts))) h))
  binary_stands o (trees.tree x (trees.tree y no_trees)) a h k e =
      let w = written_operator o in
      let m = both_is (joined_syntax w) (syntax_of x) (syntax_of y) a e in
      let s = k.0 m.a m.first in
      let r = k.1.0 m.b m.second in
      let t = typed_two (ours (Binary o)) x y h in
      let p = operand_of m.a x s t.first t.first_typed in
      let q = operand_of m.b y r t.second t.second_typed in
      let beside = joined_type w (p.item ∷ q.item ∷ []) in
      let pair = operator_pair o p q t.taken in
      tree_standing scope a (call (ours (Binary o)) (trees.tree x (trees.tree y no_trees)))
      (ap (item_of scope) (sym m.made)
      ∙ ap (λ i. and_then i
      (λ v. and_then (item_of scope (at_level (right w) m.b)) (joined_item w v)))
      (placed (left w) m.a x s)
      ∙ ap (λ i. and_then i (joined_item w p.item)) (placed (right w) m.b y r)
      ∙ joined_plain w p.item q.item (no_concat o) (stands_plain p.item x s.stands)
      (stands_plain q.item y r.stands)
      ∙ parts_stay o p q t.taken
      ∙ ap (λ f. as_item (called f beside (p.item ∷ q.item ∷ []))) (operator_back o)
      ∙ ap as_item
      (two_called (ours (Binary o)) beside p.item q.item x y
      (settled_operand beside p pair.first) (settled_operand beside q pair.second) h))

  like_stands : (o : LikeOptions) (ts : Trees) (a : Syntax) → HasCharacters (Like o)
      → is_some (tree_type meaning (call (ours (Like o)) ts)) ≡ true → EachStood scope ts
      → shipped_syntax (Like o) (syntaxes_of ts) ≡ Some a
      → Standing scope a (call (ours (Like o)) ts)
  like_stands o no_trees a c h k e = absurd cc
  like_stands o (trees.tree x no_trees) a c h k e = let m =
      both_is (matched_syntax o) (syntax_of x) None a e in absurd (no_option m.b m.second)
  like_stands o (trees.tree x (trees.tree y (trees.tree z ts))) a c h k e =
      absurd (not_two (length (list_of ts))
      (arity_is (ours (Like o)) (trees.tree x (trees.tree y (trees.tree z ts))) h))
  like_stands o (trees.tree x (trees.tree y no_trees)) a c h k e =
      let m = both_is (matched_syntax o) (syntax_of x) (syntax_of y) a e in
      let s = k.0 m.a m.first in
      let r = k.1.0 m.b m.second in
      let t = typed_two (ours (Like o)) x y h in
      let p = operand_of m.a x s t.first t.first_typed in
      let q = operand_of m.b y r t.second t.second_typed in
      let beside = Some (text_type false) in
      tree_standing scope a (call (ours (Like o)) (trees.tree x (trees.tree y no_trees)))
      (ap (item_of scope) (sym m.made)
      ∙ ap (λ i. and_then i
      (λ v. and_then (item_of scope (at_level concat_level m.b))
      (matched_item (like_kind o) (escape_written o.escape) v))) (placed concat_level m.a x s)
      ∙ ap (λ i. and_then i (matched_item (like_kind o) (escape_written o.escape) p.item))
      (placed concat_level m.b y r)
      ∙ escape_back (like_kind o) o.escape p.item q.item c
      ∙ ap as_item
      (two_called (ours (Like o)) beside p.item q.item x y
      (settled_operand beside p (other_beside (text_type false) p.dtype refl))
      (settled_operand beside q (other_beside (text_type false) q.dtype refl)) h))

  between_stands : (o : BetweenOptions) (ts : Trees) (a : Syntax)
      → is_some (tree_type meaning (call (ours (Between o)) ts)) ≡ true → EachStood scope ts
      → shipped_syntax (Between o) (syntaxes_of ts) ≡ Some a
      → Standing scope a (call (ours (Between o)) ts)
  between_stands o no_trees a h k e = absurd (no_option a (where_is (is_within o) None a e).there)
  between_stands o (trees.tree x no_trees) a h k e =
      let g = where_is (is_within o) (all_three between_syntax (syntax_of x) None None) a e in
      let m = three_is between_syntax (syntax_of x) None None a g.there in
      absurd (no_option m.b m.second)
  between_stands o (trees.tree x (trees.tree y no_trees)) a h k e =
      let g = where_is (is_within o)
      (all_three between_syntax (syntax_of x) (syntax_of y) None) a e in
      let m = three_is between_syntax (syntax_of x) (syntax_of y) None a g.there in
      absurd (no_option m.c m.third)
  between_stands o (trees.tree x (trees.tree y (trees.tree z (trees.tree v ts)))) a h k e =
      absurd (not_three (length (list_of ts))
      (arity_is (ours (Between o))
      (trees.tree x (trees.tree y (trees.tree z (trees.tree v ts)))) h))
  between_stands o (trees.tree x (trees.tree y (trees.tree z no_trees))) a h k e =
      let g = where_is (is_within o)
      (all_three between_syntax (syntax_of x) (syntax_of y) (syntax_of z)) a e in
      let m = three_is between_syntax (syntax_of x) (syntax_of y) (syntax_of z) a g.there in
      let s = k.0 m.a m.first in
      let r = k.1.0 m.b m.second in
      let u = k.1.1.0 m.c m.third in
      let t = typed_three (ours (Between o)) x y z h in
      let p = operand_of m.a x s t.first t.first_typed in
      let q = operand_of m.b y r t.second t.second_typed in
      let w = operand_of m.c z u t.third t.third_typed in
      let is = p.item ∷ q.item ∷ w.item ∷ [] in
      let beside = common_type is in
      let b = bounded_alike t.first t.second t.third t.taken in
      let low = at_level concat_level m.b in
      let high = at_level concat_level m.c in
      let first = three_beside p q w t.first refl (sym b.lower) (sym b.upper) in
      let second = three_beside p q w t.second b.lower refl (sym b.upper ∙ b.lower) in
      let third = three_beside p q w t.third b.upper (sym b.lower ∙ b.upper) refl in
      tree_standing scope a
      (call (ours (Between o)) (trees.tree x (trees.tree y (trees.tree z no_trees))))
      (ap (item_of scope) (sym m.made)
      ∙ ap (λ i. and_then i
      (λ v. and_then (item_of scope low)
      (λ l. and_then (item_of scope high) (between_item plain_kind v l)))) (placed concat_level m.a x s)
      ∙ ap (λ i. and_then i (λ l. and_then (item_of scope high) (between_item plain_kind p.item l)))
      (placed concat_level m.b y r)
      ∙ ap (λ i. and_then i (between_item plain_kind p.item q.item)) (placed concat_level m.c z u)
      ∙ ap (λ v. as_item (and_then v (λ t. answers t)))
      (between_plain p.item q.item w.item (stands_plain p.item x s.stands)
      (stands_plain q.item y r.stands) (stands_plain w.item z u.stands))
      ∙ ap (λ v. as_item (and_then (called (ours (Between v)) beside is) (λ t. answers t)))
      (within_is o g.so)
      ∙ ap (λ v. as_item (and_then v (λ t. answers t)))
      (three_called (ours (Between o)) beside p.item q.item w.item x y z
      (settled_operand beside p first) (settled_operand beside q second)
      (settled_operand beside w third) h))

  call_stands : (s : Shipped) (ts : Trees) (a : Syntax) → HasCharacters s
      → is_some (tree_type meaning (call (ours s) ts)) ≡ true → EachStood scope ts
      → shipped_syntax s (syntaxes_of ts) ≡ Some a
      → Standing scope a (call (ours s) ts)
  call_stands (Binary o) ts a c h k e = binary_stands o ts a h k e
  call_stands Not ts a c h k e = not_stands ts a h k e
  call_stands (NullTest n) ts a c h k e = test_stands n ts a h k e
  call_stands Cast ts a c h k e = cast_stands ts a h k e
  call_stands (Between o) ts a c h k e = between_stands o ts a h k e
  call_stands (Like o) ts a c h k e = like_stands o ts a c h k e

  mutual
    pub standing_of : (t : Tree) (a : Syntax) → IsOver scope t → syntax_of t ≡ Some a
        → Standing scope a t
    standing_of (leaf (place p name t)) a o e =
        tree_standing scope a (leaf (place p name t))
        (ap (item_of scope) (sym (some_is (operand (name_token name)) a e))
        ∙ column_standing scope p name t o.0 o.1)
    standing_of (leaf (held c)) a o e = absurd o
    standing_of (constant s) a o e = constant_standing scope s a o e
    standing_of (call (ours s) ts) a o e = call_stands s ts a o.0 o.1 (each_stood ts o.2) e
    standing_of (call (custom f c) ts) a o e =
        named_stands scope f c ts a o.1 (each_stood ts o.2) e

    each_stood : (ts : Trees) → AllOver scope ts → EachStood scope ts
    each_stood no_trees o = tt
    each_stood (trees.tree t ts) o = (λ a e. standing_of t a o.0 e, each_stood ts o.1)

  record Rooted (t : Tree) : Type 0 where
    dtype : LogicalType
    typed : tree_type meaning t ≡ Some dtype

  there_is : (o : Option LogicalType) → is_some o ≡ true → (t : LogicalType) × (o ≡ Some t)
  there_is None h = absurd (false≢true h)
  there_is (Some t) h = (t, refl)

  rooted : (t : Tree) → IsOver scope t → Rooted t
  rooted (leaf l) o = record { dtype = leaf_type l; typed = refl }
  rooted (constant s) o = record { dtype = s.dtype; typed = refl }
  rooted (call f ts) o = let x = there_is (tree_type meaning (call f ts)) o.1 in
      record { dtype = x.0; typed = x.1 }

  pub tree_back : (t : Tree) (a : Syntax) → IsOver scope t → syntax_of t ≡ Some a
      → tree_of scope a ≡ answers t
  tree_back t a o e =
      let s = standing_of t a o e in
      let r = rooted t o in
      ap (λ i. and_then i (settled None)) s.is
      ∙ settles None s.item t r.dtype s.stands r.typed (none_beside r.dtype)
