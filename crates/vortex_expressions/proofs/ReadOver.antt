-- The meaning of an expression fits the scope that it is read over.
use Rattle.std.specs.Prelude.{codes, if◌then◌else◌}
use Rattle.std.proofs.Common.{◌≡◌, ℕ, Bool, true, false, List, [], ◌∷◌, length, Option, Some, None}
use Rattle.std.proofs.Common.{◌||◌, cond, refl, sym, subst, reverse, ◌++◌, ◌∙◌}
use Rattle.std.proofs.lemmas.List.{reverse-append}
use Rattle.std.specs.Prelude.{is_some, IsUtf8, ⊤, MatchOption}
use Rattle.std.specs.Char.{IsScalar}
use Rattle.std.specs.Str.{chars}
use Rattle.std.proofs.lemmas.Bool.{and_parts}
use Rattle.std.proofs.lemmas.Str.{scalars-chars}
use lib.Utf8.{scalar, scalars}
use Rattle.vortex_types.specs.declared.dtype.PType.{PType}
use Rattle.vortex_types.specs.LogicalTypes.{Fields, LogicalType}
use Rattle.vortex_types.specs.LogicalTypes.{text_type, integer_type, bool_type}
use Rattle.vortex_types.specs.LogicalTypes.{find_field}
use Rattle.vortex_types.specs.LogicalTypes.{is_bool_type, is_nullable}
use Rattle.vortex_errors.specs.declared.error.MismatchPlace.{MismatchPlace}
use Rattle.vortex_like.specs.Tokens.{backslash}
use Rattle.vortex_interface.specs.Shipped.{Binary, Not, NullTest, Cast, Between, Like}
use Rattle.vortex_interface.specs.Meaning.{fits}
use Rattle.vortex_interface.specs.Functions.{ours, custom, function_arity}
use Rattle.vortex_interface.specs.Eval.{tree_type, tree_types, types_or_none}
use Rattle.vortex_interface.specs.Trees.{place, leaf, constant, call, trees_of}
use Rattle.vortex_cells.specs.Escapes.{escape_of}
use Rattle.vortex_syntax.specs.declared.step.Test.{Test}
use Rattle.vortex_syntax.specs.declared.step.Test.TheVariants as test
use Rattle.vortex_syntax.specs.declared.step.WrittenOperator as syntax
use Rattle.vortex_syntax.specs.declared.step.WrittenOperator.TheVariants as written
use Rattle.vortex_syntax.specs.declared.step.LikeKind.{LikeKind}
use Rattle.vortex_syntax.specs.declared.token.Sign.{Sign}
use Rattle.vortex_syntax.specs.declared.token.Sign.TheVariants as sign
use Rattle.vortex_syntax.specs.Tokens as token
use Rattle.vortex_syntax.specs.Syntax.{Syntax, operand, negative, typed, grouped, negated, joined}
use Rattle.vortex_syntax.specs.Syntax.{minus, tested, distinct, between, matched, listed, cast}
use Rattle.vortex_syntax.specs.Syntax.{chosen, chosen_else, nullary, applied, Arguments}
use Rattle.vortex_syntax.specs.Syntax.{plus, bit_not, null_tested, converted, titled, extracted}
use Rattle.vortex_syntax.specs.Syntax.{measured}
use Rattle.vortex_syntax.specs.Syntax.{parted, parted_for, placed, trimmed, trimmed_by}
use Rattle.vortex_syntax.specs.Postfix.{side_of}
use Rattle.vortex_syntax.specs.Syntax.{no_arguments, argument, Branches, without_operand}
use Rattle.vortex_syntax.specs.Syntax.{of_operand, branch}
use Rattle.vortex_expressions.specs.Literals as literal
use Rattle.vortex_expressions.specs.Literals.{Literal, type_beside, value_at}
use Rattle.vortex_expressions.specs.Outcomes.{Outcome, answers, refuses, and_then}
use Rattle.vortex_expressions.specs.Outcomes.{or_refuses}
use Rattle.vortex_expressions.specs.declared.refusal.Refusal.TheVariants.{UntypedNull, NotHeld}
use Rattle.vortex_expressions.specs.declared.refusal.Refusal.TheVariants.{NoEscape, NoCast}
use Rattle.vortex_expressions.specs.declared.refusal.Refusal.TheVariants.{NoFunction}
use Rattle.vortex_standard.specs.declared.standard.Standard.{Standard}
use Rattle.vortex_standard.specs.declared.standard.Standard.TheVariants as standard
use Rattle.vortex_sql_choices.specs.declared.truth_tests.TruthTest.TheVariants.{IsTrue, IsFalse}
use Rattle.vortex_sql_choices.specs.declared.truth_tests.TruthTest.TheVariants.{IsUnknown}
use Rattle.vortex_sql_rows.specs.declared.types.Takes.{Takes}
use Rattle.vortex_sql_rows.specs.declared.types.Takes.TheVariants.{Alike, Each, Cases}
use Rattle.vortex_standard.specs.Standard.{row_of}
use Rattle.vortex_standard.specs.Names.{standard_named}
use Rattle.vortex_expressions.specs.Items.{Item, literal, bound, kinded, Tree, Callable, meaning}
use Rattle.vortex_expressions.specs.Items.{fraction, interval}
use Rattle.vortex_expressions.specs.Items.{common_type, constant_at, settled, all_settled, call_of}
use Rattle.vortex_expressions.specs.Items.{called, callable, refused_at, place_of, unfit, widened}
use Rattle.vortex_expressions.specs.Items.{meeting, made_by}
use Rattle.vortex_expressions.specs.Calls.{unquoted, text_of, between_quotes, as_item, field_found}
use Rattle.vortex_expressions.specs.Calls.{column_of, sign_item, text_item, operand_item}
use Rattle.vortex_expressions.specs.Calls.{type_of_name, typed_item, cast_to, cast_item, truth_type}
use Rattle.vortex_expressions.specs.Calls.{written_function, joined_type, negated_if, negated_item}
use Rattle.vortex_expressions.specs.Calls.{not_item, not_truth, as_part, parts_joined}
use Rattle.vortex_expressions.specs.Calls.{joined_item, tested_item, distinct_item, within_bounds}
use Rattle.vortex_expressions.specs.Calls.{is_concat, concat_item, plain_joined, is_kinded}
use Rattle.vortex_expressions.specs.Calls.{kinded_joined}
use Rattle.vortex_expressions.specs.Joining.{typed_text, tree_text, is_text, as_text}
use Rattle.vortex_expressions.specs.Truths.{typed_truth, tree_truth, is_number_literal, as_truth}
use Rattle.vortex_expressions.specs.Truths.{truth_settled}
use Rattle.vortex_expressions.specs.Calls.{between_item, like_options, escape_said, escape_in}
use Rattle.vortex_expressions.specs.Calls.{liked_item, matched_item, minus_item, listed_item}
use Rattle.vortex_expressions.specs.Calls.{plus_item, bit_not_item, is_number}
use Rattle.vortex_expressions.specs.Calls.{equal_cases, conditions_of, chosen_item, truth_test}
use Rattle.vortex_expressions.specs.Applied.{values_of, cases_settled, arguments_settled}
use Rattle.vortex_expressions.specs.Arguments.{type_of_null, is_null, settled_at, each_settled}
use Rattle.vortex_expressions.specs.Arguments.{alike_type}
use Rattle.vortex_sql_rows.specs.declared.types.Kind.{Kind}
use Rattle.vortex_expressions.specs.Applied.{function_call}
use Rattle.vortex_expressions.specs.Functions.{function_item, applied_item, trim_word}
use Rattle.vortex_expressions.specs.Functions.{trimmed_item, trimmed_by_item}
use Rattle.vortex_expressions.specs.Meeting.{widened_to}
use Rattle.vortex_expressions.specs.Casts.{cast_function, cast_by, cast_from, cast_tree, cast_hint}
use Rattle.vortex_expressions.specs.Casts.{tried_if}
use Rattle.vortex_expressions.specs.Calls.{between_tree, between_three, stored_item, is_kinded}
use Rattle.vortex_expressions.proofs.PlainItems.{joined_plain, between_plain, AllPlain}
use Rattle.vortex_expressions.proofs.PlainItems.{function_plain, applied_plain}
use Rattle.vortex_operators.specs.declared.operators.Operator.TheVariants as operator
use Rattle.std.specs.Option.{option_map}
use Rattle.vortex_syntax.specs.declared.step.BetweenKind.{BetweenKind}
use Rattle.vortex_types.specs.TypeEquality.{alike_types}
use Rattle.vortex_expressions.specs.Binding.{with_item, item_of, items_after, branch_items}
use Rattle.vortex_expressions.specs.Binding.{tree_of}
use Rattle.vortex_syntax.specs.Postfix.{has_operand, test_of}
use Rattle.vortex_expressions.specs.Writing.{IsCallable, IsOver, AllOver}
use Rattle.vortex_expressions.proofs.LiteralsOver.{answers_is, then_is, there_is, some_is}
use Rattle.vortex_expressions.proofs.LiteralsOver.{text_read, IsText, value_typed}

module _ (scope : Fields) where
  abbrev ItemOver : Item → Type 0
  ItemOver (bound t) = IsOver scope t
  ItemOver (kinded k t) = ⊥
  ItemOver (fraction w) = ⊥
  ItemOver (interval z) = ⊥
  ItemOver (literal l) = IsText l

  constant_over : (l : Literal) (ty : LogicalType) (t : Tree) → IsText l
      → constant_at l ty ≡ answers t → IsOver scope t
  constant_over l ty t u e =
      let m = then_is (or_refuses NotHeld (value_at ty l)) (λ s. answers (constant s)) t e in
      let h = value_typed ty l m.a u (there_is NotHeld (value_at ty l) m.a m.first) in
      subst (IsOver scope) (answers_is (constant m.a) t m.second) h

  abbrev AllItems : List Item → Type 0
  AllItems [] = Unit {0}
  AllItems (i ∷ is) = ItemOver i × AllItems is

  made_over : (f : Callable) (ts : List Tree) (t : Tree) → IsCallable f
      → AllOver scope (trees_of ts) → call_of f ts ≡ answers t → IsOver scope t
  made_over f ts t c h e =
      by (fits (function_arity meaning f) (length ts))
      (is_some (tree_type meaning (call f (trees_of ts)))) refl e
    where
      not_unfit : (f : Callable) → unfit f (length ts) ≡ answers t → IsOver scope t
      not_unfit (ours s) g = absurd cc
      not_unfit (custom v o) g = absurd cc

      refused : (p : Option MismatchPlace) → refused_at p ≡ answers t → IsOver scope t
      refused None g = absurd cc
      refused (Some p) g = absurd cc

      by : (a b : Bool) → is_some (tree_type meaning (call f (trees_of ts))) ≡ b
          → (if a then
          (if b then answers (call f (trees_of ts)) else refused_at
          (place_of f (types_or_none (tree_types meaning (trees_of ts)))))
          else unfit f (length ts)) ≡ answers t
          → IsOver scope t
      by true true k g = subst (IsOver scope) (answers_is (call f (trees_of ts)) t g) (c, k, h)
      by true false k g = refused (place_of f (types_or_none (tree_types meaning (trees_of ts)))) g
      by false b k g = not_unfit f g

  widened_over : (o : Option PType) (u t : Tree) → IsOver scope u → widened o u ≡ answers t
      → IsOver scope t
  widened_over None u t h e = subst (IsOver scope) (answers_is u t e) h
  widened_over (Some p) u t h e =
      made_over (callable (standard.Widen (record { ptype = p }))) (u ∷ []) t tt (h, tt) e

  meeting_over : (o p : Option LogicalType) (u t : Tree) → IsOver scope u
      → meeting o p u ≡ answers t → IsOver scope t
  meeting_over None p u t h e = subst (IsOver scope) (answers_is u t e) h
  meeting_over (Some k) None u t h e = subst (IsOver scope) (answers_is u t e) h
  meeting_over (Some k) (Some l) u t h e = widened_over (widened_to k l) u t h e

  settled_over : (o : Option LogicalType) (i : Item) (t : Tree) → ItemOver i
      → settled o i ≡ answers t → IsOver scope t
  settled_over o (bound u) t h e = meeting_over o (tree_type meaning u) u t h e
  settled_over o (kinded k u) t h e = absurd h
  settled_over o (fraction w) t h e = absurd h
  settled_over o (interval z) t h e = absurd h
  settled_over o (literal l) t h e =
      let m = then_is (or_refuses UntypedNull (type_beside o l)) (constant_at l) t e in
      constant_over l m.a t h m.second

  all_over : (o : Option LogicalType) (is : List Item) (ts : List Tree) → AllItems is
      → all_settled o is ≡ answers ts → AllOver scope (trees_of ts)
  all_over o [] ts h e =
      subst (λ (xs : List Tree). AllOver scope (trees_of xs)) (answers_is [] ts e) tt
  all_over o (i ∷ is) ts h e =
      let m = then_is (settled o i)
      (λ t. and_then (all_settled o is) (λ us. answers (t ∷ us))) ts e in
      let k = then_is (all_settled o is) (λ us. answers (m.a ∷ us)) ts m.second in
      subst (λ (xs : List Tree). AllOver scope (trees_of xs)) (answers_is (m.a ∷ k.a) ts k.second)
      (settled_over o i m.a h.0 m.first, all_over o is k.a h.1 k.first)

  called_over : (f : Callable) (o : Option LogicalType) (is : List Item) (t : Tree) → IsCallable f
      → AllItems is → called f o is ≡ answers t → IsOver scope t
  called_over f o is t c h e =
      let m = then_is (all_settled o is) (call_of f) t e in
      made_over f m.a t c (all_over o is m.a h m.first) m.second

  as_item_over : (o : Outcome Tree) (i : Item) → ((t : Tree) → o ≡ answers t → IsOver scope t)
      → as_item o ≡ answers i → ItemOver i
  as_item_over o i f e =
      let m = then_is o (λ t. answers (bound t)) i e in
      subst ItemOver (answers_is (bound m.a) i m.second) (f m.a m.first)

  made_by_over : (f : Standard) (t : Tree) (i : Item) → IsOver scope t
      → made_by f t ≡ answers i → ItemOver i
  made_by_over f t i h e =
      as_item_over (call_of (callable f) (t ∷ [])) i
      (λ u m. made_over (callable f) (t ∷ []) u tt (h, tt) m) e

  -- columns and literals
  column_over : (w : List ℕ) (i : Item) → IsUtf8 w → column_of scope w ≡ answers i → ItemOver i
  column_over w i u e = by (find_field w scope) refl e
    where
      by : (o : Option (ℕ × LogicalType)) → find_field w scope ≡ o → field_found [] w o ≡ answers i
          → ItemOver i
      by None h g = absurd cc
      by (Some p) h g = subst ItemOver (answers_is (bound (leaf (place p.0 w p.1))) i g) (h, u)

  named_over : (o : Outcome (List ℕ)) (i : Item) → ((v : List ℕ) → o ≡ answers v → IsUtf8 v)
      → and_then o (column_of scope) ≡ answers i → ItemOver i
  named_over o i f e = let m = then_is o (column_of scope) i e in
      column_over m.a i (f m.a m.first) m.second

  sign_over : (s : Sign) (i : Item) → sign_item s ≡ answers i → ItemOver i
  sign_over sign.True i e = subst ItemOver (answers_is (literal (literal.truth true)) i e) tt
  sign_over sign.False i e = subst ItemOver (answers_is (literal (literal.truth false)) i e) tt
  sign_over sign.Null i e = subst ItemOver (answers_is (literal literal.null) i e) tt
  sign_over s i e = absurd cc

  number_over : (o : Outcome (List ℕ)) (i : Item)
      → and_then o (λ w. answers (literal (literal.number w))) ≡ answers i → ItemOver i
  number_over o i e =
      let m = then_is o (λ w. answers (literal (literal.number w))) i e in
      subst ItemOver (answers_is (literal (literal.number m.a)) i m.second) tt

  operand_over : (t : token.Token) (i : Item) → operand_item scope t ≡ answers i → ItemOver i
  operand_over (token.name w) i e = named_over (text_of w) i (λ v k. (text_read w v k).utf8) e
  operand_over (token.nullable w) i e = absurd cc
  operand_over (token.function w) i e = absurd cc
  operand_over (token.quoted w) i e =
      named_over (between_quotes 34 w) i (λ v k. (text_read (unquoted 34 w) v k).utf8) e
  operand_over (token.number ds) i e = number_over (text_of ds) i e
  operand_over (token.text bs) i e =
      let m = then_is (between_quotes 39 bs) text_item i e in
      subst ItemOver (answers_is (literal (literal.text m.a)) i m.second)
      (text_read (unquoted 39 bs) m.a m.first).utf8
  operand_over (token.sign s) i e = sign_over s i e

  typed_over : (w : List ℕ) (n : Bool) (j i : Item) → ItemOver j → typed_item w n j ≡ answers i
      → ItemOver i
  typed_over w n (bound t) i h e = absurd cc
  typed_over w n (kinded k t) i h e = absurd h
  typed_over w n (fraction v) i h e = absurd h
  typed_over w n (interval z) i h e = absurd h
  typed_over w n (literal l) i h e =
      as_item_over (and_then (type_of_name w n) (constant_at l)) i
      (λ t g. let m = then_is (type_of_name w n) (constant_at l) t g in
      constant_over l m.a t h m.second) e

  cast_from_over : (p : Bool) (o : Option LogicalType) (ty : LogicalType) (u t : Tree) → IsOver scope u
      → cast_from p o ty u ≡ answers t → IsOver scope t
  cast_from_over p None ty u t h e = absurd cc
  cast_from_over p (Some k) ty u t h e =
      by (alike_types k ty) (option_map (tried_if p) (cast_function k ty)) e
    where
      by : (b : Bool) (o : Option Standard)
          → (if b then answers u else cast_by o u) ≡ answers t → IsOver scope t
      by true o g = subst (IsOver scope) (answers_is u t g) h
      by false None g = absurd cc
      by false (Some f) g = made_over (callable f) (u ∷ []) t tt (h, tt) g

  cast_to_over : (p : Bool) (j : Item) (ty : LogicalType) (t : Tree) → ItemOver j
      → cast_to p j ty ≡ answers t → IsOver scope t
  cast_to_over p j ty t h e = by (is_nullable ty) (is_bool_type ty) e
    where
      by : (a b : Bool)
          → (if a then (if b then called (ours Cast) (Some ty) (j ∷ []) else refuses NoCast) else
          and_then (settled (cast_hint p j ty) j) (cast_tree p ty)) ≡ answers t → IsOver scope t
      by true true g = called_over (ours Cast) (Some ty) (j ∷ []) t tt (h, tt) g
      by true false g = absurd cc
      by false b g =
          let m = then_is (settled (cast_hint p j ty) j) (cast_tree p ty) t g in
          cast_from_over p (tree_type meaning m.a) ty m.a t
          (settled_over (cast_hint p j ty) j m.a h m.first) m.second

  cast_over : (p : Bool) (w : List ℕ) (n : Bool) (j i : Item) → ItemOver j
      → cast_item p w n j ≡ answers i → ItemOver i
  cast_over p w n j i h e =
      as_item_over (and_then (type_of_name w n) (cast_to p j)) i
      (λ t g. let m = then_is (type_of_name w n) (cast_to p j) t g in
      cast_to_over p j m.a t h m.second) e

  -- numbers as truth values
  typed_truth_over : (o : Option LogicalType) (t : Tree) (i : Item) → IsOver scope t
      → typed_truth o t ≡ answers i → ItemOver i
  typed_truth_over (Some (integer_type p n)) t i h e = made_by_over standard.IntToTruth t i h e
  typed_truth_over o t i h e = subst ItemOver (answers_is (bound t) i e) h

  number_truth_over : (l : Literal) (i : Item) → IsText l
      → and_then (settled None (literal l)) tree_truth ≡ answers i → ItemOver i
  number_truth_over l i h e =
      let m = then_is (settled None (literal l)) tree_truth i e in
      typed_truth_over (tree_type meaning m.a) m.a i
      (settled_over None (literal l) m.a h m.first) m.second

  as_truth_over : (j i : Item) → ItemOver j → as_truth j ≡ answers i → ItemOver i
  as_truth_over (literal l) i h e = by (is_number_literal l) e
    where
      by : (b : Bool)
          → cond b (and_then (settled None (literal l)) tree_truth) (answers (literal l)) ≡ answers i
          → ItemOver i
      by true f = number_truth_over l i h f
      by false f = subst ItemOver (answers_is (literal l) i f) h
  as_truth_over (bound t) i h e = typed_truth_over (tree_type meaning t) t i h e
  as_truth_over (kinded k t) i h e = absurd h
  as_truth_over (fraction w) i h e = absurd h
  as_truth_over (interval z) i h e = absurd h

  truth_settled_over : (j : Item) (t : Tree) → ItemOver j → truth_settled j ≡ answers t
      → IsOver scope t
  truth_settled_over j t h e =
      let m = then_is (as_truth j) (settled truth_type) t e in
      settled_over truth_type m.a t (as_truth_over j m.a h m.first) m.second

  not_truth_over : (j i : Item) → ItemOver j → not_truth j ≡ answers i → ItemOver i
  not_truth_over j i h e =
      as_item_over (called (ours Not) truth_type (j ∷ [])) i
      (λ t g. called_over (ours Not) truth_type (j ∷ []) t tt (h, tt) g) e

  not_over : (j i : Item) → ItemOver j → not_item j ≡ answers i → ItemOver i
  not_over j i h e =
      let m = then_is (as_truth j) not_truth i e in
      not_truth_over m.a i (as_truth_over j m.a h m.first) m.second

  stored_over : (j : Item) → ItemOver j → ItemOver (stored_item j)
  stored_over (bound t) h = h
  stored_over (literal l) h = h
  stored_over (kinded k t) h = absurd h
  stored_over (fraction w) h = absurd h
  stored_over (interval z) h = absurd h

  over_plain : (j : Item) → ItemOver j → is_kinded j ≡ false
  over_plain (bound t) h = refl
  over_plain (literal l) h = refl
  over_plain (kinded k t) h = absurd h
  over_plain (fraction w) h = absurd h
  over_plain (interval z) h = absurd h

  null_over : (n : Bool) (j i : Item) → ItemOver j → tested_item test.Null n j ≡ answers i
      → ItemOver i
  null_over n j i h e =
      let s = stored_item j in
      as_item_over (called (ours (NullTest n)) None (s ∷ [])) i
      (λ t g. called_over (ours (NullTest n)) None (s ∷ []) t tt (stored_over j h, tt) g) e

  written_callable : (o : syntax.WrittenOperator) → IsCallable (written_function o)
  written_callable written.Or = tt
  written_callable written.And = tt
  written_callable written.Equal = tt
  written_callable written.NotEqual = tt
  written_callable written.Less = tt
  written_callable written.LessOrEqual = tt
  written_callable written.Greater = tt
  written_callable written.GreaterOrEqual = tt
  written_callable written.Add = tt
  written_callable written.Sub = tt
  written_callable written.Mul = tt
  written_callable written.Div = tt
  written_callable written.Mod = tt
  written_callable written.Concat = tt
  written_callable written.BitAnd = tt
  written_callable written.BitOr = tt
  written_callable written.BitXor = tt
  written_callable written.ShiftLeft = tt
  written_callable written.ShiftRight = tt
  written_callable written.Matches = tt
  written_callable written.MatchesAnyCase = tt
  written_callable written.NotMatches = tt
  written_callable written.NotMatchesAnyCase = tt

  as_part_over : (o : syntax.WrittenOperator) (j i : Item) → ItemOver j
      → as_part o j ≡ answers i → ItemOver i
  as_part_over written.Or j i h e = as_truth_over j i h e
  as_part_over written.And j i h e = as_truth_over j i h e
  as_part_over o j i h e = subst ItemOver (answers_is j i e) h

  parts_over : (o : syntax.WrittenOperator) (j k i : Item) → ItemOver j → ItemOver k
      → parts_joined o j k ≡ answers i → ItemOver i
  parts_over o j k i h g e =
      let is = j ∷ k ∷ [] in
      as_item_over (called (written_function o) (joined_type o is) is) i
      (λ t m. called_over (written_function o) (joined_type o is) is t (written_callable o)
      (h, (g, tt)) m) e

  plain_over : (o : syntax.WrittenOperator) (j k i : Item) → ItemOver j → ItemOver k
      → plain_joined o j k ≡ answers i → ItemOver i
  plain_over o j k i h g e =
      let m = then_is (as_part o j) (λ x. and_then (as_part o k) (parts_joined o x)) i e in
      let n = then_is (as_part o k) (parts_joined o m.a) i m.second in
      parts_over o m.a n.a i (as_part_over o j m.a h m.first) (as_part_over o k n.a g n.first)
      n.second

  -- values as their texts
  typed_text_over : (o : Option LogicalType) (t : Tree) (i : Item) → IsOver scope t
      → typed_text o t ≡ answers i → ItemOver i
  typed_text_over (Some (integer_type p n)) t i h e = made_by_over standard.IntToText t i h e
  typed_text_over (Some (bool_type n)) t i h e = made_by_over standard.TruthToText t i h e
  typed_text_over o t i h e = subst ItemOver (answers_is (bound t) i e) h

  settled_text_over : (l : Literal) (i : Item) → IsText l
      → and_then (settled None (literal l)) tree_text ≡ answers i → ItemOver i
  settled_text_over l i h e =
      let m = then_is (settled None (literal l)) tree_text i e in
      typed_text_over (tree_type meaning m.a) m.a i
      (settled_over None (literal l) m.a h m.first) m.second

  as_text_over : (j i : Item) → ItemOver j → as_text j ≡ answers i → ItemOver i
  as_text_over (literal l) i h e = by (is_text l) e
    where
      by : (b : Bool)
          → cond b (answers (literal l)) (and_then (settled None (literal l)) tree_text) ≡ answers i
          → ItemOver i
      by true f = subst ItemOver (answers_is (literal l) i f) h
      by false f = settled_text_over l i h f
  as_text_over (bound t) i h e = typed_text_over (tree_type meaning t) t i h e
  as_text_over (kinded k t) i h e = absurd h
  as_text_over (fraction w) i h e = absurd h
  as_text_over (interval z) i h e = absurd h

  concat_over : (j k i : Item) → ItemOver j → ItemOver k → concat_item j k ≡ answers i
      → ItemOver i
  concat_over j k i h g e =
      let m = then_is (as_text j) (λ x. and_then (as_text k) (plain_joined written.Concat x)) i e in
      let n = then_is (as_text k) (plain_joined written.Concat m.a) i m.second in
      plain_over written.Concat m.a n.a i (as_text_over j m.a h m.first)
      (as_text_over k n.a g n.first) n.second

  joined_over : (o : syntax.WrittenOperator) (j k i : Item) → ItemOver j → ItemOver k
      → joined_item o j k ≡ answers i → ItemOver i
  joined_over o j k i h g e = by (is_concat o) refl e
    where
      by : (b : Bool) → is_concat o ≡ b
          → cond b (concat_item j k)
          (cond (is_kinded j || is_kinded k) (kinded_joined o j k) (plain_joined o j k)) ≡ answers i
          → ItemOver i
      by true c f = concat_over j k i h g f
      by false c f =
          plain_over o j k i h g
          (sym (joined_plain o j k c (over_plain j h) (over_plain k g)) ∙ e)

  negated_over : (n : Bool) (u t : Tree) → IsOver scope u → negated_if n u ≡ answers t
      → IsOver scope t
  negated_over true u t h e = called_over (ours Not) None (bound u ∷ []) t tt (h, tt) e
  negated_over false u t h e = subst (IsOver scope) (answers_is u t e) h

  -- calls of SQL's functions
  cases_over : (o : Option LogicalType) (is : List Item) (ts : List Tree) → AllItems is
      → cases_settled o is ≡ answers ts → AllOver scope (trees_of ts)
  cases_over o [] ts h e =
      subst (λ (xs : List Tree). AllOver scope (trees_of xs)) (answers_is [] ts e) tt
  cases_over o (v ∷ []) ts h e = all_over o (v ∷ []) ts h e
  cases_over o (c ∷ v ∷ is) ts h e =
      let m = then_is (truth_settled c)
      (λ a. and_then (settled o v)
      (λ b. and_then (cases_settled o is) (λ us. answers (a ∷ b ∷ us)))) ts e in
      let n = then_is (settled o v)
      (λ b. and_then (cases_settled o is) (λ us. answers (m.a ∷ b ∷ us))) ts m.second in
      let k = then_is (cases_settled o is) (λ us. answers (m.a ∷ n.a ∷ us)) ts n.second in
      subst (λ (xs : List Tree). AllOver scope (trees_of xs))
      (answers_is (m.a ∷ n.a ∷ k.a) ts k.second) (
        truth_settled_over c m.a h.0 m.first,
        (settled_over o v n.a h.1.0 n.first, cases_over o is k.a h.1.1 k.first),
      )

  each_over : (a b c : Kind) (is : List Item) (ts : List Tree) → AllItems is
      → each_settled a b c is ≡ answers ts → AllOver scope (trees_of ts)
  each_over a b c [] ts h e =
      subst (λ (xs : List Tree). AllOver scope (trees_of xs)) (answers_is [] ts e) tt
  each_over a b c (i ∷ is) ts h e =
      let m = then_is (settled_at a i)
      (λ t. and_then (each_settled b c c is) (λ us. answers (t ∷ us))) ts e in
      let k = then_is (each_settled b c c is) (λ us. answers (m.a ∷ us)) ts m.second in
      subst (λ (xs : List Tree). AllOver scope (trees_of xs)) (answers_is (m.a ∷ k.a) ts k.second) (
        settled_over (if is_null i then type_of_null a else None) i m.a h.0 m.first,
        each_over b c c is k.a h.1 k.first,
      )

  arguments_over : (s : Takes) (is : List Item) (ts : List Tree) → AllItems is
      → arguments_settled s is ≡ answers ts → AllOver scope (trees_of ts)
  arguments_over (Alike k) is ts h e = all_over (alike_type k is) is ts h e
  arguments_over (Each a b c) is ts h e = each_over a b c is ts h e
  arguments_over Cases is ts h e = cases_over (common_type (values_of is)) is ts h e

  call_over : (f : Standard) (is : List Item) (t : Tree) → AllItems is
      → function_call f is ≡ answers t → IsOver scope t
  call_over f is t h e =
      let s = (row_of f).types.takes in
      let m = then_is (arguments_settled s is) (call_of (callable f)) t e in
      made_over (callable f) m.a t tt (arguments_over s is m.a h m.first) m.second

  all_plain : (is : List Item) → AllItems is → AllPlain is
  all_plain [] h = tt
  all_plain (i ∷ is) h = (over_plain i h.0, all_plain is h.1)

  function_over : (f : Standard) (is : List Item) (i : Item) → AllItems is
      → function_item f is ≡ answers i → ItemOver i
  function_over f is i h e =
      as_item_over (function_call f is) i (λ t g. call_over f is t h g)
      (sym (function_plain f is (all_plain is h)) ∙ e)

  -- negated where the flag is true
  truth_item_over : (n : Bool) (j i : Item) → ItemOver j → negated_item n j ≡ answers i
      → ItemOver i
  truth_item_over true j i h e =
      as_item_over (called (ours Not) None (j ∷ [])) i
      (λ t g. called_over (ours Not) None (j ∷ []) t tt (h, tt) g) e
  truth_item_over false j i h e = subst ItemOver (answers_is j i e) h

  tests_over : (f : Standard) (is : List Item) (n : Bool) (i : Item) → AllItems is
      → and_then (function_item f is) (negated_item n) ≡ answers i → ItemOver i
  tests_over f is n i h e =
      let m = then_is (function_item f is) (negated_item n) i e in
      truth_item_over n m.a i (function_over f is m.a h m.first) m.second

  negated_item_over : (o : Outcome Tree) (n : Bool) (i : Item)
      → ((t : Tree) → o ≡ answers t → IsOver scope t)
      → as_item (and_then o (negated_if n)) ≡ answers i → ItemOver i
  negated_item_over o n i f e =
      as_item_over (and_then o (negated_if n)) i
      (λ t x. let y = then_is o (negated_if n) t x in
      negated_over n y.a t (f y.a y.first) y.second) e

  truth_over : (f : Standard) (n : Bool) (j i : Item) → ItemOver j → truth_test f n j ≡ answers i
      → ItemOver i
  truth_over f n j i h e =
      let m = then_is (as_truth j)
      (λ b. as_item (and_then (called (callable f) truth_type (b ∷ [])) (negated_if n))) i e in
      let k = as_truth_over j m.a h m.first in
      negated_item_over (called (callable f) truth_type (m.a ∷ [])) n i
      (λ t g. called_over (callable f) truth_type (m.a ∷ []) t tt (k, tt) g) m.second

  tested_over : (k : Test) (n : Bool) (j i : Item) → ItemOver j → tested_item k n j ≡ answers i
      → ItemOver i
  tested_over test.Null n j i h e = null_over n j i h e
  tested_over test.True n j i h e = truth_over (standard.TruthTest IsTrue) n j i h e
  tested_over test.False n j i h e = truth_over (standard.TruthTest IsFalse) n j i h e
  tested_over test.Unknown n j i h e = truth_over (standard.TruthTest IsUnknown) n j i h e

  within_over : (j k l : Item) (t : Tree) → ItemOver j → ItemOver k → ItemOver l
      → between_three j k l ≡ answers t → IsOver scope t
  within_over j k l t h g m e =
      let is = j ∷ k ∷ l ∷ [] in
      let plain = between_plain j k l (over_plain j h) (over_plain k g) (over_plain l m) in
      called_over (ours (Between within_bounds)) (common_type is) is t tt (h, (g, (m, tt)))
      (sym plain ∙ e)

  bounds_over : (s : Bool) (j k l : Item) (t : Tree) → ItemOver j → ItemOver k → ItemOver l
      → between_tree s j k l ≡ answers t → IsOver scope t
  bounds_over false j k l t h g m e = within_over j k l t h g m e
  bounds_over true j k l t h g m e =
      let f : Callable = ours (Binary operator.Or) in
      let x = then_is (between_three j k l)
      (λ u. and_then (between_three j l k)
      (λ v. called f None (bound u ∷ bound v ∷ []))) t e in
      let y = then_is (between_three j l k)
      (λ v. called f None (bound x.a ∷ bound v ∷ [])) t x.second in
      called_over f None (bound x.a ∷ bound y.a ∷ []) t tt
      (within_over j k l x.a h g m x.first, (within_over j l k y.a h m g y.first, tt)) y.second

  between_over : (n : BetweenKind) (j k l i : Item) → ItemOver j → ItemOver k → ItemOver l
      → between_item n j k l ≡ answers i → ItemOver i
  between_over n j k l i h g m e =
      as_item_over (and_then (between_tree n.symmetric j k l) (negated_if n.negated)) i
      (λ t x.
      let y = then_is (between_tree n.symmetric j k l) (negated_if n.negated) t x in
      negated_over n.negated y.a t (bounds_over n.symmetric j k l y.a h g m y.first) y.second) e

  liked_over : (k : LikeKind) (c : Option ℕ) (j l i : Item) → MatchOption c ⊤ IsScalar → ItemOver j
      → ItemOver l → liked_item k c j l ≡ answers i → ItemOver i
  liked_over k c j l i s h g e =
      let is = j ∷ l ∷ [] in
      let f : Callable = ours (Like (like_options k c)) in
      as_item_over (called f (Some (text_type false)) is) i
      (λ t m. called_over f (Some (text_type false)) is t s (h, (g, tt)) m) e

  escape_scalar : (cs : List ℕ) (c : Option ℕ) → scalars cs ≡ true → escape_of cs ≡ Some c
      → MatchOption c ⊤ IsScalar
  escape_scalar [] c s e = subst (λ (o : Option ℕ). MatchOption o ⊤ IsScalar) (some_is None c e) tt
  escape_scalar (b ∷ []) c s e =
      subst (λ (o : Option ℕ). MatchOption o ⊤ IsScalar) (some_is (Some b) c e)
      (and_parts (scalar b) true s).0
  escape_scalar (a ∷ b ∷ cs) c s e = absurd cc

  matched_over : (k : LikeKind) (e : Option (List ℕ)) (j l i : Item) → ItemOver j → ItemOver l
      → matched_item k e j l ≡ answers i → ItemOver i
  matched_over k None j l i h g e = liked_over k (Some backslash) j l i refl h g e
  matched_over k (Some w) j l i h g e =
      let m = then_is (escape_in w) (λ c. liked_item k c j l) i e in
      let n = then_is (between_quotes 39 w) escape_said m.a m.first in
      let u = (text_read (unquoted 39 w) n.a n.first).utf8 in
      liked_over k m.a j l i
      (escape_scalar (chars n.a) m.a (scalars-chars n.a u)
      (there_is NoEscape (escape_of (chars n.a)) m.a n.second)) h g m.second

  -- calls by names
  all_appended : (is js : List Item) → AllItems is → AllItems js → AllItems (is ++ js)
  all_appended [] js h k = k
  all_appended (i ∷ is) js h k = (h.0, all_appended is js h.1 k)

  all_reversed : (is : List Item) → AllItems is → AllItems (reverse is)
  all_reversed [] h = tt
  all_reversed (i ∷ is) h =
      subst AllItems (sym (reverse-append (i ∷ []) is))
      (all_appended (reverse is) (i ∷ []) (all_reversed is h.1) (h.0, tt))

  abbrev AreOver : Outcome (List Item) → Type 0
  AreOver o = (is : List Item) → o ≡ answers is → AllItems is

  abbrev IsItemOver : Outcome Item → Type 0
  IsItemOver p = (i : Item) → p ≡ answers i → ItemOver i

  none_over : AreOver (answers [])
  none_over is e = subst AllItems (answers_is [] is e) tt

  more_over : (o : Outcome (List Item)) (p : Outcome Item) → AreOver o → IsItemOver p
      → AreOver (with_item o p)
  more_over o p h k is e =
      let m = then_is o (λ js. and_then p (λ i. answers (i ∷ js))) is e in
      let n = then_is p (λ i. answers (i ∷ m.a)) is m.second in
      subst AllItems (answers_is (n.a ∷ m.a) is n.second) (k n.a n.first, h m.a m.first)

  pair_over : (o : Outcome (List Item)) (p r : Outcome Item) → AreOver o → IsItemOver p
      → IsItemOver r → AreOver (with_item (with_item o p) r)
  pair_over o p r h k j = more_over (with_item o p) r (more_over o p h k) j

  equal_over : (a : Item) (is : List Item) → ItemOver a → AllItems is → AreOver (equal_cases a is)
  equal_over a [] h k js e = subst AllItems (answers_is [] js e) tt
  equal_over a (v ∷ []) h k js e = subst AllItems (answers_is (v ∷ []) js e) k
  equal_over a (x ∷ v ∷ is) h k js e =
      let m = then_is (joined_item written.Equal a x)
      (λ c. and_then (equal_cases a is) (λ us. answers (c ∷ v ∷ us))) js e in
      let n = then_is (equal_cases a is) (λ us. answers (m.a ∷ v ∷ us)) js m.second in
      subst AllItems (answers_is (m.a ∷ v ∷ n.a) js n.second)
      (joined_over written.Equal a x m.a h k.0 m.first, (k.1.0, equal_over a is h k.1.1 n.a n.first))

  conditions_over : (b : Bool) (is : List Item) → AllItems is → AreOver (conditions_of b is)
  conditions_over true [] h js e = subst AllItems (answers_is [] js e) tt
  conditions_over true (a ∷ is) h js e = equal_over a is h.0 h.1 js e
  conditions_over false is h js e = subst AllItems (answers_is is js e) h

  chosen_over : (b : Bool) (is : List Item) (i : Item) → AllItems is
      → chosen_item b is ≡ answers i → ItemOver i
  chosen_over b is i h e =
      let m = then_is (conditions_of b is) (function_item standard.Case) i e in
      function_over standard.Case m.a i (conditions_over b is h m.a m.first) m.second

  applied_over : (w : List ℕ) (is : List Item) (i : Item) → AllItems is
      → applied_item w is ≡ answers i → ItemOver i
  applied_over w is i h e =
      let m = then_is (or_refuses NoFunction (standard_named w)) (λ f. function_item f is) i
      (sym (applied_plain w is (all_plain is h)) ∙ e) in
      function_over m.a is i h m.second

  item_is : (j i : Item) → answers j ≡ answers i → j ≡ i
  item_is j i e = cc

  plus_over : (j i : Item) → ItemOver j → plus_item j ≡ answers i → ItemOver i
  plus_over j i h e = by (is_number j) e
    where
      by : (b : Bool)
          → (if b then answers j
          else joined_item written.Add (literal (literal.number (codes "0"))) j) ≡ answers i
          → ItemOver i
      by true g = subst ItemOver (item_is j i g) h
      by false g = joined_over written.Add (literal (literal.number (codes "0"))) j i tt h g

  bit_not_over : (j i : Item) → ItemOver j → bit_not_item j ≡ answers i → ItemOver i
  bit_not_over j i h e =
      as_item_over (function_call standard.BitNot (j ∷ [])) i
      (λ t g. call_over standard.BitNot (j ∷ []) t (h, tt) g) e

  mutual
    item_over : (a : Syntax) (i : Item) → item_of scope a ≡ answers i → ItemOver i
    item_over (operand t) i e = operand_over t i e
    item_over (negative ds) i e = number_over (text_of (45 ∷ ds)) i e
    item_over (typed a w n) i e = let m = then_is (item_of scope a) (typed_item w n) i e in
        typed_over w n m.a i (item_over a m.a m.first) m.second
    item_over (titled w bs) i e =
        let m = then_is (operand_item scope (token.text bs)) (typed_item w false) i e in
        typed_over w false m.a i (operand_over (token.text bs) m.a m.first) m.second
    item_over (measured w t u) i e =
        let m = then_is (operand_item scope t) (typed_item u false) i e in
        typed_over u false m.a i (operand_over t m.a m.first) m.second
    item_over (grouped a) i e = item_over a i e
    item_over (negated a) i e = let m = then_is (item_of scope a) not_item i e in
        not_over m.a i (item_over a m.a m.first) m.second
    item_over (joined o a b) i e =
        let m = then_is (item_of scope a) (λ x. and_then (item_of scope b) (joined_item o x)) i e in
        let n = then_is (item_of scope b) (joined_item o m.a) i m.second in
        joined_over o m.a n.a i (item_over a m.a m.first) (item_over b n.a n.first) n.second
    item_over (tested k n a) i e =
        let m = then_is (item_of scope a) (tested_item (test_of k) n) i e in
        tested_over (test_of k) n m.a i (item_over a m.a m.first) m.second
    item_over (null_tested n a) i e =
        let m = then_is (item_of scope a) (tested_item test.Null n) i e in
        null_over n m.a i (item_over a m.a m.first) m.second
    item_over (plus a) i e = let m = then_is (item_of scope a) plus_item i e in
        plus_over m.a i (item_over a m.a m.first) m.second
    item_over (bit_not a) i e = let m = then_is (item_of scope a) bit_not_item i e in
        bit_not_over m.a i (item_over a m.a m.first) m.second
    item_over (distinct n a b) i e =
        let m = then_is (item_of scope a) (λ x. and_then (item_of scope b) (distinct_item n x)) i e in
        let k = then_is (item_of scope b) (distinct_item n m.a) i m.second in
        tests_over standard.IsDistinct (m.a ∷ k.a ∷ []) n i
        (item_over a m.a m.first, (item_over b k.a k.first, tt)) k.second
    item_over (between n a low high) i e =
        let m = then_is (item_of scope a)
        (λ x. and_then (item_of scope low)
        (λ y. and_then (item_of scope high) (between_item n x y))) i e in
        let k = then_is (item_of scope low)
        (λ y. and_then (item_of scope high) (between_item n m.a y)) i m.second in
        let l = then_is (item_of scope high) (between_item n m.a k.a) i k.second in
        between_over n m.a k.a l.a i (item_over a m.a m.first) (item_over low k.a k.first)
        (item_over high l.a l.first) l.second
    item_over (matched k a p e) i g =
        let m = then_is (item_of scope a)
        (λ x. and_then (item_of scope p) (matched_item k e x)) i g in
        let n = then_is (item_of scope p) (matched_item k e m.a) i m.second in
        matched_over k e m.a n.a i (item_over a m.a m.first) (item_over p n.a n.first) n.second
    item_over (converted a w n) i e =
        let m = then_is (item_of scope a) (cast_item false w n) i e in
        cast_over false w n m.a i (item_over a m.a m.first) m.second
    item_over (cast p a w n) i e = let m = then_is (item_of scope a) (cast_item p w n) i e in
        cast_over p w n m.a i (item_over a m.a m.first) m.second
    item_over (minus a) i e = let m = then_is (item_of scope a) minus_item i e in
        joined_over written.Sub (literal (literal.number (codes "0"))) m.a i tt
        (item_over a m.a m.first) m.second
    item_over (listed n a args b) i e =
        let first = with_item (answers []) (item_of scope a) in
        let m = then_is (with_item (items_after scope first args) (item_of scope b))
        (λ is. listed_item n (reverse is)) i e in
        tests_over standard.InList (reverse m.a) n i
        (all_reversed m.a
        (more_over (items_after scope first args) (item_of scope b)
        (items_over args first (more_over (answers []) (item_of scope a) none_over (item_over a)))
        (item_over b) m.a m.first)) m.second
    item_over (chosen bs c v) i e =
        let o = with_item (with_item (branch_items scope bs) (item_of scope c)) (item_of scope v) in
        let m = then_is o (λ is. chosen_item (has_operand bs) (reverse is)) i e in
        chosen_over (has_operand bs) (reverse m.a) i
        (all_reversed m.a (pair_over (branch_items scope bs) (item_of scope c) (item_of scope v)
        (branches_over bs) (item_over c) (item_over v) m.a m.first)) m.second
    item_over (chosen_else bs c v d) i e =
        let p = with_item (with_item (branch_items scope bs) (item_of scope c)) (item_of scope v) in
        let m = then_is (with_item p (item_of scope d))
        (λ is. chosen_item (has_operand bs) (reverse is)) i e in
        chosen_over (has_operand bs) (reverse m.a) i
        (all_reversed m.a (more_over p (item_of scope d)
        (pair_over (branch_items scope bs) (item_of scope c) (item_of scope v) (branches_over bs)
        (item_over c) (item_over v)) (item_over d) m.a m.first)) m.second
    item_over (nullary p w) i e = applied_over w [] i tt e
    item_over (applied p w args a) i e =
        let some = items_after scope (answers []) args in
        let m = then_is (with_item some (item_of scope a)) (λ is. applied_item w (reverse is)) i e in
        applied_over w (reverse m.a) i
        (all_reversed m.a (more_over some (item_of scope a) (items_over args (answers []) none_over)
        (item_over a) m.a m.first)) m.second
    item_over (extracted p f w a) i e =
        let word = operand_item scope (token.text w) in
        let first = with_item (answers []) word in
        let m = then_is (with_item first (item_of scope a)) (λ is. applied_item f (reverse is)) i e in
        applied_over f (reverse m.a) i
        (all_reversed m.a (more_over first (item_of scope a)
        (more_over (answers []) word none_over (operand_over (token.text w))) (item_over a) m.a
        m.first)) m.second
    item_over (parted p f s a) i e =
        let first = with_item (answers []) (item_of scope s) in
        let m = then_is (with_item first (item_of scope a)) (λ is. applied_item f (reverse is)) i e in
        applied_over f (reverse m.a) i
        (all_reversed m.a (more_over first (item_of scope a)
        (more_over (answers []) (item_of scope s) none_over (item_over s)) (item_over a) m.a
        m.first)) m.second
    item_over (placed p f a b) i e =
        let first = with_item (answers []) (item_of scope a) in
        let m =
        then_is (with_item first (item_of scope b)) (λ is. applied_item f (reverse is)) i e in
        applied_over f (reverse m.a) i
        (all_reversed m.a (more_over first (item_of scope b)
        (more_over (answers []) (item_of scope a) none_over (item_over a)) (item_over b) m.a
        m.first)) m.second
    item_over (trimmed p f d a) i e =
        let m = then_is (item_of scope a) (trimmed_item false d) i e in
        applied_over (trim_word d) (m.a ∷ []) i (item_over a m.a m.first, tt) m.second
    item_over (trimmed_by p f o c a) i e =
        let d = side_of o in
        let m =
        then_is (item_of scope c) (λ x. and_then (item_of scope a) (trimmed_by_item false d x)) i e in
        let n = then_is (item_of scope a) (trimmed_by_item false d m.a) i m.second in
        applied_over (trim_word d) (n.a ∷ m.a ∷ []) i
        (item_over a n.a n.first, (item_over c m.a m.first, tt)) n.second
    item_over (parted_for p f s a w b) i e =
        let first = with_item (answers []) (item_of scope s) in
        let two = with_item first (item_of scope a) in
        let m = then_is (with_item two (item_of scope b)) (λ is. applied_item f (reverse is)) i e in
        applied_over f (reverse m.a) i
        (all_reversed m.a (more_over two (item_of scope b)
        (more_over first (item_of scope a)
        (more_over (answers []) (item_of scope s) none_over (item_over s)) (item_over a))
        (item_over b) m.a m.first)) m.second

    items_over : (args : Arguments) (o : Outcome (List Item)) → AreOver o
        → AreOver (items_after scope o args)
    items_over no_arguments o h = h
    items_over (argument args a) o h =
        more_over (items_after scope o args) (item_of scope a) (items_over args o h) (item_over a)

    branches_over : (bs : Branches) → AreOver (branch_items scope bs)
    branches_over without_operand = none_over
    branches_over (of_operand a) = more_over (answers []) (item_of scope a) none_over (item_over a)
    branches_over (branch bs c v) =
        pair_over (branch_items scope bs) (item_of scope c) (item_of scope v) (branches_over bs)
        (item_over c) (item_over v)

  pub tree_over : (a : Syntax) (t : Tree) → tree_of scope a ≡ answers t → IsOver scope t
  tree_over a t e = let m = then_is (item_of scope a) (settled None) t e in
      settled_over None m.a t (item_over a m.a m.first) m.second
