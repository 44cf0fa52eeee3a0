-- No part of an expression is missing.
use Rattle.std.proofs.Common.{◌≡◌, ℕ, ℤ, ◌≤◌, ◌||◌, Bool, true, false, List, [], ◌∷◌, length, Option}
use Rattle.std.proofs.Common.{Some, None, refl, ap, sym, subst, arith, reverse, ◌++◌}
use Rattle.std.proofs.lemmas.List.{reverse-append}
use Rattle.std.specs.Prelude.{IfSome, codes, ◌&&◌, if◌then◌else◌}
use Rattle.std.specs.Str.{chars}
use Rattle.vortex_types.specs.LogicalTypes.{LogicalType, Fields, is_bool_type}
use Rattle.vortex_types.specs.LogicalTypes.{is_nullable, text_type}
use Rattle.vortex_interface.specs.Meaning.{fits}
use Rattle.vortex_interface.specs.Shipped.{Binary, Not, Cast, Between, Like}
use Rattle.vortex_interface.specs.Functions.{ours, function_arity}
use Rattle.vortex_interface.specs.Eval.{tree_type}
use Rattle.vortex_cells.specs.Escapes.{escape_of}
use Rattle.vortex_syntax.specs.declared.step.WrittenOperator as written
use Rattle.vortex_syntax.specs.declared.step.WrittenOperator.TheVariants as signs
use Rattle.vortex_syntax.specs.declared.step.Test.{Test}
use Rattle.vortex_syntax.specs.declared.step.Test.TheVariants as test
use Rattle.vortex_syntax.specs.declared.step.LikeKind.{LikeKind}
use Rattle.vortex_syntax.specs.declared.token.Sign.{Sign}
use Rattle.vortex_syntax.specs.declared.token.Sign.TheVariants as sign
use Rattle.vortex_syntax.specs.Tokens.{Token, name, nullable, function, quoted, number, text, sign}
use Rattle.vortex_syntax.specs.Keywords.{same_word}
use Rattle.vortex_syntax.specs.Syntax as tree
use Rattle.vortex_syntax.specs.Syntax.{Syntax, Arguments, Branches}
use Rattle.vortex_syntax.specs.Levels.{Fits, AllFit, BranchesFit, level, is_operand, operand_level}
use Rattle.vortex_syntax.specs.AnswerLists as syntax
use Rattle.vortex_syntax.specs.AnswerLists.{is_name, SpellsAnswers, one, more, SpellsAnswer}
use Rattle.vortex_syntax.proofs.Tables.{own_right, right_sign}
use Rattle.vortex_sql_numbers.specs.declared.bits.BitOperator.TheVariants as bits
use Rattle.vortex_sql_numbers.specs.declared.bits.Shift.TheVariants as shift
use Rattle.vortex_standard.specs.declared.standard.Standard.{Standard}
use Rattle.vortex_standard.specs.declared.standard.Standard.TheVariants as standard
use Rattle.vortex_sql_patterns.specs.declared.functions.PatternFunction.TheVariants as pattern
use Rattle.vortex_sql_choices.specs.declared.truth_tests.TruthTest.TheVariants.{IsTrue, IsFalse}
use Rattle.vortex_sql_choices.specs.declared.truth_tests.TruthTest.TheVariants.{IsUnknown}
use Rattle.vortex_sql_rows.specs.declared.types.Takes.{Takes}
use Rattle.vortex_sql_rows.specs.declared.types.Takes.TheVariants.{Alike, Each, Cases}
use Rattle.vortex_operators.specs.declared.operators.Operator.{Operator}
use Rattle.vortex_operators.specs.declared.operators.Operator.TheVariants as operator
use Rattle.vortex_standard.specs.Standard.{row_of}
use Rattle.vortex_standard.specs.Names.{standard_named}
use Rattle.vortex_expressions.specs.declared.refusal.Refusal.TheVariants.{NoFunction}
use Rattle.vortex_expressions.specs.Outcomes.{Outcome, answers, or_refuses}
use Rattle.vortex_expressions.specs.Items.{Tree, Item, literal, bound, kinded, meaning}
use Rattle.vortex_expressions.specs.Items.{fraction, interval}
use Rattle.vortex_expressions.specs.Items.{settled, all_settled}
use Rattle.vortex_expressions.specs.Items.{call_of, called, callable, common_type, truth_type}
use Rattle.vortex_expressions.specs.Calls as calls
use Rattle.vortex_expressions.specs.Calls.{Names, names_of, names_in}
use Rattle.vortex_logical.specs.declared.kind.Kind.{Kind}
use Rattle.vortex_expressions.specs.Applied.{values_of, cases_settled, arguments_settled}
use Rattle.vortex_expressions.specs.Arguments.{type_of_null, is_null, each_settled, alike_type}
use Rattle.vortex_sql_rows.specs.declared.types.Kind as rows
use Rattle.vortex_expressions.specs.Applied.{function_call}
use Rattle.vortex_expressions.specs.Functions.{values_in, call_kind, met_values, aligned_arguments}
use Rattle.vortex_expressions.specs.Functions.{kinded_call, function_item, applied_item}
use Rattle.vortex_expressions.specs.Functions.{standard_item, meant_item, made_date, applied_by}
use Rattle.vortex_expressions.specs.Functions.{trim_word}
use Rattle.vortex_syntax.specs.Postfix.{side_of}
use Rattle.vortex_expressions.specs.Functions.{takes_whole, whole_item, kinds_item, kinded_item}
use Rattle.vortex_expressions.specs.Functions.{by_pattern, joined_call, joining_item, is_locate, located, format_word, read_by}
use Rattle.vortex_expressions.specs.Functions.{form_word, contained}
use Rattle.vortex_expressions.specs.Functions.{ended_by, last_day, days_between, formed, formed_item}
use Rattle.vortex_expressions.specs.declared.written_forms.Form.{Form}
use Rattle.vortex_expressions.specs.declared.written_forms.Form.TheVariants as form
use Rattle.vortex_expressions.specs.KindFunctions.{months_after, of_value}
use Rattle.vortex_expressions.proofs.SureKindFunctions.{sure_months_after, sure_of_value}
use Rattle.vortex_sql_dates.specs.declared.truncations.Unit.TheVariants as units
use Rattle.vortex_sql_texts.specs.declared.texts.Measure.TheVariants.{Characters}
use Rattle.vortex_expressions.specs.KindCasts.{cast_to_kind}
use Rattle.vortex_expressions.specs.Functions.{named_item}
use Rattle.vortex_syntax.specs.SizeDigits.{text_size_of}
use Rattle.vortex_sql_texts.specs.declared.parts.Side.TheVariants.{Left, Right}
use Rattle.vortex_expressions.specs.Joining.{as_text, as_texts, joins}
use Rattle.vortex_expressions.specs.Truths.{as_truth, truth_settled}
use Rattle.vortex_expressions.proofs.SureTexts.{sure_as_text, sure_as_texts}
use Rattle.vortex_expressions.proofs.SureTruths.{sure_as_truth, sure_truth_settled, sure_as_part}
use Rattle.vortex_expressions.specs.Kinded.{first_kind}
use Rattle.vortex_expressions.specs.KindWords.{kind_word}
use Rattle.vortex_expressions.specs.declared.kind_words.KindName.{KindName}
use Rattle.vortex_expressions.specs.declared.kind_words.KindName.TheVariants.{Single}
use Rattle.vortex_expressions.specs.declared.kind_words.KindFunction.TheVariants.{OfFloat, ToUnit}
use Rattle.vortex_expressions.proofs.SureKindFunctions.{sure_single_call, sure_kind_call}
use Rattle.vortex_logical.specs.declared.operand.Operand.TheVariants.{Of}
use Rattle.vortex_expressions.specs.Casts.{cast_function, cast_by, cast_from, cast_tree, cast_hint}
use Rattle.std.specs.Option.{option_map}
use Rattle.vortex_expressions.specs.Casts.{tried_if, cast_to}
use Rattle.vortex_syntax.specs.declared.step.BetweenKind.{BetweenKind}
use Rattle.vortex_types.specs.TypeEquality.{alike_types}
use Rattle.vortex_expressions.specs.Binding.{with_item, item_by, item_of, items_by, branches_by}
use Rattle.vortex_expressions.specs.Binding.{tree_of, logical_of, ended, LogicalTree}
use Rattle.vortex_logical.specs.declared.kind.Kind.TheVariants.{Plain, Date, F64}
use Rattle.vortex_syntax.specs.Postfix.{has_operand, test_of}
use Rattle.vortex_expressions.specs.Literals as literals
use Rattle.vortex_expressions.specs.Answers.{name_of, written_name, answer_of, answers_of}
use Rattle.vortex_expressions.proofs.SureCalls.{Sure, sure_then, sure_or, sure_if, IsTyped, IsItem}
use Rattle.vortex_expressions.proofs.SureCalls.{AllItems, AllTyped, sure_constant, sure_settled}
use Rattle.vortex_expressions.proofs.SureCalls.{sure_all, sure_less, sure_named_call}
use Rattle.vortex_expressions.proofs.SureCalls.{sure_null, sure_called, sure_item}
use Rattle.vortex_expressions.proofs.SureCalls.{sure_text, sure_quoted, sure_column, sure_named}
use Rattle.vortex_expressions.proofs.SureKinds.{sure_kinded_joined, sure_kinded_between, sure_stored}
use Rattle.vortex_expressions.proofs.SureKinds.{Any, sure_met, sure_aligned_arguments, result_is}
use Rattle.vortex_expressions.proofs.SureKinds.{sure_kind_item, sure_cast_to_kind, sure_numeric_cast}
use Rattle.vortex_expressions.proofs.SureKinds.{sure_stored_cast, sure_fraction_cast}
use Rattle.vortex_expressions.proofs.SureKinds.{sure_text_literal}
use Rattle.vortex_expressions.specs.KindCasts.{is_interval_name}
use Rattle.vortex_expressions.specs.KindCasts.{interval_told, interval_item, is_unit_name}
use Rattle.vortex_expressions.specs.KindCasts.{unit_text, unit_item, is_numeric_name}
use Rattle.vortex_expressions.specs.Kinded.{text_literal}
use Rattle.vortex_expressions.specs.Literals.{has_fraction}
use Rattle.vortex_logical_calls.specs.Intervals.{interval_of}
use Rattle.vortex_logical_calls.specs.declared.intervals.Interval.{Interval}
use Rattle.vortex_types.specs.declared.dtype.PType.TheVariants.{I64}
use Rattle.vortex_types.specs.LogicalTypes.{integer_type}
use Rattle.vortex_expressions.specs.Items.{constant_at}

module _ (columns : Names) (sure_columns : (w : List ℕ) → Sure IsItem (columns.column w)) where
  sure_sign : (s : Sign) → is_operand (sign s) ≡ true → Sure IsItem (calls.sign_item s)
  sure_sign sign.True h = tt
  sure_sign sign.False h = tt
  sure_sign sign.Null h = tt
  sure_sign s h = absurd cc

  sure_number_item : (b : Bool) (w : List ℕ) → IsItem (calls.number_item b w)
  sure_number_item b w = by (b && has_fraction w)
    where
      by : (c : Bool) → IsItem (if c then fraction w else literal (literals.number w))
      by true = tt
      by false = tt

  sure_operand : (t : Token) → is_operand t ≡ true → Sure IsItem (calls.operand_by columns t)
  sure_operand (name w) h =
      sure_then _ IsItem (calls.text_of w) _ (sure_text w) (λ v k. sure_columns v)
  sure_operand (nullable w) h = absurd cc
  sure_operand (function w) h = absurd cc
  sure_operand (quoted w) h =
      sure_then _ IsItem (calls.between_quotes 34 w) _ (sure_quoted 34 w)
      (λ v k. sure_columns v)
  sure_operand (number ds) h =
      sure_then _ IsItem (calls.text_of ds) _ (sure_text ds)
      (λ v k. sure_number_item columns.has_kinds v)
  sure_operand (text bs) h =
      sure_then _ IsItem (calls.between_quotes 39 bs) _ (sure_quoted 39 bs) (λ v k. tt)
  sure_operand (sign s) h = sure_sign s h

  -- literals are no trees
  abbrev IsLiteral : Item → Type 0
  IsLiteral (literal l) = Unit {0}
  IsLiteral (bound t) = ⊥
  IsLiteral (kinded k t) = ⊥
  IsLiteral (fraction w) = Unit {0}
  IsLiteral (interval z) = ⊥

  number_literal : (b : Bool) (w : List ℕ) → IsLiteral (calls.number_item b w)
  number_literal b w = by (b && has_fraction w)
    where
      by : (c : Bool) → IsLiteral (if c then fraction w else literal (literals.number w))
      by true = tt
      by false = tt

  literal_sign : (s : Sign) → is_operand (sign s) ≡ true → Sure IsLiteral (calls.sign_item s)
  literal_sign sign.True h = tt
  literal_sign sign.False h = tt
  literal_sign sign.Null h = tt
  literal_sign s h = absurd cc

  literal_token : (t : Token) → is_operand t ≡ true → 14 ≤ operand_level t
      → Sure IsLiteral (calls.operand_by columns t)
  literal_token (name w) h le = absurd (let k : ⊥ = omega (arith, le) in k)
  literal_token (nullable w) h le = absurd cc
  literal_token (function w) h le = absurd cc
  literal_token (quoted w) h le = absurd (let k : ⊥ = omega (arith, le) in k)
  literal_token (number ds) h le =
      sure_then _ IsLiteral (calls.text_of ds) _ (sure_text ds)
      (λ v k. number_literal columns.has_kinds v)
  literal_token (text bs) h le =
      sure_then _ IsLiteral (calls.between_quotes 39 bs) _ (sure_quoted 39 bs) (λ v k. tt)
  literal_token (sign s) h le = literal_sign s h

  sure_literal : (t : Syntax) → Fits t → 14 ≤ level t → Sure IsLiteral (item_by columns t)
  sure_literal (tree.operand t) f le = literal_token t f le
  sure_literal (tree.negative ds) f le =
      sure_then _ IsLiteral (calls.text_of (45 ∷ ds)) _ (sure_text (45 ∷ ds))
      (λ v k. number_literal columns.has_kinds v)
  sure_literal (tree.typed a w n) f le = absurd (let k : ⊥ = omega (arith, le) in k)
  sure_literal (tree.titled w bs) f le = absurd (let k : ⊥ = omega (arith, le) in k)
  sure_literal (tree.measured w t u) f le = absurd (let k : ⊥ = omega (arith, le) in k)
  sure_literal (tree.grouped a) f le = absurd (let k : ⊥ = omega (arith, le) in k)
  sure_literal (tree.negated a) f le = absurd (let k : ⊥ = omega (arith, le) in k)
  sure_literal (tree.joined o a b) f le =
      absurd (let k : ⊥ = omega (arith, le, own_right o, right_sign o) in k)
  sure_literal (tree.tested k n a) f le = absurd (let j : ⊥ = omega (arith, le) in j)
  sure_literal (tree.distinct n a b) f le = absurd (let k : ⊥ = omega (arith, le) in k)
  sure_literal (tree.between n a b c) f le = absurd (let k : ⊥ = omega (arith, le) in k)
  sure_literal (tree.matched k a p e) f le = absurd (let j : ⊥ = omega (arith, le) in j)
  sure_literal (tree.cast p a w n) f le = absurd (let k : ⊥ = omega (arith, le) in k)
  sure_literal (tree.converted a w n) f le = absurd (let k : ⊥ = omega (arith, le, f.1) in k)
  sure_literal (tree.minus a) f le = absurd (let k : ⊥ = omega (arith, le) in k)
  sure_literal (tree.plus a) f le = absurd (let k : ⊥ = omega (arith, le) in k)
  sure_literal (tree.bit_not a) f le = absurd (let k : ⊥ = omega (arith, le) in k)
  sure_literal (tree.null_tested n a) f le = absurd (let k : ⊥ = omega (arith, le) in k)
  sure_literal (tree.listed n a args b) f le = absurd (let k : ⊥ = omega (arith, le) in k)
  sure_literal (tree.chosen bs c v) f le = absurd (let k : ⊥ = omega (arith, le) in k)
  sure_literal (tree.chosen_else bs c v e) f le = absurd (let k : ⊥ = omega (arith, le) in k)
  sure_literal (tree.nullary p w) f le = absurd (let k : ⊥ = omega (arith, le) in k)
  sure_literal (tree.applied p w args a) f le = absurd (let k : ⊥ = omega (arith, le) in k)
  sure_literal (tree.extracted p g w a) f le = absurd (let k : ⊥ = omega (arith, le) in k)
  sure_literal (tree.parted p g s a) f le = absurd (let k : ⊥ = omega (arith, le) in k)
  sure_literal (tree.parted_for p g s a w b) f le = absurd (let k : ⊥ = omega (arith, le) in k)
  sure_literal (tree.placed p g a b) f le = absurd (let k : ⊥ = omega (arith, le) in k)
  sure_literal (tree.trimmed p g d a) f le = absurd (let k : ⊥ = omega (arith, le) in k)
  sure_literal (tree.trimmed_by p g o c a) f le = absurd (let k : ⊥ = omega (arith, le) in k)

  sure_typed : (w : List ℕ) (n : Bool) (i : Item) → IsLiteral i
      → Sure IsItem (calls.typed_item w n i)
  sure_typed w n (bound t) h = absurd h
  sure_typed w n (kinded k t) h = absurd h
  sure_typed w n (interval z) h = absurd h
  sure_typed w n (fraction v) h =
      sure_item _ (sure_then _ IsTyped (calls.type_of_name w n) _ (sure_named w n)
      (λ t k. sure_constant (literals.number v) t))
  sure_typed w n (literal l) h =
      sure_item _ (sure_then _ IsTyped (calls.type_of_name w n) _ (sure_named w n)
      (λ t k. sure_constant l t))

  sure_kind_name : (w : List ℕ) (n : Bool) → Sure (λ k. Unit {0}) (calls.kind_of_name w n)
  sure_kind_name w n =
      sure_if _ n _ _ tt (sure_then _ _ (calls.text_of w) _ (sure_text w) (λ v h. tt))

  sure_interval : (o : Option Interval) → Sure IsItem (interval_told o)
  sure_interval None = tt
  sure_interval (Some z) = tt

  sure_interval_item : (l : literals.Literal) → Sure IsItem (interval_item l)
  sure_interval_item (literals.number w) = tt
  sure_interval_item (literals.text bs) = sure_interval (interval_of bs)
  sure_interval_item (literals.truth b) = tt
  sure_interval_item literals.null = tt

  sure_unit_item : (u : List ℕ) (l : literals.Literal) → Sure IsItem (unit_item u l)
  sure_unit_item u (literals.number w) = sure_interval (interval_of (unit_text w u))
  sure_unit_item u (literals.text bs) = sure_interval (interval_of (unit_text bs u))
  sure_unit_item u (literals.truth b) = tt
  sure_unit_item u literals.null = tt

  -- calls of SQL's functions
  sure_function : (f : Standard) (o : Option LogicalType) (is : List Item) → AllItems is
      → Sure IsTyped (called (callable f) o is)
  sure_function f o is h =
      sure_then _ IsTyped (all_settled o is) (call_of (callable f)) (sure_all o is h)
      (λ ts j. sure_named_call f ts)

  sure_cases : (o : Option LogicalType) (is : List Item) → AllItems is
      → Sure AllTyped (cases_settled o is)
  sure_cases o [] h = tt
  sure_cases o (v ∷ []) h =
      sure_less _ AllTyped (all_settled o (v ∷ [])) (λ ts j. j.0) (sure_all o (v ∷ []) h)
  sure_cases o (c ∷ v ∷ is) h =
      sure_then IsTyped AllTyped (truth_settled c) _ (sure_truth_settled c h.0)
      (λ a j. sure_then IsTyped AllTyped (settled o v) _ (sure_settled o v h.1.0)
      (λ b k. sure_then AllTyped AllTyped (cases_settled o is) _ (sure_cases o is h.1.1)
      (λ ts l. (j, (k, l)))))

  sure_each : (a b c : rows.Kind) (is : List Item) → AllItems is
      → Sure AllTyped (each_settled a b c is)
  sure_each a b c [] h = tt
  sure_each a b c (i ∷ is) h =
      let o = if is_null i then type_of_null a else None in
      sure_then IsTyped AllTyped (settled o i) _ (sure_settled o i h.0)
      (λ t j. sure_then AllTyped AllTyped (each_settled b c c is) _ (sure_each b c c is h.1)
      (λ ts k. (j, k)))

  sure_arguments : (s : Takes) (is : List Item) → AllItems is
      → Sure AllTyped (arguments_settled s is)
  sure_arguments (Alike k) is h =
      sure_less _ AllTyped (all_settled (alike_type k is) is) (λ ts j. j.0)
      (sure_all (alike_type k is) is h)
  sure_arguments (Each a b c) is h = sure_each a b c is h
  sure_arguments Cases is h = sure_cases (common_type (values_of is)) is h

  sure_call_on : (f : Standard) (is : List Item) → AllItems is → Sure IsTyped (function_call f is)
  sure_call_on f is h =
      let s = (row_of f).types.takes in
      sure_then AllTyped IsTyped (arguments_settled s is) (call_of (callable f))
      (sure_arguments s is h) (λ ts j. sure_named_call f ts)

  sure_kinded_call : (f : Standard) (k : Kind) (is : List Item) → AllItems is
      → Sure IsItem (kinded_call f k is)
  sure_kinded_call f k is h =
      let s = (row_of f).types.takes in
      sure_then Any IsItem (met_values k (Of k) (values_in s is)) _
      (sure_met k (Of k) (values_in s is))
      (λ a j. sure_then AllItems IsItem (aligned_arguments s k a is) _
      (sure_aligned_arguments s k a is h)
      (λ js l. sure_then IsTyped IsItem (function_call f js) _ (sure_call_on f js l)
      (λ t q. result_is f a t q)))

  sure_item_call : (f : Standard) (is : List Item) → AllItems is → Sure IsItem (function_item f is)
  sure_item_call f is h =
      sure_if IsItem (calls.is_plain (call_kind f is)) _ _ (sure_item _ (sure_call_on f is h))
      (sure_kinded_call f (call_kind f is) is h)

  sure_cast_by : (o : Option Standard) (u : Tree) → Sure IsTyped (cast_by o u)
  sure_cast_by None u = tt
  sure_cast_by (Some f) u = sure_named_call f (u ∷ [])

  sure_cast_from : (p : Bool) (o : Option LogicalType) (t : LogicalType) (u : Tree) → IsTyped u
      → Sure IsTyped (cast_from p o t u)
  sure_cast_from p None t u h = tt
  sure_cast_from p (Some k) t u h =
      sure_if IsTyped (alike_types k t) _ _ h
      (sure_cast_by (option_map (tried_if p) (cast_function k t)) u)

  sure_cast_tree : (p : Bool) (t : LogicalType) (u : Tree) → IsTyped u
      → Sure IsTyped (cast_tree p t u)
  sure_cast_tree p t u h = sure_cast_from p (tree_type meaning u) t u h

  sure_cast_to : (p : Bool) (i : Item) (t : LogicalType) → IsItem i → Sure IsTyped (cast_to p i t)
  sure_cast_to p i t h =
      sure_if IsTyped (is_nullable t) _ _
      (sure_if IsTyped (is_bool_type t) _ _
      (sure_called Cast (Some t) (i ∷ []) refl (λ ks. refl) (h, tt)) tt)
      (sure_then IsTyped IsTyped (settled (cast_hint p i t) i) _
      (sure_settled (cast_hint p i t) i h)
      (λ u j. sure_cast_tree p t u j))

  sure_cast : (p : Bool) (w : List ℕ) (n : Bool) (i : Item) → IsItem i
      → Sure IsItem (calls.cast_item p w n i)
  sure_cast p w n i h =
      sure_item _ (sure_then _ IsTyped (calls.type_of_name w n) _ (sure_named w n)
      (λ t k. sure_cast_to p i t h))

  sure_typed_or_cast : (l : literals.Literal) (t : LogicalType) → Sure IsTyped (calls.typed_or_cast l t)
  sure_typed_or_cast l t =
      sure_if IsTyped (is_nullable t || literals.suits l t) _ _ (sure_constant l t)
      (sure_cast_to false (literal l) t tt)

  sure_typed_plain : (w : List ℕ) (n : Bool) (i : Item) → IsLiteral i
      → Sure IsItem (calls.typed_plain w n i)
  sure_typed_plain w n (literal l) h =
      sure_if IsItem (is_interval_name w n) _ _ (sure_interval_item l)
      (sure_if IsItem (is_unit_name w n) _ _ (sure_unit_item w l)
      (sure_item _ (sure_then _ IsTyped (calls.type_of_name w n) _ (sure_named w n)
      (λ t k. sure_typed_or_cast l t))))
  sure_typed_plain w n (fraction v) h = sure_typed w n (fraction v) h
  sure_typed_plain w n (interval z) h = absurd h
  sure_typed_plain w n (bound t) h = absurd h
  sure_typed_plain w n (kinded k t) h = absurd h

  sure_typed_named : (w : List ℕ) (n : Bool) (i : Item) (k : Option Kind) → IsLiteral i
      → Sure IsItem (calls.typed_named w n i k)
  sure_typed_named w n i None h = sure_typed_plain w n i h
  sure_typed_named w n (literal l) (Some k) h = sure_kind_item k l
  sure_typed_named w n (fraction v) (Some k) h = sure_kind_item k (literals.number v)
  sure_typed_named w n (interval z) (Some k) h = absurd h
  sure_typed_named w n (bound t) (Some k) h = absurd h
  sure_typed_named w n (kinded j t) (Some k) h = absurd h

  sure_cast_of_kind : (p : Bool) (w : List ℕ) (n : Bool) (i : Item) → IsItem i
      → Sure IsItem (calls.cast_of_kind p w n i)
  sure_cast_of_kind p w n (kinded k t) h =
      sure_then (λ u. Unit {0}) IsItem (calls.type_of_name w n) _ (sure_named w n)
      (λ u j. sure_stored_cast p k u t)
  sure_cast_of_kind p w n (fraction v) h =
      sure_then (λ u. Unit {0}) IsItem (calls.type_of_name w n) _ (sure_named w n)
      (λ u j. sure_fraction_cast p v u)
  sure_cast_of_kind p w n i h = sure_cast p w n i h

  sure_cast_named : (p : Bool) (w : List ℕ) (n : Bool) (i : Item) (k : Option Kind) → IsItem i
      → Sure IsItem (calls.cast_named p w n i k)
  sure_cast_named p w n i None h = sure_cast_of_kind p w n i h
  sure_cast_named p w n i (Some k) h = sure_cast_to_kind p k i h

  sure_cut : (ds : List ℕ) (i : Item) → IsItem i → Sure IsItem (calls.cut_item ds i)
  sure_cut ds i h =
      sure_then IsTyped IsItem (settled None i) _ (sure_settled None i h)
      (λ t j. sure_then (λ v. Unit {0}) IsItem (calls.text_of ds) _ (sure_text ds)
      (λ v k. sure_then IsTyped IsItem
      (constant_at (literals.number v) (integer_type I64 false)) _
      (sure_constant (literals.number v) (integer_type I64 false))
      (λ c l. sure_item _ (sure_named_call (standard.Side Left) (t ∷ c ∷ [])))))

  sure_cut_cast : (p : Bool) (ds : List ℕ) (i : Item) → IsItem i
      → Sure IsItem (calls.cut_cast p ds i)
  sure_cut_cast p ds i h =
      sure_then IsItem IsItem (calls.cast_of_kind p (codes "varchar") false i) _
      (sure_cast_of_kind p (codes "varchar") false i h) (λ j k. sure_cut ds j k)

  sure_cast_sized : (o : Option (List ℕ)) (p : Bool) (w : List ℕ) (n : Bool) (i : Item) → IsItem i
      → Sure IsItem (calls.cast_sized o p w n i)
  sure_cast_sized (Some ds) p w n i h = sure_cut_cast p ds i h
  sure_cast_sized None p w n i h =
      sure_if IsItem (is_numeric_name w n) _ _ (sure_numeric_cast p i h)
      (sure_then {A = Option Kind} (λ k. Unit {0}) IsItem (calls.kind_of_name w n) _
      (sure_kind_name w n) (λ k j. sure_cast_named p w n i k h))

  sure_cast_with : (b p : Bool) (w : List ℕ) (n : Bool) (i : Item) → IsItem i
      → Sure IsItem (calls.cast_by b p w n i)
  sure_cast_with false p w n i h = sure_cast p w n i h
  sure_cast_with true p w n i h = sure_cast_sized (text_size_of w) p w n i h

  literal_item : (i : Item) → IsLiteral i → IsItem i
  literal_item (literal l) h = tt
  literal_item (fraction v) h = tt
  literal_item (interval z) h = absurd h
  literal_item (bound t) h = absurd h
  literal_item (kinded k t) h = absurd h

  sure_typed_sized : (o : Option (List ℕ)) (w : List ℕ) (n : Bool) (i : Item) → IsLiteral i
      → Sure IsItem (calls.typed_sized o w n i)
  sure_typed_sized (Some ds) w n i h = sure_cut_cast false ds i (literal_item i h)
  sure_typed_sized None w n i h =
      sure_if IsItem (is_numeric_name w n) _ _ (sure_numeric_cast false i (literal_item i h))
      (sure_then {A = Option Kind} (λ k. Unit {0}) IsItem (calls.kind_of_name w n) _
      (sure_kind_name w n) (λ k j. sure_typed_named w n i k h))

  sure_typed_by : (b : Bool) (w : List ℕ) (n : Bool) (i : Item) → IsLiteral i
      → Sure IsItem (calls.typed_by b w n i)
  sure_typed_by false w n i h = sure_typed w n i h
  sure_typed_by true w n i h = sure_typed_sized (text_size_of w) w n i h

  sure_operator : (o : Operator) (u : Option LogicalType) (is : List Item) → length is ≡ 2
      → AllItems is → Sure IsTyped (called (ours (Binary o)) u is)
  sure_operator o u is e h =
      sure_called (Binary o) u is (ap (fits (function_arity meaning (ours (Binary o)))) e)
      (λ ks. refl) h

  sure_written : (o : written.WrittenOperator) (u : Option LogicalType) (is : List Item)
      → length is ≡ 2 → AllItems is → Sure IsTyped (called (calls.written_function o) u is)
  sure_written signs.Or u is e h = sure_operator operator.Or u is e h
  sure_written signs.And u is e h = sure_operator operator.And u is e h
  sure_written signs.Equal u is e h = sure_operator operator.Eq u is e h
  sure_written signs.NotEqual u is e h = sure_operator operator.NotEq u is e h
  sure_written signs.Less u is e h = sure_operator operator.Lt u is e h
  sure_written signs.LessOrEqual u is e h = sure_operator operator.Lte u is e h
  sure_written signs.Greater u is e h = sure_operator operator.Gt u is e h
  sure_written signs.GreaterOrEqual u is e h = sure_operator operator.Gte u is e h
  sure_written signs.Add u is e h = sure_operator operator.Add u is e h
  sure_written signs.Sub u is e h = sure_operator operator.Sub u is e h
  sure_written signs.Mul u is e h = sure_operator operator.Mul u is e h
  sure_written signs.Div u is e h = sure_operator operator.Div u is e h
  sure_written signs.Mod u is e h = sure_function standard.Remainder u is h
  sure_written signs.Concat u is e h = sure_function standard.Concat u is h
  sure_written signs.BitAnd u is e h = sure_function (standard.BitOperator bits.And) u is h
  sure_written signs.BitOr u is e h = sure_function (standard.BitOperator bits.Or) u is h
  sure_written signs.BitXor u is e h = sure_function (standard.BitOperator bits.Xor) u is h
  sure_written signs.ShiftLeft u is e h = sure_function (standard.Shift shift.Left) u is h
  sure_written signs.ShiftRight u is e h = sure_function (standard.Shift shift.Right) u is h
  sure_written signs.Matches u is e h = sure_function (standard.PatternFunction pattern.Like) u is h
  sure_written signs.MatchesAnyCase u is e h = sure_function (standard.PatternFunction pattern.AnyCase) u is h
  sure_written signs.NotMatches u is e h = sure_function (standard.PatternFunction pattern.NotLike) u is h
  sure_written signs.NotMatchesAnyCase u is e h = sure_function (standard.PatternFunction pattern.NotAnyCase) u is h

  sure_parts_joined : (o : written.WrittenOperator) (a b : Item) → IsItem a → IsItem b
      → Sure IsItem (calls.parts_joined o a b)
  sure_parts_joined o a b h k =
      sure_item _ (sure_written o (calls.joined_type o (a ∷ b ∷ [])) (a ∷ b ∷ []) refl (h, (k, tt)))

  sure_plain_joined : (o : written.WrittenOperator) (a b : Item) → IsItem a → IsItem b
      → Sure IsItem (calls.plain_joined o a b)
  sure_plain_joined o a b h k =
      sure_then IsItem IsItem (calls.as_part o a) _ (sure_as_part o a h)
      (λ x j. sure_then IsItem IsItem (calls.as_part o b) _ (sure_as_part o b k)
      (λ y l. sure_parts_joined o x y j l))

  sure_concat : (a b : Item) → IsItem a → IsItem b → Sure IsItem (calls.concat_item a b)
  sure_concat a b h k =
      sure_then IsItem IsItem (as_text a) _ (sure_as_text a h)
      (λ x j. sure_then IsItem IsItem (as_text b) _ (sure_as_text b k)
      (λ y l. sure_plain_joined signs.Concat x y j l))

  sure_joined : (o : written.WrittenOperator) (a b : Item) → IsItem a → IsItem b
      → Sure IsItem (calls.joined_item o a b)
  sure_joined o a b h k =
      sure_if IsItem (calls.is_concat o) _ _ (sure_concat a b h k)
      (sure_if IsItem (calls.is_kinded a || calls.is_kinded b) _ _ (sure_kinded_joined o a b)
      (sure_plain_joined o a b h k))

  sure_not : (o : Option LogicalType) (i : Item) → IsItem i
      → Sure IsTyped (called (ours Not) o (i ∷ []))
  sure_not o i h = sure_called Not o (i ∷ []) refl (λ ks. refl) (h, tt)

  sure_not_item : (i : Item) → IsItem i → Sure IsItem (calls.not_item i)
  sure_not_item i h =
      sure_then IsItem IsItem (as_truth i) _ (sure_as_truth i h)
      (λ j k. sure_item _ (sure_not calls.truth_type j k))

  sure_negated : (n : Bool) (t : Tree) → IsTyped t → Sure IsTyped (calls.negated_if n t)
  sure_negated true t h = sure_not None (bound t) h
  sure_negated false t h = h

  sure_negated_item : (n : Bool) (i : Item) → IsItem i → Sure IsItem (calls.negated_item n i)
  sure_negated_item true i h = sure_item _ (sure_not None i h)
  sure_negated_item false i h = h

  sure_within : (a b c : Item) → IsItem a → IsItem b → IsItem c
      → Sure IsTyped (calls.between_three a b c)
  sure_within a b c h k j =
      sure_if IsTyped (calls.is_kinded a || (calls.is_kinded b || calls.is_kinded c)) _ _
      (sure_kinded_between a b c)
      (sure_called (Between calls.within_bounds) _ (a ∷ b ∷ c ∷ []) refl (λ ks. refl)
      (h, (k, (j, tt))))

  sure_bounds : (s : Bool) (a b c : Item) → IsItem a → IsItem b → IsItem c
      → Sure IsTyped (calls.between_tree s a b c)
  sure_bounds false a b c h k j = sure_within a b c h k j
  sure_bounds true a b c h k j =
      sure_then IsTyped IsTyped (calls.between_three a b c) _ (sure_within a b c h k j)
      (λ t x. sure_then IsTyped IsTyped (calls.between_three a c b) _
      (sure_within a c b h j k)
      (λ u y. sure_operator operator.Or None (bound t ∷ bound u ∷ []) refl (x, (y, tt))))

  sure_between : (n : BetweenKind) (a b c : Item) → IsItem a → IsItem b → IsItem c
      → Sure IsItem (calls.between_item n a b c)
  sure_between n a b c h k j =
      sure_item _ (sure_then IsTyped IsTyped (calls.between_tree n.symmetric a b c) _
      (sure_bounds n.symmetric a b c h k j) (sure_negated n.negated))

  sure_liked : (k : LikeKind) (e : Option ℕ) (a p : Item) → IsItem a → IsItem p
      → Sure IsItem (calls.liked_item k e a p)
  sure_liked k e a p h j =
      sure_item _ (sure_called (Like (calls.like_options k e)) (Some (text_type false)) (a ∷ p ∷ []) refl (λ ks. refl)
      (h, (j, tt)))

  sure_matched : (k : LikeKind) (e : Option (List ℕ)) (a p : Item) → IsItem a → IsItem p
      → Sure IsItem (calls.matched_item k e a p)
  sure_matched k None a p h j = sure_liked k _ a p h j
  sure_matched k (Some e) a p h j =
      sure_then (λ c. Unit {0}) IsItem (calls.escape_in e) _
      (sure_then _ _ (calls.between_quotes 39 e) _ (sure_quoted 39 e)
      (λ v q. sure_or _ (escape_of (chars v))))
      (λ c q. sure_liked k c a p h j)

  sure_null_test : (n : Bool) (i : Item) → IsItem i
      → Sure IsItem (calls.tested_item test.Null n i)
  sure_null_test n i h =
      let s = calls.stored_item i in
      sure_item _ (sure_then _ IsTyped (all_settled None (s ∷ [])) _
      (sure_all None (s ∷ []) (sure_stored i h, tt)) (λ ts j. sure_null n ts j.0 j.1))

  sure_truth_test : (f : Standard) (n : Bool) (i : Item) → IsItem i
      → Sure IsItem (calls.truth_test f n i)
  sure_truth_test f n i h =
      sure_then IsItem IsItem (as_truth i) _ (sure_as_truth i h)
      (λ j k. sure_item _ (sure_then IsTyped IsTyped
      (called (callable f) calls.truth_type (j ∷ [])) _
      (sure_function f calls.truth_type (j ∷ []) (k, tt)) (sure_negated n)))

  sure_tested : (k : Test) (n : Bool) (i : Item) → IsItem i → Sure IsItem (calls.tested_item k n i)
  sure_tested test.Null n i h = sure_null_test n i h
  sure_tested test.True n i h = sure_truth_test (standard.TruthTest IsTrue) n i h
  sure_tested test.False n i h = sure_truth_test (standard.TruthTest IsFalse) n i h
  sure_tested test.Unknown n i h = sure_truth_test (standard.TruthTest IsUnknown) n i h

  sure_distinct : (n : Bool) (a b : Item) → IsItem a → IsItem b
      → Sure IsItem (calls.distinct_item n a b)
  sure_distinct n a b h k =
      sure_then IsItem IsItem (function_item standard.IsDistinct (a ∷ b ∷ [])) _
      (sure_item_call standard.IsDistinct (a ∷ b ∷ []) (h, (k, tt))) (sure_negated_item n)

  sure_plus : (i : Item) → IsItem i → Sure IsItem (calls.plus_item i)
  sure_plus i h =
      sure_if IsItem (calls.is_number i) _ _ h
      (sure_joined signs.Add (literal (literals.number (codes "0"))) i tt h)

  sure_bit_not : (i : Item) → IsItem i → Sure IsItem (calls.bit_not_item i)
  sure_bit_not i h = sure_item _ (sure_call_on standard.BitNot (i ∷ []) (h, tt))

  -- calls by names
  all_appended : (is js : List Item) → AllItems is → AllItems js → AllItems (is ++ js)
  all_appended [] js h k = k
  all_appended (i ∷ is) js h k = (h.0, all_appended is js h.1 k)

  all_reversed : (is : List Item) → AllItems is → AllItems (reverse is)
  all_reversed [] h = tt
  all_reversed (i ∷ is) h =
      subst AllItems (sym (reverse-append (i ∷ []) is))
      (all_appended (reverse is) (i ∷ []) (all_reversed is h.1) (h.0, tt))

  sure_more : (o : Outcome (List Item)) (p : Outcome Item) → Sure AllItems o → Sure IsItem p
      → Sure AllItems (with_item o p)
  sure_more o p h k =
      sure_then AllItems AllItems o _ h
      (λ is j. sure_then IsItem AllItems p _ k (λ i l. (l, j)))

  sure_pair : (o : Outcome (List Item)) (p r : Outcome Item) → Sure AllItems o → Sure IsItem p
      → Sure IsItem r → Sure AllItems (with_item (with_item o p) r)
  sure_pair o p r h k j = sure_more (with_item o p) r (sure_more o p h k) j

  sure_listed : (n : Bool) (is : List Item) → AllItems is → Sure IsItem (calls.listed_item n is)
  sure_listed n is h =
      sure_then IsItem IsItem (function_item standard.InList is) _
      (sure_item_call standard.InList is h) (sure_negated_item n)

  sure_equal : (a : Item) (is : List Item) → IsItem a → AllItems is
      → Sure AllItems (calls.equal_cases a is)
  sure_equal a [] h k = tt
  sure_equal a (v ∷ []) h k = k
  sure_equal a (x ∷ v ∷ is) h k =
      sure_then IsItem AllItems (calls.joined_item signs.Equal a x) _
      (sure_joined signs.Equal a x h k.0)
      (λ c j. sure_then AllItems AllItems (calls.equal_cases a is) _ (sure_equal a is h k.1.1)
      (λ js l. (j, (k.1.0, l))))

  sure_conditions : (b : Bool) (is : List Item) → AllItems is
      → Sure AllItems (calls.conditions_of b is)
  sure_conditions true [] h = h
  sure_conditions true (a ∷ is) h = sure_equal a is h.0 h.1
  sure_conditions false is h = h

  sure_chosen : (b : Bool) (is : List Item) → AllItems is → Sure IsItem (calls.chosen_item b is)
  sure_chosen b is h =
      sure_then AllItems IsItem (calls.conditions_of b is) _ (sure_conditions b is h)
      (λ js k. sure_item_call standard.Case js k)

  sure_standard : (w : List ℕ) (is : List Item) → AllItems is → Sure IsItem (standard_item w is)
  sure_standard w is h =
      sure_then _ IsItem (or_refuses NoFunction (standard_named w)) _
      (sure_or NoFunction (standard_named w))
      (λ f k. sure_item_call f is h)

  sure_meant : (o : Option KindName) (w : List ℕ) (is : List Item) → AllItems is
      → Sure IsItem (meant_item o w is)
  sure_meant (Some n) w is h = sure_kind_call n is h
  sure_meant None w is h = sure_standard w is h

  sure_applied : (w : List ℕ) (is : List Item) → AllItems is → Sure IsItem (applied_item w is)
  sure_applied w is h =
      sure_if IsItem (calls.is_plain (first_kind is)) _ _ (sure_standard w is h)
      (sure_meant (kind_word w) w is h)

  sure_made_date : (is : List Item) → AllItems is → Sure IsItem (made_date is)
  sure_made_date is h =
      sure_then IsTyped IsItem (function_call standard.MakeDate is) _
      (sure_call_on standard.MakeDate is h) (λ t k. k)

  sure_joined_call : (f : Standard) (is : List Item) → AllItems is → Sure IsItem (joined_call f is)
  sure_joined_call f is h =
      sure_if IsItem (joins f) _ _
      (sure_then AllItems IsItem (as_texts is) _ (sure_as_texts is h)
      (λ js k. sure_item (function_call f js) (sure_call_on f js k)))
      (sure_item_call f is h)

  sure_located : (is : List Item) → AllItems is → Sure IsItem (located is)
  sure_located [] h = sure_item_call standard.StrPos [] h
  sure_located (i ∷ []) h = sure_item_call standard.StrPos (i ∷ []) h
  sure_located (i ∷ j ∷ []) h = sure_item_call standard.StrPos (j ∷ i ∷ []) (h.1.0, (h.0, tt))
  sure_located (i ∷ j ∷ k ∷ is) h = sure_item_call standard.StrPos (i ∷ j ∷ k ∷ is) h

  sure_read_by : (o : Option (Kind × Standard)) (is : List Item) → AllItems is
      → Sure IsItem (read_by o is)
  sure_read_by None is h = tt
  sure_read_by (Some x) is h =
      sure_then IsTyped IsItem (function_call x.1 is) _ (sure_call_on x.1 is h) (λ t k. k)

  sure_contained : (is : List Item) → AllItems is → Sure IsItem (contained is)
  sure_contained is h =
      sure_then IsItem IsItem (function_item standard.StrPos is) _
      (sure_item_call standard.StrPos is h)
      (λ i k. sure_item _ (sure_called (Binary operator.Gt) None
      (i ∷ literal (literals.number (codes "0")) ∷ []) refl (λ ks. refl) (k, (tt, tt))))

  sure_ended_by : (i j : Item) → IsItem i → IsItem j → Sure IsItem (ended_by i j)
  sure_ended_by i j h k =
      sure_then IsItem IsItem (function_item (standard.Measure Characters) (j ∷ [])) _
      (sure_item_call (standard.Measure Characters) (j ∷ []) (k, tt))
      (λ n l. sure_then IsItem IsItem (function_item (standard.Side Right) (i ∷ n ∷ [])) _
      (sure_item_call (standard.Side Right) (i ∷ n ∷ []) (h, (l, tt)))
      (λ r m. sure_item _ (sure_called (Binary operator.Eq) None (r ∷ j ∷ []) refl (λ ks. refl)
      (m, (k, tt)))))

  sure_last_day : (i : Item) → IsItem i → Sure IsItem (last_day i)
  sure_last_day i h =
      let one = literal (literals.number (codes "1")) in
      sure_then IsItem IsItem (cast_to_kind false Date i) _ (sure_cast_to_kind false Date i h)
      (λ d k. sure_then IsItem IsItem (of_value (ToUnit units.Month) d) _
      (sure_of_value (ToUnit units.Month) d k)
      (λ m l. sure_then IsItem IsItem (months_after m one) _ (sure_months_after m one tt)
      (λ n q. sure_kinded_joined signs.Sub n one)))

  sure_days_between : (i j : Item) → IsItem i → IsItem j → Sure IsItem (days_between i j)
  sure_days_between i j h k =
      sure_then IsItem IsItem (cast_to_kind false Date i) _ (sure_cast_to_kind false Date i h)
      (λ a l. sure_then IsItem IsItem (cast_to_kind false Date j) _
      (sure_cast_to_kind false Date j k) (λ b m. sure_kinded_joined signs.Sub a b))

  sure_formed : (f : Form) (is : List Item) → AllItems is → Sure IsItem (formed f is)
  sure_formed form.Contains is h = sure_contained is h
  sure_formed form.EndsWith (s ∷ t ∷ []) h = sure_ended_by s t h.0 h.1.0
  sure_formed form.LastDay (i ∷ []) h = sure_last_day i h.0
  sure_formed form.DaysBetween (i ∷ j ∷ []) h = sure_days_between i j h.0 h.1.0
  sure_formed form.DaysBetween (literal (literals.text u) ∷ i ∷ j ∷ []) h =
      sure_if IsItem (same_word u (codes "day")) _ _ (sure_days_between j i h.1.1.0 h.1.0) tt
  sure_formed f is h = tt

  sure_formed_item : (o : Option Form) (w : List ℕ) (is : List Item) → AllItems is
      → Sure IsItem (formed_item o w is)
  sure_formed_item (Some f) w is h = sure_formed f is h
  sure_formed_item None w is h = sure_read_by (format_word w) is h

  sure_named_item : (o : Option Standard) (w : List ℕ) (is : List Item) → AllItems is
      → Sure IsItem (named_item o w is)
  sure_named_item (Some f) w is h = sure_joined_call (by_pattern f is) is h
  sure_named_item None w is h =
      sure_if IsItem (is_locate w) _ _ (sure_located is h) (sure_formed_item (form_word w) w is h)

  sure_joining : (w : List ℕ) (is : List Item) → AllItems is → Sure IsItem (joining_item w is)
  sure_joining w is h = sure_named_item (standard_named w) w is h

  sure_kinded_item : (o : Option KindName) (w : List ℕ) (is : List Item) → AllItems is
      → Sure IsItem (kinded_item o w is)
  sure_kinded_item (Some n) w is h = sure_kind_call n is h
  sure_kinded_item None w is h = sure_joining w is h

  sure_whole : (o : Option KindName) (w : List ℕ) (is : List Item) → AllItems is
      → Sure IsItem (whole_item o w is)
  sure_whole (Some (Single (OfFloat f))) w is h =
      sure_if IsItem (takes_whole f) _ _ (sure_single_call (OfFloat f) is h) (sure_joining w is h)
  sure_whole o w is h = sure_joining w is h

  sure_kinds_item : (w : List ℕ) (is : List Item) → AllItems is → Sure IsItem (kinds_item w is)
  sure_kinds_item w is h =
      sure_if IsItem (calls.is_plain (first_kind is)) _ _ (sure_whole (kind_word w) w is h)
      (sure_kinded_item (kind_word w) w is h)

  sure_by : (b : Bool) (w : List ℕ) (is : List Item) → AllItems is → Sure IsItem (applied_by b w is)
  sure_by false w is h = sure_applied w is h
  sure_by true w is h =
      sure_if IsItem (same_word w (codes "make_date")) _ _ (sure_made_date is h)
      (sure_kinds_item w is h)

  mutual
    pub sure : (t : Syntax) → Fits t → Sure IsItem (item_by columns t)
    sure (tree.operand t) f = sure_operand t f
    sure (tree.negative ds) f =
        sure_then _ IsItem (calls.text_of (45 ∷ ds)) _ (sure_text (45 ∷ ds))
        (λ v k. sure_number_item columns.has_kinds v)
    sure (tree.typed a w n) f =
        sure_then IsLiteral IsItem (item_by columns a) _ (sure_literal a f.1 f.0)
        (λ i h. sure_typed_by columns.has_kinds w n i h)
    sure (tree.titled w bs) f =
        sure_then IsLiteral IsItem (calls.operand_by columns (text bs)) _
        (literal_token (text bs) refl (omega arith))
        (λ i h. sure_typed_by columns.has_kinds w false i h)
    sure (tree.measured w (text bs) u) f =
        sure_then IsLiteral IsItem (calls.operand_by columns (text bs)) _
        (literal_token (text bs) refl (omega arith))
        (λ i h. sure_typed_by columns.has_kinds u false i h)
    sure (tree.measured w (number ds) u) f =
        sure_then IsLiteral IsItem (calls.operand_by columns (number ds)) _
        (literal_token (number ds) refl (omega arith))
        (λ i h. sure_typed_by columns.has_kinds u false i h)
    sure (tree.measured w t u) f = absurd (let k = f.1 in cc)
    sure (tree.grouped a) f = sure a f
    sure (tree.negated a) f =
        sure_then IsItem IsItem (item_by columns a) _ (sure a f.1)
        (λ i h. sure_not_item i h)
    sure (tree.joined o a b) f =
        sure_then IsItem IsItem (item_by columns a) _ (sure a f.2)
        (λ x h. sure_then IsItem IsItem (item_by columns b) _ (sure b f.3)
        (λ y k. sure_joined o x y h k))
    sure (tree.tested k n a) f =
        sure_then IsItem IsItem (item_by columns a) _ (sure a f.1) (λ i h. sure_tested (test_of k) n i h)
    sure (tree.null_tested n a) f =
        sure_then IsItem IsItem (item_by columns a) _ (sure a f.1) (λ i h. sure_null_test n i h)
    sure (tree.distinct n a b) f =
        sure_then IsItem IsItem (item_by columns a) _ (sure a f.2)
        (λ x h. sure_then IsItem IsItem (item_by columns b) _ (sure b f.3)
        (λ y k. sure_distinct n x y h k))
    sure (tree.between n a b c) f =
        sure_then IsItem IsItem (item_by columns a) _ (sure a f.3)
        (λ x h. sure_then IsItem IsItem (item_by columns b) _ (sure b f.4)
        (λ y k. sure_then IsItem IsItem (item_by columns c) _ (sure c f.5)
        (λ z j. sure_between n x y z h k j)))
    sure (tree.matched l a p e) f =
        sure_then IsItem IsItem (item_by columns a) _ (sure a f.2)
        (λ x h. sure_then IsItem IsItem (item_by columns p) _ (sure p f.3)
        (λ y k. sure_matched l e x y h k))
    sure (tree.converted a w n) f =
        sure_then IsItem IsItem (item_by columns a) _ (sure a f.2) (λ i h. sure_cast_with columns.has_kinds false w n i h)
    sure (tree.cast p a w n) f =
        sure_then IsItem IsItem (item_by columns a) _ (sure a f) (λ i h. sure_cast_with columns.has_kinds p w n i h)
    sure (tree.minus a) f =
        sure_then IsItem IsItem (item_by columns a) _ (sure a f.2)
        (λ i h. sure_joined signs.Sub (literal (literals.number (codes "0"))) i tt h)
    sure (tree.plus a) f =
        sure_then IsItem IsItem (item_by columns a) _ (sure a f.1) (λ i h. sure_plus i h)
    sure (tree.bit_not a) f =
        sure_then IsItem IsItem (item_by columns a) _ (sure a f.1) (λ i h. sure_bit_not i h)
    sure (tree.listed n a args b) f =
        let first = with_item (answers []) (item_by columns a) in
        sure_then AllItems IsItem (with_item (items_by columns first args) (item_by columns b)) _
        (sure_more (items_by columns first args) (item_by columns b)
        (sure_all_items args first f.2 (sure_more (answers []) (item_by columns a) tt (sure a f.1)))
        (sure b f.3))
        (λ is h. sure_listed n (reverse is) (all_reversed is h))
    sure (tree.chosen bs c v) f =
        let o = with_item (with_item (branches_by columns bs) (item_by columns c)) (item_by columns v) in
        sure_then AllItems IsItem o _
        (sure_pair (branches_by columns bs) (item_by columns c) (item_by columns v)
        (sure_branches bs f.0) (sure c f.1) (sure v f.2))
        (λ is h. sure_chosen (has_operand bs) (reverse is) (all_reversed is h))
    sure (tree.chosen_else bs c v e) f =
        let o = with_item (with_item (branches_by columns bs) (item_by columns c)) (item_by columns v) in
        sure_then AllItems IsItem (with_item o (item_by columns e)) _
        (sure_more o (item_by columns e)
        (sure_pair (branches_by columns bs) (item_by columns c) (item_by columns v)
        (sure_branches bs f.0) (sure c f.1) (sure v f.2)) (sure e f.3))
        (λ is h. sure_chosen (has_operand bs) (reverse is) (all_reversed is h))
    sure (tree.nullary p w) f = sure_by columns.has_kinds w [] tt
    sure (tree.applied p w args a) f =
        let some = items_by columns (answers []) args in
        sure_then AllItems IsItem (with_item some (item_by columns a)) _
        (sure_more some (item_by columns a) (sure_all_items args (answers []) f.0 tt) (sure a f.1))
        (λ is h. sure_by columns.has_kinds w (reverse is) (all_reversed is h))
    sure (tree.extracted p g w a) f =
        let word = calls.operand_by columns (text w) in
        let first = with_item (answers []) word in
        sure_then AllItems IsItem (with_item first (item_by columns a)) _
        (sure_more first (item_by columns a)
        (sure_more (answers []) word tt (sure_operand (text w) refl)) (sure a f.1))
        (λ is h. sure_by columns.has_kinds g (reverse is) (all_reversed is h))
    sure (tree.parted p g s a) f =
        let first = with_item (answers []) (item_by columns s) in
        sure_then AllItems IsItem (with_item first (item_by columns a)) _
        (sure_more first (item_by columns a)
        (sure_more (answers []) (item_by columns s) tt (sure s f.1)) (sure a f.2))
        (λ is h. sure_by columns.has_kinds g (reverse is) (all_reversed is h))
    sure (tree.placed p g a b) f =
        let first = with_item (answers []) (item_by columns a) in
        sure_then AllItems IsItem (with_item first (item_by columns b)) _
        (sure_more first (item_by columns b)
        (sure_more (answers []) (item_by columns a) tt (sure a f.2)) (sure b f.3))
        (λ is h. sure_by columns.has_kinds g (reverse is) (all_reversed is h))
    sure (tree.trimmed p g d a) f =
        sure_then IsItem IsItem (item_by columns a) _ (sure a f.1)
        (λ x h. sure_by columns.has_kinds (trim_word d) (x ∷ []) (h, tt))
    sure (tree.trimmed_by p g o c a) f =
        sure_then IsItem IsItem (item_by columns c) _ (sure c f.1)
        (λ x h. sure_then IsItem IsItem (item_by columns a) _ (sure a f.2)
        (λ y k. sure_by columns.has_kinds (trim_word (side_of o)) (y ∷ x ∷ []) (k, (h, tt))))
    sure (tree.parted_for p g s a w b) f =
        let first = with_item (answers []) (item_by columns s) in
        let two = with_item first (item_by columns a) in
        sure_then AllItems IsItem (with_item two (item_by columns b)) _
        (sure_more two (item_by columns b)
        (sure_more first (item_by columns a)
        (sure_more (answers []) (item_by columns s) tt (sure s f.2)) (sure a f.3)) (sure b f.4))
        (λ is h. sure_by columns.has_kinds g (reverse is) (all_reversed is h))

    sure_all_items : (args : Arguments) (o : Outcome (List Item)) → AllFit args → Sure AllItems o
        → Sure AllItems (items_by columns o args)
    sure_all_items tree.no_arguments o f h = h
    sure_all_items (tree.argument args a) o f h =
        sure_more (items_by columns o args) (item_by columns a) (sure_all_items args o f.0 h)
        (sure a f.1)

    sure_branches : (bs : Branches) → BranchesFit bs → Sure AllItems (branches_by columns bs)
    sure_branches tree.without_operand f = tt
    sure_branches (tree.of_operand a) f = sure_more (answers []) (item_by columns a) tt (sure a f)
    sure_branches (tree.branch bs c v) f =
        sure_pair (branches_by columns bs) (item_by columns c) (item_by columns v)
        (sure_branches bs f.0) (sure c f.1) (sure v f.2)

pub sure_tree : (scope : Fields) (t : Syntax) → Fits t → Sure IsTyped (tree_of scope t)
sure_tree scope t f =
    sure_then IsItem IsTyped (item_of scope t) _ (sure (names_of scope) (sure_column scope []) t f)
    (λ i h. sure_settled None i h)

sure_ended : (i : Item) → IsItem i → Sure (λ x. Unit {0}) (ended i)
sure_ended (kinded k t) h = tt
sure_ended (fraction w) h =
    sure_then {B = LogicalTree} Any (λ x. Unit {0}) (text_literal F64 w)
    (λ x. answers (record { tree = x.tree; kind = F64 })) (sure_text_literal F64 w) (λ x j. tt)
sure_ended (interval z) h = tt
sure_ended (bound t) h =
    sure_then {B = LogicalTree} IsTyped (λ x. Unit {0}) (settled None (bound t))
    (λ u. answers (record { tree = u; kind = Plain })) (sure_settled None (bound t) h) (λ u j. tt)
sure_ended (literal l) h =
    sure_then {B = LogicalTree} IsTyped (λ x. Unit {0}) (settled None (literal l))
    (λ u. answers (record { tree = u; kind = Plain })) (sure_settled None (literal l) h)
    (λ u j. tt)

pub sure_logical : (scope : Fields) (kinds : List Kind) (t : Syntax) → Fits t
    → Sure (λ x. Unit {0}) (logical_of scope kinds t)
sure_logical scope kinds t f =
    sure_then IsItem _ (item_by (names_in scope kinds) t) ended
    (sure (names_in scope kinds) (sure_column scope kinds) t f) sure_ended

module _ (scope : Fields) (kinds : List Kind) where
  -- names
  sure_name : (t : Token) → is_name t ≡ true → Sure (λ w. Unit {0}) (name_of t)
  sure_name (name w) h = sure_text w
  sure_name (quoted w) h = sure_quoted 34 w
  sure_name t h = absurd cc

  sure_said : (o : Option Token) → IfSome o (λ n. is_name n ≡ true) → Sure (λ w. Unit {0}) (written_name o)
  sure_said None h = tt
  sure_said (Some t) h = sure_then _ _ (name_of t) _ (sure_name t h) (λ w k. tt)

  sure_answer : {ts : List Token} (a : syntax.Answer) → SpellsAnswer ts a
      → Sure (λ x. Unit {0}) (answer_of scope kinds a)
  sure_answer a s =
      sure_then _ _ (logical_of scope kinds a.tree) _ (sure_logical scope kinds a.tree s.levels)
      (λ t h. sure_then _ _ (written_name a.name) _ (sure_said a.name s.named) (λ w k. tt))

  pub sure_answers : {ts : List Token} {bs : List syntax.Answer} → SpellsAnswers ts bs
      → Sure (λ x. Unit {0}) (answers_of scope kinds bs)
  sure_answers (one {a = a} s) = sure_then _ _ (answer_of scope kinds a) _ (sure_answer a s) (λ x h. tt)
  sure_answers (more {a = a} {bs = bs} us e s r) =
      sure_then _ _ (answer_of scope kinds a) _ (sure_answer a s)
      (λ x h. sure_then _ _ (answers_of scope kinds bs) _ (sure_answers r) (λ xs k. tt))
