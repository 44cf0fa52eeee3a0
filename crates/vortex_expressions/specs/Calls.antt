-- The result of each form of syntax for its parts.
use Rattle.std.specs.Prelude.{ℕ, List, [], ◌∷◌, Bool, true, false, Option, Some, None, ◌==◌}
use Rattle.std.specs.Prelude.{zero, suc, ◌||◌, ◌&&◌, codes, if◌then◌else◌}
use Rattle.std.specs.Str.{chars}
use Rattle.vortex_errors.specs.declared.error.VortexError.TheVariants.{ScopeMismatch}
use Rattle.vortex_types.specs.declared.dtype.PType.TheVariants.{I64}
use Rattle.vortex_types.specs.LogicalTypes.{LogicalType, Fields, integer_type, text_type, find_field}
use Rattle.vortex_types.specs.LogicalTypes.{is_nullable}
use Rattle.vortex_operators.specs.declared.operators.Operator.TheVariants as operator
use Rattle.vortex_like.specs.declared.options.LikeOptions.{LikeOptions}
use Rattle.vortex_like.specs.Tokens.{backslash}
use Rattle.vortex_interface.specs.Shipped.{Binary, Not, NullTest, Between, Like}
use Rattle.vortex_interface.specs.Functions.{ours}
use Rattle.vortex_interface.specs.Eval.{tree_type}
use Rattle.vortex_interface.specs.Trees.{leaf, place}
use Rattle.vortex_cells.specs.Escapes.{escape_of}
use Rattle.vortex_logical.specs.declared.kind.Kind.{Kind}
use Rattle.vortex_logical.specs.declared.kind.Kind.TheVariants.{Plain, F64}
use Rattle.vortex_lowering.specs.declared.refusal.Refusal.TheVariants.{NotStored}
use Rattle.vortex_syntax.specs.declared.step.WrittenOperator as syntax
use Rattle.vortex_syntax.specs.declared.step.WrittenOperator.TheVariants as written
use Rattle.vortex_syntax.specs.declared.step.BetweenKind.{BetweenKind}
use Rattle.vortex_syntax.specs.declared.step.LikeKind.{LikeKind}
use Rattle.vortex_syntax.specs.declared.step.Test.{Test}
use Rattle.vortex_syntax.specs.declared.step.Test.TheVariants as test
use Rattle.vortex_sql_choices.specs.declared.truth_tests.TruthTest.TheVariants.{IsTrue, IsFalse}
use Rattle.vortex_sql_choices.specs.declared.truth_tests.TruthTest.TheVariants.{IsUnknown}
use Rattle.vortex_sql_numbers.specs.declared.bits.BitOperator.TheVariants as bits
use Rattle.vortex_sql_numbers.specs.declared.bits.Shift.TheVariants as shift
use Rattle.vortex_sql_texts.specs.declared.parts.Side.TheVariants.{Left}
use Rattle.vortex_standard.specs.declared.standard.Standard.{Standard}
use Rattle.vortex_standard.specs.declared.standard.Standard.TheVariants as standard
use Rattle.vortex_sql_patterns.specs.declared.functions.PatternFunction.TheVariants as pattern
use Rattle.vortex_syntax.specs.SizeDigits.{text_size_of}
use Rattle.vortex_syntax.specs.declared.token.Sign.{Sign}
use Rattle.vortex_syntax.specs.declared.token.Sign.TheVariants as sign
use Rattle.vortex_syntax.specs.Tokens.{Token, name, nullable, function, quoted, number, text, sign}
use Rattle.vortex_expressions.specs.declared.refusal.Refusal.TheVariants.{UnknownType}
use Rattle.vortex_expressions.specs.declared.refusal.Refusal.TheVariants.{NoEscape, Binding, Kinds}
use Rattle.vortex_expressions.specs.Literals as literal
use Rattle.vortex_expressions.specs.Literals.{Literal, has_fraction}
use Rattle.vortex_expressions.specs.Outcomes.{Outcome, answers, refuses, missing, and_then}
use Rattle.vortex_expressions.specs.Outcomes.{or_refuses}
use Rattle.vortex_expressions.specs.Items.{Item, literal, bound, kinded, fraction, interval, Tree}
use Rattle.vortex_expressions.specs.Items.{meaning, Callable, called, common_type}
use Rattle.vortex_expressions.specs.Applied.{callable, function_call}
use Rattle.vortex_expressions.specs.Functions.{function_item}
use Rattle.vortex_expressions.specs.Joining.{as_text}
use Rattle.vortex_expressions.specs.Items.{constant_at, settled, call_of}
use Rattle.vortex_expressions.specs.Truths.{as_truth}
pub use Rattle.vortex_expressions.specs.Items.{as_item, truth_type, text_of}
use Rattle.vortex_expressions.specs.TypeNames.{named_type}
pub use Rattle.vortex_expressions.specs.Casts.{cast_to}
pub use Rattle.vortex_expressions.specs.Kinded.{is_kinded, kinded_joined, kinded_between, within_bounds}
pub use Rattle.vortex_expressions.specs.Kinded.{stored_item, is_plain, stores}
use Rattle.vortex_expressions.specs.KindCasts.{word_kind, kind_item, cast_to_kind, stored_cast}
use Rattle.vortex_expressions.specs.KindCasts.{fraction_cast, is_interval_name, interval_item}
use Rattle.vortex_expressions.specs.KindCasts.{is_unit_name, unit_item, is_numeric_name, numeric_cast}

-- In quotes each quote is doubled, and the second of two is skipped: the mark is true after the
-- first.
abbrev pub unquoted_behind : ℕ → Bool → List ℕ → List ℕ
unquoted_behind q b [] = []
unquoted_behind q true (b ∷ bs) = unquoted_behind q false bs
unquoted_behind q false (b ∷ bs) = b ∷ unquoted_behind q (b == q) bs

abbrev pub unquoted : ℕ → List ℕ → List ℕ
unquoted q bs = unquoted_behind q false bs

abbrev pub between_quotes : ℕ → List ℕ → Outcome (List ℕ)
between_quotes q bs = text_of (unquoted q bs)

-- the kind of the column at a place: those behind the list are plain
abbrev pub kind_at : List Kind → ℕ → Kind
kind_at [] n = Plain
kind_at (k ∷ ks) zero = k
kind_at (k ∷ ks) (suc n) = kind_at ks n

-- a column of a kind, whose type stores the kind
abbrev pub column_item : Kind → Tree → Outcome Item
column_item k a =
    if is_plain k then answers (bound a)
    else if stores k (tree_type meaning a) then answers (kinded k a)
    else refuses (Kinds (NotStored k))

abbrev pub field_found : List Kind → List ℕ → Option (ℕ × LogicalType) → Outcome Item
field_found ks w None = refuses (Binding ScopeMismatch)
field_found ks w (Some p) = column_item (kind_at ks p.0) (leaf (place p.0 w p.1))

-- the column of that name, with its kind
abbrev pub column_in : Fields → List Kind → List ℕ → Outcome Item
column_in scope ks w = field_found ks w (find_field w scope)

-- among columns without kinds
abbrev pub column_of : Fields → List ℕ → Outcome Item
column_of scope = column_in scope []

-- what names of columns mean, and whether kinds have names
pub record Names : Type 0 where
  pub column : List ℕ → Outcome Item
  pub has_kinds : Bool

abbrev pub are_given : List Kind → Bool
are_given [] = false
are_given (k ∷ ks) = true

-- kinds have names where columns have kinds
abbrev pub names_in : Fields → List Kind → Names
names_in scope ks = record { column = column_in scope ks; has_kinds = are_given ks }

abbrev pub names_of : Fields → Names
names_of scope = record { column = column_of scope; has_kinds = false }

abbrev pub sign_item : Sign → Outcome Item
sign_item sign.True = answers (literal (literal.truth true))
sign_item sign.False = answers (literal (literal.truth false))
sign_item sign.Null = answers (literal literal.null)
sign_item s = missing

abbrev pub text_item : List ℕ → Outcome Item
text_item bs = answers (literal (literal.text bs))

-- a number; with a fraction it is none of an integer type where columns have kinds
abbrev pub number_item : Bool → List ℕ → Item
number_item h w = if h && has_fraction w then fraction w else literal (literal.number w)

-- a column, by what its name means, or a literal
abbrev pub operand_by : Names → Token → Outcome Item
operand_by names (name w) = and_then (text_of w) names.column
operand_by names (nullable w) = missing
operand_by names (function w) = missing
operand_by names (quoted w) = and_then (between_quotes 34 w) names.column
operand_by names (number ds) =
    and_then (text_of ds) (λ w. answers (number_item names.has_kinds w))
operand_by names (text bs) = and_then (between_quotes 39 bs) text_item
operand_by names (sign s) = sign_item s

abbrev pub operand_item : Fields → Token → Outcome Item
operand_item scope = operand_by (names_of scope)

abbrev pub negative_item : Bool → List ℕ → Outcome Item
negative_item h ds = and_then (text_of (45 ∷ ds)) (λ w. answers (number_item h w))

-- the type of that name
abbrev pub type_of_name : List ℕ → Bool → Outcome LogicalType
type_of_name w n = and_then (text_of w) (λ v. or_refuses UnknownType (named_type n v))

-- a literal of the type of that name
abbrev pub typed_item : List ℕ → Bool → Item → Outcome Item
typed_item w n (bound t) = missing
typed_item w n (kinded k t) = missing
typed_item w n (interval z) = missing
typed_item w n (literal l) = as_item (and_then (type_of_name w n) (constant_at l))
typed_item w n (fraction v) =
    as_item (and_then (type_of_name w n) (constant_at (literal.number v)))

abbrev pub cast_item : Bool → List ℕ → Bool → Item → Outcome Item
cast_item p w n i = as_item (and_then (type_of_name w n) (cast_to p i))

-- the kind of that name; no kind is named with a question mark
abbrev pub kind_of_name : List ℕ → Bool → Outcome (Option Kind)
kind_of_name w n =
    if n then answers None else and_then (text_of w) (λ v. answers (word_kind v))

-- a literal of a type; one that the type does not have is cast, but not to a type with null
abbrev pub typed_or_cast : literal.Literal → LogicalType → Outcome Tree
typed_or_cast l u =
    if is_nullable u || literal.suits l u then constant_at l u else cast_to false (literal l) u

abbrev pub typed_literal : List ℕ → Bool → literal.Literal → Outcome Item
typed_literal w n l = as_item (and_then (type_of_name w n) (typed_or_cast l))

-- an interval, so many of a unit, or a literal of the type of that name
abbrev pub interval_or_typed : List ℕ → Bool → literal.Literal → Outcome Item
interval_or_typed w n l =
    if is_interval_name w n then interval_item l
    else (if is_unit_name w n then unit_item w l else typed_literal w n l)

abbrev pub typed_plain : List ℕ → Bool → Item → Outcome Item
typed_plain w n (literal l) = interval_or_typed w n l
typed_plain w n i = typed_item w n i

-- a literal of the kind or the type of that name
abbrev pub typed_named : List ℕ → Bool → Item → Option Kind → Outcome Item
typed_named w n i None = typed_plain w n i
typed_named w n (literal l) (Some k) = kind_item k l
typed_named w n (fraction v) (Some k) = kind_item k (literal.number v)
typed_named w n i (Some k) = missing

-- a cast to the type of that name; values of kinds are rounded and written, the latter not by
-- `try_cast`
abbrev pub cast_of_kind : Bool → List ℕ → Bool → Item → Outcome Item
cast_of_kind p w n (kinded k t) = and_then (type_of_name w n) (λ u. stored_cast p k u t)
cast_of_kind p w n (fraction v) = and_then (type_of_name w n) (fraction_cast p v)
cast_of_kind p w n i = cast_item p w n i

-- a cast to the kind or the type of that name
abbrev pub cast_named : Bool → List ℕ → Bool → Item → Option Kind → Outcome Item
cast_named p w n i None = cast_of_kind p w n i
cast_named p w n i (Some k) = cast_to_kind p k i

-- the first characters of a text, as many as the digits say
abbrev pub cut_item : List ℕ → Item → Outcome Item
cut_item ds i =
    and_then (settled None i) (λ t. and_then (text_of ds) (λ v.
    and_then (constant_at (literal.number v) (integer_type I64 false)) (λ c.
    as_item (call_of (callable (standard.Side Left)) (t ∷ c ∷ [])))))

-- a cast to a text of a size
abbrev pub cut_cast : Bool → List ℕ → Item → Outcome Item
cut_cast p ds i = and_then (cast_of_kind p (codes "varchar") false i) (cut_item ds)

abbrev pub cast_sized : Option (List ℕ) → Bool → List ℕ → Bool → Item → Outcome Item
cast_sized (Some ds) p w n i = cut_cast p ds i
cast_sized None p w n i =
    if is_numeric_name w n then numeric_cast p i else and_then (kind_of_name w n) (cast_named p w n i)

abbrev pub cast_by : Bool → Bool → List ℕ → Bool → Item → Outcome Item
cast_by false p w n i = cast_item p w n i
cast_by true p w n i = cast_sized (text_size_of w) p w n i

-- a literal of the type of that name
abbrev pub typed_sized : Option (List ℕ) → List ℕ → Bool → Item → Outcome Item
typed_sized (Some ds) w n i = cut_cast false ds i
typed_sized None w n i =
    if is_numeric_name w n then numeric_cast false i
    else and_then (kind_of_name w n) (typed_named w n i)

abbrev pub typed_by : Bool → List ℕ → Bool → Item → Outcome Item
typed_by false w n i = typed_item w n i
typed_by true w n i = typed_sized (text_size_of w) w n i

-- the function that an operator is
abbrev pub written_function : syntax.WrittenOperator → Callable
written_function written.Or = ours (Binary operator.Or)
written_function written.And = ours (Binary operator.And)
written_function written.Equal = ours (Binary operator.Eq)
written_function written.NotEqual = ours (Binary operator.NotEq)
written_function written.Less = ours (Binary operator.Lt)
written_function written.LessOrEqual = ours (Binary operator.Lte)
written_function written.Greater = ours (Binary operator.Gt)
written_function written.GreaterOrEqual = ours (Binary operator.Gte)
written_function written.Add = ours (Binary operator.Add)
written_function written.Sub = ours (Binary operator.Sub)
written_function written.Mul = ours (Binary operator.Mul)
written_function written.Div = ours (Binary operator.Div)
written_function written.Mod = callable standard.Remainder
written_function written.Concat = callable standard.Concat
written_function written.BitAnd = callable (standard.BitOperator bits.And)
written_function written.BitOr = callable (standard.BitOperator bits.Or)
written_function written.BitXor = callable (standard.BitOperator bits.Xor)
written_function written.ShiftLeft = callable (standard.Shift shift.Left)
written_function written.ShiftRight = callable (standard.Shift shift.Right)
written_function written.Matches = callable (standard.PatternFunction pattern.Like)
written_function written.MatchesAnyCase = callable (standard.PatternFunction pattern.AnyCase)
written_function written.NotMatches = callable (standard.PatternFunction pattern.NotLike)
written_function written.NotMatchesAnyCase = callable (standard.PatternFunction pattern.NotAnyCase)

abbrev pub joined_type : syntax.WrittenOperator → List Item → Option LogicalType
joined_type written.Or is = truth_type
joined_type written.And is = truth_type
joined_type o is = common_type is

-- a tree, or Not of it if the flag is true
abbrev pub negated_if : Bool → Tree → Outcome Tree
negated_if n t = if n then called (ours Not) None (bound t ∷ []) else answers t

-- a truth value, or Not of it if the flag is true
abbrev pub negated_item : Bool → Item → Outcome Item
negated_item n a = if n then as_item (called (ours Not) None (a ∷ [])) else answers a

abbrev pub not_truth : Item → Outcome Item
not_truth a = as_item (called (ours Not) truth_type (a ∷ []))

abbrev pub not_item : Item → Outcome Item
not_item a = and_then (as_truth a) not_truth

-- what an operator joins: And and Or take truth values
abbrev pub as_part : syntax.WrittenOperator → Item → Outcome Item
as_part written.Or a = as_truth a
as_part written.And a = as_truth a
as_part o a = answers a

abbrev pub parts_joined : syntax.WrittenOperator → Item → Item → Outcome Item
parts_joined o a b =
    let is = a ∷ b ∷ [] in as_item (called (written_function o) (joined_type o is) is)

abbrev pub plain_joined : syntax.WrittenOperator → Item → Item → Outcome Item
plain_joined o a b = and_then (as_part o a) (λ x. and_then (as_part o b) (parts_joined o x))

-- one text after the other: what is no text becomes one
abbrev pub is_concat : syntax.WrittenOperator → Bool
is_concat written.Concat = true
is_concat o = false

abbrev pub concat_item : Item → Item → Outcome Item
concat_item a b =
    and_then (as_text a) (λ x. and_then (as_text b) (λ y. plain_joined written.Concat x y))

abbrev pub joined_item : syntax.WrittenOperator → Item → Item → Outcome Item
joined_item o a b =
    if is_concat o then concat_item a b
    else (if is_kinded a || is_kinded b then kinded_joined o a b else plain_joined o a b)

-- a test of a truth value; null is one
abbrev pub truth_test : Standard → Bool → Item → Outcome Item
truth_test f n a =
    and_then (as_truth a)
    (λ b. as_item (and_then (called (callable f) truth_type (b ∷ [])) (negated_if n)))

abbrev pub tested_item : Test → Bool → Item → Outcome Item
tested_item test.Null n a = as_item (called (ours (NullTest n)) None (stored_item a ∷ []))
tested_item test.True n a = truth_test (standard.TruthTest IsTrue) n a
tested_item test.False n a = truth_test (standard.TruthTest IsFalse) n a
tested_item test.Unknown n a = truth_test (standard.TruthTest IsUnknown) n a

abbrev pub distinct_item : Bool → Item → Item → Outcome Item
distinct_item n a b =
    and_then (function_item standard.IsDistinct (a ∷ b ∷ [])) (negated_item n)

-- a minus sign: the difference from zero
abbrev pub minus_item : Item → Outcome Item
minus_item a = joined_item written.Sub (literal (literal.number (codes "0"))) a

-- a plus sign: a literal number stays, anything else is added to zero
abbrev pub is_number : Item → Bool
is_number (literal (literal.number w)) = true
is_number (fraction w) = true
is_number i = false

abbrev pub plus_item : Item → Outcome Item
plus_item a =
    if is_number a then answers a
    else joined_item written.Add (literal (literal.number (codes "0"))) a

-- a tilde: the bits turned
abbrev pub bit_not_item : Item → Outcome Item
bit_not_item a = as_item (function_call standard.BitNot (a ∷ []))

-- IN, whose operand is the first of the items
abbrev pub listed_item : Bool → List Item → Outcome Item
listed_item n is = and_then (function_item standard.InList is) (negated_item n)

-- cases with an operand: each condition is that it equals the value
abbrev pub equal_cases : Item → List Item → Outcome (List Item)
equal_cases a [] = answers []
equal_cases a (v ∷ []) = answers (v ∷ [])
equal_cases a (x ∷ v ∷ is) =
    and_then (joined_item written.Equal a x) (λ c. and_then (equal_cases a is)
    (λ js. answers (c ∷ v ∷ js)))

-- CASE; its operand, if the flag is true, is the first of the items
abbrev pub conditions_of : Bool → List Item → Outcome (List Item)
conditions_of true (a ∷ is) = equal_cases a is
conditions_of h is = answers is

abbrev pub chosen_item : Bool → List Item → Outcome Item
chosen_item h is = and_then (conditions_of h is) (function_item standard.Case)

abbrev pub between_all : List Item → Outcome Tree
between_all is = called (ours (Between within_bounds)) (common_type is) is

abbrev pub between_three : Item → Item → Item → Outcome Tree
between_three a low high =
    if is_kinded a || (is_kinded low || is_kinded high) then kinded_between a low high
    else between_all (a ∷ low ∷ high ∷ [])

-- between the bounds in either order
abbrev pub either_between : Item → Item → Item → Outcome Tree
either_between a low high =
    and_then (between_three a low high) (λ t.
    and_then (between_three a high low) (λ u.
    called (ours (Binary operator.Or)) None (bound t ∷ bound u ∷ [])))

abbrev pub between_tree : Bool → Item → Item → Item → Outcome Tree
between_tree s a low high =
    if s then either_between a low high else between_three a low high

abbrev pub between_item : BetweenKind → Item → Item → Item → Outcome Item
between_item k a low high =
    as_item (and_then (between_tree k.symmetric a low high) (negated_if k.negated))

abbrev pub like_options : LikeKind → Option ℕ → LikeOptions
like_options k escape = record {
  negated = k.negated;
  case_insensitive = k.case_insensitive;
  escape = escape;
}

-- the escape of a text: its only character, or none if it has no character
abbrev pub escape_said : List ℕ → Outcome (Option ℕ)
escape_said bs = or_refuses NoEscape (escape_of (chars bs))

abbrev pub escape_in : List ℕ → Outcome (Option ℕ)
escape_in e = and_then (between_quotes 39 e) escape_said

abbrev pub liked_item : LikeKind → Option ℕ → Item → Item → Outcome Item
liked_item k escape a p =
    as_item (called (ours (Like (like_options k escape))) (Some (text_type false)) (a ∷ p ∷ []))

-- the backslash is the default escape
abbrev pub matched_item : LikeKind → Option (List ℕ) → Item → Item → Outcome Item
matched_item k None a p = liked_item k (Some backslash) a p
matched_item k (Some e) a p = and_then (escape_in e) (λ c. liked_item k c a p)
