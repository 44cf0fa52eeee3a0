-- The text of a tree: its syntax, with only the brackets that are needed.
use Rattle.std.specs.Prelude.{◌≡◌, ℕ, suc, ℤ, pos, negsuc, nat_le, ◌==◌, ◌&&◌, not, Bool, true}
use Rattle.std.specs.Prelude.{false}
use Rattle.std.specs.Prelude.{List, [], ◌∷◌, Option, Some, None, codes, slice_get, encode_utf8}
use Rattle.std.specs.Prelude.{if◌then◌else◌, is_some, ⊤, IsUtf8}
use Rattle.std.specs.Option.{option_map, option_and_then}
use Rattle.std.specs.Fmt.{decimal}
use Rattle.vortex_types.specs.declared.dtype.PType.{PType}
use Rattle.vortex_types.specs.declared.dtype.PType.TheVariants.{I64}
use Rattle.vortex_types.specs.LogicalTypes.{LogicalType, bool_type, integer_type, text_type, Fields}
use Rattle.vortex_types.specs.LogicalTypes.{is_nullable, find_field}
use Rattle.vortex_types.specs.TypeTexts.{ptype_text}
use Rattle.vortex_types.specs.ScalarView.{ScalarView}
use Rattle.vortex_types.specs.Typing.{HasType}
use Rattle.vortex_types.specs.Values.{Value, null, truth, number, text}
use Rattle.vortex_operators.specs.declared.operators.Operator.{Operator}
use Rattle.vortex_operators.specs.declared.operators.Operator.TheVariants as operator
use Rattle.vortex_operators.specs.declared.between.BetweenOptions.{BetweenOptions}
use Rattle.vortex_operators.specs.declared.between.StrictComparison.{StrictComparison}
use Rattle.vortex_operators.specs.declared.between.StrictComparison.TheVariants.{Strict, NonStrict}
use Rattle.vortex_like.specs.declared.options.LikeOptions.{LikeOptions}
use Rattle.vortex_like.specs.Tokens.{backslash}
use Rattle.vortex_interface.specs.Shipped.{Shipped, Binary, Not, NullTest, Cast, Between, Like}
use Rattle.vortex_interface.specs.Functions.{ours, custom}
use Rattle.vortex_interface.specs.OptionBytes.{HasCharacters}
use Rattle.vortex_interface.specs.Eval.{tree_type}
use Rattle.vortex_interface.specs.declared.options.EmptyOptions.{EmptyOptions}
use Rattle.vortex_standard.specs.declared.standard.Standard.{Standard}
use Rattle.vortex_interface.specs.Trees as trees
use Rattle.vortex_interface.specs.Trees.{Leaf, place, held, leaf, constant, call, no_trees, tree}
use Rattle.vortex_syntax.specs.declared.step.WrittenOperator as syntax
use Rattle.vortex_syntax.specs.declared.step.WrittenOperator.TheVariants as written
use Rattle.vortex_syntax.specs.declared.step.BetweenKind.{BetweenKind}
use Rattle.vortex_syntax.specs.declared.step.LikeKind.{LikeKind}
use Rattle.vortex_syntax.specs.declared.token.Sign.{Sign}
use Rattle.vortex_syntax.specs.declared.token.Sign.TheVariants as sign
use Rattle.vortex_syntax.specs.Tokens as token
use Rattle.vortex_syntax.specs.Syntax.{Syntax, operand, negative, typed, grouped, negated, joined}
use Rattle.vortex_syntax.specs.Syntax.{tested, between, matched, cast, nullary, applied, Arguments}
use Rattle.vortex_syntax.specs.Syntax.{no_arguments, argument, Null}
use Rattle.vortex_syntax.specs.Levels.{level, left, right, not_level, is_level, concat_level}
use Rattle.vortex_syntax.specs.Spelling.{spelling, test_tokens}
use Rattle.vortex_syntax.specs.Nesting.{nests}
use Rattle.vortex_syntax.specs.Writing as tokens
use Rattle.vortex_syntax.specs.Writing.{name_token, text_token, doubled}
use Rattle.vortex_standard.specs.Names.{name_of}
use Rattle.vortex_expressions.specs.Items.{Tree, Callable, meaning}

-- in brackets if it binds less tightly than required there
abbrev pub at_level : ℕ → Syntax → Syntax
at_level l a = if nat_le l (level a) then a else grouped a

-- literals without their types
abbrev pub number_syntax : ℤ → Syntax
number_syntax (pos n) = operand (token.number (decimal n))
number_syntax (negsuc n) = negative (decimal (suc n))

abbrev pub truth_sign : Bool → Sign
truth_sign b = if b then sign.True else sign.False

abbrev pub value_syntax : Value → Option Syntax
value_syntax null = Some (operand (token.sign sign.Null))
value_syntax (truth b) = Some (operand (token.sign (truth_sign b)))
value_syntax (number z) = Some (number_syntax z)
value_syntax (text bs) = Some (operand (text_token bs))
value_syntax v = None

-- the names of the types that literals have
abbrev pub type_name : LogicalType → Option (List ℕ)
type_name (bool_type n) = Some (codes "bool")
type_name (integer_type p n) = Some (ptype_text p)
type_name (text_type n) = Some (codes "utf8")
type_name t = None

abbrev pub is_i64 : PType → Bool
is_i64 I64 = true
is_i64 p = false

-- the types that need not be written: the default types of literals
abbrev pub is_own_type : LogicalType → Bool
is_own_type (bool_type n) = not n
is_own_type (integer_type p n) = is_i64 p && not n
is_own_type (text_type n) = not n
is_own_type t = false

abbrev pub of_type : LogicalType → Syntax → List ℕ → Syntax
of_type t a w = if is_own_type t then a else typed a w (is_nullable t)

abbrev pub literal_syntax : ScalarView → Option Syntax
literal_syntax s =
    option_and_then (λ a. option_map (of_type s.dtype a) (type_name s.dtype)) (value_syntax s.value)

-- the operators as written
abbrev pub written_operator : Operator → syntax.WrittenOperator
written_operator operator.Or = written.Or
written_operator operator.And = written.And
written_operator operator.Eq = written.Equal
written_operator operator.NotEq = written.NotEqual
written_operator operator.Lt = written.Less
written_operator operator.Lte = written.LessOrEqual
written_operator operator.Gt = written.Greater
written_operator operator.Gte = written.GreaterOrEqual
written_operator operator.Add = written.Add
written_operator operator.Sub = written.Sub
written_operator operator.Mul = written.Mul
written_operator operator.Div = written.Div

abbrev pub joined_syntax : syntax.WrittenOperator → Syntax → Syntax → Syntax
joined_syntax o a b = joined o (at_level (left o) a) (at_level (right o) b)

abbrev pub is_non_strict : StrictComparison → Bool
is_non_strict Strict = false
is_non_strict NonStrict = true

-- both bounds are inclusive
abbrev pub is_within : BetweenOptions → Bool
is_within o = is_non_strict o.lower_strict && is_non_strict o.upper_strict

-- neither NOT nor SYMMETRIC is written
abbrev pub plain_kind : BetweenKind
plain_kind = record { negated = false; symmetric = false }

abbrev pub between_syntax : Syntax → Syntax → Syntax → Syntax
between_syntax a low high =
    between plain_kind (at_level concat_level a) (at_level concat_level low) (at_level concat_level high)

abbrev pub like_kind : LikeOptions → LikeKind
like_kind o = record { negated = o.negated; case_insensitive = o.case_insensitive }

-- the backslash is not written
abbrev pub is_own_escape : Option ℕ → Bool
is_own_escape None = false
is_own_escape (Some c) = c == backslash

abbrev pub escape_text : Option ℕ → List ℕ
escape_text None = []
escape_text (Some c) = encode_utf8 c

abbrev pub escape_written : Option ℕ → Option (List ℕ)
escape_written e = if is_own_escape e then None else Some (doubled 39 (escape_text e))

abbrev pub matched_syntax : LikeOptions → Syntax → Syntax → Syntax
matched_syntax o a p =
    matched (like_kind o) (at_level concat_level a) (at_level concat_level p) (escape_written o.escape)

-- the result for two and for three parts, if all are present
abbrev pub both : {A B : Type 0} → (A → A → B) → Option A → Option A → Option B
both f None y = None
both f (Some a) None = None
both f (Some a) (Some b) = Some (f a b)

abbrev pub all_three : {A B : Type 0} → (A → A → A → B) → Option A → Option A → Option A → Option B
all_three f None y z = None
all_three f (Some a) None z = None
all_three f (Some a) (Some b) None = None
all_three f (Some a) (Some b) (Some c) = Some (f a b c)

-- the operand at an index, if it has a syntax
abbrev pub nth : {A : Type 0} → ℕ → List (Option A) → Option A
nth k os = option_and_then (λ o. o) (slice_get os k)

abbrev pub shipped_syntax : Shipped → List (Option Syntax) → Option Syntax
shipped_syntax (Binary o) os = both (joined_syntax (written_operator o)) (nth 0 os) (nth 1 os)
shipped_syntax Not os = option_map (λ a. negated (at_level not_level a)) (nth 0 os)
shipped_syntax (NullTest n) os =
    option_map (λ a. tested Null n (at_level is_level a)) (nth 0 os)
shipped_syntax Cast os = option_map (λ a. cast false a (codes "bool") true) (nth 0 os)
shipped_syntax (Between o) os =
    if is_within o then all_three between_syntax (nth 0 os) (nth 1 os) (nth 2 os) else None
shipped_syntax (Like o) os = both (matched_syntax o) (nth 0 os) (nth 1 os)

-- all of them, if each is present
abbrev pub all_present : {A : Type 0} → List (Option A) → Option (List A)
all_present [] = Some []
all_present (None ∷ os) = None
all_present (Some a ∷ os) = option_map (λ xs. a ∷ xs) (all_present os)

-- the call of the function of that name, after the arguments before these
abbrev pub applied_from : List ℕ → Arguments → Syntax → List Syntax → Syntax
applied_from w args a [] = applied false w args a
applied_from w args a (b ∷ bs) = applied_from w (argument args a) b bs

abbrev pub named_syntax : List ℕ → List Syntax → Syntax
named_syntax w [] = nullary false w
named_syntax w (a ∷ bs) = applied_from w no_arguments a bs

abbrev pub call_syntax : Callable → List (Option Syntax) → Option Syntax
call_syntax (ours s) os = shipped_syntax s os
call_syntax (custom f o) os = option_map (named_syntax (name_of f)) (all_present os)

abbrev pub leaf_syntax : Leaf → Option Syntax
leaf_syntax (place p name t) = Some (operand (name_token name))
leaf_syntax (held c) = None

-- the syntax of a tree, if it has one: lists, structs and bytes have none
abbrev mutual
  pub syntax_of : Tree → Option Syntax
  syntax_of (leaf l) = leaf_syntax l
  syntax_of (constant s) = literal_syntax s
  syntax_of (call f ts) = call_syntax f (syntaxes_of ts)

  pub syntaxes_of : trees.Trees Standard EmptyOptions → List (Option Syntax)
  syntaxes_of no_trees = []
  syntaxes_of (tree t ts) = syntax_of t ∷ syntaxes_of ts

-- its text, if its brackets nest no deeper than allowed
abbrev pub text_if : List token.Token → Option (List ℕ)
text_if ts = if nests ts then Some (tokens.written ts) else None

abbrev pub text_of_tree : Tree → Option (List ℕ)
text_of_tree t = option_and_then (λ a. text_if (spelling a)) (syntax_of t)

-- IS NOT NULL, or IS NULL where the flag is false
abbrev pub null_test : Bool → List token.Token
null_test n = test_tokens Null n

-- the escape of a LIKE is a character
abbrev pub IsCallable : Callable → Type 0
IsCallable (ours s) = HasCharacters s
IsCallable (custom f o) = ⊤

-- A tree over the columns of a scope: each column is the first of its name, each literal has its
-- type, and each call takes its operands.
module _ (scope : Fields) where
  abbrev mutual
    pub IsOver : Tree → Type 0
    IsOver (leaf (place p name t)) = (find_field name scope ≡ Some (p, t)) × IsUtf8 name
    IsOver (leaf (held c)) = ⊥
    IsOver (constant s) = HasType s.dtype s.value
    IsOver (call f ts) =
        IsCallable f × (is_some (tree_type meaning (call f ts)) ≡ true) × AllOver ts

    pub AllOver : trees.Trees Standard EmptyOptions → Type 0
    AllOver no_trees = ⊤
    AllOver (tree t ts) = IsOver t × AllOver ts
