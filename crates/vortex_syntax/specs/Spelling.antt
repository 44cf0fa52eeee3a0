-- The tokens that spell a tree.
use Rattle.std.specs.Prelude.{ℕ, List, [], ◌∷◌, ◌++◌, Bool, true, false, Option, Some, None}
use Rattle.std.specs.Prelude.{if◌then◌else◌}
use Rattle.vortex_syntax.specs.declared.step.WrittenOperator.{WrittenOperator}
use Rattle.vortex_syntax.specs.declared.step.WrittenOperator.TheVariants as operator
use Rattle.vortex_syntax.specs.declared.step.BetweenKind.{BetweenKind}
use Rattle.vortex_syntax.specs.declared.step.LikeKind.{LikeKind}
use Rattle.vortex_syntax.specs.declared.token.Sign.{Sign}
use Rattle.vortex_syntax.specs.declared.token.Sign.TheVariants as sign
use Rattle.vortex_syntax.specs.declared.token.TrimSide.{TrimSide}
use Rattle.vortex_syntax.specs.Tokens.{Token, name, nullable, function, number, text, sign}
use Rattle.vortex_syntax.specs.Syntax.{Syntax, operand, negative, minus, typed, grouped, negated}
use Rattle.vortex_syntax.specs.Syntax.{joined, tested, distinct, between, matched, listed, cast}
use Rattle.vortex_syntax.specs.Syntax.{plus, bit_not, null_tested, Tested, Null, True, False}
use Rattle.vortex_syntax.specs.Syntax.{Unknown, converted, titled, extracted, parted, parted_for}
use Rattle.vortex_syntax.specs.Syntax.{placed, nullary, chosen, chosen_else, applied, Arguments}
use Rattle.vortex_syntax.specs.Syntax.{measured, trimmed, trimmed_by}
use Rattle.vortex_syntax.specs.Syntax.{no_arguments, argument, Branches, without_operand}
use Rattle.vortex_syntax.specs.Syntax.{of_operand, branch}

abbrev pub operator_sign : WrittenOperator → Sign
operator_sign operator.Or = sign.Or
operator_sign operator.And = sign.And
operator_sign operator.Equal = sign.Equal
operator_sign operator.NotEqual = sign.NotEqual
operator_sign operator.Less = sign.Less
operator_sign operator.LessOrEqual = sign.LessOrEqual
operator_sign operator.Greater = sign.Greater
operator_sign operator.GreaterOrEqual = sign.GreaterOrEqual
operator_sign operator.Add = sign.Plus
operator_sign operator.Sub = sign.Minus
operator_sign operator.Mul = sign.Times
operator_sign operator.Div = sign.Divide
operator_sign operator.Mod = sign.Modulo
operator_sign operator.Concat = sign.Concat
operator_sign operator.BitAnd = sign.BitAnd
operator_sign operator.BitOr = sign.BitOr
operator_sign operator.BitXor = sign.BitXor
operator_sign operator.ShiftLeft = sign.ShiftLeft
operator_sign operator.ShiftRight = sign.ShiftRight
operator_sign operator.Matches = sign.BitNot
operator_sign operator.MatchesAnyCase = sign.MatchAnyCase
operator_sign operator.NotMatches = sign.NotMatch
operator_sign operator.NotMatchesAnyCase = sign.NotMatchAnyCase

-- the operators except And, by their signs
abbrev pub operator_of : Sign → Option WrittenOperator
operator_of sign.Or = Some operator.Or
operator_of sign.Equal = Some operator.Equal
operator_of sign.NotEqual = Some operator.NotEqual
operator_of sign.Less = Some operator.Less
operator_of sign.LessOrEqual = Some operator.LessOrEqual
operator_of sign.Greater = Some operator.Greater
operator_of sign.GreaterOrEqual = Some operator.GreaterOrEqual
operator_of sign.Plus = Some operator.Add
operator_of sign.Minus = Some operator.Sub
operator_of sign.Times = Some operator.Mul
operator_of sign.Divide = Some operator.Div
operator_of sign.Modulo = Some operator.Mod
operator_of sign.Concat = Some operator.Concat
operator_of sign.BitAnd = Some operator.BitAnd
operator_of sign.BitOr = Some operator.BitOr
operator_of sign.BitXor = Some operator.BitXor
operator_of sign.ShiftLeft = Some operator.ShiftLeft
operator_of sign.ShiftRight = Some operator.ShiftRight
operator_of sign.BitNot = Some operator.Matches
operator_of sign.MatchAnyCase = Some operator.MatchesAnyCase
operator_of sign.NotMatch = Some operator.NotMatches
operator_of sign.NotMatchAnyCase = Some operator.NotMatchesAnyCase
operator_of _ = None

abbrev pub type_token : List ℕ → Bool → Token
type_token w n = if n then nullable w else name w

-- a sign, and `not` before it where that is true
abbrev pub with_not : Bool → Sign → List Token
with_not n s = if n then sign sign.Not ∷ sign s ∷ [] else sign s ∷ []

-- `is`, or `is not` where that is true
abbrev pub is_tokens : Bool → List Token
is_tokens n = if n then sign sign.Is ∷ sign sign.Not ∷ [] else sign sign.Is ∷ []

abbrev pub test_token : Tested → Token
test_token Null = sign sign.Null
test_token True = sign sign.True
test_token False = sign sign.False
test_token (Unknown w) = name w

abbrev pub test_tokens : Tested → Bool → List Token
test_tokens k n = is_tokens n ++ (test_token k ∷ [])

abbrev pub null_test_sign : Bool → Sign
null_test_sign n = if n then sign.NotNull else sign.IsNull

abbrev pub distinct_tokens : Bool → List Token
distinct_tokens n = is_tokens n ++ (sign sign.Distinct ∷ sign sign.From ∷ [])

-- `in (`, or `not in (`
abbrev pub in_tokens : Bool → List Token
in_tokens n = with_not n sign.In ++ (sign sign.Open ∷ [])

-- `between`, with `not` and `symmetric` where they are meant
abbrev pub between_tokens : BetweenKind → List Token
between_tokens k =
    with_not k.negated sign.Between ++ (if k.symmetric then sign sign.Symmetric ∷ [] else [])

-- `try_cast` where that is true
abbrev pub cast_sign : Bool → Sign
cast_sign p = if p then sign.TryCast else sign.Cast

abbrev pub like_sign : LikeKind → List Token
like_sign k = with_not k.negated (if k.case_insensitive then sign.Ilike else sign.Like)

-- a function's name and its bracket, apart where that is true
abbrev pub function_tokens : Bool → List ℕ → List Token
function_tokens false w = function w ∷ []
function_tokens true w = name w ∷ sign sign.Open ∷ []

-- a side, if there is one
abbrev pub side_tokens : Option TrimSide → List Token
side_tokens None = []
side_tokens (Some d) = sign (sign.Side d) ∷ []

abbrev pub escape_tokens : Option (List ℕ) → List Token
escape_tokens None = []
escape_tokens (Some e) = sign sign.Escape ∷ text e ∷ []

abbrev mutual
  pub spelling : Syntax → List Token
  spelling (operand t) = t ∷ []
  spelling (negative ds) = sign sign.Minus ∷ number ds ∷ []
  spelling (minus a) = sign sign.Minus ∷ spelling a
  spelling (plus a) = sign sign.Plus ∷ spelling a
  spelling (bit_not a) = sign sign.BitNot ∷ spelling a
  spelling (typed a w n) = spelling a ++ (sign sign.Typed ∷ type_token w n ∷ [])
  spelling (titled w bs) = name w ∷ text bs ∷ []
  spelling (measured w t u) = name w ∷ t ∷ name u ∷ []
  spelling (grouped a) = sign sign.Open ∷ (spelling a ++ (sign sign.Close ∷ []))
  spelling (negated a) = sign sign.Not ∷ spelling a
  spelling (joined o a b) = spelling a ++ (sign (operator_sign o) ∷ spelling b)
  spelling (tested k n a) = spelling a ++ test_tokens k n
  spelling (null_tested n a) = spelling a ++ (sign (null_test_sign n) ∷ [])
  spelling (distinct n a b) = spelling a ++ (distinct_tokens n ++ spelling b)
  spelling (between k a low high) =
      spelling a ++ (between_tokens k ++ (spelling low ++ (sign sign.And ∷ spelling high)))
  spelling (matched k a p e) = spelling a ++ (like_sign k ++ (spelling p ++ escape_tokens e))
  spelling (listed n a args b) =
      spelling a ++ (in_tokens n ++ (all_spelled args ++ (spelling b ++ (sign sign.Close ∷ []))))
  spelling (converted a w n) = spelling a ++ (sign sign.Typed ∷ type_token w n ∷ [])
  spelling (cast p a w n) =
      sign (cast_sign p) ∷ sign sign.Open
      ∷ (spelling a ++ (sign sign.As ∷ type_token w n ∷ sign sign.Close ∷ []))
  spelling (chosen bs c v) =
      branches_spelled bs
      ++ (sign sign.When ∷ (spelling c ++ (sign sign.Then ∷ (spelling v ++ (sign sign.End ∷ [])))))
  spelling (chosen_else bs c v e) =
      branches_spelled bs
      ++ (sign sign.When ∷ (spelling c ++ (sign sign.Then ∷ (spelling v
      ++ (sign sign.Else ∷ (spelling e ++ (sign sign.End ∷ [])))))))
  spelling (nullary p w) = function_tokens p w ++ (sign sign.Close ∷ [])
  spelling (applied p w args a) =
      function_tokens p w ++ (all_spelled args ++ (spelling a ++ (sign sign.Close ∷ [])))
  spelling (extracted p f w a) =
      function_tokens p f ++ (name w ∷ sign sign.From ∷ (spelling a ++ (sign sign.Close ∷ [])))
  spelling (parted p f s a) =
      function_tokens p f
      ++ (spelling s ++ (sign sign.From ∷ (spelling a ++ (sign sign.Close ∷ []))))
  spelling (parted_for p f s a w b) =
      function_tokens p f
      ++ (spelling s ++ (sign sign.From ∷ (spelling a
      ++ (name w ∷ (spelling b ++ (sign sign.Close ∷ []))))))
  spelling (placed p f a b) =
      function_tokens p f
      ++ (spelling a ++ (sign sign.In ∷ (spelling b ++ (sign sign.Close ∷ []))))
  spelling (trimmed p f d a) =
      function_tokens p f
      ++ (sign (sign.Side d) ∷ sign sign.From ∷ (spelling a ++ (sign sign.Close ∷ [])))
  spelling (trimmed_by p f o c a) =
      function_tokens p f
      ++ (side_tokens o
      ++ (spelling c ++ (sign sign.From ∷ (spelling a ++ (sign sign.Close ∷ [])))))

  -- a comma follows each
  pub all_spelled : Arguments → List Token
  all_spelled no_arguments = []
  all_spelled (argument args a) = all_spelled args ++ (spelling a ++ (sign sign.Comma ∷ []))

  pub branches_spelled : Branches → List Token
  branches_spelled without_operand = sign sign.Case ∷ []
  branches_spelled (of_operand a) = sign sign.Case ∷ spelling a
  branches_spelled (branch bs c v) =
      branches_spelled bs ++ (sign sign.When ∷ (spelling c ++ (sign sign.Then ∷ spelling v)))
