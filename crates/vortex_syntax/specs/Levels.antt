-- The precedence levels of SQL, as in PostgreSQL: what binds tighter has a higher level.
use Rattle.std.specs.Prelude.{◌≡◌, ℕ, ◌≤◌, Bool, true, false, ◌&&◌, ◌||◌, List, codes}
use Rattle.std.specs.Prelude.{if◌then◌else◌}
use Rattle.std.specs.Char.{is_ascii_digit}
use Rattle.std.specs.List.{list_all}
use Rattle.vortex_syntax.specs.declared.step.WrittenOperator.{WrittenOperator}
use Rattle.vortex_syntax.specs.declared.step.WrittenOperator.TheVariants as operator
use Rattle.vortex_syntax.specs.declared.token.Sign.{Sign}
use Rattle.vortex_syntax.specs.declared.token.Sign.TheVariants as sign
use Rattle.vortex_syntax.specs.Tokens.{Token, name, nullable, function, quoted, number, text, sign}
use Rattle.vortex_syntax.specs.Keywords.{same_word}
use Rattle.vortex_syntax.specs.Pieces.{begins_digits}
use Rattle.vortex_syntax.specs.Syntax.{Syntax, operand, negative, minus, typed, grouped, negated}
use Rattle.vortex_syntax.specs.Syntax.{joined, tested, distinct, between, matched, listed, cast}
use Rattle.vortex_syntax.specs.Syntax.{plus, bit_not, null_tested, Tested, Null, True, False}
use Rattle.vortex_syntax.specs.Syntax.{Unknown, converted, titled, extracted, parted, parted_for}
use Rattle.vortex_syntax.specs.Syntax.{placed, nullary, chosen, chosen_else, applied, Arguments}
use Rattle.vortex_syntax.specs.Syntax.{measured, trimmed, trimmed_by}
use Rattle.vortex_syntax.specs.Syntax.{no_arguments, argument, Branches, without_operand}
use Rattle.vortex_syntax.specs.Syntax.{of_operand, branch}

abbrev pub or_level : ℕ
or_level = 0

abbrev pub and_level : ℕ
and_level = 1

abbrev pub not_level : ℕ
not_level = 2

-- IS DISTINCT FROM, which no IS may follow
abbrev pub distinct_level : ℕ
distinct_level = 3

abbrev pub is_level : ℕ
is_level = 4

abbrev pub comparison_level : ℕ
comparison_level = 5

-- BETWEEN, IN and LIKE
abbrev pub predicate_level : ℕ
predicate_level = 6

-- `||`, bits and shifts, which PostgreSQL calls other operators
abbrev pub concat_level : ℕ
concat_level = 7

-- a tilde before an operand: the last operand of signs of the level above, but no first operand of
-- a sum
abbrev pub bit_not_level : ℕ
bit_not_level = 8

abbrev pub sum_level : ℕ
sum_level = 9

abbrev pub product_level : ℕ
product_level = 10

-- a minus sign before what is no literal, and a plus sign before an operand
abbrev pub sign_level : ℕ
sign_level = 11

-- columns, brackets, casts, calls, CASE, and literals behind the name of their type
abbrev pub atom_level : ℕ
atom_level = 12

-- literals with a type
abbrev pub typed_level : ℕ
typed_level = 13

-- literals without a type; only these may be followed by one
abbrev pub literal_level : ℕ
literal_level = 14

-- the level of an operator's tree, and the least levels of its operands: operators group from left
-- to right, but comparisons do not chain
abbrev pub own : WrittenOperator → ℕ
own operator.Or = or_level
own operator.And = and_level
own operator.Concat = concat_level
own operator.BitAnd = concat_level
own operator.BitOr = concat_level
own operator.BitXor = concat_level
own operator.ShiftLeft = concat_level
own operator.ShiftRight = concat_level
own operator.Matches = concat_level
own operator.MatchesAnyCase = concat_level
own operator.NotMatches = concat_level
own operator.NotMatchesAnyCase = concat_level
own operator.Add = sum_level
own operator.Sub = sum_level
own operator.Mul = product_level
own operator.Div = product_level
own operator.Mod = product_level
own _ = comparison_level

abbrev pub left : WrittenOperator → ℕ
left operator.Or = or_level
left operator.And = and_level
left operator.Concat = concat_level
left operator.BitAnd = concat_level
left operator.BitOr = concat_level
left operator.BitXor = concat_level
left operator.ShiftLeft = concat_level
left operator.ShiftRight = concat_level
left operator.Matches = concat_level
left operator.MatchesAnyCase = concat_level
left operator.NotMatches = concat_level
left operator.NotMatchesAnyCase = concat_level
left operator.Add = sum_level
left operator.Sub = sum_level
left operator.Mul = product_level
left operator.Div = product_level
left operator.Mod = product_level
left _ = predicate_level

abbrev pub right : WrittenOperator → ℕ
right operator.Or = and_level
right operator.And = not_level
right operator.Concat = bit_not_level
right operator.BitAnd = bit_not_level
right operator.BitOr = bit_not_level
right operator.BitXor = bit_not_level
right operator.ShiftLeft = bit_not_level
right operator.ShiftRight = bit_not_level
right operator.Matches = bit_not_level
right operator.MatchesAnyCase = bit_not_level
right operator.NotMatches = bit_not_level
right operator.NotMatchesAnyCase = bit_not_level
right operator.Add = product_level
right operator.Sub = product_level
right operator.Mul = sign_level
right operator.Div = sign_level
right operator.Mod = sign_level
right _ = predicate_level

-- columns and literals, by their tokens
abbrev pub is_literal_sign : Sign → Bool
is_literal_sign sign.True = true
is_literal_sign sign.False = true
is_literal_sign sign.Null = true
is_literal_sign _ = false

abbrev pub is_operand : Token → Bool
is_operand (name w) = true
is_operand (nullable w) = false
is_operand (function w) = false
is_operand (quoted w) = true
is_operand (number ds) = true
is_operand (text bs) = true
is_operand (sign s) = is_literal_sign s

abbrev pub operand_level : Token → ℕ
operand_level (name w) = atom_level
operand_level (quoted w) = atom_level
operand_level _ = literal_level

abbrev pub level : Syntax → ℕ
level (operand t) = operand_level t
level (negative ds) = literal_level
level (minus a) = sign_level
level (plus a) = sign_level
level (bit_not a) = bit_not_level
level (typed a w n) = typed_level
level (titled w bs) = atom_level
level (measured w t u) = atom_level
level (grouped a) = atom_level
level (negated a) = not_level
level (joined o a b) = own o
level (tested k n a) = is_level
level (null_tested n a) = is_level
level (distinct n a b) = distinct_level
level (between k a low high) = predicate_level
level (matched k a p e) = predicate_level
level (listed n a args b) = predicate_level
level (cast p a w n) = atom_level
level (converted a w n) = level a
level (chosen bs c v) = atom_level
level (chosen_else bs c v e) = atom_level
level (nullary p w) = atom_level
level (applied p w args a) = atom_level
level (extracted p f w a) = atom_level
level (parted p f s a) = atom_level
level (parted_for p f s a w b) = atom_level
level (placed p f a b) = atom_level
level (trimmed p f d a) = atom_level
level (trimmed_by p f o c a) = atom_level

-- the word of a test is the right one
abbrev pub IsTested : Tested → Type 0
IsTested Null = Unit {0}
IsTested True = Unit {0}
IsTested False = Unit {0}
IsTested (Unknown w) = same_word w (codes "unknown") ≡ true

-- the name of the type of intervals, and the words for their units, of which digits count how many
abbrev pub is_interval : List ℕ → Bool
is_interval w = same_word w (codes "interval")

abbrev pub is_either : List ℕ → List ℕ → List ℕ → Bool
is_either u one more = same_word u one || same_word u more

abbrev pub is_unit : List ℕ → Bool
is_unit u =
    is_either u (codes "year") (codes "years")
    || (is_either u (codes "month") (codes "months")
    || (is_either u (codes "week") (codes "weeks")
    || (is_either u (codes "day") (codes "days")
    || (is_either u (codes "hour") (codes "hours")
    || (is_either u (codes "minute") (codes "minutes")
    || is_either u (codes "second") (codes "seconds"))))))

abbrev pub are_digits : List ℕ → Bool
are_digits bs = begins_digits bs && list_all is_ascii_digit bs

abbrev pub is_count : Token → Bool
is_count (text bs) = are_digits bs
is_count (number ds) = are_digits ds
is_count t = false

-- the one function that takes a word before `from`
abbrev pub takes_word : List ℕ → Bool
takes_word f = same_word f (codes "extract")

-- the functions that take `from` after their first argument, and `for` after their second
abbrev pub takes_from : List ℕ → Bool
takes_from f = same_word f (codes "substring") || same_word f (codes "substr")

abbrev pub is_for : List ℕ → Bool
is_for w = same_word w (codes "for")

-- the function that takes `in` after its first argument
abbrev pub takes_in : List ℕ → Bool
takes_in f = same_word f (codes "position")

-- the function that takes a side, and `from` after what it trims by
abbrev pub takes_side : List ℕ → Bool
takes_side f = same_word f (codes "trim")

-- the least level of a first argument: what may stand before `in`, where the function takes it
abbrev pub first_level : List ℕ → ℕ
first_level f = if takes_in f then concat_level else or_level

abbrev pub first_of : Arguments → Syntax → Syntax
first_of no_arguments a = a
first_of (argument args b) a = first_of args b

-- each operand binds at least as tightly as required there
abbrev mutual
  pub Fits : Syntax → Type 0
  Fits (operand t) = is_operand t ≡ true
  Fits (negative ds) = Unit {0}
  Fits (minus a) = (sign_level ≤ level a) × (level a ≤ atom_level) × Fits a
  Fits (plus a) = (sign_level ≤ level a) × Fits a
  Fits (bit_not a) = (bit_not_level ≤ level a) × Fits a
  Fits (typed a w n) = (literal_level ≤ level a) × Fits a
  Fits (titled w bs) = (is_interval w && are_digits bs) ≡ false
  Fits (measured w t u) = (is_interval w ≡ true) × (is_count t ≡ true) × (is_unit u ≡ true)
  Fits (grouped a) = Fits a
  Fits (negated a) = (not_level ≤ level a) × Fits a
  Fits (joined o a b) = (left o ≤ level a) × (right o ≤ level b) × Fits a × Fits b
  Fits (tested k n a) = (is_level ≤ level a) × Fits a × IsTested k
  Fits (null_tested n a) = (is_level ≤ level a) × Fits a
  Fits (distinct n a b) = (is_level ≤ level a) × (comparison_level ≤ level b) × Fits a × Fits b
  Fits (between k a low high) =
      (concat_level ≤ level a) × (concat_level ≤ level low) × (concat_level ≤ level high) × Fits a
      × Fits low × Fits high
  Fits (matched k a p e) = (concat_level ≤ level a) × (concat_level ≤ level p) × Fits a × Fits p
  Fits (listed n a args b) = (concat_level ≤ level a) × Fits a × AllFit args × Fits b
  Fits (cast p a w n) = Fits a
  Fits (converted a w n) = (atom_level ≤ level a) × (level a ≤ typed_level) × Fits a
  Fits (chosen bs c v) = BranchesFit bs × Fits c × Fits v
  Fits (chosen_else bs c v e) = BranchesFit bs × Fits c × Fits v × Fits e
  Fits (nullary p w) = Unit {0}
  Fits (applied p w args a) =
      AllFit args × Fits a × (first_level w ≤ level (first_of args a))
  Fits (extracted p f w a) = (takes_word f ≡ true) × Fits a
  Fits (parted p f s a) = (takes_from f ≡ true) × Fits s × Fits a
  Fits (parted_for p f s a w b) =
      (takes_from f ≡ true) × (is_for w ≡ true) × Fits s × Fits a × Fits b
  Fits (placed p f a b) = (takes_in f ≡ true) × (concat_level ≤ level a) × Fits a × Fits b
  Fits (trimmed p f d a) = (takes_side f ≡ true) × Fits a
  Fits (trimmed_by p f o c a) = (takes_side f ≡ true) × Fits c × Fits a

  pub AllFit : Arguments → Type 0
  AllFit no_arguments = Unit {0}
  AllFit (argument args a) = AllFit args × Fits a

  pub BranchesFit : Branches → Type 0
  BranchesFit without_operand = Unit {0}
  BranchesFit (of_operand a) = Fits a
  BranchesFit (branch bs c v) = BranchesFit bs × Fits c × Fits v
