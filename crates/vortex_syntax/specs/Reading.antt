-- Reading from left to right, one token at a time, with the frames that wait for an operand.
use Rattle.std.specs.Prelude.{map, reverse, ℕ, zero, suc, ◌&&◌, nat_lt, nat_le, List, [], ◌∷◌, ◌++◌}
use Rattle.std.specs.Prelude.{Bool, true, false, Option, Some, None, Result, IfOk, ◌≡◌}
use Rattle.std.specs.Prelude.{codes, if◌then◌else◌}
use Rattle.std.specs.declared.alloc.AllocError.{AllocError}
use Rattle.std.specs.Option.{option_and_then, option_map}
use Rattle.vortex_syntax.specs.declared.step.WrittenOperator.{WrittenOperator}
use Rattle.vortex_syntax.specs.declared.step.WrittenOperator.TheVariants as operator
use Rattle.vortex_syntax.specs.declared.step.Test.{Test}
use Rattle.vortex_syntax.specs.declared.step.Test.TheVariants as test
use Rattle.vortex_syntax.specs.declared.step.BetweenKind.{BetweenKind}
use Rattle.vortex_syntax.specs.declared.step.LikeKind.{LikeKind}
use Rattle.vortex_syntax.specs.declared.step.Call.TheVariants as call
use Rattle.vortex_syntax.specs.declared.token.Sign.{Sign}
use Rattle.vortex_syntax.specs.declared.token.Sign.TheVariants as sign
use Rattle.vortex_syntax.specs.declared.frame.CasePart.{CasePart}
use Rattle.vortex_syntax.specs.declared.frame.CasePart.TheVariants as part
use Rattle.vortex_syntax.specs.declared.frame.Mode.{Mode}
use Rattle.vortex_syntax.specs.declared.frame.Mode.TheVariants as mode
use Rattle.vortex_syntax.specs.Keywords.{same_word}
use Rattle.vortex_syntax.specs.Tokens.{Token, name, nullable, function, number, text, sign}
use Rattle.vortex_syntax.specs.Levels.{own, left, or_level, and_level, not_level}
use Rattle.vortex_syntax.specs.Levels.{typed_level, distinct_level, is_level}
use Rattle.vortex_syntax.specs.Levels.{predicate_level, concat_level, atom_level, literal_level}
use Rattle.vortex_syntax.specs.Levels.{bit_not_level, is_operand, operand_level, takes_word}
use Rattle.vortex_syntax.specs.Levels.{takes_from, takes_in, takes_side, is_for}
use Rattle.vortex_syntax.specs.Levels.{is_interval, is_unit, are_digits}
use Rattle.vortex_syntax.specs.Spelling.{operator_of}
use Rattle.vortex_syntax.specs.declared.reading.Reading.{Reading}
use Rattle.vortex_syntax.specs.Frames as frame
use Rattle.vortex_syntax.specs.Frames.{Frame, frame_in, top_hole, top_ceiling, guard, whole}
use Rattle.vortex_syntax.specs.Frames.{closing}
use Rattle.vortex_syntax.specs.Postfix.{Step, step_in, operand, negative, typed, cast, escaped}
use Rattle.vortex_syntax.specs.Postfix.{applied, listed, chosen, trimmed, called, last_name}
use Rattle.vortex_syntax.specs.declared.token.TrimSide.{TrimSide}
use Rattle.vortex_syntax.specs.declared.token.TrimSide.TheVariants as side

-- the last frame is first
pub record State : Type 0 where
  pub mode : Mode
  pub frames : List Frame
  pub steps : List Step

abbrev pub state : Mode → List Frame → List Step → State
state m fs out = record { mode = m; frames = fs; steps = out }

-- the view of a reading
abbrev pub frames_in : Reading → List Frame
frames_in r = map frame_in (reverse r.frames.items)

abbrev pub steps_in : Reading → List Step
steps_in r = map step_in r.tree.steps.items

abbrev pub seen : Reading → Mode → State
seen r m = state m (frames_in r) (steps_in r)

-- an operand of a level, after pending frames
pub record Operand : Type 0 where
  pub level : ℕ
  pub frames : List Frame
  pub steps : List Step

abbrev pub operand_of : ℕ → List Frame → List Step → Operand
operand_of level fs out = record { level = level; frames = fs; steps = out }

-- closes frames that bind tighter than a sign of level p
unfoldable pub settled : ℕ → ℕ → List Frame → List Step → Operand
settled p level [] out = operand_of level [] out
settled p level (f ∷ fs) out =
    if nat_lt p (guard f) then settled p (whole f) fs (out ++ (closing f ∷ []))
    else operand_of level (f ∷ fs) out

-- what a closed frame, or none, leaves to close
abbrev pub closed_once : Option ℕ → ℕ → ℕ → List Frame → List Step → Operand
closed_once None p level fs out = operand_of level fs out
closed_once (Some l) p level fs out = settled p l fs out

-- the result is the next state, unless memory ran out
abbrev pub Gives : Result (Option Mode) AllocError → Reading → Option State → Type 0
Gives r new s = IfOk r (λ m. option_map (seen new) m ≡ s)

-- a sign of level p whose left operand has at least level l; f is pending after it
abbrev pub waiting : ℕ → ℕ → Frame → Operand → Option State
waiting p l f a =
    if nat_le l a.level && nat_le (top_hole a.frames) p
    then Some (state mode.Want (f ∷ a.frames) a.steps) else None

abbrev pub shifted : ℕ → ℕ → Frame → ℕ → List Frame → List Step → Option State
shifted p l f level fs out = waiting p l f (settled p level fs out)

abbrev pub joining : WrittenOperator → ℕ → List Frame → List Step → Option State
joining o = shifted (own o) (left o) (frame.Join o)

-- `and` ends the lower bound of a pending BETWEEN, or else joins
abbrev pub and_behind : ℕ → List Frame → List Step → Option State
and_behind l [] out = waiting and_level and_level (frame.Join operator.And) (operand_of l [] out)
and_behind l (frame.Between k ∷ fs) out = Some (state mode.Want (frame.Bounded k ∷ fs) out)
and_behind l (f ∷ fs) out =
    waiting and_level and_level (frame.Join operator.And) (operand_of l (f ∷ fs) out)

abbrev pub is_behind : ℕ → List Frame → List Step → Option State
is_behind l fs out =
    if nat_le is_level l && nat_le (top_hole fs) is_level then Some (state
    (mode.Is false) fs out) else None

-- `isnull`, or `notnull` where the flag is true
abbrev pub null_test_behind : Bool → ℕ → List Frame → List Step → Option State
null_test_behind n l fs out =
    if nat_le is_level l && nat_le (top_hole fs) is_level
    then Some (state (mode.Have is_level) fs (out ++ (called (call.Is test.Null n) ∷ [])))
    else None

-- a `not` after an operand, which BETWEEN, IN or LIKE may follow
abbrev pub not_behind : ℕ → List Frame → List Step → Option State
not_behind l fs out =
    if nat_le concat_level l && nat_le (top_hole fs) predicate_level
    then Some (state (mode.Negating l) fs out) else None

-- an `in` after an operand, which a bracket has to follow
abbrev pub in_behind : Bool → ℕ → List Frame → List Step → Option State
in_behind n l fs out =
    if nat_le concat_level l && nat_le (top_hole fs) predicate_level
    then Some (state (mode.Listing n) fs out) else None

-- an `in` ends the first argument of a function that takes it, or else is that of IN
abbrev pub waits_in : List Frame → Bool
waits_in [] = false
waits_in (frame.Arguments f zero ∷ fs) = takes_in f
waits_in (f ∷ fs) = false

abbrev pub place_of : List Frame → List Step → Option State
place_of [] out = None
place_of (frame.Arguments f n ∷ fs) out = Some (state mode.Want (frame.Place f ∷ fs) out)
place_of (f ∷ fs) out = None

abbrev pub place_behind : ℕ → List Frame → List Step → Option State
place_behind l fs out = if waits_in fs then place_of fs out else in_behind false l fs out

abbrev pub close_behind : List Frame → List Step → Option State
close_behind [] out = None
close_behind (frame.Open ∷ fs) out = Some (state (mode.Have atom_level) fs out)
close_behind (frame.Arguments w n ∷ fs) out =
    Some (state (mode.Have atom_level) fs (out ++ (applied w (suc n) ∷ [])))
close_behind (frame.Extract w ∷ fs) out =
    Some (state (mode.Have atom_level) fs (out ++ (applied w 2 ∷ [])))
close_behind (frame.From w ∷ fs) out =
    Some (state (mode.Have atom_level) fs (out ++ (applied w 2 ∷ [])))
close_behind (frame.For w ∷ fs) out =
    Some (state (mode.Have atom_level) fs (out ++ (applied w 3 ∷ [])))
close_behind (frame.Place w ∷ fs) out =
    Some (state (mode.Have atom_level) fs (out ++ (applied w 2 ∷ [])))
close_behind (frame.TrimFrom d ∷ fs) out =
    Some (state (mode.Have atom_level) fs (out ++ (trimmed d false ∷ [])))
close_behind (frame.TrimBy d ∷ fs) out =
    Some (state (mode.Have atom_level) fs (out ++ (trimmed d true ∷ [])))
close_behind (frame.Items n k ∷ fs) out =
    Some (state (mode.Have predicate_level) fs (out ++ (listed n (suc k) ∷ [])))
close_behind (f ∷ fs) out = None

-- a comma ends an argument or an item
abbrev pub comma_behind : List Frame → List Step → Option State
comma_behind [] out = None
comma_behind (frame.Arguments w n ∷ fs) out =
    Some (state mode.Want (frame.Arguments w (suc n) ∷ fs) out)
comma_behind (frame.Items n k ∷ fs) out = Some (state mode.Want (frame.Items n (suc k) ∷ fs) out)
comma_behind (f ∷ fs) out = None

-- a `from` ends the first argument of a function that takes it, or what a text is trimmed by, and a
-- word `for` the second argument
abbrev pub by_behind : List ℕ → List Frame → List Step → Option State
by_behind f fs out =
    if takes_side f then Some (state mode.Want (frame.TrimBy side.Both ∷ fs) out) else None

abbrev pub from_behind : List Frame → List Step → Option State
from_behind [] out = None
from_behind (frame.Arguments f zero ∷ fs) out =
    if takes_from f then Some (state mode.Want (frame.From f ∷ fs) out) else by_behind f fs out
from_behind (frame.Trim d ∷ fs) out = Some (state mode.Want (frame.TrimBy d ∷ fs) out)
from_behind (f ∷ fs) out = None

abbrev pub for_behind : List ℕ → List Frame → List Step → Option State
for_behind w [] out = None
for_behind w (frame.From f ∷ fs) out =
    if is_for w then Some (state mode.Want (frame.For f ∷ fs) out) else None
for_behind w (f ∷ fs) out = None

-- the words of a CASE after that part
abbrev pub case_waits : CasePart → Bool → ℕ → List Frame → List Step → Option State
case_waits p n k fs out = Some (state mode.Want (frame.Case p n k ∷ fs) out)

abbrev pub case_ends : Bool → ℕ → Bool → List Frame → List Step → Option State
case_ends n k e fs out = Some (state (mode.Have atom_level) fs (out ++ (chosen n k e ∷ [])))

abbrev pub case_behind : CasePart → Bool → ℕ → List Frame → List Step → Sign → Option State
case_behind part.Operand n k fs out sign.When = case_waits part.When true 0 fs out
case_behind part.When n k fs out sign.Then = case_waits part.Then n k fs out
case_behind part.Then n k fs out sign.When = case_waits part.When n (suc k) fs out
case_behind part.Then n k fs out sign.Else = case_waits part.Else n (suc k) fs out
case_behind part.Then n k fs out sign.End = case_ends n (suc k) false fs out
case_behind part.Else n k fs out sign.End = case_ends n k true fs out
case_behind p n k fs out s = None

abbrev pub case_word : List Frame → List Step → Sign → Option State
case_word [] out s = None
case_word (frame.Case p n k ∷ fs) out s = case_behind p n k fs out s
case_word (f ∷ fs) out s = None

abbrev pub as_behind : List Frame → List Step → Option State
as_behind [] out = None
as_behind (frame.Cast p ∷ fs) out = Some (state (mode.CastType p) fs out)
as_behind (f ∷ fs) out = None

abbrev pub escape_behind : List Frame → List Step → Option State
escape_behind [] out = None
escape_behind (frame.Like k ∷ fs) out = Some (state (mode.Escaping k) fs out)
escape_behind (f ∷ fs) out = None

abbrev pub end_behind : List Frame → List Step → Option (List Step)
end_behind [] out = Some out
end_behind (f ∷ fs) out = None

-- a sign after an operand, alone or after `not`
abbrev pub like_kind : Bool → Bool → LikeKind
like_kind n i = record { negated = n; case_insensitive = i }

abbrev pub between_kind : Bool → Bool → BetweenKind
between_kind n s = record { negated = n; symmetric = s }

unfoldable pub predicate : Bool → ℕ → List Frame → List Step → Sign → Option State
predicate n level fs out sign.Between =
    shifted predicate_level concat_level (frame.Between (between_kind n false)) level fs out
predicate n level fs out sign.Like =
    shifted predicate_level concat_level (frame.Like (like_kind n false)) level fs out
predicate n level fs out sign.Ilike =
    shifted predicate_level concat_level (frame.Like (like_kind n true)) level fs out
predicate n level fs out sign.In =
    let a = settled predicate_level level fs out in in_behind n a.level a.frames a.steps
predicate n level fs out s = None

-- two colons give a literal its type, and cast what else binds as tightly
abbrev pub typed_mode : ℕ → Option Mode
typed_mode level =
    if nat_le literal_level level then Some mode.Typing
    else (if nat_le atom_level level then Some (mode.Converting level) else None)

abbrev pub typed_behind : List Frame → List Step → Option Mode → Option State
typed_behind fs out m = option_map (λ t. state t fs out) m

unfoldable pub word_after : ℕ → List Frame → List Step → Sign → Option State
word_after level fs out sign.And =
    let a = settled and_level level fs out in and_behind a.level a.frames a.steps
word_after level fs out sign.Is =
    let a = settled is_level level fs out in is_behind a.level a.frames a.steps
word_after level fs out sign.IsNull =
    let a = settled is_level level fs out in null_test_behind false a.level a.frames a.steps
word_after level fs out sign.NotNull =
    let a = settled is_level level fs out in null_test_behind true a.level a.frames a.steps
word_after level fs out sign.Not =
    let a = settled predicate_level level fs out in not_behind a.level a.frames a.steps
word_after level fs out sign.In =
    let a = settled predicate_level level fs out in place_behind a.level a.frames a.steps
word_after level fs out sign.Close =
    let a = settled or_level level fs out in close_behind a.frames a.steps
word_after level fs out sign.Comma =
    let a = settled or_level level fs out in comma_behind a.frames a.steps
word_after level fs out sign.From =
    let a = settled or_level level fs out in from_behind a.frames a.steps
word_after level fs out sign.As =
    let a = settled or_level level fs out in as_behind a.frames a.steps
word_after level fs out sign.When =
    let a = settled or_level level fs out in case_word a.frames a.steps sign.When
word_after level fs out sign.Then =
    let a = settled or_level level fs out in case_word a.frames a.steps sign.Then
word_after level fs out sign.Else =
    let a = settled or_level level fs out in case_word a.frames a.steps sign.Else
word_after level fs out sign.End =
    let a = settled or_level level fs out in case_word a.frames a.steps sign.End
word_after level fs out sign.Escape =
    let a = settled concat_level level fs out in escape_behind a.frames a.steps
word_after level fs out sign.Typed =
    typed_behind fs out (typed_mode level)
word_after level fs out s = predicate false level fs out s

abbrev pub operator_or_word : ℕ → List Frame → List Step → Sign → Option WrittenOperator
    → Option State
operator_or_word level fs out s None = word_after level fs out s
operator_or_word level fs out s (Some o) = joining o level fs out

abbrev pub behind : ℕ → List Frame → List Step → Token → Option State
behind level fs out (sign s) = operator_or_word level fs out s (operator_of s)
behind level fs out (name w) =
    let a = settled or_level level fs out in for_behind w a.frames a.steps
behind level fs out t = None

-- a bracket after a bare name makes a call of it
abbrev pub call_of : List Frame → Option (List Step × List ℕ) → Option State
call_of fs None = None
call_of fs (Some x) = Some (state mode.Want (frame.Arguments x.1 0 ∷ fs) x.0)

abbrev pub open_call : List Frame → List Step → Option State
open_call fs out = call_of fs (last_name out)

-- digits after `interval`, before their unit
abbrev pub counted : List Frame → List Step → Token → Option State
counted fs out t = Some (state mode.Unit fs (out ++ (operand t ∷ [])))

-- another text after a bare name is a literal of the type of that name
abbrev pub titled : List Frame → List Step → List ℕ → List ℕ → Option State
titled fs out w bs =
    Some (state (mode.Have atom_level) fs (out ++ (operand (text bs) ∷ typed w false ∷ [])))

abbrev pub literal_of : List Frame → List ℕ → Option (List Step × List ℕ) → Option State
literal_of fs bs None = None
literal_of fs bs (Some x) =
    if is_interval x.1 && are_digits bs then counted fs x.0 (text bs) else titled fs x.0 x.1 bs

abbrev pub text_named : List Frame → List Step → List ℕ → Option State
text_named fs out bs = literal_of fs bs (last_name out)

abbrev pub number_of : List Frame → List ℕ → Option (List Step × List ℕ) → Option State
number_of fs ds None = None
number_of fs ds (Some x) =
    if is_interval x.1 && are_digits ds then counted fs x.0 (number ds) else None

abbrev pub number_named : List Frame → List Step → List ℕ → Option State
number_named fs out ds = number_of fs ds (last_name out)

abbrev pub unit_expected : List Frame → List Step → Token → Option State
unit_expected fs out (name u) =
    if is_unit u then Some (state (mode.Have atom_level) fs (out ++ (typed u false ∷ []))) else None
unit_expected fs out t = None

-- a bare name before `from` is a text, the first argument of a call of `extract`
abbrev pub word_of : List ℕ → List Frame → Option (List Step × List ℕ) → Option State
word_of f fs None = None
word_of f fs (Some x) =
    Some (state mode.Want (frame.Extract f ∷ fs) (x.0 ++ (operand (text x.1) ∷ [])))

abbrev pub waits_word : List Frame → Bool
waits_word [] = false
waits_word (frame.Arguments f zero ∷ fs) = takes_word f
waits_word (f ∷ fs) = false

abbrev pub word_from : List Frame → List Step → Option State
word_from [] out = None
word_from (frame.Arguments f n ∷ fs) out = word_of f fs (last_name out)
word_from (f ∷ fs) out = None

abbrev pub from_named : List Frame → List Step → Option State
from_named fs out =
    if waits_word fs then word_from fs out else behind atom_level fs out (sign sign.From)

abbrev pub after_name : List Frame → List Step → Token → Option State
after_name fs out (sign sign.Open) = open_call fs out
after_name fs out (sign sign.From) = from_named fs out
after_name fs out (text bs) = text_named fs out bs
after_name fs out (number ds) = number_named fs out ds
after_name fs out t = behind atom_level fs out t

abbrev pub negating : ℕ → List Frame → List Step → Token → Option State
negating level fs out (sign s) = predicate true level fs out s
negating level fs out t = None

-- the bracket of a call without arguments
abbrev pub close_expected : List Frame → List Step → Option State
close_expected [] out = None
close_expected (frame.Arguments w zero ∷ fs) out =
    Some (state (mode.Have atom_level) fs (out ++ (applied w 0 ∷ [])))
close_expected (f ∷ fs) out = None

-- the first `when` of a CASE without an operand
abbrev pub when_expected : List Frame → List Step → Option State
when_expected [] out = None
when_expected (frame.Case part.Operand n k ∷ fs) out = case_waits part.When false 0 fs out
when_expected (f ∷ fs) out = None

-- the `symmetric` after `between`
abbrev pub symmetric_expected : List Frame → List Step → Option State
symmetric_expected [] out = None
symmetric_expected (frame.Between k ∷ fs) out =
    if k.symmetric then None
    else Some (state mode.Want (frame.Between (between_kind k.negated true) ∷ fs) out)
symmetric_expected (f ∷ fs) out = None

-- a side after the bracket of a function that takes it, and `from` directly after the side
abbrev pub side_expected : TrimSide → List Frame → List Step → Option State
side_expected d [] out = None
side_expected d (frame.Arguments f zero ∷ fs) out =
    if takes_side f then Some (state mode.Want (frame.Trim d ∷ fs) out) else None
side_expected d (f ∷ fs) out = None

abbrev pub from_expected : List Frame → List Step → Option State
from_expected [] out = None
from_expected (frame.Trim d ∷ fs) out = Some (state mode.Want (frame.TrimFrom d ∷ fs) out)
from_expected (f ∷ fs) out = None

-- an operand's first token
abbrev pub sign_expected : List Frame → List Step → Sign → Option State
sign_expected fs out sign.Minus = Some (state mode.Signed fs out)
sign_expected fs out sign.Plus = Some (state mode.Want (frame.Plus ∷ fs) out)
sign_expected fs out sign.BitNot =
    if nat_le (top_hole fs) bit_not_level
    then Some (state mode.Want (frame.BitNot ∷ fs) out) else None
sign_expected fs out sign.Not =
    if nat_le (top_hole fs) not_level then Some (state mode.Want (frame.Not ∷ fs) out) else None
sign_expected fs out sign.Open = Some (state mode.Want (frame.Open ∷ fs) out)
sign_expected fs out sign.Cast = Some (state (mode.Casting false) fs out)
sign_expected fs out sign.TryCast = Some (state (mode.Casting true) fs out)
sign_expected fs out sign.Symmetric = symmetric_expected fs out
sign_expected fs out sign.Case = case_waits part.Operand false 0 fs out
sign_expected fs out sign.When = when_expected fs out
sign_expected fs out sign.Close = close_expected fs out
sign_expected fs out (sign.Side d) = side_expected d fs out
sign_expected fs out sign.From = from_expected fs out
sign_expected fs out s = None

abbrev pub other_wanted : List Frame → List Step → Token → Option State
other_wanted fs out (sign s) = sign_expected fs out s
other_wanted fs out (function w) = Some (state mode.Want (frame.Arguments w 0 ∷ fs) out)
other_wanted fs out t = None

abbrev pub mode_behind : Token → Mode
mode_behind (name w) = mode.Named
mode_behind t = mode.Have (operand_level t)

abbrev pub operand_read : List Frame → List Step → Token → Option State
operand_read fs out t =
    if nat_le (operand_level t) (top_ceiling fs)
    then Some (state (mode_behind t) fs (out ++ (operand t ∷ []))) else None

abbrev pub before_operand : List Frame → List Step → Token → Option State
before_operand fs out t = if is_operand t then operand_read fs out t else other_wanted fs out t

-- what follows a minus sign
abbrev pub digits_read : List Frame → List Step → List ℕ → Option State
digits_read fs out ds =
    if nat_le literal_level (top_ceiling fs)
    then Some (state (mode.Have literal_level) fs (out ++ (negative ds ∷ []))) else None

abbrev pub signed : List Frame → List Step → Token → Option State
signed fs out (number ds) = digits_read fs out ds
signed fs out t = before_operand (frame.Minus ∷ fs) out t

abbrev pub type_expected : List Frame → List Step → Token → Option State
type_expected fs out (name w) =
    Some (state (mode.Have typed_level) fs (out ++ (typed w false ∷ [])))
type_expected fs out (nullable w) =
    Some (state (mode.Have typed_level) fs (out ++ (typed w true ∷ [])))
type_expected fs out t = None

abbrev pub conversion_expected : ℕ → List Frame → List Step → Token → Option State
conversion_expected l fs out (name w) =
    Some (state (mode.Have l) fs (out ++ (cast false w false ∷ [])))
conversion_expected l fs out (nullable w) =
    Some (state (mode.Have l) fs (out ++ (cast false w true ∷ [])))
conversion_expected l fs out t = None

abbrev pub cast_expected : Bool → List Frame → List Step → Token → Option State
cast_expected p fs out (name w) = Some (state mode.CastEnd fs (out ++ (cast p w false ∷ [])))
cast_expected p fs out (nullable w) = Some (state mode.CastEnd fs (out ++ (cast p w true ∷ [])))
cast_expected p fs out t = None

-- the words and signs that have only one possible successor
abbrev pub tested : Test → Bool → List Frame → List Step → Option State
tested k n fs out = Some (state (mode.Have is_level) fs (out ++ (called (call.Is k n) ∷ [])))

-- a word that is no keyword tests for unknown alone
abbrev pub word_tested : Bool → List ℕ → List Frame → List Step → Option State
word_tested n w fs out =
    if same_word w (codes "unknown") then tested test.Unknown n fs out else None

abbrev pub is_not : Bool → List Frame → List Step → Option State
is_not n fs out = if n then None else Some (state (mode.Is true) fs out)

abbrev pub distinct : Bool → List Frame → List Step → Option State
distinct n fs out =
    if nat_le (top_hole fs) distinct_level then Some (state (mode.Distinct n) fs out) else None

abbrev pub after_is : Bool → List Frame → List Step → Token → Option State
after_is n fs out (sign sign.Null) = tested test.Null n fs out
after_is n fs out (sign sign.True) = tested test.True n fs out
after_is n fs out (sign sign.False) = tested test.False n fs out
after_is n fs out (name w) = word_tested n w fs out
after_is n fs out (sign sign.Not) = is_not n fs out
after_is n fs out (sign sign.Distinct) = distinct n fs out
after_is n fs out t = None

abbrev pub after_distinct : Bool → List Frame → List Step → Token → Option State
after_distinct n fs out (sign sign.From) = Some (state mode.Want (frame.Distinct n ∷ fs) out)
after_distinct n fs out t = None

abbrev pub after_in : Bool → List Frame → List Step → Token → Option State
after_in n fs out (sign sign.Open) = Some (state mode.Want (frame.Items n 0 ∷ fs) out)
after_in n fs out t = None

abbrev pub after_cast : Bool → List Frame → List Step → Token → Option State
after_cast p fs out (sign sign.Open) = Some (state mode.Want (frame.Cast p ∷ fs) out)
after_cast p fs out t = None

abbrev pub after_cast_type : List Frame → List Step → Token → Option State
after_cast_type fs out (sign sign.Close) = Some (state (mode.Have atom_level) fs out)
after_cast_type fs out t = None

abbrev pub after_escape : LikeKind → List Frame → List Step → Token → Option State
after_escape k fs out (text e) =
    Some (state (mode.Have predicate_level) fs (out ++ (escaped k e ∷ [])))
after_escape k fs out t = None

unfoldable pub next : Mode → List Frame → List Step → Token → Option State
next mode.Want fs out t = before_operand fs out t
next mode.Signed fs out t = signed fs out t
next (mode.Have level) fs out t = behind level fs out t
next mode.Named fs out t = after_name fs out t
next mode.Unit fs out t = unit_expected fs out t
next mode.Typing fs out t = type_expected fs out t
next (mode.Is n) fs out t = after_is n fs out t
next (mode.Distinct n) fs out t = after_distinct n fs out t
next (mode.Listing n) fs out t = after_in n fs out t
next (mode.Negating level) fs out t = negating level fs out t
next (mode.Converting l) fs out t = conversion_expected l fs out t
next (mode.Casting p) fs out t = after_cast p fs out t
next (mode.CastType p) fs out t = cast_expected p fs out t
next mode.CastEnd fs out t = after_cast_type fs out t
next (mode.Escaping k) fs out t = after_escape k fs out t

-- where the tokens end
unfoldable pub finish : Mode → List Frame → List Step → Option (List Step)
finish (mode.Have level) fs out =
    let a = settled or_level level fs out in end_behind a.frames a.steps
finish mode.Named fs out =
    let a = settled or_level atom_level fs out in end_behind a.frames a.steps
finish m fs out = None

-- the steps that the tokens lead to
unfoldable pub run : State → List Token → Option (List Step)
run s [] = finish s.mode s.frames s.steps
run s (t ∷ ts) = option_and_then (λ r. run r ts) (next s.mode s.frames s.steps t)

unfoldable pub steps_of : List Token → Option (List Step)
steps_of ts = run (state mode.Want [] []) ts
