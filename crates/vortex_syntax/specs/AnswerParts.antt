-- Reading a list of answers, one between each two commas outside of brackets.
use Rattle.std.specs.Prelude.{◌≡◌, ℕ, zero, suc, ◌==◌, Bool, true, false, ◌&&◌, List, [], ◌∷◌}
use Rattle.std.specs.Prelude.{reverse, Option, Some, None, option_map, if◌then◌else◌, Result}
use Rattle.std.specs.Prelude.{MatchResult}
use Rattle.std.specs.Option.{option_and_then}
use Rattle.std.specs.List.{onto_first}
use Rattle.vortex_syntax.specs.declared.token.Sign.TheVariants as sign
use Rattle.vortex_syntax.specs.declared.error.SyntaxError.{SyntaxError}
use Rattle.vortex_syntax.specs.declared.answer_list.SyntaxAnswer.{SyntaxAnswer}
use Rattle.vortex_syntax.specs.Errors.{UnlessMemory}
use Rattle.vortex_syntax.specs.Tokens.{Token, function, sign}
use Rattle.vortex_syntax.specs.Postfix.{Step}
use Rattle.vortex_syntax.specs.Reading.{steps_of}
use Rattle.vortex_syntax.specs.AnswerLists.{is_name, Told, answer_in}

abbrev pub is_comma : Token → Bool
is_comma (sign sign.Comma) = true
is_comma _ = false

-- how many brackets are open after a token, with that many before it
abbrev pub depth_behind : ℕ → Token → ℕ
depth_behind d (function w) = suc d
depth_behind d (sign sign.Open) = suc d
depth_behind zero (sign sign.Close) = zero
depth_behind (suc d) (sign sign.Close) = d
depth_behind d t = d

abbrev pub ends_answer : ℕ → Token → Bool
ends_answer d t = is_comma t && (d == 0)

-- the tokens of each answer, inside that many brackets
abbrev pub parts_from : ℕ → List Token → List (List Token)
parts_from d [] = [] ∷ []
parts_from d (t ∷ ts) =
    if ends_answer d t then [] ∷ parts_from d ts
    else onto_first t (parts_from (depth_behind d t) ts)

abbrev pub answer_parts : List Token → List (List Token)
answer_parts = parts_from 0

abbrev pub is_as : Token → Bool
is_as (sign sign.As) = true
is_as _ = false

-- The tokens of a tree and the name after them, where the last two tokens are `as` and a name. In
-- reverse: the last token is first.
abbrev pub name_back : List Token → Option (List Token × Token)
name_back (n ∷ t ∷ ts) = if is_as t && is_name n then Some (reverse ts, n) else None
name_back ts = None

unfoldable pub split_name : List Token → Option (List Token × Token)
split_name ts = name_back (reverse ts)

-- an answer of these steps and that name
abbrev pub told_as : Option Token → Option (List Step) → Option Told
told_as n o = option_map (λ xs. record { steps = xs; name = n }) o

abbrev pub split_answer : List Token → Option (List Token × Token) → Option Told
split_answer ts None = told_as None (steps_of ts)
split_answer ts (Some x) = told_as (Some x.1) (steps_of x.0)

unfoldable pub answer_of : List Token → Option Told
answer_of ts = split_answer ts (split_name ts)

-- the answers of all parts, where each has one
abbrev pub with_first : Option Told → Option (List Told) → Option (List Told)
with_first a o = option_and_then (λ x. option_map (λ xs. x ∷ xs) o) a

abbrev pub answers_of : List (List Token) → Option (List Told)
answers_of [] = Some []
answers_of (p ∷ ps) = with_first (answer_of p) (answers_of ps)

unfoldable pub all_answers : List Token → Option (List Told)
all_answers ts = answers_of (answer_parts ts)

-- the result is that answer, unless memory ran out
abbrev pub Tells : Result SyntaxAnswer SyntaxError → Option Told → Type 0
Tells r x = MatchResult r (λ a. x ≡ Some (answer_in a)) (UnlessMemory (x ≡ None))
