-- What closes a pending frame.
use Rattle.std.proofs.Common.{◌≡◌, ℕ, ◌<◌, ◌≤◌, false, true, List, [], ◌∷◌, ◌++◌, Option, Some}
use Rattle.std.proofs.Common.{refl, ap, arith}
use Rattle.std.specs.Option.{option_and_then}
use Rattle.vortex_syntax.specs.declared.step.WrittenOperator.{WrittenOperator}
use Rattle.vortex_syntax.specs.declared.step.WrittenOperator.TheVariants as operator
use Rattle.vortex_syntax.specs.declared.token.Sign.{Sign}
use Rattle.vortex_syntax.specs.declared.token.Sign.TheVariants as sign
use Rattle.vortex_syntax.specs.Frames.{Frame, top_hole, top_ceiling, guard, whole, closing}
use Rattle.vortex_syntax.specs.Frames as frame
use Rattle.vortex_syntax.specs.declared.frame.Mode.TheVariants as mode
use Rattle.vortex_syntax.specs.Tokens.{Token, name, sign}
use Rattle.vortex_syntax.specs.Levels.{level, own, left, and_level, is_level, predicate_level}
use Rattle.vortex_syntax.specs.Levels.{concat_level, or_level}
use Rattle.vortex_syntax.specs.Syntax.{Syntax}
use Rattle.vortex_syntax.specs.Spelling.{spelling}
use Rattle.vortex_syntax.specs.Postfix.{Step, postfix}
use Rattle.vortex_syntax.specs.Reading as specs
use Rattle.vortex_syntax.specs.Reading.{State, state, Operand, operand_of, settled, waiting}
use Rattle.vortex_syntax.specs.Reading.{shifted, joining, and_behind, predicate, word_after, next}
use Rattle.vortex_syntax.specs.Reading.{finish, run}
use Rattle.vortex_syntax.proofs.Tables.{guard_hole, hole_sign, reach_of, reach, reach_at, lower}
use Rattle.vortex_syntax.proofs.Tables.{at_most, not_lower}

-- a frame that binds tighter than the sign is closed, and one that does not stays
pub settled_one : (p l : ℕ) (f : Frame) (fs : List Frame) (out : List Step) → p < guard f
    → settled p l (f ∷ fs) out ≡ settled p (whole f) fs (out ++ (closing f ∷ []))
unfolding settled
settled_one p l f fs out h = rw (lower p (guard f) h) refl

pub settled_none : (p l : ℕ) (fs : List Frame) (out : List Step) → top_hole fs ≤ p
    → settled p l fs out ≡ operand_of l fs out
unfolding settled
settled_none p l [] out h = refl
settled_none p l (f ∷ fs) out h = rw (not_lower p (guard f) (omega (arith, h, guard_hole f))) refl

pub shifts : (p m : ℕ) (f : Frame) (l : ℕ) (fs : List Frame) (out : List Step) → m ≤ l
    → top_hole fs ≤ p → shifted p m f l fs out ≡ Some (state mode.Want (f ∷ fs) out)
shifts p m f l fs out h k =
    rw (settled_none p l fs out k) (rw (at_most m l h, at_most (top_hole fs) p k) refl)

-- the tokens that are left
abbrev pub ran : List Token → Option State → Option (List Step)
ran ts s = option_and_then (λ r. run r ts) s

abbrev pub want : List Frame → List Step → List Token → Option (List Step)
want fs out ts = run (state mode.Want fs out) ts

abbrev pub have : ℕ → List Frame → List Step → List Token → Option (List Step)
have l fs out ts = run (state (mode.Have l) fs out) ts

abbrev pub closed : List Step → Frame → List Step
closed out f = out ++ (closing f ∷ [])

-- what closes a frame before a sign closes it whatever follows
join_closes : (o : WrittenOperator) (l : ℕ) (f : Frame) (fs : List Frame) (out : List Step)
    (ts : List Token) → own o < guard f
    → ran ts (joining o l (f ∷ fs) out) ≡ ran ts (joining o (whole f) fs (closed out f))
join_closes o l f fs out ts h =
    ap (λ a. ran ts (waiting (own o) (left o) (frame.Join o) a)) (settled_one (own o) l f fs out h)

predicate_closes : (g : Frame) (l : ℕ) (f : Frame) (fs : List Frame) (out : List Step)
    (ts : List Token) → predicate_level < guard f
    → ran ts (shifted predicate_level concat_level g l (f ∷ fs) out)
    ≡ ran ts (shifted predicate_level concat_level g (whole f) fs (closed out f))
predicate_closes g l f fs out ts h =
    ap (λ a. ran ts (waiting predicate_level concat_level g a))
    (settled_one predicate_level l f fs out h)

abbrev word_ran : Sign → List Token → Operand → Option (List Step)
word_ran u ts a = ran ts (specs.case_word a.frames a.steps u)

word_closes : (u : Sign) (l : ℕ) (f : Frame) (fs : List Frame) (out : List Step)
    (ts : List Token) → or_level < guard f
    → word_ran u ts (settled or_level l (f ∷ fs) out)
    ≡ word_ran u ts (settled or_level (whole f) fs (closed out f))
word_closes u l f fs out ts h = ap (word_ran u ts) (settled_one or_level l f fs out h)

sign_closes : (l : ℕ) (f : Frame) (fs : List Frame) (out : List Step) (s : Sign) (ts : List Token)
    → reach_of s < guard f
    → have l (f ∷ fs) out (sign s ∷ ts) ≡ have (whole f) fs (closed out f) (sign s ∷ ts)
unfolding run next word_after predicate
sign_closes l f fs out sign.And ts h =
    ap (λ a. ran ts (and_behind a.level a.frames a.steps)) (settled_one and_level l f fs out h)
sign_closes l f fs out sign.Or ts h = join_closes operator.Or l f fs out ts h
sign_closes l f fs out sign.Not ts h =
    ap (λ a. ran ts (specs.not_behind a.level a.frames a.steps))
    (settled_one predicate_level l f fs out h)
sign_closes l f fs out sign.Is ts h =
    ap (λ a. ran ts (specs.is_behind a.level a.frames a.steps)) (settled_one is_level l f fs out h)
sign_closes l f fs out sign.IsNull ts h =
    ap (λ a. ran ts (specs.null_test_behind false a.level a.frames a.steps))
    (settled_one is_level l f fs out h)
sign_closes l f fs out sign.NotNull ts h =
    ap (λ a. ran ts (specs.null_test_behind true a.level a.frames a.steps))
    (settled_one is_level l f fs out h)
sign_closes l f fs out sign.Between ts h =
    predicate_closes (frame.Between (specs.between_kind false false)) l f fs out ts h
sign_closes l f fs out sign.Like ts h =
    predicate_closes (frame.Like (specs.like_kind false false)) l f fs out ts h
sign_closes l f fs out sign.Ilike ts h =
    predicate_closes (frame.Like (specs.like_kind false true)) l f fs out ts h
sign_closes l f fs out sign.In ts h =
    ap (λ a. ran ts (specs.place_behind a.level a.frames a.steps))
    (settled_one predicate_level l f fs out h)
sign_closes l f fs out sign.Escape ts h =
    ap (λ a. ran ts (specs.escape_behind a.frames a.steps)) (settled_one concat_level l f fs out h)
sign_closes l f fs out sign.From ts h =
    ap (λ a. ran ts (specs.from_behind a.frames a.steps)) (settled_one or_level l f fs out h)
sign_closes l f fs out sign.As ts h =
    ap (λ a. ran ts (specs.as_behind a.frames a.steps)) (settled_one or_level l f fs out h)
sign_closes l f fs out sign.Equal ts h = join_closes operator.Equal l f fs out ts h
sign_closes l f fs out sign.NotEqual ts h = join_closes operator.NotEqual l f fs out ts h
sign_closes l f fs out sign.Less ts h = join_closes operator.Less l f fs out ts h
sign_closes l f fs out sign.LessOrEqual ts h = join_closes operator.LessOrEqual l f fs out ts h
sign_closes l f fs out sign.Greater ts h = join_closes operator.Greater l f fs out ts h
sign_closes l f fs out sign.GreaterOrEqual ts h =
    join_closes operator.GreaterOrEqual l f fs out ts h
sign_closes l f fs out sign.Plus ts h = join_closes operator.Add l f fs out ts h
sign_closes l f fs out sign.Minus ts h = join_closes operator.Sub l f fs out ts h
sign_closes l f fs out sign.Times ts h = join_closes operator.Mul l f fs out ts h
sign_closes l f fs out sign.Divide ts h = join_closes operator.Div l f fs out ts h
sign_closes l f fs out sign.Modulo ts h = join_closes operator.Mod l f fs out ts h
sign_closes l f fs out sign.Concat ts h = join_closes operator.Concat l f fs out ts h
sign_closes l f fs out sign.BitAnd ts h = join_closes operator.BitAnd l f fs out ts h
sign_closes l f fs out sign.BitOr ts h = join_closes operator.BitOr l f fs out ts h
sign_closes l f fs out sign.BitXor ts h = join_closes operator.BitXor l f fs out ts h
sign_closes l f fs out sign.ShiftLeft ts h = join_closes operator.ShiftLeft l f fs out ts h
sign_closes l f fs out sign.ShiftRight ts h = join_closes operator.ShiftRight l f fs out ts h
sign_closes l f fs out sign.BitNot ts h = join_closes operator.Matches l f fs out ts h
sign_closes l f fs out sign.MatchAnyCase ts h = join_closes operator.MatchesAnyCase l f fs out ts h
sign_closes l f fs out sign.NotMatch ts h = join_closes operator.NotMatches l f fs out ts h
sign_closes l f fs out sign.NotMatchAnyCase ts h =
    join_closes operator.NotMatchesAnyCase l f fs out ts h
sign_closes l f fs out sign.Close ts h =
    ap (λ a. ran ts (specs.close_behind a.frames a.steps)) (settled_one or_level l f fs out h)
sign_closes l f fs out sign.Comma ts h =
    ap (λ a. ran ts (specs.comma_behind a.frames a.steps)) (settled_one or_level l f fs out h)
sign_closes l f fs out sign.When ts h = word_closes sign.When l f fs out ts h
sign_closes l f fs out sign.Then ts h = word_closes sign.Then l f fs out ts h
sign_closes l f fs out sign.Else ts h = word_closes sign.Else l f fs out ts h
sign_closes l f fs out sign.End ts h = word_closes sign.End l f fs out ts h
sign_closes l f fs out sign.Typed ts h =
    absurd (let k : ⊥ = omega (arith, h, guard_hole f, hole_sign f) in k)
sign_closes l f fs out s ts h = refl

pub closes : (l : ℕ) (f : Frame) (fs : List Frame) (out : List Step) (ts : List Token)
    → reach ts < guard f → have l (f ∷ fs) out ts ≡ have (whole f) fs (closed out f) ts
unfolding run next finish
closes l f fs out [] h = ap (λ a. specs.end_behind a.frames a.steps) (settled_one 0 l f fs out h)
closes l f fs out (sign s ∷ ts) h = sign_closes l f fs out s ts h
closes l f fs out (name w ∷ ts) h =
    ap (λ a. ran ts (specs.for_behind w a.frames a.steps)) (settled_one or_level l f fs out h)
closes l f fs out (t ∷ ts) h = refl

-- a tree's tokens lead to its steps, before a sign that binds no tighter
abbrev pub IsRead : Syntax → Type 0
IsRead t = (fs : List Frame) (out : List Step) (rest : List Token) → top_hole fs ≤ level t
    → level t ≤ top_ceiling fs → reach_at fs rest ≤ level t
    → want fs out (spelling t ++ rest) ≡ have (level t) fs (out ++ postfix t) rest
