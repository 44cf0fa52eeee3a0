-- A tree's tokens do not end with `as` and a token.
use Rattle.std.proofs.Common.{◌≡◌, ◌++◌, ◌∷◌, [], Bool, List, Option, Some, None, refl, ap, sym}
use Rattle.std.proofs.Common.{subst}
use Rattle.std.specs.Option.{option_and_then}
use Rattle.vortex_syntax.specs.declared.token.Sign.TheVariants as sign
use Rattle.vortex_syntax.specs.Frames.{Frame}
use Rattle.vortex_syntax.specs.Frames as frame
use Rattle.vortex_syntax.specs.declared.frame.Mode.{Mode}
use Rattle.vortex_syntax.specs.declared.frame.Mode.TheVariants as mode
use Rattle.vortex_syntax.specs.Tokens.{Token, name, nullable, sign}
use Rattle.vortex_syntax.specs.Levels.{atom_level}
use Rattle.vortex_syntax.specs.Postfix.{Step}
use Rattle.vortex_syntax.specs.Reading.{State, settled, as_behind, predicate, word_after}
use Rattle.vortex_syntax.specs.Reading.{cast_expected, next, finish, run}

-- what is read of the first token, where all are read
ran : (o : Option State) (ts : List Token) (xs : List Step)
    → option_and_then (λ r. run r ts) o ≡ Some xs
    → (r : State) × (o ≡ Some r) × (run r ts ≡ Some xs)
ran None ts xs e = absurd cc
ran (Some r) ts xs e = (r, refl, e)

-- `as` comes only before the type of a cast, and no tree ends with that
abbrev mode_of : Option State → Mode
mode_of None = mode.Want
mode_of (Some s) = s.mode

cast_behind : (fs : List Frame) (out : List Step) (r : State) → as_behind fs out ≡ Some r
    → (p : Bool) × (r.mode ≡ mode.CastType p)
cast_behind (frame.Cast p ∷ fs) out r e = (p, sym (ap mode_of e))
cast_behind fs out r e = absurd cc

as_next : (m : Mode) (fs : List Frame) (out : List Step) (r : State)
    → next m fs out (sign sign.As) ≡ Some r → (p : Bool) × (r.mode ≡ mode.CastType p)
unfolding next word_after predicate
as_next (mode.Have l) fs out r e =
    cast_behind (settled 0 l fs out).frames (settled 0 l fs out).steps r e
as_next mode.Named fs out r e =
    cast_behind (settled 0 atom_level fs out).frames (settled 0 atom_level fs out).steps r e
as_next m fs out r e = absurd cc

type_next : (p : Bool) (t : Token) (fs : List Frame) (out : List Step) (r : State)
    → cast_expected p fs out t ≡ Some r → r.mode ≡ mode.CastEnd
type_next p (name w) fs out r e = sym (ap mode_of e)
type_next p (nullable w) fs out r e = sym (ap mode_of e)
type_next p t fs out r e = absurd cc

no_end : (m : Mode) (fs : List Frame) (out xs : List Step) → m ≡ mode.CastEnd
    → finish m fs out ≡ Some xs → ⊥
unfolding finish
no_end m fs out xs h e = let k : finish mode.CastEnd fs out ≡ Some xs =
    subst (λ (v : Mode). finish v fs out ≡ Some xs) h e in cc

pub no_name : (us : List Token) (s : State) (n : Token) (xs : List Step)
    → run s (us ++ (sign sign.As ∷ n ∷ [])) ≡ Some xs → ⊥
unfolding run next
no_name [] s n xs e =
    let r = ran (next s.mode s.frames s.steps (sign sign.As)) (n ∷ []) xs e in
    let q = ran (next r.0.mode r.0.frames r.0.steps n) [] xs r.2 in
    let a = as_next s.mode s.frames s.steps r.0 r.1 in
    let h : next (mode.CastType a.0) r.0.frames r.0.steps n ≡ Some q.0 =
    subst (λ (m : Mode). next m r.0.frames r.0.steps n ≡ Some q.0) a.1 q.1 in
    no_end q.0.mode q.0.frames q.0.steps xs (type_next a.0 n r.0.frames r.0.steps q.0 h) q.2
no_name (t ∷ us) s n xs e = let r =
    ran (next s.mode s.frames s.steps t) (us ++ (sign sign.As ∷ n ∷ [])) xs e in
    no_name us r.0 n xs r.2
