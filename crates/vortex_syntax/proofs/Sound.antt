-- What is read is spelled by its tokens.
use Rattle.std.proofs.Common.{◌≡◌, ℕ, List, [], ◌∷◌, ◌++◌, Option, Some, None, refl, sym, subst}
use Rattle.std.proofs.Common.{◌∙◌, append_assoc}
use Rattle.std.specs.Option.{option_and_then}
use Rattle.std.proofs.lemmas.List.{append-nil}
use Rattle.vortex_syntax.specs.Frames.{Frame}
use Rattle.vortex_syntax.specs.declared.frame.Mode.{Mode}
use Rattle.vortex_syntax.specs.declared.frame.Mode.TheVariants as mode
use Rattle.vortex_syntax.specs.Tokens.{Token}
use Rattle.vortex_syntax.specs.Syntax.{Syntax}
use Rattle.vortex_syntax.specs.Levels.{Fits, is_operand, atom_level}
use Rattle.vortex_syntax.specs.Spelling.{spelling}
use Rattle.vortex_syntax.specs.Postfix.{Step, postfix}
use Rattle.vortex_syntax.specs.Reading.{State, state, settled, end_behind, next, finish, run}
use Rattle.vortex_syntax.specs.Reading.{steps_of}
use Rattle.vortex_syntax.proofs.Held.{Held, frames_of, all_written, all_held}
use Rattle.vortex_syntax.proofs.Before.{HasOperand, settled_operand, Holds, HoldsIn}
use Rattle.vortex_syntax.proofs.ItemsSound.{in_follows}
use Rattle.vortex_syntax.proofs.NameSound.{named_operand, named_sound, unit_sound}
use Rattle.vortex_syntax.proofs.SignsSound.{behind_sound, negating_sound}
use Rattle.vortex_syntax.proofs.OperandsSound.{wanted_sound, signed_sound, is_follows}
use Rattle.vortex_syntax.proofs.OperandsSound.{distinct_follows}
use Rattle.vortex_syntax.proofs.OperandsSound.{escaping_sound}
use Rattle.vortex_syntax.proofs.CastsSound.{type_sound, conversion_sound, cast_follows}
use Rattle.vortex_syntax.proofs.CastsSound.{cast_type_sound, cast_end_sound}

-- each token
pub step_sound : (m : Mode) (fs : List Frame) (out : List Step) (t : Token) (s : State)
    (before : List Token) → next m fs out t ≡ Some s → Holds m fs out before
    → HoldsIn s (before ++ (t ∷ []))
unfolding next
step_sound mode.Want fs out t s before e h = wanted_sound fs out t s before (is_operand t) refl e h
step_sound mode.Signed fs out t s before e h = signed_sound fs out t s before e h
step_sound (mode.Have l) fs out t s before e h = behind_sound l fs out t s before e h
step_sound mode.Named fs out t s before e h = named_sound fs out t s before e h
step_sound mode.Unit fs out t s before e h = unit_sound fs out t s before e h
step_sound mode.Typing fs out t s before e h = type_sound h.0 fs out t s before e h.1 h.2
step_sound (mode.Converting l) fs out t s before e h =
    conversion_sound l fs out t s before e h.0 h.1 h.2
step_sound (mode.Is n) fs out t s before e h = is_follows n h.0 fs out t s before e h.1 h.2 h.3
step_sound (mode.Distinct n) fs out t s before e h =
    distinct_follows n h.0 fs out t s before e h.1 h.2 h.3
step_sound (mode.Listing n) fs out t s before e h = in_follows n h.0 fs out t s before e h.1 h.2 h.3
step_sound (mode.Negating l) fs out t s before e h = negating_sound l fs out t s before e h.0
step_sound (mode.Casting p) fs out t s before e h = cast_follows p fs out t s before e h
step_sound (mode.CastType p) fs out t s before e h =
    cast_type_sound p h.0 fs out t s before e h.1 h.2
step_sound mode.CastEnd fs out t s before e h =
    cast_end_sound h.3 h.0 h.1 h.2 fs out t s before e h.4 h.5
step_sound (mode.Escaping k) fs out t s before e h = escaping_sound k fs out t s before e h

-- the end
pub record Found (ts : List Token) (xs : List Step) : Type 0 where
  pub tree : Syntax
  pub fits : Fits tree
  pub tokens : ts ≡ spelling tree
  pub steps : xs ≡ postfix tree

pub steps_is : (xs ys : List Step) → Some xs ≡ Some ys → xs ≡ ys
steps_is xs ys e = cc

pub ended_at : (out xs : List Step) (before : List Token) (t : Syntax) → Fits t → (hs : List Held)
    → [] ≡ frames_of hs → out ≡ all_held hs ++ postfix t
    → before ≡ all_written hs ++ (spelling t ++ [])
    → out ≡ xs → Found before xs
ended_at out xs before t f [] e k j i =
    record { tree = t; fits = f; tokens = j ∙ append-nil (spelling t); steps = sym i ∙ k }
ended_at out xs before t f (h ∷ hs) e k j i = absurd cc

pub ended : (l : ℕ) (fs : List Frame) (out xs : List Step) (before : List Token)
    → end_behind fs out ≡ Some xs → HasOperand l fs out before [] → Found before xs
ended l [] out xs before e a =
    ended_at out xs before a.tree a.fits a.behind.hs a.behind.frames
    (a.behind.steps) a.behind.tokens (steps_is out xs e)
ended l (f ∷ fs) out xs before e a = absurd cc

pub finish_sound : (m : Mode) (fs : List Frame) (out xs : List Step) (before : List Token)
    → finish m fs out ≡ Some xs → Holds m fs out before → Found before xs
unfolding finish
finish_sound (mode.Have l) fs out xs before e h = let b = settled 0 l fs out in
    ended b.level b.frames b.steps xs before e (settled_operand 0 l fs out before [] h)
finish_sound mode.Named fs out xs before e h = let b = settled 0 atom_level fs out in
    ended b.level b.frames b.steps xs before e
    (settled_operand 0 atom_level fs out before [] (named_operand fs out before h))
finish_sound m fs out xs before e h = absurd cc

abbrev pub ran_from : List Token → Option State → Option (List Step)
ran_from ts o = option_and_then (λ r. run r ts) o

pub one_more : (s : State) (t : Token) (ts : List Token) (xs : List Step) (before : List Token)
    (o : Option State) → next s.mode s.frames s.steps t ≡ o → ran_from ts o ≡ Some xs
    → HoldsIn s before
    → ((r : State) → run r ts ≡ Some xs → HoldsIn r (before ++ (t ∷ []))
    → Found ((before ++ (t ∷ [])) ++ ts) xs) → Found (before ++ (t ∷ ts)) xs
one_more s t ts xs before None k e h go = absurd cc
one_more s t ts xs before (Some r) k e h go =
    subst (λ (us : List Token). Found us xs) (append_assoc before (t ∷ []) ts)
    (go r e (step_sound s.mode s.frames s.steps t r before k h))

pub run_sound : (ts : List Token) (s : State) (xs : List Step) (before : List Token)
    → run s ts ≡ Some xs → HoldsIn s before → Found (before ++ ts) xs
unfolding run
run_sound [] s xs before e h =
    subst (λ (us : List Token). Found us xs) (sym (append-nil before))
    (finish_sound s.mode s.frames s.steps xs before e h)
run_sound (t ∷ ts) s xs before e h =
    one_more s t ts xs before (next s.mode s.frames s.steps t) refl e h
    (λ r k j. run_sound ts r xs (before ++ (t ∷ [])) k j)

pub whole_found : (ts : List Token) (xs : List Step) → steps_of ts ≡ Some xs → Found ts xs
unfolding steps_of
whole_found ts xs e =
    run_sound ts (state mode.Want [] []) xs [] e
    (record { hs = []; frames = refl; steps = refl; tokens = refl; nested = tt })
