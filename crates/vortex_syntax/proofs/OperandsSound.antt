-- What the other tokens do to what was read.
use Rattle.std.proofs.Common.{◌≡◌, ℕ, zero, ◌≤◌, Bool, true, false, nat_le, cond, List, [], ◌∷◌}
use Rattle.std.proofs.Common.{◌++◌, Some, None, refl, ap, subst, ◌∙◌, append_assoc, arith, lit≤}
use Rattle.std.proofs.lemmas.List.{append-nil}
use Rattle.vortex_syntax.specs.declared.step.Test.TheVariants as test
use Rattle.std.specs.Prelude.{codes}
use Rattle.vortex_syntax.specs.declared.step.LikeKind.{LikeKind}
use Rattle.vortex_syntax.specs.declared.step.Call.TheVariants as call
use Rattle.vortex_syntax.specs.declared.token.Sign.{Sign}
use Rattle.vortex_syntax.specs.declared.token.Sign.TheVariants as sign
use Rattle.vortex_syntax.specs.Frames.{Frame, top_hole, top_ceiling}
use Rattle.vortex_syntax.specs.Frames as frame
use Rattle.vortex_syntax.specs.declared.frame.Mode.TheVariants as mode
use Rattle.vortex_syntax.specs.Tokens.{Token, name, nullable, function, quoted, number, text, sign}
use Rattle.vortex_syntax.specs.Syntax as tree
use Rattle.vortex_syntax.specs.Syntax.{Syntax, Tested, Arguments}
use Rattle.vortex_syntax.specs.Levels.{level, Fits, is_operand, operand_level}
use Rattle.vortex_syntax.specs.Levels.{not_level, distinct_level, is_level, predicate_level}
use Rattle.vortex_syntax.specs.Levels.{bit_not_level, concat_level, atom_level, literal_level}
use Rattle.vortex_syntax.specs.Levels.{IsTested, predicate_level}
use Rattle.vortex_syntax.specs.Keywords.{same_word}
use Rattle.vortex_syntax.specs.Spelling.{spelling, is_tokens, test_token, test_tokens}
use Rattle.vortex_syntax.specs.Spelling.{distinct_tokens, like_sign, function_tokens}
use Rattle.vortex_syntax.specs.Postfix.{Step, operand, negative, escaped, applied}
use Rattle.vortex_syntax.specs.Postfix.{called, test_of, argument_count, postfix}
use Rattle.vortex_syntax.specs.Reading as specs
use Rattle.vortex_syntax.specs.Reading.{State, state}
use Rattle.vortex_syntax.proofs.Tables.{top_atom, top_sign, atom_ceiling}
use Rattle.vortex_syntax.proofs.Held.{Held, opened, negating, minusing, distinguishing}
use Rattle.vortex_syntax.proofs.Held.{plusing, inverting, calling, written, held, IsSound}
use Rattle.vortex_syntax.proofs.Held.{siding, trimming}
use Rattle.vortex_syntax.proofs.Before.{side_is}
use Rattle.vortex_syntax.specs.Levels.{takes_side}
use Rattle.vortex_syntax.specs.declared.token.TrimSide.{TrimSide}
use Rattle.vortex_syntax.proofs.Before.{Behind, more, more_tokens, as_tokens, as_steps, pushed}
use Rattle.vortex_syntax.proofs.Before.{popped, call_is, HasOperand, Holds, HoldsIn, along, chosen}
use Rattle.vortex_syntax.proofs.Before.{fits_below, operand_more, operand_is}
use Rattle.vortex_syntax.proofs.CaseSound.{case_begun, when_first}
use Rattle.vortex_syntax.proofs.BetweenSound.{symmetric_sound}

pub operand_atom : (t : Token) → atom_level ≤ operand_level t
operand_atom (name w) = lit≤ tt
operand_atom (nullable w) = lit≤ tt
operand_atom (function w) = lit≤ tt
operand_atom (quoted w) = lit≤ tt
operand_atom (number w) = lit≤ tt
operand_atom (text w) = lit≤ tt
operand_atom (sign u) = lit≤ tt

pub not_sound : (fs : List Frame) (out : List Step) (s : State) (before : List Token)
    → cond (nat_le (top_hole fs) not_level) (Some (state mode.Want (frame.Not ∷ fs) out)) None
    ≡ Some s
    → Behind fs out before [] [] → HoldsIn s (before ++ (sign sign.Not ∷ []))
not_sound fs out s before e b =
    let c = chosen (nat_le (top_hole fs) not_level) (state mode.Want (frame.Not ∷ fs) out) s e in
    along (state mode.Want (frame.Not ∷ fs) out) s (before ++ (sign sign.Not ∷ [])) c.1
    (pushed negating fs out (before ++ (sign sign.Not ∷ []))
    (more_tokens fs out before [] [] (sign sign.Not ∷ []) b) tt
    (fits_below (top_hole fs) not_level c.0))

bit_not_sound : (fs : List Frame) (out : List Step) (s : State) (before : List Token)
    → cond (nat_le (top_hole fs) bit_not_level)
    (Some (state mode.Want (frame.BitNot ∷ fs) out)) None ≡ Some s
    → Behind fs out before [] [] → HoldsIn s (before ++ (sign sign.BitNot ∷ []))
bit_not_sound fs out s before e b =
    let after = state mode.Want (frame.BitNot ∷ fs) out in
    let c = chosen (nat_le (top_hole fs) bit_not_level) after s e in
    along after s (before ++ (sign sign.BitNot ∷ [])) c.1
    (pushed inverting fs out (before ++ (sign sign.BitNot ∷ []))
    (more_tokens fs out before [] [] (sign sign.BitNot ∷ []) b) tt
    (fits_below (top_hole fs) bit_not_level c.0))

pub none_are : (args : Arguments) → 0 ≡ argument_count args → args ≡ tree.no_arguments
none_are tree.no_arguments e = refl
none_are (tree.argument args a) e = absurd (let k : ⊥ = omega (arith, e) in k)

pub nullary_is : (p : Bool) (w : List ℕ) (args : Arguments) (h : Held) (fs : List Frame)
    (out : List Step) (before : List Token) → h ≡ calling p w args → 0 ≡ argument_count args
    → Behind fs out before (held h ++ []) (written h ++ [])
    → HasOperand atom_level fs (out ++ (applied w 0 ∷ [])) (before ++ (sign sign.Close ∷ [])) []
nullary_is p w args h fs out before e k r =
    let is : h ≡ calling p w tree.no_arguments = e ∙ ap (calling p w) (none_are args k) in
    let here : Behind fs out before [] ((function_tokens p w ++ []) ++ []) =
    subst (λ (v : Held). Behind fs out before (held v ++ []) (written v ++ [])) is r in
    let b : Behind fs out before [] (function_tokens p w) =
    as_tokens fs out before [] ((function_tokens p w ++ []) ++ []) (function_tokens p w)
    (append-nil (function_tokens p w ++ []) ∙ append-nil (function_tokens p w)) here in
    operand_is (tree.nullary p w) fs (out ++ (applied w 0 ∷ []))
    (before ++ (sign sign.Close ∷ [])) tt (top_atom fs) (atom_ceiling fs)
    (more fs out before [] (function_tokens p w) (applied w 0 ∷ []) (sign sign.Close ∷ []) b)

pub nullary_sound : (fs : List Frame) (out : List Step) (s : State) (before : List Token)
    → specs.close_expected fs out ≡ Some s → Behind fs out before [] []
    → HoldsIn s (before ++ (sign sign.Close ∷ []))
nullary_sound (frame.Arguments w zero ∷ fs) out s before e b =
    let r = popped (frame.Arguments w 0) fs out before [] [] b in
    let i = call_is w 0 r.h r.is in
    along (state (mode.Have atom_level) fs (out ++ (applied w 0 ∷ []))) s
    (before ++ (sign sign.Close ∷ []))
    e (nullary_is i.1 w i.0 r.h fs out before i.2 i.3 r.behind)
nullary_sound fs out s before e b = absurd cc

-- a side, and `from` directly after it
sided_is : (p : Bool) (f : List ℕ) (d : TrimSide) (args : Arguments) (h : Held) (fs : List Frame)
    (out : List Step) (before : List Token) → h ≡ calling p f args → 0 ≡ argument_count args
    → takes_side f ≡ true → Behind fs out before (held h ++ []) (written h ++ [])
    → Behind (frame.Trim d ∷ fs) out (before ++ (sign (sign.Side d) ∷ [])) [] []
sided_is p f d args h fs out before e k is r =
    let same : h ≡ calling p f tree.no_arguments = e ∙ ap (calling p f) (none_are args k) in
    let here : Behind fs out before [] ((function_tokens p f ++ []) ++ []) =
    subst (λ (v : Held). Behind fs out before (held v ++ []) (written v ++ [])) same r in
    let b : Behind fs out before [] (function_tokens p f) =
    as_tokens fs out before [] ((function_tokens p f ++ []) ++ []) (function_tokens p f)
    (append-nil (function_tokens p f ++ []) ∙ append-nil (function_tokens p f)) here in
    let last : List Token = sign (sign.Side d) ∷ [] in
    pushed (siding p f d) fs out (before ++ last)
    (more_tokens fs out before [] (function_tokens p f) last b) is (top_atom fs)

side_sound : (d : TrimSide) (fs : List Frame) (out : List Step) (s : State)
    (before : List Token) → specs.side_expected d fs out ≡ Some s → Behind fs out before [] []
    → HoldsIn s (before ++ (sign (sign.Side d) ∷ []))
side_sound d (frame.Arguments f zero ∷ fs) out s before e b =
    let r = popped (frame.Arguments f 0) fs out before [] [] b in
    let i = call_is f 0 r.h r.is in
    let after = state mode.Want (frame.Trim d ∷ fs) out in
    let c = chosen (takes_side f) after s e in
    along after s (before ++ (sign (sign.Side d) ∷ [])) c.1
    (sided_is i.1 f d i.0 r.h fs out before i.2 i.3 c.0 r.behind)
side_sound d fs out s before e b = absurd cc

trimmed_is : (p : Bool) (f : List ℕ) (d : TrimSide) (h : Held) (fs : List Frame)
    (out : List Step) (before : List Token) → h ≡ siding p f d → IsSound h
    → Behind fs out before (held h ++ []) (written h ++ [])
    → Behind (frame.TrimFrom d ∷ fs) out (before ++ (sign sign.From ∷ [])) [] []
trimmed_is p f d h fs out before e k r =
    let here : Behind fs out before [] ((function_tokens p f ++ (sign (sign.Side d) ∷ [])) ++ []) =
    subst (λ (v : Held). Behind fs out before (held v ++ []) (written v ++ [])) e r in
    let is : IsSound (siding p f d) = subst (λ (v : Held). IsSound v) e k in
    let last : List Token = sign sign.From ∷ [] in
    let side : List Token = sign (sign.Side d) ∷ [] in
    pushed (trimming p f d) fs out (before ++ last)
    (as_tokens fs out (before ++ last) [] (((function_tokens p f ++ side) ++ []) ++ last)
    (written (trimming p f d))
    (ap (λ ts. ts ++ last) (append-nil (function_tokens p f ++ side))
    ∙ append_assoc (function_tokens p f) side last)
    (more_tokens fs out before [] ((function_tokens p f ++ side) ++ []) last here)) is
    (top_atom fs)

trim_sound : (fs : List Frame) (out : List Step) (s : State) (before : List Token)
    → specs.from_expected fs out ≡ Some s → Behind fs out before [] []
    → HoldsIn s (before ++ (sign sign.From ∷ []))
trim_sound (frame.Trim d ∷ fs) out s before e b =
    let r = popped (frame.Trim d) fs out before [] [] b in
    let i = side_is d r.h r.is in
    along (state mode.Want (frame.TrimFrom d ∷ fs) out) s (before ++ (sign sign.From ∷ [])) e
    (trimmed_is i.0 i.1 d r.h fs out before i.2 r.sound r.behind)
trim_sound fs out s before e b = absurd cc

pub sign_wanted_sound : (fs : List Frame) (out : List Step) (u : Sign) (s : State)
    (before : List Token) → specs.sign_expected fs out u ≡ Some s → Behind fs out before [] []
    → HoldsIn s (before ++ (sign u ∷ []))
sign_wanted_sound fs out sign.Minus s before e b =
    along (state mode.Signed fs out) s (before ++ (sign sign.Minus ∷ [])) e
    (more_tokens fs out before [] [] (sign sign.Minus ∷ []) b)
sign_wanted_sound fs out sign.Plus s before e b =
    along (state mode.Want (frame.Plus ∷ fs) out) s (before ++ (sign sign.Plus ∷ [])) e
    (pushed plusing fs out (before ++ (sign sign.Plus ∷ []))
    (more_tokens fs out before [] [] (sign sign.Plus ∷ []) b) tt (top_sign fs))
sign_wanted_sound fs out sign.BitNot s before e b = bit_not_sound fs out s before e b
sign_wanted_sound fs out sign.Not s before e b = not_sound fs out s before e b
sign_wanted_sound fs out sign.Open s before e b =
    along (state mode.Want (frame.Open ∷ fs) out) s (before ++ (sign sign.Open ∷ [])) e
    (pushed opened fs out (before ++ (sign sign.Open ∷ []))
    (more_tokens fs out before [] [] (sign sign.Open ∷ []) b) tt (top_atom fs))
sign_wanted_sound fs out sign.Cast s before e b =
    along (state (mode.Casting false) fs out) s (before ++ (sign sign.Cast ∷ [])) e
    (more_tokens fs out before [] [] (sign sign.Cast ∷ []) b)
sign_wanted_sound fs out sign.TryCast s before e b =
    along (state (mode.Casting true) fs out) s (before ++ (sign sign.TryCast ∷ [])) e
    (more_tokens fs out before [] [] (sign sign.TryCast ∷ []) b)
sign_wanted_sound fs out sign.Symmetric s before e b = symmetric_sound fs out s before e b
sign_wanted_sound fs out sign.Close s before e b = nullary_sound fs out s before e b
sign_wanted_sound fs out sign.Case s before e b = case_begun fs out s before e b
sign_wanted_sound fs out sign.When s before e b = when_first fs out s before e b
sign_wanted_sound fs out (sign.Side d) s before e b = side_sound d fs out s before e b
sign_wanted_sound fs out sign.From s before e b = trim_sound fs out s before e b
sign_wanted_sound fs out u s before e b = absurd cc

pub other_wanted_sound : (fs : List Frame) (out : List Step) (t : Token) (s : State)
    (before : List Token) → specs.other_wanted fs out t ≡ Some s → Behind fs out before [] []
    → HoldsIn s (before ++ (t ∷ []))
other_wanted_sound fs out (sign u) s before e b = sign_wanted_sound fs out u s before e b
other_wanted_sound fs out (function w) s before e b =
    along (state mode.Want (frame.Arguments w 0 ∷ fs) out) s (before ++ (function w ∷ [])) e
    (pushed (calling false w tree.no_arguments) fs out (before ++ (function w ∷ []))
    (more_tokens fs out before [] [] (function w ∷ []) b) (tt, tt) (top_atom fs))
other_wanted_sound fs out t s before e b = absurd cc

name_sound : (fs : List Frame) (out : List Step) (w : List ℕ) (s : State)
    (before : List Token) → specs.operand_read fs out (name w) ≡ Some s
    → Behind fs out before [] [] → HoldsIn s (before ++ (name w ∷ []))
name_sound fs out w s before e b =
    let after = state mode.Named fs (out ++ (operand (name w) ∷ [])) in
    let c = chosen (nat_le atom_level (top_ceiling fs)) after s e in
    along after s (before ++ (name w ∷ [])) c.1
    (w, more fs out before [] [] (operand (name w) ∷ []) (name w ∷ []) b)

other_sound : (fs : List Frame) (out : List Step) (t : Token) (s : State)
    (before : List Token) → is_operand t ≡ true
    → cond (nat_le (operand_level t) (top_ceiling fs))
    (Some (state (mode.Have (operand_level t)) fs (out ++ (operand t ∷ [])))) None ≡ Some s
    → Behind fs out before [] [] → HoldsIn s (before ++ (t ∷ []))
other_sound fs out t s before k e b =
    let after = state (mode.Have (operand_level t)) fs (out ++ (operand t ∷ [])) in
    let c = chosen (nat_le (operand_level t) (top_ceiling fs)) after s e in
    along after s (before ++ (t ∷ [])) c.1
    (operand_is (tree.operand t) fs (out ++ (operand t ∷ [])) (before ++ (t ∷ [])) k
    (omega (arith, top_atom fs, operand_atom t))
    (fits_below (operand_level t) (top_ceiling fs) c.0)
    (more fs out before [] [] (operand t ∷ []) (t ∷ []) b))

pub operand_sound : (fs : List Frame) (out : List Step) (t : Token) (s : State)
    (before : List Token) → is_operand t ≡ true → specs.operand_read fs out t ≡ Some s
    → Behind fs out before [] [] → HoldsIn s (before ++ (t ∷ []))
operand_sound fs out (name w) s before k e b = name_sound fs out w s before e b
operand_sound fs out t s before k e b = other_sound fs out t s before k e b

pub wanted_sound : (fs : List Frame) (out : List Step) (t : Token) (s : State) (before : List Token)
    (b : Bool) → is_operand t ≡ b
    → cond b (specs.operand_read fs out t) (specs.other_wanted fs out t) ≡ Some s
    → Behind fs out before [] [] → HoldsIn s (before ++ (t ∷ []))
wanted_sound fs out t s before true k e b = operand_sound fs out t s before k e b
wanted_sound fs out t s before false k e b = other_wanted_sound fs out t s before e b

pub digits_sound : (fs : List Frame) (out : List Step) (ds : List ℕ) (s : State)
    (before : List Token) → specs.digits_read fs out ds ≡ Some s
    → Behind fs out before [] (sign sign.Minus ∷ []) → HoldsIn s (before ++ (number ds ∷ []))
digits_sound fs out ds s before e b =
    let after = state (mode.Have literal_level) fs (out ++ (negative ds ∷ [])) in
    let c = chosen (nat_le literal_level (top_ceiling fs)) after s e in
    along after s (before ++ (number ds ∷ [])) c.1
    (operand_is (tree.negative ds) fs (out ++ (negative ds ∷ [])) (before ++ (number ds ∷ [])) tt
    (omega (arith, top_atom fs)) (fits_below literal_level (top_ceiling fs) c.0)
    (more fs out before [] (sign sign.Minus ∷ []) (negative ds ∷ []) (number ds ∷ []) b))

minus_sound : (fs : List Frame) (out : List Step) (t : Token) (s : State) (before : List Token)
    → specs.before_operand (frame.Minus ∷ fs) out t ≡ Some s
    → Behind fs out before [] (sign sign.Minus ∷ []) → HoldsIn s (before ++ (t ∷ []))
minus_sound fs out t s before e b =
    wanted_sound (frame.Minus ∷ fs) out t s before (is_operand t) refl e
    (pushed minusing fs out before b tt (top_sign fs))

pub signed_sound : (fs : List Frame) (out : List Step) (t : Token) (s : State)
    (before : List Token) → specs.signed fs out t ≡ Some s
    → Behind fs out before [] (sign sign.Minus ∷ []) → HoldsIn s (before ++ (t ∷ []))
signed_sound fs out (number ds) s before e b = digits_sound fs out ds s before e b
signed_sound fs out t s before e b = minus_sound fs out t s before e b

pub tested_is : (k : Tested) (n : Bool) (l : ℕ) (fs : List Frame) (out : List Step)
    (before : List Token) → IsTested k → HasOperand l fs out before (is_tokens n) → is_level ≤ l
    → top_hole fs ≤ is_level
    → HasOperand is_level fs (out ++ (called (call.Is (test_of k) n) ∷ []))
    (before ++ (test_token k ∷ [])) []
tested_is k n l fs out before i a le place =
    let last : List Token = test_token k ∷ [] in
    let step : List Step = called (call.Is (test_of k) n) ∷ [] in
    operand_is (tree.tested k n a.tree) fs (out ++ step) (before ++ last)
    (subst (λ (m : ℕ). is_level ≤ m) a.level le, a.fits, i) place (omega (arith, atom_ceiling fs))
    (as_tokens fs (out ++ step) (before ++ last) (postfix a.tree ++ step)
    ((spelling a.tree ++ is_tokens n) ++ last) (spelling a.tree ++ test_tokens k n)
    (append_assoc (spelling a.tree) (is_tokens n) last)
    (more fs out before (postfix a.tree) (spelling a.tree ++ is_tokens n) step last a.behind))

pub tested_sound : (k : Tested) (n : Bool) (l : ℕ) (fs : List Frame) (out : List Step) (s : State)
    (before : List Token) → IsTested k → specs.tested (test_of k) n fs out ≡ Some s
    → HasOperand l fs out before (is_tokens n) → is_level ≤ l → top_hole fs ≤ is_level
    → HoldsIn s (before ++ (test_token k ∷ []))
tested_sound k n l fs out s before i e a le place =
    along (state (mode.Have is_level) fs (out ++ (called (call.Is (test_of k) n) ∷ []))) s
    (before ++ (test_token k ∷ [])) e (tested_is k n l fs out before i a le place)

word_sound : (w : List ℕ) (n : Bool) (l : ℕ) (fs : List Frame) (out : List Step) (s : State)
    (before : List Token) → specs.word_tested n w fs out ≡ Some s
    → HasOperand l fs out before (is_tokens n) → is_level ≤ l → top_hole fs ≤ is_level
    → HoldsIn s (before ++ (name w ∷ []))
word_sound w n l fs out s before e a le place =
    let after = state (mode.Have is_level) fs (out ++ (called (call.Is test.Unknown n) ∷ [])) in
    let c = chosen (same_word w (codes "unknown")) after s e in
    tested_sound (tree.Unknown w) n l fs out s before c.0 c.1 a le place

pub is_not_sound : (n : Bool) (l : ℕ) (fs : List Frame) (out : List Step) (s : State)
    (before : List Token) → specs.is_not n fs out ≡ Some s
    → HasOperand l fs out before (is_tokens n) → is_level ≤ l → top_hole fs ≤ is_level
    → HoldsIn s (before ++ (sign sign.Not ∷ []))
is_not_sound true l fs out s before e a le place = absurd cc
is_not_sound false l fs out s before e a le place =
    along (state (mode.Is true) fs out) s (before ++ (sign sign.Not ∷ [])) e
    (l, operand_more l fs out before (sign sign.Is ∷ []) (sign sign.Not ∷ []) a, le, place)

pub distinct_sound : (n : Bool) (l : ℕ) (fs : List Frame) (out : List Step) (s : State)
    (before : List Token) → specs.distinct n fs out ≡ Some s
    → HasOperand l fs out before (is_tokens n) → is_level ≤ l
    → HoldsIn s (before ++ (sign sign.Distinct ∷ []))
distinct_sound n l fs out s before e a le =
    let c = chosen (nat_le (top_hole fs) distinct_level) (state (mode.Distinct n) fs out) s e in
    along (state (mode.Distinct n) fs out) s (before ++ (sign sign.Distinct ∷ [])) c.1 (
      l,
      operand_more l fs out before (is_tokens n) (sign sign.Distinct ∷ []) a,
      le,
      fits_below (top_hole fs) distinct_level c.0,
    )

pub is_follows : (n : Bool) (l : ℕ) (fs : List Frame) (out : List Step) (t : Token) (s : State)
    (before : List Token) → specs.after_is n fs out t ≡ Some s
    → HasOperand l fs out before (is_tokens n) → is_level ≤ l → top_hole fs ≤ is_level
    → HoldsIn s (before ++ (t ∷ []))
is_follows n l fs out (sign sign.Null) s before e a le place =
    tested_sound tree.Null n l fs out s before tt e a le place
is_follows n l fs out (sign sign.True) s before e a le place =
    tested_sound tree.True n l fs out s before tt e a le place
is_follows n l fs out (sign sign.False) s before e a le place =
    tested_sound tree.False n l fs out s before tt e a le place
is_follows n l fs out (name w) s before e a le place =
    word_sound w n l fs out s before e a le place
is_follows n l fs out (sign sign.Not) s before e a le place =
    is_not_sound n l fs out s before e a le place
is_follows n l fs out (sign sign.Distinct) s before e a le place =
    distinct_sound n l fs out s before e a le
is_follows n l fs out t s before e a le place = absurd cc

distinct_written : (n : Bool) (a : Syntax)
    → (spelling a ++ (is_tokens n ++ (sign sign.Distinct ∷ []))) ++ (sign sign.From ∷ [])
    ≡ spelling a ++ distinct_tokens n
distinct_written n a =
    append_assoc (spelling a) (is_tokens n ++ (sign sign.Distinct ∷ [])) (sign sign.From ∷ [])
    ∙ ap (λ ts. spelling a ++ ts)
    (append_assoc (is_tokens n) (sign sign.Distinct ∷ []) (sign sign.From ∷ []))

pub distinct_follows : (n : Bool) (l : ℕ) (fs : List Frame) (out : List Step) (t : Token)
    (s : State) (before : List Token) → specs.after_distinct n fs out t ≡ Some s
    → HasOperand l fs out before (is_tokens n ++ (sign sign.Distinct ∷ [])) → is_level ≤ l
    → top_hole fs ≤ distinct_level → HoldsIn s (before ++ (t ∷ []))
distinct_follows n l fs out (sign sign.From) s before e a le place =
    let last : List Token = sign sign.From ∷ [] in
    let here = spelling a.tree ++ (is_tokens n ++ (sign sign.Distinct ∷ [])) in
    along (state mode.Want (frame.Distinct n ∷ fs) out) s (before ++ last) e
    (pushed (distinguishing n a.tree) fs out (before ++ last)
    (as_tokens fs out (before ++ last) (postfix a.tree) (here ++ last)
    (spelling a.tree ++ distinct_tokens n) (distinct_written n a.tree)
    (more_tokens fs out before (postfix a.tree) here last a.behind))
    (subst (λ (m : ℕ). is_level ≤ m) a.level le, a.fits) place)
distinct_follows n l fs out t s before e a le place = absurd cc

pub escaped_is : (k : LikeKind) (a p : Syntax) (fs : List Frame) (out : List Step)
    (before : List Token) (c : List ℕ) → concat_level ≤ level a → concat_level ≤ level p → Fits a
    → Fits p
    → top_hole fs ≤ predicate_level
    → Behind fs out before (postfix a ++ postfix p)
    (spelling a ++ (like_sign k ++ (spelling p ++ (sign sign.Escape ∷ []))))
    → HasOperand predicate_level fs (out ++ (escaped k c ∷ [])) (before ++ (text c ∷ [])) []
escaped_is k a p fs out before c ha hp fa fp place b =
    operand_is (tree.matched k a p (Some c)) fs (out ++ (escaped k c ∷ []))
    (before ++ (text c ∷ [])) (ha, hp, fa, fp) place (omega (arith, atom_ceiling fs))
    (as_steps fs (out ++ (escaped k c ∷ [])) (before ++ (text c ∷ []))
    ((postfix a ++ postfix p) ++ (escaped k c ∷ []))
    (postfix a ++ (postfix p ++ (escaped k c ∷ [])))
    (spelling (tree.matched k a p (Some c)))
    (append_assoc (postfix a) (postfix p) (escaped k c ∷ []))
    (as_tokens fs (out ++ (escaped k c ∷ [])) (before ++ (text c ∷ []))
    ((postfix a ++ postfix p) ++ (escaped k c ∷ []))
    ((spelling a ++ (like_sign k ++ (spelling p ++ (sign sign.Escape ∷ [])))) ++ (text c ∷ []))
    (spelling (tree.matched k a p (Some c)))
    (append_assoc (spelling a) (like_sign k ++ (spelling p ++ (sign sign.Escape ∷ [])))
    (text c ∷ [])
    ∙ ap (λ ts. spelling a ++ ts)
    (append_assoc (like_sign k) (spelling p ++ (sign sign.Escape ∷ [])) (text c ∷ []))
    ∙ ap (λ ts. spelling a ++ (like_sign k ++ ts))
    (append_assoc (spelling p) (sign sign.Escape ∷ []) (text c ∷ [])))
    (more fs out before (postfix a ++ postfix p)
    (spelling a ++ (like_sign k ++ (spelling p ++ (sign sign.Escape ∷ [])))) (escaped k c ∷ [])
    (text c ∷ []) b)))

pub escaping_sound : (k : LikeKind) (fs : List Frame) (out : List Step) (t : Token) (s : State)
    (before : List Token) → specs.after_escape k fs out t ≡ Some s
    → Holds (mode.Escaping k) fs out before
    → HoldsIn s (before ++ (t ∷ []))
escaping_sound k fs out (text c) s before e (a, p, ha, hp, fa, fp, place, b) =
    along (state (mode.Have predicate_level) fs (out ++ (escaped k c ∷ []))) s
    (before ++ (text c ∷ [])) e
    (escaped_is k a p fs out before c ha hp fa fp place b)
escaping_sound k fs out t s before e h = absurd cc
