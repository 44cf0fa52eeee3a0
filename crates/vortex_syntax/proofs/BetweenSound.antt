-- What the words of BETWEEN do to what was read.
use Rattle.std.proofs.Common.{◌≡◌, ℕ, ◌≤◌, Bool, true, false, nat_le, ◌&&◌, cond, List, [], ◌∷◌}
use Rattle.std.proofs.Common.{◌++◌, Some, None, refl, ap, sym, subst, ◌∙◌, append_assoc}
use Rattle.std.proofs.lemmas.List.{append-nil}
use Rattle.vortex_syntax.specs.declared.step.BetweenKind.{BetweenKind}
use Rattle.vortex_syntax.specs.declared.token.Sign.{Sign}
use Rattle.vortex_syntax.specs.Frames.{Frame, top_hole, whole, top_ceiling}
use Rattle.vortex_syntax.specs.Tokens.{Token, sign}
use Rattle.vortex_syntax.specs.Syntax.{Syntax}
use Rattle.vortex_syntax.specs.Levels.{level, Fits}
use Rattle.vortex_syntax.specs.Levels.{predicate_level, concat_level}
use Rattle.vortex_syntax.specs.Spelling.{spelling, with_not}
use Rattle.vortex_syntax.specs.Spelling.{between_tokens}
use Rattle.vortex_syntax.specs.Postfix.{Step, postfix}
use Rattle.vortex_syntax.specs.Reading.{State, state, operand_of, settled, waiting, shifted}
use Rattle.vortex_syntax.specs.Reading.{and_behind, is_behind, not_behind, as_behind}
use Rattle.vortex_syntax.specs.Reading.{escape_behind, predicate, word_after, behind, typed_mode}
use Rattle.vortex_syntax.specs.Reading.{typed_behind}
use Rattle.vortex_syntax.proofs.Held.{Held, lower, upper, frame_of}
use Rattle.vortex_syntax.proofs.Held.{written, held, IsSound}
use Rattle.vortex_syntax.proofs.Before.{Behind, more_tokens, as_tokens, as_steps, pushed, popped}
use Rattle.vortex_syntax.proofs.Before.{lower_is, HasOperand, settled_operand}
use Rattle.vortex_syntax.proofs.Before.{HoldsIn, along, both, chosen, fits_below}
use Rattle.vortex_syntax.specs.declared.token.Sign.TheVariants as sign
use Rattle.vortex_syntax.specs.Frames as frame
use Rattle.vortex_syntax.specs.declared.frame.Mode.TheVariants as mode
use Rattle.vortex_syntax.specs.Reading as specs

-- a frame that takes an operand
pub waits : (p m : ℕ) (f : Frame) (l : ℕ) (fs : List Frame) (out : List Step) (s : State)
    (before : List Token) → waiting p m f (operand_of l fs out) ≡ Some s
    → (m ≤ l → top_hole fs ≤ p → Behind (f ∷ fs) out before [] []) → HoldsIn s before
waits p m f l fs out s before e h =
    let c = chosen (nat_le m l && nat_le (top_hole fs) p) (state mode.Want (f ∷ fs) out) s e in
    let t = both (nat_le m l) (nat_le (top_hole fs) p) c.0 in
    along (state mode.Want (f ∷ fs) out) s before c.1
    (h (fits_below m l t.0) (fits_below (top_hole fs) p t.1))

-- BETWEEN and LIKE, after an operand and the tokens between
pub predicates : (h : Held) (ts : List Token) (l : ℕ) (fs : List Frame) (out : List Step)
    (before us : List Token) (a : HasOperand l fs out before us)
    → held h ≡ postfix a.tree → written h ≡ spelling a.tree ++ (us ++ ts) → IsSound h
    → top_hole fs ≤ whole (frame_of h) → Behind (frame_of h ∷ fs) out (before ++ ts) [] []
predicates h ts l fs out before us a e k s place =
    pushed h fs out (before ++ ts)
    (as_tokens fs out (before ++ ts) (held h) ((spelling a.tree ++ us) ++ ts) (written h)
    (append_assoc (spelling a.tree) us ts ∙ sym k)
    (as_steps fs out (before ++ ts) (postfix a.tree) (held h) ((spelling a.tree ++ us) ++ ts)
    (sym e) (more_tokens fs out before (postfix a.tree) (spelling a.tree ++ us) ts a.behind))) s
    place

abbrev pub not_before : Bool → List Token
not_before n = cond n (sign sign.Not ∷ []) []

pub not_joined : (n : Bool) (u : Sign) → with_not n u ≡ not_before n ++ (sign u ∷ [])
not_joined true u = refl
not_joined false u = refl

plain_joined : (n : Bool)
    → between_tokens (specs.between_kind n false) ≡ not_before n ++ (sign sign.Between ∷ [])
plain_joined true = refl
plain_joined false = refl

pub between_sound : (n : Bool) (l : ℕ) (fs : List Frame) (out : List Step) (s : State)
    (before : List Token) → shifted predicate_level concat_level (frame.Between (specs.between_kind n false)) l fs out ≡ Some s
    → HasOperand l fs out before (not_before n) → HoldsIn s (before ++ (sign sign.Between ∷ []))
between_sound n l fs out s before e a =
    let b = settled predicate_level l fs out in
    let r = settled_operand predicate_level l fs out before (not_before n) a in
    waits predicate_level concat_level (frame.Between (specs.between_kind n false)) b.level b.frames b.steps s
    (before ++ (sign sign.Between ∷ [])) e
    (λ h k. predicates (lower (specs.between_kind n false) r.tree) (sign sign.Between ∷ []) b.level b.frames b.steps before
    (not_before n) r refl (ap (λ ts. spelling r.tree ++ ts) (plain_joined n))
    (subst (λ (m : ℕ). concat_level ≤ m) r.level h, r.fits) k)

pub upper_written : (k : BetweenKind) (a b : Syntax)
    → (written (lower k a) ++ (spelling b ++ [])) ++ (sign sign.And ∷ []) ≡ written (upper k a b)
upper_written k a b =
    ap (λ ts. (written (lower k a) ++ ts) ++ (sign sign.And ∷ [])) (append-nil (spelling b))
    ∙ append_assoc (written (lower k a)) (spelling b) (sign sign.And ∷ [])
    ∙ append_assoc (spelling a) (between_tokens k) (spelling b ++ (sign sign.And ∷ []))

pub bound_held : (k : BetweenKind) (l : ℕ) (fs : List Frame) (out : List Step) (before : List Token)
    (b : Syntax) → Fits b → concat_level ≤ level b → (h : Held) (a : Syntax) → h ≡ lower k a
    → IsSound h → top_hole fs ≤ predicate_level
    → Behind fs out before (held h ++ postfix b) (written h ++ (spelling b ++ []))
    → Behind (frame.Bounded k ∷ fs) out (before ++ (sign sign.And ∷ [])) [] []
bound_held n l fs out before b f k h a e s place r =
    let sound : IsSound (lower n a) = subst (λ (v : Held). IsSound v) e s in
    let behind : Behind fs out before (held (lower n a) ++ postfix b)
    (written (lower n a) ++ (spelling b ++ [])) =
    subst (λ (v : Held). Behind fs out before (held v ++ postfix b)
    (written v ++ (spelling b ++ []))) e r in
    pushed (upper n a b) fs out (before ++ (sign sign.And ∷ []))
    (as_tokens fs out (before ++ (sign sign.And ∷ [])) (postfix a ++ postfix b)
    ((written (lower n a) ++ (spelling b ++ [])) ++ (sign sign.And ∷ []))
    (written (upper n a b)) (upper_written n a b)
    (more_tokens fs out before (postfix a ++ postfix b) (written (lower n a) ++ (spelling b ++ []))
    (sign sign.And ∷ []) behind)) (sound.0, k, sound.1, f) place

pub and_bound : (k : BetweenKind) (l : ℕ) (fs : List Frame) (out : List Step) (s : State)
    (before : List Token) → Some (state mode.Want (frame.Bounded k ∷ fs) out) ≡ Some s
    → HasOperand l (frame.Between k ∷ fs) out before [] → HoldsIn s (before ++ (sign sign.And ∷ []))
and_bound k l fs out s before e a =
    let r = popped (frame.Between k) fs out before (postfix a.tree)
    (spelling a.tree ++ []) a.behind in
    let i = lower_is k r.h r.is in
    along (state mode.Want (frame.Bounded k ∷ fs) out) s (before ++ (sign sign.And ∷ [])) e
    (bound_held k l fs out before a.tree a.fits
    (subst (λ (m : ℕ). concat_level ≤ m) a.level a.place) r.h i.0 i.1 r.sound r.place r.behind)

symmetric_written : (n : Bool) (a : Syntax)
    → (written (lower (specs.between_kind n false) a) ++ []) ++ (sign sign.Symmetric ∷ [])
    ≡ written (lower (specs.between_kind n true) a)
symmetric_written n a = simp (append-nil, append_assoc)

symmetric_held : (n : Bool) (h : Held) (a : Syntax) (fs : List Frame) (out : List Step)
    (before : List Token) → h ≡ lower (specs.between_kind n false) a → IsSound h
    → top_hole fs ≤ predicate_level → Behind fs out before (held h ++ []) (written h ++ [])
    → Behind (frame.Between (specs.between_kind n true) ∷ fs) out
    (before ++ (sign sign.Symmetric ∷ [])) [] []
symmetric_held n h a fs out before e s place r =
    let last : List Token = sign sign.Symmetric ∷ [] in
    let plain : Held = lower (specs.between_kind n false) a in
    let sound : IsSound plain = subst (λ (v : Held). IsSound v) e s in
    let b : Behind fs out before (held plain ++ []) (written plain ++ []) =
    subst (λ (v : Held). Behind fs out before (held v ++ []) (written v ++ [])) e r in
    pushed (lower (specs.between_kind n true) a) fs out (before ++ last)
    (as_steps fs out (before ++ last) (postfix a ++ []) (postfix a)
    (written (lower (specs.between_kind n true) a)) (append-nil (postfix a))
    (as_tokens fs out (before ++ last) (postfix a ++ []) ((written plain ++ []) ++ last)
    (written (lower (specs.between_kind n true) a)) (symmetric_written n a)
    (more_tokens fs out before (postfix a ++ []) (written plain ++ []) last b))) sound place

symmetric_put : (n s : Bool) (fs : List Frame) (out : List Step) (t : State)
    (before : List Token)
    → cond s None
    (Some (state mode.Want (frame.Between (specs.between_kind n true) ∷ fs) out)) ≡ Some t
    → Behind (frame.Between (specs.between_kind n s) ∷ fs) out before [] []
    → HoldsIn t (before ++ (sign sign.Symmetric ∷ []))
symmetric_put n true fs out t before e b = absurd cc
symmetric_put n false fs out t before e b =
    let k = specs.between_kind n false in
    let r = popped (frame.Between k) fs out before [] [] b in
    let i = lower_is k r.h r.is in
    along (state mode.Want (frame.Between (specs.between_kind n true) ∷ fs) out) t
    (before ++ (sign sign.Symmetric ∷ [])) e
    (symmetric_held n r.h i.0 fs out before i.1 r.sound r.place r.behind)

pub symmetric_sound : (fs : List Frame) (out : List Step) (t : State) (before : List Token)
    → specs.symmetric_expected fs out ≡ Some t → Behind fs out before [] []
    → HoldsIn t (before ++ (sign sign.Symmetric ∷ []))
symmetric_sound (frame.Between k ∷ fs) out t before e b =
    symmetric_put k.negated k.symmetric fs out t before e b
symmetric_sound fs out t before e b = absurd cc
