-- What the tokens of a type or a cast do to what was read.
use Rattle.std.proofs.Common.{◌≡◌, ℕ, ◌≤◌, Bool, true, false, List, [], ◌∷◌}
use Rattle.std.proofs.Common.{sym}
use Rattle.std.proofs.Common.{◌++◌, Some, ap, subst, append_assoc, arith}
use Rattle.vortex_syntax.specs.declared.token.Sign.{Sign}
use Rattle.vortex_syntax.specs.declared.token.Sign.TheVariants as sign
use Rattle.vortex_syntax.specs.Frames.{Frame, top_hole, top_ceiling}
use Rattle.vortex_syntax.specs.Frames as frame
use Rattle.vortex_syntax.specs.declared.frame.Mode.TheVariants as mode
use Rattle.vortex_syntax.specs.Tokens.{Token, name, nullable, sign}
use Rattle.vortex_syntax.specs.Syntax as tree
use Rattle.vortex_syntax.specs.Syntax.{Syntax, Tested, Arguments}
use Rattle.vortex_syntax.specs.Levels.{typed_level, Fits}
use Rattle.vortex_syntax.specs.Levels.{atom_level, literal_level}
use Rattle.vortex_syntax.specs.Spelling.{spelling, type_token}
use Rattle.vortex_syntax.specs.Spelling.{cast_sign}
use Rattle.vortex_syntax.specs.Postfix.{Step, typed, cast}
use Rattle.vortex_syntax.specs.Postfix.{postfix}
use Rattle.vortex_syntax.specs.Reading as specs
use Rattle.vortex_syntax.specs.Reading.{State, state}
use Rattle.vortex_syntax.proofs.Tables.{top_atom, atom_ceiling}
use Rattle.vortex_syntax.proofs.Held.{casting}
use Rattle.vortex_syntax.proofs.Before.{Behind, more, more_tokens, as_tokens, pushed}
use Rattle.vortex_syntax.proofs.Before.{HasOperand, HoldsIn, along}
use Rattle.vortex_syntax.proofs.Before.{operand_is}

pub typed_is : (l : ℕ) (fs : List Frame) (out : List Step) (before : List Token) (w : List ℕ)
    (n : Bool) → HasOperand l fs out before (sign sign.Typed ∷ []) → literal_level ≤ l
    → HasOperand typed_level fs (out ++ (typed w n ∷ [])) (before ++ (type_token w n ∷ [])) []
typed_is l fs out before w n a le =
    operand_is (tree.typed a.tree w n) fs (out ++ (typed w n ∷ []))
    (before ++ (type_token w n ∷ [])) (subst (λ (m : ℕ). literal_level ≤ m) a.level le, a.fits)
    (omega (arith, top_atom fs)) (omega (arith, le, a.under))
    (as_tokens fs (out ++ (typed w n ∷ [])) (before ++ (type_token w n ∷ []))
    (postfix a.tree ++ (typed w n ∷ []))
    ((spelling a.tree ++ (sign sign.Typed ∷ [])) ++ (type_token w n ∷ []))
    (spelling a.tree ++ (sign sign.Typed ∷ type_token w n ∷ []))
    (append_assoc (spelling a.tree) (sign sign.Typed ∷ []) (type_token w n ∷ []))
    (more fs out before (postfix a.tree) (spelling a.tree ++ (sign sign.Typed ∷ []))
    (typed w n ∷ []) (type_token w n ∷ []) a.behind))

pub type_sound : (l : ℕ) (fs : List Frame) (out : List Step) (t : Token) (s : State)
    (before : List Token) → specs.type_expected fs out t ≡ Some s
    → HasOperand l fs out before (sign sign.Typed ∷ []) → literal_level ≤ l
    → HoldsIn s (before ++ (t ∷ []))
type_sound l fs out (name w) s before e a le =
    along (state (mode.Have typed_level) fs (out ++ (typed w false ∷ []))) s
    (before ++ (name w ∷ [])) e
    (typed_is l fs out before w false a le)
type_sound l fs out (nullable w) s before e a le =
    along (state (mode.Have typed_level) fs (out ++ (typed w true ∷ []))) s
    (before ++ (nullable w ∷ [])) e
    (typed_is l fs out before w true a le)
type_sound l fs out t s before e a le = absurd cc

pub converted_is : (l : ℕ) (fs : List Frame) (out : List Step) (before : List Token) (w : List ℕ)
    (n : Bool) → HasOperand l fs out before (sign sign.Typed ∷ []) → atom_level ≤ l
    → l ≤ typed_level
    → HasOperand l fs (out ++ (cast false w n ∷ [])) (before ++ (type_token w n ∷ [])) []
converted_is l fs out before w n a le ge =
    subst (λ (m : ℕ). HasOperand m fs (out ++ (cast false w n ∷ []))
    (before ++ (type_token w n ∷ [])) []) (sym a.level)
    (operand_is (tree.converted a.tree w n) fs (out ++ (cast false w n ∷ []))
    (before ++ (type_token w n ∷ [])) (
      subst (λ (m : ℕ). atom_level ≤ m) a.level le,
      subst (λ (m : ℕ). m ≤ typed_level) a.level ge,
      a.fits,
    )
    (subst (λ (m : ℕ). top_hole fs ≤ m) a.level a.place)
    (subst (λ (m : ℕ). m ≤ top_ceiling fs) a.level a.under)
    (as_tokens fs (out ++ (cast false w n ∷ [])) (before ++ (type_token w n ∷ []))
    (postfix a.tree ++ (cast false w n ∷ []))
    ((spelling a.tree ++ (sign sign.Typed ∷ [])) ++ (type_token w n ∷ []))
    (spelling a.tree ++ (sign sign.Typed ∷ type_token w n ∷ []))
    (append_assoc (spelling a.tree) (sign sign.Typed ∷ []) (type_token w n ∷ []))
    (more fs out before (postfix a.tree) (spelling a.tree ++ (sign sign.Typed ∷ []))
    (cast false w n ∷ []) (type_token w n ∷ []) a.behind)))

pub conversion_sound : (l : ℕ) (fs : List Frame) (out : List Step) (t : Token) (s : State)
    (before : List Token) → specs.conversion_expected l fs out t ≡ Some s
    → HasOperand l fs out before (sign sign.Typed ∷ []) → atom_level ≤ l → l ≤ typed_level
    → HoldsIn s (before ++ (t ∷ []))
conversion_sound l fs out (name w) s before e a le ge =
    along (state (mode.Have l) fs (out ++ (cast false w false ∷ []))) s
    (before ++ (name w ∷ [])) e
    (converted_is l fs out before w false a le ge)
conversion_sound l fs out (nullable w) s before e a le ge =
    along (state (mode.Have l) fs (out ++ (cast false w true ∷ []))) s
    (before ++ (nullable w ∷ [])) e
    (converted_is l fs out before w true a le ge)
conversion_sound l fs out t s before e a le ge = absurd cc

pub cast_sign_sound : (p : Bool) (fs : List Frame) (out : List Step) (u : Sign) (s : State)
    (before : List Token) → specs.after_cast p fs out (sign u) ≡ Some s
    → Behind fs out before [] (sign (cast_sign p) ∷ [])
    → HoldsIn s (before ++ (sign u ∷ []))
cast_sign_sound p fs out sign.Open s before e b =
    along (state mode.Want (frame.Cast p ∷ fs) out) s (before ++ (sign sign.Open ∷ [])) e
    (pushed (casting p) fs out (before ++ (sign sign.Open ∷ []))
    (more_tokens fs out before [] (sign (cast_sign p) ∷ []) (sign sign.Open ∷ []) b) tt
    (top_atom fs))
cast_sign_sound p fs out u s before e b = absurd cc

pub cast_follows : (p : Bool) (fs : List Frame) (out : List Step) (t : Token) (s : State) (before : List Token)
    → specs.after_cast p fs out t ≡ Some s → Behind fs out before [] (sign (cast_sign p) ∷ [])
    → HoldsIn s (before ++ (t ∷ []))
cast_follows p fs out (sign u) s before e b = cast_sign_sound p fs out u s before e b
cast_follows p fs out t s before e b = absurd cc

pub cast_typed : (p : Bool) (a : Syntax) (fs : List Frame) (out : List Step) (before : List Token) (w : List ℕ)
    (n : Bool)
    → Behind fs out before (postfix a)
    (sign (cast_sign p) ∷ sign sign.Open ∷ (spelling a ++ (sign sign.As ∷ [])))
    → Behind fs (out ++ (cast p w n ∷ [])) (before ++ (type_token w n ∷ []))
    (postfix a ++ (cast p w n ∷ []))
    (sign (cast_sign p) ∷ sign sign.Open ∷ (spelling a ++ (sign sign.As ∷ type_token w n ∷ [])))
cast_typed p a fs out before w n b =
    as_tokens fs (out ++ (cast p w n ∷ [])) (before ++ (type_token w n ∷ []))
    (postfix a ++ (cast p w n ∷ []))
    (sign (cast_sign p) ∷ sign
    sign.Open ∷ ((spelling a ++ (sign sign.As ∷ [])) ++ (type_token w n ∷ [])))
    (sign (cast_sign p) ∷ sign sign.Open ∷ (spelling a ++ (sign sign.As ∷ type_token w n ∷ [])))
    (ap (λ ts. sign (cast_sign p) ∷ sign sign.Open ∷ ts)
    (append_assoc (spelling a) (sign sign.As ∷ []) (type_token w n ∷ [])))
    (more fs out before (postfix a)
    (sign (cast_sign p) ∷ sign sign.Open ∷ (spelling a ++ (sign sign.As ∷ []))) (cast p w n ∷ [])
    (type_token w n ∷ []) b)

pub cast_type_sound : (p : Bool) (a : Syntax) (fs : List Frame) (out : List Step) (t : Token) (s : State)
    (before : List Token) → specs.cast_expected p fs out t ≡ Some s → Fits a
    → Behind fs out before (postfix a)
    (sign (cast_sign p) ∷ sign sign.Open ∷ (spelling a ++ (sign sign.As ∷ [])))
    → HoldsIn s (before ++ (t ∷ []))
cast_type_sound p a fs out (name w) s before e f b =
    along (state mode.CastEnd fs (out ++ (cast p w false ∷ []))) s (before ++ (name w ∷ [])) e
    (a, w, false, p, f, cast_typed p a fs out before w false b)
cast_type_sound p a fs out (nullable w) s before e f b =
    along (state mode.CastEnd fs (out ++ (cast p w true ∷ []))) s (before ++ (nullable w ∷ [])) e
    (a, w, true, p, f, cast_typed p a fs out before w true b)
cast_type_sound p a fs out t s before e f b = absurd cc

pub cast_is_whole : (p : Bool) (a : Syntax) (w : List ℕ) (n : Bool) (fs : List Frame) (out : List Step)
    (before : List Token) → Fits a
    → Behind fs out before (postfix a ++ (cast p w n ∷ []))
    (sign (cast_sign p) ∷ sign sign.Open ∷ (spelling a ++ (sign sign.As ∷ type_token w n ∷ [])))
    → HasOperand atom_level fs out (before ++ (sign sign.Close ∷ [])) []
cast_is_whole p a w n fs out before f b =
    operand_is (tree.cast p a w n) fs out (before ++ (sign sign.Close ∷ [])) f (top_atom fs)
    (atom_ceiling fs)
    (as_tokens fs out (before ++ (sign sign.Close ∷ [])) (postfix a ++ (cast p w n ∷ []))
    (sign (cast_sign p) ∷ sign
    sign.Open ∷ ((spelling a ++ (sign sign.As ∷ type_token w n ∷ [])) ++
    (sign sign.Close ∷ []))) (spelling (tree.cast p a w n))
    (ap (λ ts. sign (cast_sign p) ∷ sign sign.Open ∷ ts)
    (append_assoc (spelling a) (sign sign.As ∷ type_token w n ∷ []) (sign sign.Close ∷ [])))
    (more_tokens fs out before (postfix a ++ (cast p w n ∷ []))
    (sign (cast_sign p) ∷ sign sign.Open ∷ (spelling a ++ (sign sign.As ∷ type_token w n ∷ [])))
    (sign sign.Close ∷ []) b))

pub cast_end_sign : (p : Bool) (a : Syntax) (w : List ℕ) (n : Bool) (fs : List Frame) (out : List Step)
    (u : Sign) (s : State) (before : List Token) → specs.after_cast_type fs out (sign u) ≡ Some s
    → Fits a
    → Behind fs out before (postfix a ++ (cast p w n ∷ []))
    (sign (cast_sign p) ∷ sign sign.Open ∷ (spelling a ++ (sign sign.As ∷ type_token w n ∷ [])))
    → HoldsIn s (before ++ (sign u ∷ []))
cast_end_sign p a w n fs out sign.Close s before e f b =
    along (state (mode.Have atom_level) fs out) s (before ++ (sign sign.Close ∷ [])) e
    (cast_is_whole p a w n fs out before f b)
cast_end_sign p a w n fs out u s before e f b = absurd cc

pub cast_end_sound : (p : Bool) (a : Syntax) (v : List ℕ) (n : Bool) (fs : List Frame) (out : List Step)
    (t : Token) (s : State) (before : List Token) → specs.after_cast_type fs out t ≡ Some s
    → Fits a
    → Behind fs out before (postfix a ++ (cast p v n ∷ []))
    (sign (cast_sign p) ∷ sign sign.Open ∷ (spelling a ++ (sign sign.As ∷ type_token v n ∷ [])))
    → HoldsIn s (before ++ (t ∷ []))
cast_end_sound p a v n fs out (sign u) s before e f b = cast_end_sign p a v n fs out u s before e f b
cast_end_sound p a v n fs out t s before e f b = absurd cc
