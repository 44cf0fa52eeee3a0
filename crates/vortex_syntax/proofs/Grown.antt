-- A pending frame with one more operand, and a frame's tree.
use Rattle.std.proofs.Common.{◌≡◌, ◌≤◌, List, [], ◌∷◌, ◌++◌, subst, ◌∙◌, append_assoc, arith}
use Rattle.std.proofs.lemmas.List.{append-nil}
use Rattle.vortex_syntax.specs.declared.token.Sign.{Sign}
use Rattle.vortex_syntax.specs.Frames.{Frame, top_hole, whole}
use Rattle.vortex_syntax.specs.Tokens.{Token, sign}
use Rattle.vortex_syntax.specs.Syntax.{Syntax}
use Rattle.vortex_syntax.specs.Levels.{level, Fits, atom_level}
use Rattle.vortex_syntax.specs.Spelling.{spelling}
use Rattle.vortex_syntax.specs.Postfix.{Step, postfix}
use Rattle.vortex_syntax.proofs.Tables.{atom_ceiling}
use Rattle.vortex_syntax.proofs.Held.{Held, frame_of, written, held, IsSound}
use Rattle.vortex_syntax.proofs.Before.{Behind, more, more_tokens, as_tokens, as_steps, pushed}
use Rattle.vortex_syntax.proofs.Before.{HasOperand, operand_is}

-- an operand after a frame's tokens
abbrev pub Holding : Held → Syntax → List Frame → List Step → List Token → Type 0
Holding h a fs out before =
    Behind fs out before (held h ++ postfix a) (written h ++ (spelling a ++ []))

pub holding_as : (h g : Held) (a : Syntax) (fs : List Frame) (out : List Step)
    (before : List Token) → h ≡ g → Holding h a fs out before → Holding g a fs out before
holding_as h g a fs out before e b = subst (λ (v : Held). Holding v a fs out before) e b

pub sound_as : (h g : Held) → h ≡ g → IsSound h → IsSound g
sound_as h g e s = subst (λ (v : Held). IsSound v) e s

closed_by : (a b c : List Token) → (a ++ (b ++ [])) ++ c ≡ a ++ (b ++ c)
closed_by a b c = simp (append_assoc, append-nil)

-- the frame that a token makes of it
pub grown : (h g : Held) (a : Syntax) (u : Token) (fs : List Frame) (out : List Step)
    (before : List Token) → held h ++ postfix a ≡ held g
    → written h ++ (spelling a ++ (u ∷ [])) ≡ written g → IsSound g
    → top_hole fs ≤ whole (frame_of g) → Holding h a fs out before
    → Behind (frame_of g ∷ fs) out (before ++ (u ∷ [])) [] []
grown h g a u fs out before e k s place b =
    let last : List Token = u ∷ [] in
    let xs = held h ++ postfix a in
    let here = written h ++ (spelling a ++ []) in
    pushed g fs out (before ++ last)
    (as_steps fs out (before ++ last) xs (held g) (written g) e
    (as_tokens fs out (before ++ last) xs (here ++ last) (written g)
    (closed_by (written h) (spelling a) last ∙ k) (more_tokens fs out before xs here last b)))
    s place

-- the tree that a sign makes of it
pub completed : (h : Held) (a t : Syntax) (x : Step) (u : Sign) (fs : List Frame)
    (out : List Step) (before : List Token) → (held h ++ postfix a) ++ (x ∷ []) ≡ postfix t
    → written h ++ (spelling a ++ (sign u ∷ [])) ≡ spelling t → Fits t → top_hole fs ≤ level t
    → level t ≤ atom_level → Holding h a fs out before
    → HasOperand (level t) fs (out ++ (x ∷ [])) (before ++ (sign u ∷ [])) []
completed h a t x u fs out before e k f place under b =
    let last : List Token = sign u ∷ [] in
    let step : List Step = x ∷ [] in
    let xs = held h ++ postfix a in
    let here = written h ++ (spelling a ++ []) in
    operand_is t fs (out ++ step) (before ++ last) f place (omega (arith, under, atom_ceiling fs))
    (as_steps fs (out ++ step) (before ++ last) (xs ++ step) (postfix t) (spelling t) e
    (as_tokens fs (out ++ step) (before ++ last) (xs ++ step) (here ++ last) (spelling t)
    (closed_by (written h) (spelling a) last ∙ k) (more fs out before xs here step last b)))
