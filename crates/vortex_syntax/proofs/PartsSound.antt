-- What `from`, `for` and `in` in a call do to what was read.
use Rattle.std.proofs.Common.{◌≡◌, ℕ, zero, Bool, List, [], ◌∷◌, ◌++◌, Some, refl, ap, ◌∙◌}
use Rattle.std.proofs.Common.{append_assoc, lit≤, true, false, ◌≤◌, subst, arith, cond, sym}
use Rattle.std.proofs.Common.{Option, None}
use Rattle.std.proofs.lemmas.List.{append-nil}
use Rattle.vortex_syntax.specs.declared.token.Sign.TheVariants as sign
use Rattle.vortex_syntax.specs.Frames.{Frame}
use Rattle.vortex_syntax.specs.Frames as frame
use Rattle.vortex_syntax.specs.declared.frame.Mode.TheVariants as mode
use Rattle.vortex_syntax.specs.Tokens.{Token, name, sign}
use Rattle.vortex_syntax.specs.Syntax as tree
use Rattle.vortex_syntax.specs.Syntax.{Syntax}
use Rattle.vortex_syntax.specs.declared.token.TrimSide.{TrimSide}
use Rattle.vortex_syntax.specs.declared.token.TrimSide.TheVariants as side
use Rattle.vortex_syntax.specs.Levels.{Fits, atom_level, takes_from, is_for, concat_level}
use Rattle.vortex_syntax.specs.Levels.{takes_side}
use Rattle.vortex_syntax.specs.Spelling.{spelling, function_tokens, side_tokens}
use Rattle.vortex_syntax.specs.Postfix.{Step, applied, trimmed, side_of, postfix}
use Rattle.vortex_syntax.specs.Reading.{State, state, from_behind, for_behind, waits_in, place_of}
use Rattle.vortex_syntax.specs.Reading.{by_behind}
use Rattle.vortex_syntax.proofs.Tables.{top_atom, taken_level}
use Rattle.vortex_syntax.proofs.Held.{Held, calling, parting, limiting, placing, IsSound}
use Rattle.vortex_syntax.proofs.Held.{siding, trimming, trimming_by}
use Rattle.vortex_syntax.proofs.Before.{popped, call_is, part_is, HasOperand, HoldsIn, along, chosen}
use Rattle.vortex_syntax.proofs.Before.{Behind, side_is}
use Rattle.vortex_syntax.proofs.Grown.{Holding, holding_as, sound_as, grown, completed}
use Rattle.vortex_syntax.proofs.OperandsSound.{none_are}

in_parts : (a b c d : List Token) → (a ++ (b ++ (sign sign.From ∷ c))) ++ d
    ≡ a ++ (b ++ (sign sign.From ∷ (c ++ d)))
in_parts a b c d = simp append_assoc

in_limits : (w : List ℕ) (a b c d : List Token)
    → (a ++ (b ++ (sign sign.From ∷ (c ++ (name w ∷ []))))) ++ d
    ≡ a ++ (b ++ (sign sign.From ∷ (c ++ (name w ∷ d))))
in_limits w a b c d = simp append_assoc

in_places : (a b c d : List Token) → (a ++ (b ++ (sign sign.In ∷ c))) ++ d
    ≡ a ++ (b ++ (sign sign.In ∷ (c ++ d)))
in_places a b c d = simp append_assoc

part_steps : (a b c : List Step) → (a ++ b) ++ c ≡ a ++ (b ++ c)
part_steps a b c = append_assoc a b c

limit_steps : (a b c d : List Step) → ((a ++ b) ++ c) ++ d ≡ a ++ (b ++ (c ++ d))
limit_steps a b c d = simp append_assoc

-- `from` after the first argument of a call: that of `substring`, or what `trim` trims by
part_begun : (p : Bool) (f : List ℕ) (t : Syntax) (fs : List Frame) (out : List Step)
    (before : List Token) → takes_from f ≡ true → Fits t
    → Holding (calling p f tree.no_arguments) t fs out before
    → Behind (frame.From f ∷ fs) out (before ++ (sign sign.From ∷ [])) [] []
part_begun p f t fs out before is fit b =
    let from : List Token = sign sign.From ∷ [] in
    grown (calling p f tree.no_arguments) (parting p f t) t (sign sign.From) fs out before refl
    (ap (λ ts. ts ++ (spelling t ++ from)) (append-nil (function_tokens p f))) (is, fit)
    (top_atom fs) b

by_begun : (p : Bool) (f : List ℕ) (t : Syntax) (fs : List Frame) (out : List Step)
    (before : List Token) → takes_side f ≡ true → Fits t
    → Holding (calling p f tree.no_arguments) t fs out before
    → Behind (frame.TrimBy side.Both ∷ fs) out (before ++ (sign sign.From ∷ [])) [] []
by_begun p f t fs out before is fit b =
    let from : List Token = sign sign.From ∷ [] in
    grown (calling p f tree.no_arguments) (trimming_by p f None t) t (sign sign.From) fs out before
    refl (ap (λ ts. ts ++ (spelling t ++ from)) (append-nil (function_tokens p f))) (is, fit)
    (top_atom fs) b

from_if : (b : Bool) (p : Bool) (f : List ℕ) (t : Syntax) (fs : List Frame) (out : List Step)
    (s : State) (before : List Token) → takes_from f ≡ b
    → cond b (Some (state mode.Want (frame.From f ∷ fs) out)) (by_behind f fs out) ≡ Some s
    → Fits t → Holding (calling p f tree.no_arguments) t fs out before
    → HoldsIn s (before ++ (sign sign.From ∷ []))
from_if true p f t fs out s before is e fit h =
    along (state mode.Want (frame.From f ∷ fs) out) s (before ++ (sign sign.From ∷ [])) e
    (part_begun p f t fs out before is fit h)
from_if false p f t fs out s before is e fit h =
    let after = state mode.Want (frame.TrimBy side.Both ∷ fs) out in
    let c = chosen (takes_side f) after s e in
    along after s (before ++ (sign sign.From ∷ [])) c.1
    (by_begun p f t fs out before c.0 fit h)

pub from_sound : (l : ℕ) (fs : List Frame) (out : List Step) (s : State) (before : List Token)
    → from_behind fs out ≡ Some s → HasOperand l fs out before []
    → HoldsIn s (before ++ (sign sign.From ∷ []))
from_sound l (frame.Arguments f zero ∷ fs) out s before e a =
    let r = popped (frame.Arguments f 0) fs out before (postfix a.tree) (spelling a.tree ++ [])
    a.behind in
    let i = call_is f 0 r.h r.is in
    let first : Held = calling i.1 f tree.no_arguments in
    let is : r.h ≡ first = i.2 ∙ ap (calling i.1 f) (none_are i.0 i.3) in
    from_if (takes_from f) i.1 f a.tree fs out s before refl e a.fits
    (holding_as r.h first a.tree fs out before is r.behind)
from_sound l (frame.Trim d ∷ fs) out s before e a =
    let r = popped (frame.Trim d) fs out before (postfix a.tree) (spelling a.tree ++ []) a.behind in
    let i = side_is d r.h r.is in
    let first : Held = siding i.0 i.1 d in
    let from : List Token = sign sign.From ∷ [] in
    along (state mode.Want (frame.TrimBy d ∷ fs) out) s (before ++ from) e
    (grown first (trimming_by i.0 i.1 (Some d) a.tree) a.tree (sign sign.From) fs out before refl
    (append_assoc (function_tokens i.0 i.1) (sign (sign.Side d) ∷ []) (spelling a.tree ++ from))
    (sound_as r.h first i.2 r.sound, a.fits) (top_atom fs)
    (holding_as r.h first a.tree fs out before i.2 r.behind))
from_sound l fs out s before e a = absurd cc

pub for_sound : (w : List ℕ) (l : ℕ) (fs : List Frame) (out : List Step) (s : State)
    (before : List Token) → for_behind w fs out ≡ Some s → HasOperand l fs out before []
    → HoldsIn s (before ++ (name w ∷ []))
for_sound w l (frame.From f ∷ fs) out s before e a =
    let r = popped (frame.From f) fs out before (postfix a.tree) (spelling a.tree ++ []) a.behind in
    let i = part_is f r.h r.is in
    let first : Held = parting i.0 f i.1 in
    let after = state mode.Want (frame.For f ∷ fs) out in
    let c = chosen (is_for w) after s e in
    let t = sound_as r.h first i.2 r.sound in
    along after s (before ++ (name w ∷ [])) c.1
    (grown first (limiting i.0 f i.1 a.tree w) a.tree (name w) fs out before refl
    (in_parts (function_tokens i.0 f) (spelling i.1) [] (spelling a.tree ++ (name w ∷ [])))
    (t.0, c.0, t.1, a.fits) (top_atom fs)
    (holding_as r.h first a.tree fs out before i.2 r.behind))
for_sound w l fs out s before e a = absurd cc

pub place_sound : (l : ℕ) (fs : List Frame) (out : List Step) (s : State) (before : List Token)
    → waits_in fs ≡ true → place_of fs out ≡ Some s → HasOperand l fs out before []
    → HoldsIn s (before ++ (sign sign.In ∷ []))
place_sound l (frame.Arguments f zero ∷ fs) out s before is e a =
    let r = popped (frame.Arguments f 0) fs out before (postfix a.tree) (spelling a.tree ++ [])
    a.behind in
    let i = call_is f 0 r.h r.is in
    let first : Held = calling i.1 f tree.no_arguments in
    let same : r.h ≡ first = i.2 ∙ ap (calling i.1 f) (none_are i.0 i.3) in
    let tight : concat_level ≤ l = omega (arith, a.place, taken_level f is) in
    let word : List Token = sign sign.In ∷ [] in
    along (state mode.Want (frame.Place f ∷ fs) out) s (before ++ word) e
    (grown first (placing i.1 f a.tree) a.tree (sign sign.In) fs out before refl
    (ap (λ ts. ts ++ (spelling a.tree ++ word)) (append-nil (function_tokens i.1 f)))
    (is, subst (λ (m : ℕ). concat_level ≤ m) a.level tight, a.fits) (top_atom fs)
    (holding_as r.h first a.tree fs out before same r.behind))
place_sound l fs out s before is e a = absurd cc

pub placed_is : (p : Bool) (f : List ℕ) (s a : Syntax) (fs : List Frame) (out : List Step)
    (before : List Token) → IsSound (placing p f s) → Fits a
    → Holding (placing p f s) a fs out before
    → HasOperand atom_level fs (out ++ (applied f 2 ∷ [])) (before ++ (sign sign.Close ∷ [])) []
placed_is p f s a fs out before t fit b =
    completed (placing p f s) a (tree.placed p f s a) (applied f 2) sign.Close fs out before
    (part_steps (postfix s) (postfix a) (applied f 2 ∷ []))
    (in_places (function_tokens p f) (spelling s) [] (spelling a ++ (sign sign.Close ∷ [])))
    (t.0, t.1, t.2, fit) (top_atom fs) (lit≤ tt) b

pub parted_is : (p : Bool) (f : List ℕ) (s a : Syntax) (fs : List Frame) (out : List Step)
    (before : List Token) → IsSound (parting p f s) → Fits a → Holding (parting p f s) a fs out before
    → HasOperand atom_level fs (out ++ (applied f 2 ∷ [])) (before ++ (sign sign.Close ∷ [])) []
parted_is p f s a fs out before t fit b =
    completed (parting p f s) a (tree.parted p f s a) (applied f 2) sign.Close fs out before
    (part_steps (postfix s) (postfix a) (applied f 2 ∷ []))
    (in_parts (function_tokens p f) (spelling s) [] (spelling a ++ (sign sign.Close ∷ [])))
    (t.0, t.1, fit) (top_atom fs) (lit≤ tt) b

-- trims, with their last bracket
pub trimmed_is : (p : Bool) (f : List ℕ) (d : TrimSide) (a : Syntax) (fs : List Frame)
    (out : List Step) (before : List Token) → IsSound (trimming p f d) → Fits a
    → Holding (trimming p f d) a fs out before
    → HasOperand atom_level fs (out ++ (trimmed d false ∷ [])) (before ++ (sign sign.Close ∷ [])) []
trimmed_is p f d a fs out before t fit b =
    completed (trimming p f d) a (tree.trimmed p f d a) (trimmed d false) sign.Close fs out before
    refl
    (append_assoc (function_tokens p f) (sign (sign.Side d) ∷ sign sign.From ∷ [])
    (spelling a ++ (sign sign.Close ∷ [])))
    (t, fit) (top_atom fs) (lit≤ tt) b

in_trims : (a b c d : List Token) → (a ++ (b ++ (c ++ (sign sign.From ∷ [])))) ++ d
    ≡ a ++ (b ++ (c ++ (sign sign.From ∷ d)))
in_trims a b c d = simp append_assoc

pub trimmed_by_is : (p : Bool) (f : List ℕ) (o : Option TrimSide) (d : TrimSide) (c a : Syntax)
    (fs : List Frame) (out : List Step) (before : List Token) → d ≡ side_of o
    → IsSound (trimming_by p f o c) → Fits a → Holding (trimming_by p f o c) a fs out before
    → HasOperand atom_level fs (out ++ (trimmed d true ∷ [])) (before ++ (sign sign.Close ∷ [])) []
trimmed_by_is p f o d c a fs out before e t fit b =
    subst (λ (v : TrimSide). HasOperand atom_level fs (out ++ (trimmed v true ∷ []))
    (before ++ (sign sign.Close ∷ [])) []) (sym e)
    (completed (trimming_by p f o c) a (tree.trimmed_by p f o c a) (trimmed (side_of o) true)
    sign.Close fs out before (part_steps (postfix c) (postfix a) (trimmed (side_of o) true ∷ []))
    (in_trims (function_tokens p f) (side_tokens o) (spelling c)
    (spelling a ++ (sign sign.Close ∷ [])))
    (t.0, t.1, fit) (top_atom fs) (lit≤ tt) b)

pub limited_is : (p : Bool) (f : List ℕ) (s a : Syntax) (w : List ℕ) (b : Syntax)
    (fs : List Frame) (out : List Step) (before : List Token) → IsSound (limiting p f s a w)
    → Fits b → Holding (limiting p f s a w) b fs out before
    → HasOperand atom_level fs (out ++ (applied f 3 ∷ [])) (before ++ (sign sign.Close ∷ [])) []
limited_is p f s a w b fs out before t fit h =
    completed (limiting p f s a w) b (tree.parted_for p f s a w b) (applied f 3) sign.Close fs out
    before (limit_steps (postfix s) (postfix a) (postfix b) (applied f 3 ∷ []))
    (in_limits w (function_tokens p f) (spelling s) (spelling a)
    (spelling b ++ (sign sign.Close ∷ [])))
    (t.0, t.1, t.2, t.3, fit) (top_atom fs) (lit≤ tt) h
