-- What the words of a CASE do to what was read.
use Rattle.std.proofs.Common.{◌≡◌, ℕ, suc, Bool, true, false, List, [], ◌∷◌, ◌++◌, Some, refl, ap}
use Rattle.std.proofs.Common.{sym, subst, append_assoc, lit≤}
use Rattle.vortex_syntax.specs.declared.token.Sign.{Sign}
use Rattle.vortex_syntax.specs.declared.token.Sign.TheVariants as sign
use Rattle.vortex_syntax.specs.declared.frame.CasePart.{CasePart}
use Rattle.vortex_syntax.specs.declared.frame.CasePart.TheVariants as part
use Rattle.vortex_syntax.specs.Frames.{Frame}
use Rattle.vortex_syntax.specs.Frames as frame
use Rattle.vortex_syntax.specs.declared.frame.Mode.TheVariants as mode
use Rattle.vortex_syntax.specs.Tokens.{Token, sign}
use Rattle.vortex_syntax.specs.Syntax as tree
use Rattle.vortex_syntax.specs.Syntax.{Syntax, Branches}
use Rattle.vortex_syntax.specs.Levels.{atom_level}
use Rattle.vortex_syntax.specs.Spelling.{spelling, branches_spelled}
use Rattle.vortex_syntax.specs.Postfix.{Step, chosen, has_operand, branch_count, postfix}
use Rattle.vortex_syntax.specs.Postfix.{branches_postfix}
use Rattle.vortex_syntax.specs.Reading as specs
use Rattle.vortex_syntax.specs.Reading.{State, state}
use Rattle.vortex_syntax.proofs.Tables.{top_atom}
use Rattle.vortex_syntax.proofs.Held.{Held, choosing, asking, answering, defaulting, frame_of}
use Rattle.vortex_syntax.proofs.Held.{written, held}
use Rattle.vortex_syntax.proofs.Before.{Behind, more_tokens, pushed, popped, HasOperand, HoldsIn}
use Rattle.vortex_syntax.proofs.Before.{along}
use Rattle.vortex_syntax.proofs.Grown.{holding_as, sound_as, grown, completed}

-- which frames of a CASE are which
flag_of : (p q : CasePart) (n m : Bool) (k i : ℕ) → frame.Case p n k ≡ frame.Case q m i → n ≡ m
flag_of p q n m k i e = cc

count_of : (p q : CasePart) (n m : Bool) (k i : ℕ) → frame.Case p n k ≡ frame.Case q m i → k ≡ i
count_of p q n m k i e = cc

choosing_is : (n : Bool) (k : ℕ) (h : Held) → frame.Case part.Operand n k ≡ frame_of h
    → h ≡ choosing
choosing_is n k choosing e = refl
choosing_is n k h e = absurd cc

record Asking (h : Held) (n : Bool) (k : ℕ) : Type 0 where
  bs : Branches
  is : h ≡ asking bs
  flag : n ≡ has_operand bs
  count : k ≡ branch_count bs

asking_is : (n : Bool) (k : ℕ) (h : Held) → frame.Case part.When n k ≡ frame_of h → Asking h n k
asking_is n k (asking bs) e = record {
  bs = bs;
  is = refl;
  flag = flag_of part.When part.When n (has_operand bs) k (branch_count bs) e;
  count = count_of part.When part.When n (has_operand bs) k (branch_count bs) e;
}
asking_is n k h e = absurd cc

record Answering (h : Held) (n : Bool) (k : ℕ) : Type 0 where
  bs : Branches
  c : Syntax
  is : h ≡ answering bs c
  flag : n ≡ has_operand bs
  count : k ≡ branch_count bs

answering_is : (n : Bool) (k : ℕ) (h : Held) → frame.Case part.Then n k ≡ frame_of h
    → Answering h n k
answering_is n k (answering bs c) e = record {
  bs = bs;
  c = c;
  is = refl;
  flag = flag_of part.Then part.Then n (has_operand bs) k (branch_count bs) e;
  count = count_of part.Then part.Then n (has_operand bs) k (branch_count bs) e;
}
answering_is n k h e = absurd cc

record Defaulting (h : Held) (n : Bool) (k : ℕ) : Type 0 where
  bs : Branches
  c : Syntax
  v : Syntax
  is : h ≡ defaulting bs c v
  flag : n ≡ has_operand bs
  count : k ≡ suc (branch_count bs)

defaulting_is : (n : Bool) (k : ℕ) (h : Held) → frame.Case part.Else n k ≡ frame_of h
    → Defaulting h n k
defaulting_is n k (defaulting bs c v) e = record {
  bs = bs;
  c = c;
  v = v;
  is = refl;
  flag = flag_of part.Else part.Else n (has_operand bs) k (suc (branch_count bs)) e;
  count = count_of part.Else part.Else n (has_operand bs) k (suc (branch_count bs)) e;
}
defaulting_is n k h e = absurd cc

-- the same frame and the same step, by other words
frame_as : (p : CasePart) (n m : Bool) (k i : ℕ) (fs : List Frame) (out : List Step)
    (before : List Token) → n ≡ m → k ≡ i
    → Behind (frame.Case p m i ∷ fs) out before [] []
    → Behind (frame.Case p n k ∷ fs) out before [] []
frame_as p n m k i fs out before e j b =
    subst (λ v. Behind (frame.Case p v k ∷ fs) out before [] []) (sym e)
    (subst (λ v. Behind (frame.Case p m v ∷ fs) out before [] []) (sym j) b)

step_as : (n m : Bool) (k i : ℕ) (x : Bool) (fs : List Frame) (out : List Step)
    (before : List Token) → n ≡ m → k ≡ i
    → HasOperand atom_level fs (out ++ (chosen m i x ∷ [])) before []
    → HasOperand atom_level fs (out ++ (chosen n k x ∷ [])) before []
step_as n m k i x fs out before e j b =
    subst (λ v. HasOperand atom_level fs (out ++ (chosen v k x ∷ [])) before []) (sym e)
    (subst (λ v. HasOperand atom_level fs (out ++ (chosen m v x ∷ [])) before []) (sym j) b)

-- how tokens and steps are grouped
asked : (a b : List Token)
    → (a ++ (sign sign.When ∷ [])) ++ b ≡ a ++ (sign sign.When ∷ b)
asked a b = append_assoc a (sign sign.When ∷ []) b

answered : (a b c : List Token)
    → (a ++ (sign sign.When ∷ (b ++ (sign sign.Then ∷ [])))) ++ c
    ≡ a ++ (sign sign.When ∷ (b ++ (sign sign.Then ∷ c)))
answered a b c = simp append_assoc

branched : (a b c d : List Token)
    → (a ++ (sign sign.When ∷ (b ++ (sign sign.Then ∷ [])))) ++ (c ++ d)
    ≡ (a ++ (sign sign.When ∷ (b ++ (sign sign.Then ∷ c)))) ++ d
branched a b c d = simp append_assoc

defaulted : (a b c d : List Token)
    → (a ++ (sign sign.When ∷ (b ++ (sign sign.Then ∷ (c ++ (sign sign.Else ∷ [])))))) ++ d
    ≡ a ++ (sign sign.When ∷ (b ++ (sign sign.Then ∷ (c ++ (sign sign.Else ∷ d)))))
defaulted a b c d = simp append_assoc

chosen_steps : (a b c d : List Step) → ((a ++ b) ++ c) ++ d ≡ a ++ (b ++ (c ++ d))
chosen_steps a b c d = simp append_assoc

else_steps : (a b c d e : List Step)
    → (((a ++ b) ++ c) ++ d) ++ e ≡ a ++ (b ++ (c ++ (d ++ e)))
else_steps a b c d e = simp append_assoc

-- the words after an operand
module _ (n : Bool) (k l : ℕ) (fs : List Frame) (out : List Step) (s : State)
    (before : List Token) where
  when_sound : specs.case_waits part.When true 0 fs out ≡ Some s
      → HasOperand l (frame.Case part.Operand n k ∷ fs) out before []
      → HoldsIn s (before ++ (sign sign.When ∷ []))
  when_sound e a =
      let r = popped (frame.Case part.Operand n k) fs out before (postfix a.tree)
      (spelling a.tree ++ []) a.behind in
      along (state mode.Want (frame.Case part.When true 0 ∷ fs) out) s
      (before ++ (sign sign.When ∷ [])) e
      (grown choosing (asking (tree.of_operand a.tree)) a.tree (sign sign.When) fs out before refl refl
      a.fits (top_atom fs)
      (holding_as r.h choosing a.tree fs out before (choosing_is n k r.h r.is) r.behind))

  then_sound : specs.case_waits part.Then n k fs out ≡ Some s
      → HasOperand l (frame.Case part.When n k ∷ fs) out before []
      → HoldsIn s (before ++ (sign sign.Then ∷ []))
  then_sound e a =
      let r = popped (frame.Case part.When n k) fs out before (postfix a.tree)
      (spelling a.tree ++ []) a.behind in
      let i = asking_is n k r.h r.is in
      let then : List Token = sign sign.Then ∷ [] in
      along (state mode.Want (frame.Case part.Then n k ∷ fs) out) s (before ++ then) e
      (frame_as part.Then n (has_operand i.bs) k (branch_count i.bs) fs out (before ++ then) i.flag
      i.count
      (grown (asking i.bs) (answering i.bs a.tree) a.tree (sign sign.Then) fs out before refl
      (asked (branches_spelled i.bs) (spelling a.tree ++ then))
      (sound_as r.h (asking i.bs) i.is r.sound, a.fits) (top_atom fs)
      (holding_as r.h (asking i.bs) a.tree fs out before i.is r.behind)))

  next_sound : specs.case_waits part.When n (suc k) fs out ≡ Some s
      → HasOperand l (frame.Case part.Then n k ∷ fs) out before []
      → HoldsIn s (before ++ (sign sign.When ∷ []))
  next_sound e a =
      let r = popped (frame.Case part.Then n k) fs out before (postfix a.tree)
      (spelling a.tree ++ []) a.behind in
      let i = answering_is n k r.h r.is in
      let when : List Token = sign sign.When ∷ [] in
      let sound = sound_as r.h (answering i.bs i.c) i.is r.sound in
      along (state mode.Want (frame.Case part.When n (suc k) ∷ fs) out) s (before ++ when) e
      (frame_as part.When n (has_operand i.bs) (suc k) (suc (branch_count i.bs)) fs out
      (before ++ when) i.flag (ap suc i.count)
      (grown (answering i.bs i.c) (asking (tree.branch i.bs i.c a.tree)) a.tree (sign sign.When) fs out
      before (append_assoc (branches_postfix i.bs) (postfix i.c) (postfix a.tree))
      (branched (branches_spelled i.bs) (spelling i.c) (spelling a.tree) when)
      (sound.0, sound.1, a.fits) (top_atom fs)
      (holding_as r.h (answering i.bs i.c) a.tree fs out before i.is r.behind)))

  else_sound : specs.case_waits part.Else n (suc k) fs out ≡ Some s
      → HasOperand l (frame.Case part.Then n k ∷ fs) out before []
      → HoldsIn s (before ++ (sign sign.Else ∷ []))
  else_sound e a =
      let r = popped (frame.Case part.Then n k) fs out before (postfix a.tree)
      (spelling a.tree ++ []) a.behind in
      let i = answering_is n k r.h r.is in
      let other : List Token = sign sign.Else ∷ [] in
      let sound = sound_as r.h (answering i.bs i.c) i.is r.sound in
      along (state mode.Want (frame.Case part.Else n (suc k) ∷ fs) out) s (before ++ other) e
      (frame_as part.Else n (has_operand i.bs) (suc k) (suc (branch_count i.bs)) fs out
      (before ++ other) i.flag (ap suc i.count)
      (grown (answering i.bs i.c) (defaulting i.bs i.c a.tree) a.tree (sign sign.Else) fs out before refl
      (answered (branches_spelled i.bs) (spelling i.c) (spelling a.tree ++ other))
      (sound.0, sound.1, a.fits) (top_atom fs)
      (holding_as r.h (answering i.bs i.c) a.tree fs out before i.is r.behind)))

  end_sound : specs.case_ends n (suc k) false fs out ≡ Some s
      → HasOperand l (frame.Case part.Then n k ∷ fs) out before []
      → HoldsIn s (before ++ (sign sign.End ∷ []))
  end_sound e a =
      let r = popped (frame.Case part.Then n k) fs out before (postfix a.tree)
      (spelling a.tree ++ []) a.behind in
      let i = answering_is n k r.h r.is in
      let last : List Token = sign sign.End ∷ [] in
      let x : Step = chosen (has_operand i.bs) (suc (branch_count i.bs)) false in
      let sound = sound_as r.h (answering i.bs i.c) i.is r.sound in
      along (state (mode.Have atom_level) fs (out ++ (chosen n (suc k) false ∷ []))) s
      (before ++ last) e
      (step_as n (has_operand i.bs) (suc k) (suc (branch_count i.bs)) false fs out (before ++ last)
      i.flag (ap suc i.count)
      (completed (answering i.bs i.c) a.tree (tree.chosen i.bs i.c a.tree) x sign.End fs out before
      (chosen_steps (branches_postfix i.bs) (postfix i.c) (postfix a.tree) (x ∷ []))
      (answered (branches_spelled i.bs) (spelling i.c) (spelling a.tree ++ last))
      (sound.0, sound.1, a.fits) (top_atom fs) (lit≤ tt)
      (holding_as r.h (answering i.bs i.c) a.tree fs out before i.is r.behind)))

  else_end_sound : specs.case_ends n k true fs out ≡ Some s
      → HasOperand l (frame.Case part.Else n k ∷ fs) out before []
      → HoldsIn s (before ++ (sign sign.End ∷ []))
  else_end_sound e a =
      let r = popped (frame.Case part.Else n k) fs out before (postfix a.tree)
      (spelling a.tree ++ []) a.behind in
      let i = defaulting_is n k r.h r.is in
      let last : List Token = sign sign.End ∷ [] in
      let x : Step = chosen (has_operand i.bs) (suc (branch_count i.bs)) true in
      let h : Held = defaulting i.bs i.c i.v in
      let sound = sound_as r.h (defaulting i.bs i.c i.v) i.is r.sound in
      along (state (mode.Have atom_level) fs (out ++ (chosen n k true ∷ []))) s (before ++ last) e
      (step_as n (has_operand i.bs) k (suc (branch_count i.bs)) true fs out (before ++ last)
      i.flag i.count
      (completed h a.tree (tree.chosen_else i.bs i.c i.v a.tree) x sign.End fs out before
      (else_steps (branches_postfix i.bs) (postfix i.c) (postfix i.v) (postfix a.tree) (x ∷ []))
      (defaulted (branches_spelled i.bs) (spelling i.c) (spelling i.v) (spelling a.tree ++ last))
      (sound.0, sound.1, sound.2, a.fits) (top_atom fs) (lit≤ tt)
      (holding_as r.h h a.tree fs out before i.is r.behind)))

case_sound : (p : CasePart) (n : Bool) (k l : ℕ) (fs : List Frame) (out : List Step) (u : Sign)
    (s : State) (before : List Token) → specs.case_behind p n k fs out u ≡ Some s
    → HasOperand l (frame.Case p n k ∷ fs) out before [] → HoldsIn s (before ++ (sign u ∷ []))
case_sound part.Operand n k l fs out sign.When s before e a = when_sound n k l fs out s before e a
case_sound part.When n k l fs out sign.Then s before e a = then_sound n k l fs out s before e a
case_sound part.Then n k l fs out sign.When s before e a = next_sound n k l fs out s before e a
case_sound part.Then n k l fs out sign.Else s before e a = else_sound n k l fs out s before e a
case_sound part.Then n k l fs out sign.End s before e a = end_sound n k l fs out s before e a
case_sound part.Else n k l fs out sign.End s before e a = else_end_sound n k l fs out s before e a
case_sound p n k l fs out u s before e a = absurd cc

pub case_word_sound : (u : Sign) (l : ℕ) (fs : List Frame) (out : List Step) (s : State)
    (before : List Token) → specs.case_word fs out u ≡ Some s → HasOperand l fs out before []
    → HoldsIn s (before ++ (sign u ∷ []))
case_word_sound u l (frame.Case p n k ∷ fs) out s before e a =
    case_sound p n k l fs out u s before e a
case_word_sound u l fs out s before e a = absurd cc

-- the words before an operand
pub case_begun : (fs : List Frame) (out : List Step) (s : State) (before : List Token)
    → specs.case_waits part.Operand false 0 fs out ≡ Some s → Behind fs out before [] []
    → HoldsIn s (before ++ (sign sign.Case ∷ []))
case_begun fs out s before e b =
    let first : List Token = sign sign.Case ∷ [] in
    along (state mode.Want (frame.Case part.Operand false 0 ∷ fs) out) s (before ++ first) e
    (pushed choosing fs out (before ++ first) (more_tokens fs out before [] [] first b) tt
    (top_atom fs))

pub when_first : (fs : List Frame) (out : List Step) (s : State) (before : List Token)
    → specs.when_expected fs out ≡ Some s → Behind fs out before [] []
    → HoldsIn s (before ++ (sign sign.When ∷ []))
when_first (frame.Case part.Operand n k ∷ fs) out s before e b =
    let r = popped (frame.Case part.Operand n k) fs out before [] [] b in
    let when : List Token = sign sign.When ∷ [] in
    let here : Behind fs out before [] (sign sign.Case ∷ []) =
    subst (λ (v : Held). Behind fs out before (held v ++ []) (written v ++ []))
    (choosing_is n k r.h r.is) r.behind in
    along (state mode.Want (frame.Case part.When false 0 ∷ fs) out) s (before ++ when) e
    (pushed (asking tree.without_operand) fs out (before ++ when)
    (more_tokens fs out before [] (sign sign.Case ∷ []) when here) tt (top_atom fs))
when_first fs out s before e b = absurd cc
