-- The spelling of a CASE is read as its steps.
use Rattle.std.proofs.Common.{◌≡◌, ℕ, suc, ◌≤◌, Bool, true, false, List, [], ◌∷◌, ◌++◌, refl, ap}
use Rattle.std.proofs.Common.{sym, ◌∙◌, append_assoc, arith}
use Rattle.std.proofs.lemmas.List.{append-nil}
use Rattle.vortex_syntax.specs.declared.token.Sign.TheVariants as sign
use Rattle.vortex_syntax.specs.declared.frame.CasePart.TheVariants as part
use Rattle.vortex_syntax.specs.Frames.{Frame}
use Rattle.vortex_syntax.specs.Frames as frame
use Rattle.vortex_syntax.specs.Tokens.{Token, sign}
use Rattle.vortex_syntax.specs.Syntax as tree
use Rattle.vortex_syntax.specs.Syntax.{Syntax, Branches}
use Rattle.vortex_syntax.specs.Levels.{level, atom_level}
use Rattle.vortex_syntax.specs.Spelling.{spelling, branches_spelled}
use Rattle.vortex_syntax.specs.Postfix.{Step, chosen, has_operand, branch_count, postfix}
use Rattle.vortex_syntax.specs.Postfix.{branches_postfix}
use Rattle.vortex_syntax.specs.Reading.{next, run, word_after, settled}
use Rattle.vortex_syntax.proofs.Tables.{reach_at, level_literal}
use Rattle.vortex_syntax.proofs.Closes.{want, have, IsRead}

-- a step for each word
step_case : (fs : List Frame) (out : List Step) (ts : List Token)
    → want fs out (sign sign.Case ∷ ts) ≡ want (frame.Case part.Operand false 0 ∷ fs) out ts
unfolding run next
step_case fs out ts = refl

step_first : (fs : List Frame) (out : List Step) (ts : List Token)
    → want (frame.Case part.Operand false 0 ∷ fs) out (sign sign.When ∷ ts)
    ≡ want (frame.Case part.When false 0 ∷ fs) out ts
unfolding run next
step_first fs out ts = refl

step_operand : (l : ℕ) (fs : List Frame) (out : List Step) (ts : List Token)
    → have l (frame.Case part.Operand false 0 ∷ fs) out (sign sign.When ∷ ts)
    ≡ want (frame.Case part.When true 0 ∷ fs) out ts
unfolding run next word_after settled
step_operand l fs out ts = refl

module _ (n : Bool) (k l : ℕ) (fs : List Frame) (out : List Step) (ts : List Token) where
  step_then : have l (frame.Case part.When n k ∷ fs) out (sign sign.Then ∷ ts)
      ≡ want (frame.Case part.Then n k ∷ fs) out ts
  unfolding run next word_after settled
  step_then = refl

  step_when : have l (frame.Case part.Then n k ∷ fs) out (sign sign.When ∷ ts)
      ≡ want (frame.Case part.When n (suc k) ∷ fs) out ts
  unfolding run next word_after settled
  step_when = refl

  step_else : have l (frame.Case part.Then n k ∷ fs) out (sign sign.Else ∷ ts)
      ≡ want (frame.Case part.Else n (suc k) ∷ fs) out ts
  unfolding run next word_after settled
  step_else = refl

  step_end : have l (frame.Case part.Then n k ∷ fs) out (sign sign.End ∷ ts)
      ≡ have atom_level fs (out ++ (chosen n (suc k) false ∷ [])) ts
  unfolding run next word_after settled
  step_end = refl

  step_else_end : have l (frame.Case part.Else n k ∷ fs) out (sign sign.End ∷ ts)
      ≡ have atom_level fs (out ++ (chosen n k true ∷ [])) ts
  unfolding run next word_after settled
  step_else_end = refl

-- branches, before one more
abbrev pub BranchesRead : Branches → Type 0
BranchesRead bs = (fs : List Frame) (out : List Step) (rest : List Token)
    → want fs out (branches_spelled bs ++ (sign sign.When ∷ rest))
    ≡ want (frame.Case part.When (has_operand bs) (branch_count bs) ∷ fs)
    (out ++ branches_postfix bs) rest

pub read_without_operand : BranchesRead tree.without_operand
read_without_operand = λ fs out rest.
    step_case fs out (sign sign.When ∷ rest) ∙ step_first fs out rest
    ∙ ap (λ xs. want (frame.Case part.When false 0 ∷ fs) xs rest) (sym (append-nil out))

pub read_of_operand : (a : Syntax) → IsRead a → BranchesRead (tree.of_operand a)
read_of_operand a ia = λ fs out rest.
    let when : List Token = sign sign.When ∷ rest in
    step_case fs out (spelling a ++ when)
    ∙ ia (frame.Case part.Operand false 0 ∷ fs) out when (omega arith) (level_literal a)
    (omega arith)
    ∙ step_operand (level a) fs (out ++ postfix a) rest

-- one branch
branch_written : (a b c d : List Token)
    → (a ++ (sign sign.When ∷ (b ++ (sign sign.Then ∷ c)))) ++ d
    ≡ a ++ (sign sign.When ∷ (b ++ (sign sign.Then ∷ (c ++ d))))
branch_written a b c d = simp append_assoc

branch_steps : (a b c d : List Step) → ((a ++ b) ++ c) ++ d ≡ a ++ (b ++ (c ++ d))
branch_steps a b c d = simp append_assoc

one_branch : (bs : Branches) (c v : Syntax) → BranchesRead bs → IsRead c → IsRead v
    → (fs : List Frame) (out : List Step) (rest : List Token)
    → reach_at (frame.Case part.Then (has_operand bs) (branch_count bs) ∷ fs) rest ≤ level v
    → want fs out
    (branches_spelled bs ++ (sign sign.When ∷ (spelling c ++ (sign sign.Then ∷
    (spelling v ++ rest)))))
    ≡ have (level v) (frame.Case part.Then (has_operand bs) (branch_count bs) ∷ fs)
    (((out ++ branches_postfix bs) ++ postfix c) ++ postfix v) rest
one_branch bs c v ibs ic iv fs out rest end =
    let n = has_operand bs in
    let k = branch_count bs in
    let value : List Token = spelling v ++ rest in
    let then : List Token = sign sign.Then ∷ value in
    let before : List Step = out ++ branches_postfix bs in
    ibs fs out (spelling c ++ then)
    ∙ ic (frame.Case part.When n k ∷ fs) before then (omega arith) (level_literal c) (omega arith)
    ∙ step_then n k (level c) fs (before ++ postfix c) value
    ∙ iv (frame.Case part.Then n k ∷ fs) (before ++ postfix c) rest (omega arith) (level_literal v)
    end

pub read_branch : (bs : Branches) (c v : Syntax) → BranchesRead bs → IsRead c → IsRead v
    → BranchesRead (tree.branch bs c v)
read_branch bs c v ibs ic iv = λ fs out rest.
    let n = has_operand bs in
    let k = branch_count bs in
    let when : List Token = sign sign.When ∷ rest in
    ap (want fs out) (branch_written (branches_spelled bs) (spelling c) (spelling v) when)
    ∙ one_branch bs c v ibs ic iv fs out when (omega arith)
    ∙ step_when n k (level v) fs (((out ++ branches_postfix bs) ++ postfix c) ++ postfix v) rest
    ∙ ap (λ xs. want (frame.Case part.When n (suc k) ∷ fs) xs rest)
    (branch_steps out (branches_postfix bs) (postfix c) (postfix v))

-- the last branch, and what follows `else`
chosen_written : (a b c d : List Token)
    → (a ++ (sign sign.When ∷ (b ++ (sign sign.Then ∷ (c ++ (sign sign.End ∷ [])))))) ++ d
    ≡ a ++ (sign sign.When ∷ (b ++ (sign sign.Then ∷ (c ++ (sign sign.End ∷ d)))))
chosen_written a b c d = simp append_assoc

chosen_steps : (a b c d e : List Step)
    → (((a ++ b) ++ c) ++ d) ++ e ≡ a ++ (b ++ (c ++ (d ++ e)))
chosen_steps a b c d e = simp append_assoc

else_written : (a b c d e : List Token)
    → (a ++ (sign sign.When ∷ (b ++ (sign sign.Then ∷ (c
    ++ (sign sign.Else ∷ (d ++ (sign sign.End ∷ [])))))))) ++ e
    ≡ a ++ (sign sign.When ∷ (b ++ (sign sign.Then ∷ (c
    ++ (sign sign.Else ∷ (d ++ (sign sign.End ∷ e)))))))
else_written a b c d e = simp append_assoc

else_steps : (a b c d e f : List Step)
    → ((((a ++ b) ++ c) ++ d) ++ e) ++ f ≡ a ++ (b ++ (c ++ (d ++ (e ++ f))))
else_steps a b c d e f = simp append_assoc

pub read_chosen : (bs : Branches) (c v : Syntax) → BranchesRead bs → IsRead c → IsRead v
    → IsRead (tree.chosen bs c v)
read_chosen bs c v ibs ic iv = λ fs out rest top under end.
    let n = has_operand bs in
    let k = branch_count bs in
    let last : List Token = sign sign.End ∷ rest in
    ap (want fs out)
    (chosen_written (branches_spelled bs) (spelling c) (spelling v) rest)
    ∙ one_branch bs c v ibs ic iv fs out last (omega arith)
    ∙ step_end n k (level v) fs (((out ++ branches_postfix bs) ++ postfix c) ++ postfix v) rest
    ∙ ap (λ xs. have atom_level fs xs rest)
    (chosen_steps out (branches_postfix bs) (postfix c) (postfix v) (chosen n (suc k) false ∷ []))

pub read_chosen_else : (bs : Branches) (c v e : Syntax) → BranchesRead bs → IsRead c → IsRead v
    → IsRead e → IsRead (tree.chosen_else bs c v e)
read_chosen_else bs c v e ibs ic iv ie = λ fs out rest top under end.
    let n = has_operand bs in
    let k = branch_count bs in
    let last : List Token = sign sign.End ∷ rest in
    let other : List Token = spelling e ++ last in
    let before : List Step = ((out ++ branches_postfix bs) ++ postfix c) ++ postfix v in
    ap (want fs out)
    (else_written (branches_spelled bs) (spelling c) (spelling v) (spelling e) rest)
    ∙ one_branch bs c v ibs ic iv fs out (sign sign.Else ∷ other) (omega arith)
    ∙ step_else n k (level v) fs before other
    ∙ ie (frame.Case part.Else n (suc k) ∷ fs) before last (omega arith) (level_literal e)
    (omega arith)
    ∙ step_else_end n (suc k) (level e) fs (before ++ postfix e) rest
    ∙ ap (λ xs. have atom_level fs xs rest)
    (else_steps out (branches_postfix bs) (postfix c) (postfix v) (postfix e)
    (chosen n (suc k) true ∷ []))
