-- A minus sign before what is no literal.
use Rattle.std.proofs.Common.{◌≡◌, ◌≤◌, true, false, List, [], ◌∷◌, ◌++◌, refl, ap, sym, ◌∙◌}
use Rattle.std.proofs.Common.{append_assoc}
use Rattle.std.proofs.Common.{arith}
use Rattle.vortex_syntax.specs.declared.token.Sign.TheVariants as sign
use Rattle.vortex_syntax.specs.Frames.{Frame}
use Rattle.vortex_syntax.specs.Frames as frame
use Rattle.vortex_syntax.specs.Tokens.{Token, number, sign}
use Rattle.vortex_syntax.specs.Syntax as tree
use Rattle.vortex_syntax.specs.Syntax.{Syntax, Branches}
use Rattle.vortex_syntax.specs.Levels.{sign_level, level, atom_level}
use Rattle.vortex_syntax.specs.Spelling.{branches_spelled, spelling, type_token}
use Rattle.vortex_syntax.specs.Postfix.{Step}
use Rattle.vortex_syntax.specs.declared.frame.Mode.TheVariants as mode
use Rattle.vortex_syntax.specs.Reading.{state, next, run}
use Rattle.vortex_syntax.proofs.Tables.{own_product}
use Rattle.vortex_syntax.proofs.Closes.{want}

branches_signed : (bs : Branches) (fs : List Frame) (out : List Step) (ts : List Token)
    → run (state mode.Signed fs out) (branches_spelled bs ++ ts)
    ≡ want (frame.Minus ∷ fs) out (branches_spelled bs ++ ts)
unfolding run next
branches_signed tree.without_operand fs out ts = refl
branches_signed (tree.of_operand a) fs out ts = refl
branches_signed (tree.branch bs c v) fs out ts =
    let us : List Token = sign sign.When ∷ (spelling c ++ (sign sign.Then ∷ spelling v)) in
    ap (run (state mode.Signed fs out)) (append_assoc (branches_spelled bs) us ts)
    ∙ branches_signed bs fs out (us ++ ts)
    ∙ ap (want (frame.Minus ∷ fs) out) (sym (append_assoc (branches_spelled bs) us ts))

case_signed : (bs : Branches) (us : List Token) (fs : List Frame) (out : List Step)
    (ts : List Token)
    → run (state mode.Signed fs out) ((branches_spelled bs ++ us) ++ ts)
    ≡ want (frame.Minus ∷ fs) out ((branches_spelled bs ++ us) ++ ts)
case_signed bs us fs out ts =
    ap (run (state mode.Signed fs out)) (append_assoc (branches_spelled bs) us ts)
    ∙ branches_signed bs fs out (us ++ ts)
    ∙ ap (want (frame.Minus ∷ fs) out) (sym (append_assoc (branches_spelled bs) us ts))

pub signed_read : (a : Syntax) → sign_level ≤ level a → level a ≤ atom_level → (fs : List Frame)
    (out : List Step) (ts : List Token)
    → run (state mode.Signed fs out) (spelling a ++ ts)
    ≡ want (frame.Minus ∷ fs) out (spelling a ++ ts)
unfolding run next
signed_read (tree.operand (number ds)) h k fs out ts =
    absurd (let j : ⊥ = omega (arith, k) in j)
signed_read (tree.operand t) h k fs out ts = refl
signed_read (tree.negative ds) h k fs out ts = refl
signed_read (tree.minus a) h k fs out ts = refl
signed_read (tree.plus a) h k fs out ts = refl
signed_read (tree.typed a w n) h k fs out ts = absurd (let j : ⊥ = omega (arith, k) in j)
signed_read (tree.titled w bs) h k fs out ts = refl
signed_read (tree.measured w t u) h k fs out ts = refl
signed_read (tree.grouped a) h k fs out ts = refl
signed_read (tree.negated a) h k fs out ts = refl
signed_read (tree.joined o a b) h k fs out ts =
    absurd (let j : ⊥ = omega (arith, h, own_product o) in j)
signed_read (tree.cast true a w n) h k fs out ts = refl
signed_read (tree.cast false a w n) h k fs out ts = refl
signed_read (tree.converted a w n) h k fs out ts =
    let last : List Token = sign sign.Typed ∷ type_token w n ∷ [] in
    ap (run (state mode.Signed fs out)) (append_assoc (spelling a) last ts)
    ∙ signed_read a h k fs out (last ++ ts)
    ∙ ap (want (frame.Minus ∷ fs) out) (sym (append_assoc (spelling a) last ts))
signed_read (tree.nullary true w) h k fs out ts = refl
signed_read (tree.nullary false w) h k fs out ts = refl
signed_read (tree.applied true w args a) h k fs out ts = refl
signed_read (tree.applied false w args a) h k fs out ts = refl
signed_read (tree.extracted true f w a) h k fs out ts = refl
signed_read (tree.extracted false f w a) h k fs out ts = refl
signed_read (tree.parted true f s a) h k fs out ts = refl
signed_read (tree.parted false f s a) h k fs out ts = refl
signed_read (tree.parted_for true f s a w b) h k fs out ts = refl
signed_read (tree.parted_for false f s a w b) h k fs out ts = refl
signed_read (tree.placed true f a b) h k fs out ts = refl
signed_read (tree.placed false f a b) h k fs out ts = refl
signed_read (tree.trimmed true f d a) h k fs out ts = refl
signed_read (tree.trimmed false f d a) h k fs out ts = refl
signed_read (tree.trimmed_by true f o c a) h k fs out ts = refl
signed_read (tree.trimmed_by false f o c a) h k fs out ts = refl
signed_read (tree.chosen bs c v) h k fs out ts =
    case_signed bs
    (sign sign.When ∷ (spelling c ++ (sign sign.Then ∷ (spelling v ++ (sign sign.End ∷ [])))))
    fs out ts
signed_read (tree.chosen_else bs c v e) h k fs out ts =
    case_signed bs
    (sign sign.When ∷ (spelling c ++ (sign sign.Then ∷ (spelling v
    ++ (sign sign.Else ∷ (spelling e ++ (sign sign.End ∷ [])))))))
    fs out ts
signed_read a h k fs out ts = absurd (let j : ⊥ = omega (arith, h) in j)

pub step_minus : (fs : List Frame) (out : List Step) (ts : List Token)
    → want fs out (sign sign.Minus ∷ ts) ≡ run (state mode.Signed fs out) ts
unfolding run next
step_minus fs out ts = refl
