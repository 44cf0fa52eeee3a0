-- What each token of a tree's spelling leads to.
use Rattle.std.proofs.Common.{◌≡◌, ℕ, suc, ◌≤◌, Bool, true, false, List, [], ◌∷◌, ◌++◌, Some, None, refl}
use Rattle.std.proofs.Common.{ap, ◌∙◌, append_assoc, arith, ◌&&◌}
use Rattle.std.proofs.lemmas.Bool.{and_from}
use Rattle.vortex_syntax.specs.declared.step.WrittenOperator.{WrittenOperator}
use Rattle.vortex_syntax.specs.declared.step.WrittenOperator.TheVariants as operator
use Rattle.vortex_syntax.specs.declared.step.Test.TheVariants as test
use Rattle.vortex_syntax.specs.declared.step.BetweenKind.{BetweenKind}
use Rattle.vortex_syntax.specs.declared.step.LikeKind.{LikeKind}
use Rattle.vortex_syntax.specs.declared.step.Call.TheVariants as call
use Rattle.vortex_syntax.specs.declared.token.Sign.TheVariants as sign
use Rattle.vortex_syntax.specs.Frames.{Frame, hole, top_hole, top_ceiling}
use Rattle.vortex_syntax.specs.Frames as frame
use Rattle.vortex_syntax.specs.declared.frame.Mode.TheVariants as mode
use Rattle.vortex_syntax.specs.Tokens.{Token, name, function, number, text, sign}
use Rattle.vortex_syntax.specs.Syntax as tree
use Rattle.vortex_syntax.specs.Syntax.{Tested}
use Rattle.vortex_syntax.specs.Levels.{typed_level, own, left, is_operand, operand_level, and_level}
use Rattle.vortex_syntax.specs.Levels.{bit_not_level, IsTested, takes_word, takes_from, takes_in}
use Rattle.vortex_syntax.specs.Levels.{is_for, takes_side, is_interval, is_unit, are_digits}
use Rattle.vortex_syntax.specs.Levels.{is_count}
use Rattle.vortex_syntax.specs.declared.token.TrimSide.{TrimSide}
use Rattle.vortex_syntax.specs.declared.token.TrimSide.TheVariants as side
use Rattle.vortex_syntax.specs.Levels.{not_level, distinct_level, is_level, predicate_level}
use Rattle.vortex_syntax.specs.Levels.{concat_level, atom_level, literal_level}
use Rattle.vortex_syntax.specs.Spelling.{operator_sign, type_token, with_not, is_tokens, test_token}
use Rattle.vortex_syntax.specs.Spelling.{null_test_sign, function_tokens, between_tokens, cast_sign}
use Rattle.vortex_syntax.specs.Spelling.{test_tokens, distinct_tokens, in_tokens, like_sign}
use Rattle.vortex_syntax.specs.Postfix.{Step, operand, negative, typed, cast, escaped, applied}
use Rattle.vortex_syntax.specs.Postfix.{listed, trimmed, called, test_of, last_name}
use Rattle.vortex_syntax.specs.Reading as specs
use Rattle.vortex_syntax.specs.Reading.{state, settled, shifted, joining, and_behind, predicate}
use Rattle.std.proofs.Common.{cond}
use Rattle.vortex_syntax.specs.Reading.{between_kind}
use Rattle.vortex_syntax.specs.Reading.{word_after, next, finish, run, call_of, literal_of}
use Rattle.vortex_syntax.specs.Reading.{mode_behind, word_of, counted, titled, number_of}
use Rattle.vortex_syntax.proofs.Tables.{reach_at, at_most, over, atom_ceiling, no_word, not_placing}
use Rattle.vortex_syntax.proofs.LastName.{name_last}
use Rattle.vortex_syntax.proofs.Closes.{settled_none, shifts, ran, want, have}

and_joins : (l : ℕ) (fs : List Frame) (out : List Step) → and_level ≤ l → top_hole fs ≤ and_level
    → and_behind l fs out ≡ Some (state mode.Want (frame.Join operator.And ∷ fs) out)
and_joins l [] out h k = rw (at_most and_level l h) refl
and_joins l (frame.Between n ∷ fs) out h k = absurd (let j : ⊥ = omega (arith, k) in j)
and_joins l (frame.Open ∷ fs) out h k = rw (at_most and_level l h) refl
and_joins l (frame.Cast p ∷ fs) out h k = rw (at_most and_level l h) refl
and_joins l (frame.Not ∷ fs) out h k = absurd (let j : ⊥ = omega (arith, k) in j)
and_joins l (frame.Minus ∷ fs) out h k = absurd (let j : ⊥ = omega (arith, k) in j)
and_joins l (frame.Plus ∷ fs) out h k = absurd (let j : ⊥ = omega (arith, k) in j)
and_joins l (frame.BitNot ∷ fs) out h k = absurd (let j : ⊥ = omega (arith, k) in j)
and_joins l (frame.Join o ∷ fs) out h k =
    rw (at_most and_level l h, at_most (hole (frame.Join o)) and_level k) refl
and_joins l (frame.Distinct n ∷ fs) out h k = absurd (let j : ⊥ = omega (arith, k) in j)
and_joins l (frame.Bounded n ∷ fs) out h k = absurd (let j : ⊥ = omega (arith, k) in j)
and_joins l (frame.Like n ∷ fs) out h k = absurd (let j : ⊥ = omega (arith, k) in j)
and_joins l (frame.Arguments w n ∷ fs) out h k =
    rw (at_most and_level l h, at_most (hole (frame.Arguments w n)) and_level k) refl
and_joins l (frame.Extract w ∷ fs) out h k = rw (at_most and_level l h) refl
and_joins l (frame.From w ∷ fs) out h k = rw (at_most and_level l h) refl
and_joins l (frame.For w ∷ fs) out h k = rw (at_most and_level l h) refl
and_joins l (frame.Place w ∷ fs) out h k = rw (at_most and_level l h) refl
and_joins l (frame.Trim d ∷ fs) out h k = rw (at_most and_level l h) refl
and_joins l (frame.TrimFrom d ∷ fs) out h k = rw (at_most and_level l h) refl
and_joins l (frame.TrimBy d ∷ fs) out h k = rw (at_most and_level l h) refl
and_joins l (frame.Items m n ∷ fs) out h k = rw (at_most and_level l h) refl
and_joins l (frame.Case p m n ∷ fs) out h k = rw (at_most and_level l h) refl

join_read : (o : WrittenOperator) (l : ℕ) (fs : List Frame) (out : List Step) (ts : List Token)
    → left o ≤ l → top_hole fs ≤ own o
    → ran ts (joining o l fs out) ≡ want (frame.Join o ∷ fs) out ts
join_read o l fs out ts h k = ap (ran ts) (shifts (own o) (left o) (frame.Join o) l fs out h k)

pub step_join : (o : WrittenOperator) (l : ℕ) (fs : List Frame) (out : List Step)
    (ts : List Token) → left o ≤ l → top_hole fs ≤ own o
    → have l fs out (sign (operator_sign o) ∷ ts) ≡ want (frame.Join o ∷ fs) out ts
unfolding run next word_after
step_join operator.And l fs out ts h k =
    ap (λ a. ran ts (and_behind a.level a.frames a.steps)) (settled_none and_level l fs out k)
    ∙ ap (ran ts) (and_joins l fs out h k)
step_join o l fs out ts h k = join_read o l fs out ts h k

pub step_negating : (l : ℕ) (fs : List Frame) (out : List Step) (ts : List Token) → concat_level ≤ l
    → top_hole fs ≤ predicate_level
    → have l fs out (sign sign.Not ∷ ts) ≡ run (state (mode.Negating l) fs out) ts
unfolding run next word_after
step_negating l fs out ts h k =
    ap (λ a. ran ts (specs.not_behind a.level a.frames a.steps))
    (settled_none predicate_level l fs out k)
    ∙ rw (at_most concat_level l h, at_most (top_hole fs) predicate_level k) refl

predicate_read : (f : Frame) (l : ℕ) (fs : List Frame) (out : List Step) (ts : List Token)
    → concat_level ≤ l → top_hole fs ≤ predicate_level
    → ran ts (shifted predicate_level concat_level f l fs out) ≡ want (f ∷ fs) out ts
predicate_read f l fs out ts h k =
    ap (ran ts) (shifts predicate_level concat_level f l fs out h k)

-- `between` without `symmetric`
plain_between : (n : Bool) (l : ℕ) (fs : List Frame) (out : List Step) (ts : List Token)
    → concat_level ≤ l → top_hole fs ≤ predicate_level
    → have l fs out (with_not n sign.Between ++ ts)
    ≡ want (frame.Between (between_kind n false) ∷ fs) out ts
unfolding run next word_after predicate
plain_between true l fs out ts h k = step_negating l fs out (sign sign.Between ∷ ts) h k
    ∙ predicate_read (frame.Between (between_kind true false)) l fs out ts h k
plain_between false l fs out ts h k =
    predicate_read (frame.Between (between_kind false false)) l fs out ts h k

symmetric_read : (n s : Bool) (fs : List Frame) (out : List Step) (ts : List Token)
    → want (frame.Between (between_kind n false) ∷ fs) out
    (cond s (sign sign.Symmetric ∷ []) [] ++ ts)
    ≡ want (frame.Between (between_kind n s) ∷ fs) out ts
unfolding run next
symmetric_read n true fs out ts = refl
symmetric_read n false fs out ts = refl

pub step_between : (k : BetweenKind) (l : ℕ) (fs : List Frame) (out : List Step)
    (ts : List Token) → concat_level ≤ l → top_hole fs ≤ predicate_level
    → have l fs out (between_tokens k ++ ts) ≡ want (frame.Between k ∷ fs) out ts
step_between k l fs out ts h j =
    let last : List Token = cond k.symmetric (sign sign.Symmetric ∷ []) [] in
    ap (have l fs out) (append_assoc (with_not k.negated sign.Between) last ts)
    ∙ plain_between k.negated l fs out (last ++ ts) h j
    ∙ symmetric_read k.negated k.symmetric fs out ts

pub step_like : (n i : Bool) (l : ℕ) (fs : List Frame) (out : List Step) (ts : List Token)
    → concat_level ≤ l → top_hole fs ≤ predicate_level
    → have l fs out (like_sign (specs.like_kind n i) ++ ts)
    ≡ want (frame.Like (specs.like_kind n i) ∷ fs) out ts
unfolding run next word_after predicate
step_like true true l fs out ts h k = step_negating l fs out (sign sign.Ilike ∷ ts) h k
    ∙ predicate_read (frame.Like (specs.like_kind true true)) l fs out ts h k
step_like true false l fs out ts h k = step_negating l fs out (sign sign.Like ∷ ts) h k
    ∙ predicate_read (frame.Like (specs.like_kind true false)) l fs out ts h k
step_like false true l fs out ts h k =
    predicate_read (frame.Like (specs.like_kind false true)) l fs out ts h k
step_like false false l fs out ts h k =
    predicate_read (frame.Like (specs.like_kind false false)) l fs out ts h k

pub step_in : (n : Bool) (l : ℕ) (fs : List Frame) (out : List Step) (ts : List Token)
    → concat_level ≤ l → top_hole fs ≤ predicate_level
    → have l fs out (in_tokens n ++ ts) ≡ want (frame.Items n 0 ∷ fs) out ts
unfolding run next word_after predicate
step_in true l fs out ts h k =
    let last : List Token = sign sign.Open ∷ ts in
    step_negating l fs out (sign sign.In ∷ last) h k
    ∙ ap (λ a. ran last (specs.in_behind true a.level a.frames a.steps))
    (settled_none predicate_level l fs out k)
    ∙ rw (at_most concat_level l h, at_most (top_hole fs) predicate_level k) refl
step_in false l fs out ts h k =
    let last : List Token = sign sign.Open ∷ ts in
    ap (λ a. ran last (specs.place_behind a.level a.frames a.steps))
    (settled_none predicate_level l fs out k)
    ∙ ap (λ b. ran last (cond b (specs.place_of fs out) (specs.in_behind false l fs out)))
    (not_placing fs k)
    ∙ rw (at_most concat_level l h, at_most (top_hole fs) predicate_level k) refl

pub step_bound : (k : BetweenKind) (l : ℕ) (fs : List Frame) (out : List Step) (ts : List Token)
    → have l (frame.Between k ∷ fs) out (sign sign.And ∷ ts) ≡ want (frame.Bounded k ∷ fs) out ts
unfolding run next word_after settled
step_bound k l fs out ts = refl

is_read : (n : Bool) (l : ℕ) (fs : List Frame) (out : List Step) (ts : List Token) → is_level ≤ l
    → top_hole fs ≤ is_level → have l fs out (is_tokens n ++ ts) ≡ run (state (mode.Is n) fs out) ts
unfolding run next word_after
is_read true l fs out ts h k =
    ap (λ a. ran (sign sign.Not ∷ ts) (specs.is_behind a.level a.frames a.steps))
    (settled_none is_level l fs out k)
    ∙ rw (at_most is_level l h, at_most (top_hole fs) is_level k) refl
is_read false l fs out ts h k =
    ap (λ a. ran ts (specs.is_behind a.level a.frames a.steps)) (settled_none is_level l fs out k)
    ∙ rw (at_most is_level l h, at_most (top_hole fs) is_level k) refl

test_read : (k : Tested) (n : Bool) (fs : List Frame) (out : List Step) (ts : List Token)
    → IsTested k
    → run (state (mode.Is n) fs out) (test_token k ∷ ts)
    ≡ have is_level fs (out ++ (called (call.Is (test_of k) n) ∷ [])) ts
unfolding run next
test_read tree.Null n fs out ts h = refl
test_read tree.True n fs out ts h = refl
test_read tree.False n fs out ts h = refl
test_read (tree.Unknown w) n fs out ts h = rw h refl

pub step_test : (k : Tested) (n : Bool) (l : ℕ) (fs : List Frame) (out : List Step)
    (ts : List Token) → IsTested k → is_level ≤ l → top_hole fs ≤ is_level
    → have l fs out (test_tokens k n ++ ts)
    ≡ have is_level fs (out ++ (called (call.Is (test_of k) n) ∷ [])) ts
step_test k n l fs out ts i h j =
    ap (have l fs out) (append_assoc (is_tokens n) (test_token k ∷ []) ts)
    ∙ is_read n l fs out (test_token k ∷ ts) h j ∙ test_read k n fs out ts i

pub step_null_test : (n : Bool) (l : ℕ) (fs : List Frame) (out : List Step) (ts : List Token)
    → is_level ≤ l → top_hole fs ≤ is_level
    → have l fs out (sign (null_test_sign n) ∷ ts)
    ≡ have is_level fs (out ++ (called (call.Is test.Null n) ∷ [])) ts
unfolding run next word_after
step_null_test true l fs out ts h k =
    ap (λ a. ran ts (specs.null_test_behind true a.level a.frames a.steps))
    (settled_none is_level l fs out k)
    ∙ rw (at_most is_level l h, at_most (top_hole fs) is_level k) refl
step_null_test false l fs out ts h k =
    ap (λ a. ran ts (specs.null_test_behind false a.level a.frames a.steps))
    (settled_none is_level l fs out k)
    ∙ rw (at_most is_level l h, at_most (top_hole fs) is_level k) refl

distinct_read : (n : Bool) (fs : List Frame) (out : List Step) (ts : List Token)
    → top_hole fs ≤ distinct_level
    → run (state (mode.Is n) fs out) (sign sign.Distinct ∷ sign sign.From ∷ ts)
    ≡ want (frame.Distinct n ∷ fs) out ts
unfolding run next
distinct_read n fs out ts h = rw (at_most (top_hole fs) distinct_level h) refl

pub step_distinct : (n : Bool) (l : ℕ) (fs : List Frame) (out : List Step) (ts : List Token)
    → is_level ≤ l → top_hole fs ≤ distinct_level
    → have l fs out (distinct_tokens n ++ ts) ≡ want (frame.Distinct n ∷ fs) out ts
step_distinct n l fs out ts h j =
    ap (have l fs out) (append_assoc (is_tokens n) (sign sign.Distinct ∷ sign sign.From ∷ []) ts)
    ∙ is_read n l fs out (sign sign.Distinct ∷ sign sign.From ∷ ts) h (omega (arith, j))
    ∙ distinct_read n fs out ts j

pub step_close : (l : ℕ) (fs : List Frame) (out : List Step) (ts : List Token)
    → have l (frame.Open ∷ fs) out (sign sign.Close ∷ ts) ≡ have atom_level fs out ts
unfolding run next word_after settled
step_close l fs out ts = refl

pub step_typed : (l : ℕ) (fs : List Frame) (out : List Step) (w : List ℕ) (n : Bool)
    (ts : List Token)
    → literal_level ≤ l
    → have l fs out (sign sign.Typed ∷ type_token w n ∷ ts)
    ≡ have typed_level fs (out ++ (typed w n ∷ [])) ts
unfolding run next word_after
step_typed l fs out w true ts h = rw (at_most literal_level l h) refl
step_typed l fs out w false ts h = rw (at_most literal_level l h) refl

pub step_converted : (l : ℕ) (fs : List Frame) (out : List Step) (w : List ℕ) (n : Bool)
    (ts : List Token)
    → atom_level ≤ l → l ≤ typed_level
    → have l fs out (sign sign.Typed ∷ type_token w n ∷ ts)
    ≡ have l fs (out ++ (cast false w n ∷ [])) ts
unfolding run next word_after
step_converted l fs out w true ts h k =
    rw (over literal_level l (omega (arith, k)), at_most atom_level l h) refl
step_converted l fs out w false ts h k =
    rw (over literal_level l (omega (arith, k)), at_most atom_level l h) refl

pub step_cast : (p : Bool) (l : ℕ) (fs : List Frame) (out : List Step) (w : List ℕ) (n : Bool)
    (ts : List Token)
    → have l (frame.Cast p ∷ fs) out (sign sign.As ∷ type_token w n ∷ sign sign.Close ∷ ts)
    ≡ have atom_level fs (out ++ (cast p w n ∷ [])) ts
unfolding run next word_after settled
step_cast p l fs out w true ts = refl
step_cast p l fs out w false ts = refl

pub step_escape : (k : LikeKind) (e : List ℕ) (l : ℕ) (fs : List Frame) (out : List Step)
    (ts : List Token)
    → have l (frame.Like k ∷ fs) out (sign sign.Escape ∷ text e ∷ ts)
    ≡ have predicate_level fs (out ++ (escaped k e ∷ [])) ts
unfolding run next word_after settled
step_escape k e l fs out ts = refl

-- after a bare name all but a bracket, a text, a number and, where a word may come, `from` does
-- what it does after another operand
named_read : (fs : List Frame) (out : List Step) (ts : List Token) → reach_at fs ts ≤ atom_level
    → run (state mode.Named fs out) ts ≡ have atom_level fs out ts
unfolding run next finish
named_read fs out [] h = refl
named_read fs out (sign sign.Open ∷ ts) h = absurd (let j : ⊥ = omega (arith, h) in j)
named_read fs out (sign sign.From ∷ ts) h =
    ap (λ b. ran ts (cond b (specs.word_from fs out)
    (specs.behind atom_level fs out (sign sign.From)))) (no_word fs h)
named_read fs out (text bs ∷ ts) h = absurd (let j : ⊥ = omega (arith, h) in j)
named_read fs out (number ds ∷ ts) h = absurd (let j : ⊥ = omega (arith, h) in j)
named_read fs out (t ∷ ts) h = refl

step_name : (w : List ℕ) (fs : List Frame) (out : List Step) (ts : List Token)
    → atom_level ≤ top_ceiling fs
    → want fs out (name w ∷ ts) ≡ run (state mode.Named fs (out ++ (operand (name w) ∷ []))) ts
unfolding run next
step_name w fs out ts k = rw (at_most atom_level (top_ceiling fs) k) refl

step_other : (t : Token) (fs : List Frame) (out : List Step) (ts : List Token)
    → mode_behind t ≡ mode.Have (operand_level t) → is_operand t ≡ true
    → operand_level t ≤ top_ceiling fs
    → want fs out (t ∷ ts) ≡ have (operand_level t) fs (out ++ (operand t ∷ [])) ts
unfolding run next
step_other t fs out ts e h k =
    rw (h, at_most (operand_level t) (top_ceiling fs) k, e) refl

pub step_operand : (t : Token) (fs : List Frame) (out : List Step) (ts : List Token)
    → is_operand t ≡ true → operand_level t ≤ top_ceiling fs → reach_at fs ts ≤ operand_level t
    → want fs out (t ∷ ts) ≡ have (operand_level t) fs (out ++ (operand t ∷ [])) ts
step_operand (name w) fs out ts h k r =
    step_name w fs out ts k ∙ named_read fs (out ++ (operand (name w) ∷ [])) ts r
step_operand t fs out ts h k r = step_other t fs out ts refl h k

apart_read : (w : List ℕ) (fs : List Frame) (out : List Step) (ts : List Token)
    → run (state mode.Named fs (out ++ (operand (name w) ∷ []))) (sign sign.Open ∷ ts)
    ≡ want (frame.Arguments w 0 ∷ fs) out ts
unfolding run next
apart_read w fs out ts = ap (λ o. ran ts (call_of fs o)) (name_last out w)

text_read : (w bs : List ℕ) → (is_interval w && are_digits bs) ≡ false → (fs : List Frame)
    (out : List Step) (ts : List Token)
    → run (state mode.Named fs (out ++ (operand (name w) ∷ []))) (text bs ∷ ts)
    ≡ have atom_level fs (out ++ (operand (text bs) ∷ typed w false ∷ [])) ts
unfolding run next
text_read w bs h fs out ts =
    ap (λ o. ran ts (literal_of fs bs o)) (name_last out w)
    ∙ ap (λ b. ran ts (cond b (counted fs out (text bs)) (titled fs out w bs))) h

pub step_titled : (w bs : List ℕ) → (is_interval w && are_digits bs) ≡ false → (fs : List Frame)
    (out : List Step) (ts : List Token)
    → want fs out (name w ∷ text bs ∷ ts)
    ≡ have atom_level fs (out ++ (operand (text bs) ∷ typed w false ∷ [])) ts
step_titled w bs h fs out ts =
    step_name w fs out (text bs ∷ ts) (atom_ceiling fs) ∙ text_read w bs h fs out ts

-- digits after `interval`, and their unit
count_read : (w : List ℕ) (t : Token) → is_interval w ≡ true → is_count t ≡ true
    → (fs : List Frame) (out : List Step) (ts : List Token)
    → run (state mode.Named fs (out ++ (operand (name w) ∷ []))) (t ∷ ts)
    ≡ run (state mode.Unit fs (out ++ (operand t ∷ []))) ts
unfolding run next
count_read w (text bs) h k fs out ts =
    ap (λ o. ran ts (literal_of fs bs o)) (name_last out w)
    ∙ ap (λ b. ran ts (cond b (counted fs out (text bs)) (titled fs out w bs)))
    (and_from (is_interval w) (are_digits bs) h k)
count_read w (number ds) h k fs out ts =
    ap (λ o. ran ts (number_of fs ds o)) (name_last out w)
    ∙ ap (λ b. ran ts (cond b (counted fs out (number ds)) None))
    (and_from (is_interval w) (are_digits ds) h k)
count_read w t h k fs out ts = absurd cc

unit_read : (u : List ℕ) → is_unit u ≡ true → (fs : List Frame) (out : List Step)
    (ts : List Token)
    → run (state mode.Unit fs out) (name u ∷ ts)
    ≡ have atom_level fs (out ++ (typed u false ∷ [])) ts
unfolding run next
unit_read u h fs out ts =
    let after = state (mode.Have atom_level) fs (out ++ (typed u false ∷ [])) in
    ap (λ b. ran ts (cond b (Some after) None)) h

pub step_measured : (w : List ℕ) (t : Token) (u : List ℕ) → is_interval w ≡ true
    → is_count t ≡ true → is_unit u ≡ true → (fs : List Frame) (out : List Step) (ts : List Token)
    → want fs out (name w ∷ t ∷ name u ∷ ts)
    ≡ have atom_level fs (out ++ (operand t ∷ typed u false ∷ [])) ts
step_measured w t u h k j fs out ts =
    step_name w fs out (t ∷ name u ∷ ts) (atom_ceiling fs)
    ∙ count_read w t h k fs out (name u ∷ ts)
    ∙ unit_read u j fs (out ++ (operand t ∷ [])) ts
    ∙ ap (λ xs. have atom_level fs xs ts) (append_assoc out (operand t ∷ []) (typed u false ∷ []))

pub step_negative : (ds : List ℕ) (fs : List Frame) (out : List Step) (ts : List Token)
    → literal_level ≤ top_ceiling fs
    → want fs out (sign sign.Minus ∷ number ds ∷ ts)
    ≡ have literal_level fs (out ++ (negative ds ∷ [])) ts
unfolding run next
step_negative ds fs out ts h = rw (at_most literal_level (top_ceiling fs) h) refl

pub step_not : (fs : List Frame) (out : List Step) (ts : List Token) → top_hole fs ≤ not_level
    → want fs out (sign sign.Not ∷ ts) ≡ want (frame.Not ∷ fs) out ts
unfolding run next
step_not fs out ts h = rw (at_most (top_hole fs) not_level h) refl

pub step_plus : (fs : List Frame) (out : List Step) (ts : List Token)
    → want fs out (sign sign.Plus ∷ ts) ≡ want (frame.Plus ∷ fs) out ts
unfolding run next
step_plus fs out ts = refl

pub step_bit_not : (fs : List Frame) (out : List Step) (ts : List Token)
    → top_hole fs ≤ bit_not_level
    → want fs out (sign sign.BitNot ∷ ts) ≡ want (frame.BitNot ∷ fs) out ts
unfolding run next
step_bit_not fs out ts h = rw (at_most (top_hole fs) bit_not_level h) refl

pub step_open : (fs : List Frame) (out : List Step) (ts : List Token)
    → want fs out (sign sign.Open ∷ ts) ≡ want (frame.Open ∷ fs) out ts
unfolding run next
step_open fs out ts = refl

pub step_cast_open : (p : Bool) (fs : List Frame) (out : List Step) (ts : List Token)
    → want fs out (sign (cast_sign p) ∷ sign sign.Open ∷ ts) ≡ want (frame.Cast p ∷ fs) out ts
unfolding run next
step_cast_open true fs out ts = refl
step_cast_open false fs out ts = refl

together_read : (w : List ℕ) (fs : List Frame) (out : List Step) (ts : List Token)
    → want fs out (function w ∷ ts) ≡ want (frame.Arguments w 0 ∷ fs) out ts
unfolding run next
together_read w fs out ts = refl

pub step_function : (p : Bool) (w : List ℕ) (fs : List Frame) (out : List Step) (ts : List Token)
    → want fs out (function_tokens p w ++ ts) ≡ want (frame.Arguments w 0 ∷ fs) out ts
step_function true w fs out ts =
    step_name w fs out (sign sign.Open ∷ ts) (atom_ceiling fs) ∙ apart_read w fs out ts
step_function false w fs out ts = together_read w fs out ts

pub step_nullary : (w : List ℕ) (fs : List Frame) (out : List Step) (ts : List Token)
    → want (frame.Arguments w 0 ∷ fs) out (sign sign.Close ∷ ts)
    ≡ have atom_level fs (out ++ (applied w 0 ∷ [])) ts
unfolding run next
step_nullary w fs out ts = refl

pub step_comma : (w : List ℕ) (n l : ℕ) (fs : List Frame) (out : List Step) (ts : List Token)
    → have l (frame.Arguments w n ∷ fs) out (sign sign.Comma ∷ ts)
    ≡ want (frame.Arguments w (suc n) ∷ fs) out ts
unfolding run next word_after settled
step_comma w n l fs out ts = refl

pub step_applied : (w : List ℕ) (n l : ℕ) (fs : List Frame) (out : List Step) (ts : List Token)
    → have l (frame.Arguments w n ∷ fs) out (sign sign.Close ∷ ts)
    ≡ have atom_level fs (out ++ (applied w (suc n) ∷ [])) ts
unfolding run next word_after settled
step_applied w n l fs out ts = refl

word_read : (f w : List ℕ) → takes_word f ≡ true → (fs : List Frame) (out : List Step)
    (ts : List Token)
    → run (state mode.Named (frame.Arguments f 0 ∷ fs) (out ++ (operand (name w) ∷ [])))
    (sign sign.From ∷ ts)
    ≡ want (frame.Extract f ∷ fs) (out ++ (operand (text w) ∷ [])) ts
unfolding run next
word_read f w is fs out ts =
    let gs : List Frame = frame.Arguments f 0 ∷ fs in
    let named : List Step = out ++ (operand (name w) ∷ []) in
    ap (λ b. ran ts (cond b (word_of f fs (last_name named))
    (specs.behind atom_level gs named (sign sign.From)))) is
    ∙ ap (λ o. ran ts (word_of f fs o)) (name_last out w)

pub step_word : (f w : List ℕ) → takes_word f ≡ true → (fs : List Frame) (out : List Step)
    (ts : List Token)
    → want (frame.Arguments f 0 ∷ fs) out (name w ∷ sign sign.From ∷ ts)
    ≡ want (frame.Extract f ∷ fs) (out ++ (operand (text w) ∷ [])) ts
step_word f w is fs out ts =
    let gs : List Frame = frame.Arguments f 0 ∷ fs in
    step_name w gs out (sign sign.From ∷ ts) (atom_ceiling gs) ∙ word_read f w is fs out ts

pub step_extracted : (f : List ℕ) (l : ℕ) (fs : List Frame) (out : List Step) (ts : List Token)
    → have l (frame.Extract f ∷ fs) out (sign sign.Close ∷ ts)
    ≡ have atom_level fs (out ++ (applied f 2 ∷ [])) ts
unfolding run next word_after settled
step_extracted f l fs out ts = refl

pub step_side : (f : List ℕ) → takes_side f ≡ true → (d : TrimSide) (fs : List Frame)
    (out : List Step) (ts : List Token)
    → want (frame.Arguments f 0 ∷ fs) out (sign (sign.Side d) ∷ ts) ≡ want (frame.Trim d ∷ fs) out ts
unfolding run next
step_side f is d fs out ts =
    ap (λ b. ran ts (cond b (Some (state mode.Want (frame.Trim d ∷ fs) out)) None)) is

pub step_side_from : (d : TrimSide) (fs : List Frame) (out : List Step) (ts : List Token)
    → want (frame.Trim d ∷ fs) out (sign sign.From ∷ ts) ≡ want (frame.TrimFrom d ∷ fs) out ts
unfolding run next
step_side_from d fs out ts = refl

pub step_by : (d : TrimSide) (l : ℕ) (fs : List Frame) (out : List Step) (ts : List Token)
    → have l (frame.Trim d ∷ fs) out (sign sign.From ∷ ts) ≡ want (frame.TrimBy d ∷ fs) out ts
unfolding run next word_after settled
step_by d l fs out ts = refl

pub step_by_from : (f : List ℕ) → takes_from f ≡ false → takes_side f ≡ true → (l : ℕ)
    (fs : List Frame) (out : List Step) (ts : List Token)
    → have l (frame.Arguments f 0 ∷ fs) out (sign sign.From ∷ ts)
    ≡ want (frame.TrimBy side.Both ∷ fs) out ts
unfolding run next word_after settled
step_by_from f other is l fs out ts =
    ap (λ b. ran ts (cond b (Some (state mode.Want (frame.From f ∷ fs) out))
    (specs.by_behind f fs out))) other
    ∙ ap (λ b. ran ts (cond b (Some (state mode.Want (frame.TrimBy side.Both ∷ fs) out)) None)) is

pub step_trimmed : (d : TrimSide) (l : ℕ) (fs : List Frame) (out : List Step) (ts : List Token)
    → have l (frame.TrimFrom d ∷ fs) out (sign sign.Close ∷ ts)
    ≡ have atom_level fs (out ++ (trimmed d false ∷ [])) ts
unfolding run next word_after settled
step_trimmed d l fs out ts = refl

pub step_trimmed_by : (d : TrimSide) (l : ℕ) (fs : List Frame) (out : List Step) (ts : List Token)
    → have l (frame.TrimBy d ∷ fs) out (sign sign.Close ∷ ts)
    ≡ have atom_level fs (out ++ (trimmed d true ∷ [])) ts
unfolding run next word_after settled
step_trimmed_by d l fs out ts = refl

pub step_from : (f : List ℕ) → takes_from f ≡ true → (l : ℕ) (fs : List Frame) (out : List Step)
    (ts : List Token)
    → have l (frame.Arguments f 0 ∷ fs) out (sign sign.From ∷ ts)
    ≡ want (frame.From f ∷ fs) out ts
unfolding run next word_after settled
step_from f is l fs out ts =
    ap (λ b. ran ts (cond b (Some (state mode.Want (frame.From f ∷ fs) out))
    (specs.by_behind f fs out))) is

pub step_for : (f w : List ℕ) → is_for w ≡ true → (l : ℕ) (fs : List Frame) (out : List Step)
    (ts : List Token)
    → have l (frame.From f ∷ fs) out (name w ∷ ts) ≡ want (frame.For f ∷ fs) out ts
unfolding run next settled
step_for f w is l fs out ts =
    ap (λ b. ran ts (cond b (Some (state mode.Want (frame.For f ∷ fs) out)) None)) is

pub step_parted : (f : List ℕ) (l : ℕ) (fs : List Frame) (out : List Step) (ts : List Token)
    → have l (frame.From f ∷ fs) out (sign sign.Close ∷ ts)
    ≡ have atom_level fs (out ++ (applied f 2 ∷ [])) ts
unfolding run next word_after settled
step_parted f l fs out ts = refl

pub step_parted_for : (f : List ℕ) (l : ℕ) (fs : List Frame) (out : List Step) (ts : List Token)
    → have l (frame.For f ∷ fs) out (sign sign.Close ∷ ts)
    ≡ have atom_level fs (out ++ (applied f 3 ∷ [])) ts
unfolding run next word_after settled
step_parted_for f l fs out ts = refl

pub step_place : (f : List ℕ) → takes_in f ≡ true → (l : ℕ) (fs : List Frame) (out : List Step)
    (ts : List Token)
    → have l (frame.Arguments f 0 ∷ fs) out (sign sign.In ∷ ts)
    ≡ want (frame.Place f ∷ fs) out ts
unfolding run next word_after settled
step_place f is l fs out ts =
    let gs : List Frame = frame.Arguments f 0 ∷ fs in
    ap (λ b. ran ts (cond b (specs.place_of gs out) (specs.in_behind false l gs out))) is

pub step_placed : (f : List ℕ) (l : ℕ) (fs : List Frame) (out : List Step) (ts : List Token)
    → have l (frame.Place f ∷ fs) out (sign sign.Close ∷ ts)
    ≡ have atom_level fs (out ++ (applied f 2 ∷ [])) ts
unfolding run next word_after settled
step_placed f l fs out ts = refl

pub step_item : (n : Bool) (k l : ℕ) (fs : List Frame) (out : List Step) (ts : List Token)
    → have l (frame.Items n k ∷ fs) out (sign sign.Comma ∷ ts)
    ≡ want (frame.Items n (suc k) ∷ fs) out ts
unfolding run next word_after settled
step_item n k l fs out ts = refl

pub step_listed : (n : Bool) (k l : ℕ) (fs : List Frame) (out : List Step) (ts : List Token)
    → have l (frame.Items n k ∷ fs) out (sign sign.Close ∷ ts)
    ≡ have predicate_level fs (out ++ (listed n (suc k) ∷ [])) ts
unfolding run next word_after settled
step_listed n k l fs out ts = refl
