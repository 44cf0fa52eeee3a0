-- What a sign after an operand does to what was read.
use Rattle.std.proofs.Common.{◌≡◌, ℕ, ◌≤◌, Bool, true, false, nat_le, ◌&&◌, cond, List, [], ◌∷◌}
use Rattle.std.proofs.Common.{◌++◌, Some, None, refl, ap, sym, subst, ◌∙◌, append_assoc, arith}
use Rattle.std.proofs.lemmas.List.{append-nil}
use Rattle.vortex_syntax.specs.declared.step.WrittenOperator.{WrittenOperator}
use Rattle.vortex_syntax.specs.declared.step.WrittenOperator.TheVariants as operator
use Rattle.vortex_syntax.specs.declared.step.Test.TheVariants as test
use Rattle.vortex_syntax.specs.declared.step.LikeKind.{LikeKind}
use Rattle.vortex_syntax.specs.declared.step.Call.TheVariants as call
use Rattle.vortex_syntax.specs.declared.token.Sign.{Sign}
use Rattle.vortex_syntax.specs.declared.token.Sign.TheVariants as sign
use Rattle.vortex_syntax.specs.Frames.{Frame, top_hole, whole}
use Rattle.vortex_syntax.specs.Frames as frame
use Rattle.vortex_syntax.specs.declared.frame.Mode.TheVariants as mode
use Rattle.vortex_syntax.specs.Tokens.{Token, name, sign}
use Rattle.vortex_syntax.specs.Syntax as tree
use Rattle.vortex_syntax.specs.Syntax.{Syntax}
use Rattle.vortex_syntax.specs.Levels.{own, left, level, Fits, or_level, and_level, is_level}
use Rattle.vortex_syntax.specs.Levels.{predicate_level, concat_level, literal_level, atom_level}
use Rattle.vortex_syntax.specs.Levels.{typed_level}
use Rattle.std.proofs.lemmas.Bool.Decides.{nat_tests}
use Rattle.vortex_syntax.specs.Spelling.{spelling, operator_sign, with_not, like_sign}
use Rattle.vortex_syntax.specs.Spelling.{null_test_sign, cast_sign}
use Rattle.vortex_syntax.specs.Postfix.{Step, called, postfix}
use Rattle.vortex_syntax.specs.Reading as specs
use Rattle.vortex_syntax.specs.Reading.{State, state, operand_of, settled, waiting, shifted}
use Rattle.vortex_syntax.specs.Reading.{and_behind, is_behind, not_behind, as_behind, escape_behind}
use Rattle.vortex_syntax.specs.Reading.{predicate, word_after, behind, typed_mode, typed_behind}
use Rattle.vortex_syntax.proofs.Held.{Held, casting, joining, matching}
use Rattle.vortex_syntax.proofs.Held.{written, held, IsSound}
use Rattle.vortex_syntax.proofs.Before.{Behind, more_tokens, as_tokens, pushed, popped}
use Rattle.vortex_syntax.proofs.Before.{cast_is, like_is, HasOperand, settled_operand}
use Rattle.vortex_syntax.proofs.Before.{Holds, HoldsIn, along, both, chosen, fits_below}
use Rattle.vortex_syntax.proofs.Before.{more, operand_more, operand_is}
use Rattle.vortex_syntax.proofs.Tables.{atom_ceiling}
use Rattle.vortex_syntax.proofs.CaseSound.{case_word_sound}
use Rattle.vortex_syntax.proofs.BracketsSound.{comma_sound, close_sound}
use Rattle.vortex_syntax.proofs.PartsSound.{from_sound, for_sound, place_sound}
use Rattle.vortex_syntax.proofs.BetweenSound.{waits, predicates, not_before, not_joined}
use Rattle.vortex_syntax.proofs.BetweenSound.{between_sound, and_bound}

pub joins : (o : WrittenOperator) (l : ℕ) (fs : List Frame) (out : List Step)
    (before : List Token)
    → HasOperand l fs out before [] → left o ≤ l → top_hole fs ≤ own o
    → Behind (frame.Join o ∷ fs) out (before ++ (sign (operator_sign o) ∷ [])) [] []
joins o l fs out before a h k =
    pushed (joining o a.tree) fs out (before ++ (sign (operator_sign o) ∷ []))
    (as_tokens fs out _ (postfix a.tree) ((spelling a.tree ++ []) ++ (sign (operator_sign o) ∷ []))
    (spelling a.tree ++ (sign (operator_sign o) ∷ []))
    (ap (λ ts. ts ++ (sign (operator_sign o) ∷ [])) (append-nil (spelling a.tree)))
    (more_tokens fs out before (postfix a.tree) (spelling a.tree ++ [])
    (sign (operator_sign o) ∷ []) a.behind))
    (subst (λ (m : ℕ). left o ≤ m) a.level h, a.fits) k

pub joining_sound : (o : WrittenOperator) (l : ℕ) (fs : List Frame) (out : List Step) (s : State)
    (before : List Token) → specs.joining o l fs out ≡ Some s → HasOperand l fs out before []
    → HoldsIn s (before ++ (sign (operator_sign o) ∷ []))
joining_sound o l fs out s before e a =
    let b = settled (own o) l fs out in
    waits (own o) (left o) (frame.Join o) b.level b.frames b.steps s _ e
    (joins o b.level b.frames b.steps before (settled_operand (own o) l fs out before [] a))

pub like_sound : (n i : Bool) (u : Sign) (l : ℕ) (fs : List Frame) (out : List Step) (s : State)
    (before : List Token) → like_sign (specs.like_kind n i) ≡ with_not n u
    → shifted predicate_level concat_level (frame.Like (specs.like_kind n i)) l fs out ≡ Some s
    → HasOperand l fs out before (not_before n) → HoldsIn s (before ++ (sign u ∷ []))
like_sound n i u l fs out s before k e a =
    let b = settled predicate_level l fs out in
    let r = settled_operand predicate_level l fs out before (not_before n) a in
    waits predicate_level concat_level (frame.Like (specs.like_kind n i)) b.level b.frames b.steps s
    (before ++ (sign u ∷ [])) e
    (λ h j. predicates (matching (specs.like_kind n i) r.tree)
    (sign u ∷ []) b.level b.frames b.steps before (not_before n) r refl
    (ap (λ ts. spelling r.tree ++ ts) (k ∙ not_joined n u))
    (subst (λ (m : ℕ). concat_level ≤ m) r.level h, r.fits) j)

pub in_sound : (n : Bool) (l : ℕ) (fs : List Frame) (out : List Step) (s : State)
    (before : List Token) → specs.in_behind n l fs out ≡ Some s
    → HasOperand l fs out before (not_before n) → HoldsIn s (before ++ (sign sign.In ∷ []))
in_sound n l fs out s before e a =
    let test = nat_le concat_level l && nat_le (top_hole fs) predicate_level in
    let c = chosen test (state (mode.Listing n) fs out) s e in
    let t = both (nat_le concat_level l) (nat_le (top_hole fs) predicate_level) c.0 in
    along (state (mode.Listing n) fs out) s (before ++ (sign sign.In ∷ [])) c.1 (
      l,
      subst (λ (us : List Token). HasOperand l fs out (before ++ (sign sign.In ∷ [])) us)
          (sym (not_joined n sign.In))
          (operand_more l fs out before (not_before n) (sign sign.In ∷ []) a),
      fits_below concat_level l t.0,
      fits_below (top_hole fs) predicate_level t.1,
    )

place_if : (b : Bool) (l : ℕ) (fs : List Frame) (out : List Step) (s : State)
    (before : List Token) → specs.waits_in fs ≡ b
    → cond b (specs.place_of fs out) (specs.in_behind false l fs out) ≡ Some s
    → HasOperand l fs out before [] → HoldsIn s (before ++ (sign sign.In ∷ []))
place_if true l fs out s before is e a = place_sound l fs out s before is e a
place_if false l fs out s before is e a = in_sound false l fs out s before e a

pub predicate_sound : (n : Bool) (l : ℕ) (fs : List Frame) (out : List Step) (u : Sign) (s : State)
    (before : List Token) → predicate n l fs out u ≡ Some s
    → HasOperand l fs out before (not_before n) → HoldsIn s (before ++ (sign u ∷ []))
unfolding predicate
predicate_sound n l fs out sign.Between s before e a = between_sound n l fs out s before e a
predicate_sound n l fs out sign.Like s before e a =
    like_sound n false sign.Like l fs out s before refl e a
predicate_sound n l fs out sign.Ilike s before e a =
    like_sound n true sign.Ilike l fs out s before refl e a
predicate_sound n l fs out sign.In s before e a = let b = settled predicate_level l fs out in
    in_sound n b.level b.frames b.steps s before e
    (settled_operand predicate_level l fs out before (not_before n) a)
predicate_sound n l fs out u s before e a = absurd cc

pub and_joined : (l : ℕ) (fs : List Frame) (out : List Step) (s : State) (before : List Token)
    → waiting and_level and_level (frame.Join operator.And) (operand_of l fs out) ≡ Some s
    → HasOperand l fs out before [] → HoldsIn s (before ++ (sign sign.And ∷ []))
and_joined l fs out s before e a =
    waits and_level and_level (frame.Join operator.And) l fs out s
    (before ++ (sign sign.And ∷ [])) e
    (joins operator.And l fs out before a)

pub and_sound : (l : ℕ) (fs : List Frame) (out : List Step) (s : State) (before : List Token)
    → and_behind l fs out ≡ Some s → HasOperand l fs out before []
    → HoldsIn s (before ++ (sign sign.And ∷ []))
and_sound l (frame.Between k ∷ fs) out s before e a = and_bound k l fs out s before e a
and_sound l fs out s before e a = and_joined l fs out s before e a

pub is_sound : (l : ℕ) (fs : List Frame) (out : List Step) (s : State) (before : List Token)
    → is_behind l fs out ≡ Some s → HasOperand l fs out before []
    → HoldsIn s (before ++ (sign sign.Is ∷ []))
is_sound l fs out s before e a =
    let c = chosen (nat_le is_level l && nat_le (top_hole fs) is_level)
    (state (mode.Is false) fs out) s e in
    let t = both (nat_le is_level l) (nat_le (top_hole fs) is_level) c.0 in
    along (state (mode.Is false) fs out) s (before ++ (sign sign.Is ∷ [])) c.1 (
      l,
      operand_more l fs out before [] (sign sign.Is ∷ []) a,
      fits_below is_level l t.0,
      fits_below (top_hole fs) is_level t.1,
    )

null_tested_is : (n : Bool) (l : ℕ) (fs : List Frame) (out : List Step) (before : List Token)
    → HasOperand l fs out before [] → is_level ≤ l → top_hole fs ≤ is_level
    → HasOperand is_level fs (out ++ (called (call.Is test.Null n) ∷ []))
    (before ++ (sign (null_test_sign n) ∷ [])) []
null_tested_is n l fs out before a le place =
    let last : List Token = sign (null_test_sign n) ∷ [] in
    let step : List Step = called (call.Is test.Null n) ∷ [] in
    operand_is (tree.null_tested n a.tree) fs (out ++ step) (before ++ last)
    (subst (λ (m : ℕ). is_level ≤ m) a.level le, a.fits) place (omega (arith, atom_ceiling fs))
    (as_tokens fs (out ++ step) (before ++ last) (postfix a.tree ++ step)
    ((spelling a.tree ++ []) ++ last) (spelling a.tree ++ last)
    (ap (λ ts. ts ++ last) (append-nil (spelling a.tree)))
    (more fs out before (postfix a.tree) (spelling a.tree ++ []) step last a.behind))

pub null_test_sound : (n : Bool) (l : ℕ) (fs : List Frame) (out : List Step) (s : State)
    (before : List Token) → specs.null_test_behind n l fs out ≡ Some s
    → HasOperand l fs out before [] → HoldsIn s (before ++ (sign (null_test_sign n) ∷ []))
null_test_sound n l fs out s before e a =
    let after = state (mode.Have is_level) fs (out ++ (called (call.Is test.Null n) ∷ [])) in
    let c = chosen (nat_le is_level l && nat_le (top_hole fs) is_level) after s e in
    let t = both (nat_le is_level l) (nat_le (top_hole fs) is_level) c.0 in
    along after s (before ++ (sign (null_test_sign n) ∷ [])) c.1
    (null_tested_is n l fs out before a (fits_below is_level l t.0)
    (fits_below (top_hole fs) is_level t.1))

pub not_sound : (l : ℕ) (fs : List Frame) (out : List Step) (s : State) (before : List Token)
    → not_behind l fs out ≡ Some s → HasOperand l fs out before []
    → HoldsIn s (before ++ (sign sign.Not ∷ []))
not_sound l fs out s before e a =
    let c = chosen (nat_le concat_level l && nat_le (top_hole fs) predicate_level)
    (state (mode.Negating l) fs out) s e in
    let t = both (nat_le concat_level l) (nat_le (top_hole fs) predicate_level) c.0 in
    along (state (mode.Negating l) fs out) s (before ++ (sign sign.Not ∷ [])) c.1 (
      operand_more l fs out before [] (sign sign.Not ∷ []) a,
      fits_below concat_level l t.0,
      fits_below (top_hole fs) predicate_level t.1,
    )

pub cast_begun : (p : Bool) (a : Syntax) (h : Held) (fs : List Frame) (out : List Step) (before : List Token)
    → h ≡ casting p → Behind fs out before (held h ++ postfix a) (written h ++ (spelling a ++ []))
    → Behind fs out (before ++ (sign sign.As ∷ [])) (postfix a)
    (sign (cast_sign p) ∷ sign sign.Open ∷ (spelling a ++ (sign sign.As ∷ [])))
cast_begun p a h fs out before e r =
    let b : Behind fs out before (postfix a)
    (sign (cast_sign p) ∷ sign sign.Open ∷ (spelling a ++ [])) =
    subst (λ (v : Held). Behind fs out before (held v ++ postfix a)
    (written v ++ (spelling a ++ []))) e r in
    as_tokens fs out (before ++ (sign sign.As ∷ [])) (postfix a)
    (sign (cast_sign p) ∷ sign sign.Open ∷ ((spelling a ++ []) ++ (sign sign.As ∷ [])))
    (sign (cast_sign p) ∷ sign sign.Open ∷ (spelling a ++ (sign sign.As ∷ [])))
    (ap (λ ts. sign (cast_sign p) ∷ sign sign.Open ∷ (ts ++ (sign sign.As ∷ [])))
    (append-nil (spelling a)))
    (more_tokens fs out before (postfix a) (sign (cast_sign p) ∷ sign sign.Open ∷ (spelling a ++ []))
    (sign sign.As ∷ []) b)

pub as_sound : (l : ℕ) (fs : List Frame) (out : List Step) (s : State) (before : List Token)
    → as_behind fs out ≡ Some s → HasOperand l fs out before []
    → HoldsIn s (before ++ (sign sign.As ∷ []))
as_sound l (frame.Cast p ∷ fs) out s before e a =
    let r = popped (frame.Cast p) fs out before (postfix a.tree) (spelling a.tree ++ []) a.behind in
    along (state (mode.CastType p) fs out) s (before ++ (sign sign.As ∷ [])) e
    (a.tree, a.fits, cast_begun p a.tree r.h fs out before (cast_is p r.h r.is) r.behind)
as_sound l fs out s before e a = absurd cc

pub pattern_written : (k : LikeKind) (a p : Syntax)
    → (written (matching k a) ++ (spelling p ++ [])) ++ (sign sign.Escape ∷ [])
    ≡ spelling a ++ (like_sign k ++ (spelling p ++ (sign sign.Escape ∷ [])))
pattern_written k a p =
    ap (λ ts. (written (matching k a) ++ ts) ++ (sign sign.Escape ∷ [])) (append-nil (spelling p))
    ∙ append_assoc (written (matching k a)) (spelling p) (sign sign.Escape ∷ [])
    ∙ append_assoc (spelling a) (like_sign k) (spelling p ++ (sign sign.Escape ∷ []))

pub escape_begun : (k : LikeKind) (p : Syntax) (h : Held) (a : Syntax) (fs : List Frame)
    (out : List Step) (before : List Token) → h ≡ matching k a → IsSound h → Fits p
    → concat_level ≤ level p
    → top_hole fs ≤ predicate_level
    → Behind fs out before (held h ++ postfix p) (written h ++ (spelling p ++ []))
    → Holds (mode.Escaping k) fs out (before ++ (sign sign.Escape ∷ []))
escape_begun k p h a fs out before e s f j place r =
    let sound : IsSound (matching k a) = subst (λ (v : Held). IsSound v) e s in
    let b : Behind fs out before (held (matching k a) ++ postfix p)
    (written (matching k a) ++ (spelling p ++ [])) =
    subst (λ (v : Held). Behind fs out before (held v ++ postfix p)
    (written v ++ (spelling p ++ []))) e r in (
      a,
      p,
      sound.0,
      j,
      sound.1,
      f,
      place,
      as_tokens fs out (before ++ (sign sign.Escape ∷ [])) (postfix a ++ postfix p)
          ((written (matching k a) ++ (spelling p ++ [])) ++ (sign sign.Escape ∷ []))
          (spelling a ++ (like_sign k ++ (spelling p ++ (sign sign.Escape ∷ []))))
          (pattern_written k a p)
          (more_tokens fs out before (postfix a ++ postfix p)
          (written (matching k a) ++ (spelling p ++ [])) (sign sign.Escape ∷ []) b),
    )

pub escape_sound : (l : ℕ) (fs : List Frame) (out : List Step) (s : State) (before : List Token)
    → escape_behind fs out ≡ Some s → HasOperand l fs out before []
    → HoldsIn s (before ++ (sign sign.Escape ∷ []))
escape_sound l (frame.Like k ∷ fs) out s before e a =
    let r = popped (frame.Like k) fs out before (postfix a.tree) (spelling a.tree ++ []) a.behind in
    let i = like_is k r.h r.is in
    along (state (mode.Escaping k) fs out) s (before ++ (sign sign.Escape ∷ [])) e
    (escape_begun k a.tree r.h i.0 fs out before i.1 r.sound a.fits
    (subst (λ (m : ℕ). concat_level ≤ m) a.level a.place) r.place r.behind)
escape_sound l fs out s before e a = absurd cc

below_literal : (l : ℕ) → nat_le literal_level l ≡ false → l ≤ typed_level
below_literal l h = grind (arith, nat_tests)

typed_if : (l : ℕ) (fs : List Frame) (out : List Step) (s : State) (before : List Token)
    (b c : Bool) → nat_le literal_level l ≡ b → nat_le atom_level l ≡ c
    → typed_behind fs out (cond b (Some mode.Typing) (cond c (Some (mode.Converting l)) None))
    ≡ Some s
    → HasOperand l fs out before [] → HoldsIn s (before ++ (sign sign.Typed ∷ []))
typed_if l fs out s before true c h k e a =
    along (state mode.Typing fs out) s (before ++ (sign sign.Typed ∷ [])) e
    (l, operand_more l fs out before [] (sign sign.Typed ∷ []) a, fits_below literal_level l h)
typed_if l fs out s before false true h k e a =
    along (state (mode.Converting l) fs out) s (before ++ (sign sign.Typed ∷ [])) e (
      operand_more l fs out before [] (sign sign.Typed ∷ []) a,
      fits_below atom_level l k,
      below_literal l h,
    )
typed_if l fs out s before false false h k e a = absurd cc

pub typed_sound : (l : ℕ) (fs : List Frame) (out : List Step) (s : State) (before : List Token)
    → typed_behind fs out (typed_mode l) ≡ Some s
    → HasOperand l fs out before [] → HoldsIn s (before ++ (sign sign.Typed ∷ []))
typed_sound l fs out s before e a =
    typed_if l fs out s before (nat_le literal_level l) (nat_le atom_level l) refl refl e a

pub behind_sign : (l : ℕ) (fs : List Frame) (out : List Step) (u : Sign) (s : State)
    (before : List Token) → behind l fs out (sign u) ≡ Some s → HasOperand l fs out before []
    → HoldsIn s (before ++ (sign u ∷ []))
unfolding word_after predicate
behind_sign l fs out sign.And s before e a = let b = settled and_level l fs out in
    and_sound b.level b.frames b.steps s before e (settled_operand and_level l fs out before [] a)
behind_sign l fs out sign.Or s before e a = joining_sound operator.Or l fs out s before e a
behind_sign l fs out sign.Not s before e a = let b = settled predicate_level l fs out in
    not_sound b.level b.frames b.steps s before e
    (settled_operand predicate_level l fs out before [] a)
behind_sign l fs out sign.Is s before e a = let b = settled is_level l fs out in
    is_sound b.level b.frames b.steps s before e (settled_operand is_level l fs out before [] a)
behind_sign l fs out sign.IsNull s before e a = let b = settled is_level l fs out in
    null_test_sound false b.level b.frames b.steps s before e
    (settled_operand is_level l fs out before [] a)
behind_sign l fs out sign.NotNull s before e a = let b = settled is_level l fs out in
    null_test_sound true b.level b.frames b.steps s before e
    (settled_operand is_level l fs out before [] a)
behind_sign l fs out sign.Between s before e a = between_sound false l fs out s before e a
behind_sign l fs out sign.Like s before e a =
    like_sound false false sign.Like l fs out s before refl e a
behind_sign l fs out sign.Ilike s before e a =
    like_sound false true sign.Ilike l fs out s before refl e a
behind_sign l fs out sign.In s before e a = let b = settled predicate_level l fs out in
    place_if (specs.waits_in b.frames) b.level b.frames b.steps s before refl e
    (settled_operand predicate_level l fs out before [] a)
behind_sign l fs out sign.When s before e a = let b = settled or_level l fs out in
    case_word_sound sign.When b.level b.frames b.steps s before e
    (settled_operand or_level l fs out before [] a)
behind_sign l fs out sign.Then s before e a = let b = settled or_level l fs out in
    case_word_sound sign.Then b.level b.frames b.steps s before e
    (settled_operand or_level l fs out before [] a)
behind_sign l fs out sign.Else s before e a = let b = settled or_level l fs out in
    case_word_sound sign.Else b.level b.frames b.steps s before e
    (settled_operand or_level l fs out before [] a)
behind_sign l fs out sign.End s before e a = let b = settled or_level l fs out in
    case_word_sound sign.End b.level b.frames b.steps s before e
    (settled_operand or_level l fs out before [] a)
behind_sign l fs out sign.Escape s before e a = let b = settled concat_level l fs out in
    escape_sound b.level b.frames b.steps s before e
    (settled_operand concat_level l fs out before [] a)
behind_sign l fs out sign.From s before e a = let b = settled or_level l fs out in
    from_sound b.level b.frames b.steps s before e (settled_operand or_level l fs out before [] a)
behind_sign l fs out sign.As s before e a = let b = settled 0 l fs out in
    as_sound b.level b.frames b.steps s before e (settled_operand 0 l fs out before [] a)
behind_sign l fs out sign.Equal s before e a = joining_sound operator.Equal l fs out s before e a
behind_sign l fs out sign.NotEqual s before e a =
    joining_sound operator.NotEqual l fs out s before e a
behind_sign l fs out sign.Less s before e a = joining_sound operator.Less l fs out s before e a
behind_sign l fs out sign.LessOrEqual s before e a =
    joining_sound operator.LessOrEqual l fs out s before e a
behind_sign l fs out sign.Greater s before e a =
    joining_sound operator.Greater l fs out s before e a
behind_sign l fs out sign.GreaterOrEqual s before e a =
    joining_sound operator.GreaterOrEqual l fs out s before e a
behind_sign l fs out sign.Plus s before e a = joining_sound operator.Add l fs out s before e a
behind_sign l fs out sign.Minus s before e a = joining_sound operator.Sub l fs out s before e a
behind_sign l fs out sign.Times s before e a = joining_sound operator.Mul l fs out s before e a
behind_sign l fs out sign.Divide s before e a = joining_sound operator.Div l fs out s before e a
behind_sign l fs out sign.Modulo s before e a = joining_sound operator.Mod l fs out s before e a
behind_sign l fs out sign.Concat s before e a = joining_sound operator.Concat l fs out s before e a
behind_sign l fs out sign.BitAnd s before e a =
    joining_sound operator.BitAnd l fs out s before e a
behind_sign l fs out sign.BitOr s before e a =
    joining_sound operator.BitOr l fs out s before e a
behind_sign l fs out sign.BitXor s before e a =
    joining_sound operator.BitXor l fs out s before e a
behind_sign l fs out sign.ShiftLeft s before e a =
    joining_sound operator.ShiftLeft l fs out s before e a
behind_sign l fs out sign.ShiftRight s before e a =
    joining_sound operator.ShiftRight l fs out s before e a
behind_sign l fs out sign.BitNot s before e a =
    joining_sound operator.Matches l fs out s before e a
behind_sign l fs out sign.MatchAnyCase s before e a =
    joining_sound operator.MatchesAnyCase l fs out s before e a
behind_sign l fs out sign.NotMatch s before e a =
    joining_sound operator.NotMatches l fs out s before e a
behind_sign l fs out sign.NotMatchAnyCase s before e a =
    joining_sound operator.NotMatchesAnyCase l fs out s before e a
behind_sign l fs out sign.Close s before e a = let b = settled 0 l fs out in
    close_sound b.level b.frames b.steps s before e (settled_operand 0 l fs out before [] a)
behind_sign l fs out sign.Comma s before e a = let b = settled 0 l fs out in
    comma_sound b.level b.frames b.steps s before e (settled_operand 0 l fs out before [] a)
behind_sign l fs out sign.Typed s before e a = typed_sound l fs out s before e a
behind_sign l fs out u s before e a = absurd cc

pub behind_sound : (l : ℕ) (fs : List Frame) (out : List Step) (t : Token) (s : State)
    (before : List Token) → behind l fs out t ≡ Some s → HasOperand l fs out before []
    → HoldsIn s (before ++ (t ∷ []))
behind_sound l fs out (sign u) s before e a = behind_sign l fs out u s before e a
behind_sound l fs out (name w) s before e a = let b = settled or_level l fs out in
    for_sound w b.level b.frames b.steps s before e
    (settled_operand or_level l fs out before [] a)
behind_sound l fs out t s before e a = absurd cc

pub negating_sound : (l : ℕ) (fs : List Frame) (out : List Step) (t : Token) (s : State)
    (before : List Token) → specs.negating l fs out t ≡ Some s
    → HasOperand l fs out before (sign sign.Not ∷ []) → HoldsIn s (before ++ (t ∷ []))
negating_sound l fs out (sign u) s before e a = predicate_sound true l fs out u s before e a
negating_sound l fs out t s before e a = absurd cc
