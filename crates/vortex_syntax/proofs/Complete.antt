-- The spelling of a tree is read as its steps.
use Rattle.std.proofs.Common.{◌≡◌, ℕ, ◌<◌, ◌≤◌, Bool, true, false, List, [], ◌∷◌, ◌++◌, Option}
use Rattle.std.proofs.Common.{Some, None, refl, ap, sym, ◌∙◌, append_assoc, arith, lit<, lit≤}
use Rattle.std.proofs.Common.{◌&&◌}
use Rattle.std.proofs.lemmas.List.{append-nil}
use Rattle.vortex_syntax.specs.declared.step.WrittenOperator.{WrittenOperator}
use Rattle.vortex_syntax.specs.declared.step.WrittenOperator.TheVariants as operator
use Rattle.vortex_syntax.specs.declared.step.Test.TheVariants as test
use Rattle.vortex_syntax.specs.declared.step.LikeKind.{LikeKind}
use Rattle.vortex_syntax.specs.declared.step.Call.TheVariants as call
use Rattle.vortex_syntax.specs.declared.token.Sign.TheVariants as sign
use Rattle.vortex_syntax.specs.Frames.{Frame, hole, top_hole, ceiling, top_ceiling, guard, whole}
use Rattle.vortex_syntax.specs.Frames as frame
use Rattle.vortex_syntax.specs.Tokens.{Token, sign}
use Rattle.vortex_syntax.specs.Syntax as tree
use Rattle.vortex_syntax.specs.Syntax.{Syntax, Tested, Arguments, Branches}
use Rattle.vortex_syntax.specs.Levels.{sign_level, typed_level, own, left, right, level, Fits}
use Rattle.vortex_syntax.specs.Levels.{AllFit, BranchesFit, is_operand, not_level, distinct_level}
use Rattle.vortex_syntax.specs.Levels.{is_level, comparison_level, predicate_level, concat_level}
use Rattle.vortex_syntax.specs.Levels.{bit_not_level, atom_level, literal_level, IsTested}
use Rattle.vortex_syntax.specs.Levels.{is_interval, is_unit, is_count, are_digits}
use Rattle.vortex_syntax.specs.Spelling.{spelling, operator_sign, type_token}
use Rattle.vortex_syntax.specs.Spelling.{test_tokens, distinct_tokens, like_sign}
use Rattle.vortex_syntax.specs.Spelling.{between_tokens, cast_sign}
use Rattle.vortex_syntax.specs.declared.step.BetweenKind.{BetweenKind}
use Rattle.vortex_syntax.proofs.StepsRead.{step_converted}
use Rattle.vortex_syntax.specs.Spelling.{escape_tokens, null_test_sign}
use Rattle.vortex_syntax.specs.Postfix.{Step, typed, cast, called, like_step}
use Rattle.vortex_syntax.specs.Postfix.{postfix, test_of}
use Rattle.vortex_syntax.specs.Reading as specs
use Rattle.vortex_syntax.specs.Reading.{next, settled, finish, run, steps_of}
use Rattle.vortex_syntax.proofs.Tables.{not_eight, not_eleven, own_product, level_literal}
use Rattle.vortex_syntax.proofs.Tables.{typed_ceiling, top_atom, own_left, own_right, tight}
use Rattle.vortex_syntax.proofs.Tables.{reach, reach_at, weaker, unworded, not_two}
use Rattle.vortex_syntax.proofs.Closes.{want, have, closed, closes, IsRead}
use Rattle.vortex_syntax.proofs.MinusRead.{signed_read, step_minus}
use Rattle.vortex_syntax.proofs.CaseRead.{BranchesRead, read_without_operand, read_of_operand}
use Rattle.vortex_syntax.proofs.CaseRead.{read_branch, read_chosen, read_chosen_else}
use Rattle.vortex_syntax.proofs.StepsRead.{step_join, step_between, step_like, step_bound}
use Rattle.vortex_syntax.proofs.StepsRead.{step_test, step_distinct, step_close, step_typed}
use Rattle.vortex_syntax.proofs.StepsRead.{step_cast, step_escape, step_operand, step_negative}
use Rattle.vortex_syntax.proofs.StepsRead.{step_not, step_open, step_cast_open}
use Rattle.vortex_syntax.proofs.StepsRead.{step_plus, step_bit_not, step_titled, step_measured}
use Rattle.vortex_syntax.proofs.StepsRead.{step_null_test}
use Rattle.vortex_syntax.proofs.ArgumentsRead.{beneath, AreRead, read_no_arguments, read_argument}
use Rattle.vortex_syntax.proofs.ArgumentsRead.{read_nullary, read_applied, read_extracted}
use Rattle.vortex_syntax.proofs.ArgumentsRead.{read_placed, read_trimmed, read_trimmed_by}
use Rattle.vortex_syntax.proofs.ArgumentsRead.{read_listed, read_parted, read_parted_for}
use Rattle.vortex_syntax.proofs.ArgumentsRead.{regrouped_2, regrouped_3, regrouped_4}

waits_closed : (l : ℕ) (f : Frame) (fs : List Frame) (out : List Step) (rest : List Token)
    → 0 < guard f → reach_at fs rest ≤ whole f
    → have l (f ∷ fs) out rest ≡ have (whole f) fs (closed out f) rest
waits_closed l f fs out rest h k =
    closes l f fs out rest
    (tight f (reach rest) h (omega (arith, k, weaker fs rest)) (not_two rest) (not_eight rest)
    (not_eleven rest))

reach_operator : (o : WrittenOperator) (fs : List Frame) (ts : List Token)
    → reach_at fs (sign (operator_sign o) ∷ ts) ≡ own o
reach_operator operator.Or fs ts = refl
reach_operator operator.And fs ts = refl
reach_operator operator.Equal fs ts = refl
reach_operator operator.NotEqual fs ts = refl
reach_operator operator.Less fs ts = refl
reach_operator operator.LessOrEqual fs ts = refl
reach_operator operator.Greater fs ts = refl
reach_operator operator.GreaterOrEqual fs ts = refl
reach_operator operator.Add fs ts = refl
reach_operator operator.Sub fs ts = refl
reach_operator operator.Mul fs ts = refl
reach_operator operator.Div fs ts = refl
reach_operator operator.Mod fs ts = refl
reach_operator operator.Concat fs ts = refl
reach_operator operator.BitAnd fs ts = refl
reach_operator operator.BitOr fs ts = refl
reach_operator operator.BitXor fs ts = refl
reach_operator operator.ShiftLeft fs ts = refl
reach_operator operator.ShiftRight fs ts = refl
reach_operator operator.Matches fs ts = refl
reach_operator operator.MatchesAnyCase fs ts = refl
reach_operator operator.NotMatches fs ts = refl
reach_operator operator.NotMatchesAnyCase fs ts = refl

read_joined : (o : WrittenOperator) (a b : Syntax) → left o ≤ level a → right o ≤ level b
    → IsRead a → IsRead b → IsRead (tree.joined o a b)
read_joined o a b h k ia ib = λ fs out rest top under end.
    let ts = spelling b ++ rest in
    let first : reach_at fs (sign (operator_sign o) ∷ ts) ≤ level a =
    omega (arith, own_left o, h, reach_operator o fs ts) in
    ap (want fs out) (append_assoc (spelling a) (sign (operator_sign o) ∷ spelling b) rest)
    ∙ ia fs out (sign (operator_sign o) ∷ ts) (omega (arith, top, own_left o, h))
    (beneath a fs (own o) top (omega (arith, own_product o))) first
    ∙ step_join o (level a) fs (out ++ postfix a) ts h top
    ∙ ib (frame.Join o ∷ fs) (out ++ postfix a) rest k (level_literal b)
    (omega (arith, end, own_right o, k, weaker fs rest, unworded (frame.Join o ∷ fs) rest refl))
    ∙ waits_closed (level b) (frame.Join o) fs ((out ++ postfix a) ++ postfix b) rest
    (omega (arith, own_right o)) end
    ∙ ap (λ xs. have (own o) fs xs rest)
    (regrouped_3 out (postfix a) (postfix b) (called (call.Join o)))

read_operand : (t : Token) → is_operand t ≡ true → IsRead (tree.operand t)
read_operand t h = λ fs out rest top under end. step_operand t fs out rest h under end

read_negative : (ds : List ℕ) → IsRead (tree.negative ds)
read_negative ds = λ fs out rest top under end. step_negative ds fs out rest under

read_typed : (a : Syntax) (w : List ℕ) (n : Bool) → literal_level ≤ level a → IsRead a
    → IsRead (tree.typed a w n)
read_typed a w n h ia = λ fs out rest top under end.
    let ts : List Token = sign sign.Typed ∷ type_token w n ∷ rest in
    ap (want fs out) (append_assoc (spelling a) (sign sign.Typed ∷ type_token w n ∷ []) rest)
    ∙ ia fs out ts (omega (arith, top_atom fs, h))
    (omega (arith, level_literal a, typed_ceiling fs under)) (omega (arith, h))
    ∙ step_typed (level a) fs (out ++ postfix a) w n rest h
    ∙ ap (λ xs. have typed_level fs xs rest) (regrouped_2 out (postfix a) (typed w n))

read_titled : (w bs : List ℕ) → (is_interval w && are_digits bs) ≡ false
    → IsRead (tree.titled w bs)
read_titled w bs h = λ fs out rest top under end. step_titled w bs h fs out rest

read_measured : (w : List ℕ) (t : Token) (u : List ℕ) → is_interval w ≡ true → is_count t ≡ true
    → is_unit u ≡ true → IsRead (tree.measured w t u)
read_measured w t u h k j = λ fs out rest top under end. step_measured w t u h k j fs out rest

read_converted : (a : Syntax) (w : List ℕ) (n : Bool) → atom_level ≤ level a
    → level a ≤ typed_level → IsRead a → IsRead (tree.converted a w n)
read_converted a w n h k ia = λ fs out rest top under end.
    let ts : List Token = sign sign.Typed ∷ type_token w n ∷ rest in
    ap (want fs out) (append_assoc (spelling a) (sign sign.Typed ∷ type_token w n ∷ []) rest)
    ∙ ia fs out ts top under (omega (arith, h))
    ∙ step_converted (level a) fs (out ++ postfix a) w n rest h k
    ∙ ap (λ xs. have (level a) fs xs rest) (regrouped_2 out (postfix a) (cast false w n))

read_minus : (a : Syntax) → sign_level ≤ level a → level a ≤ atom_level → IsRead a
    → IsRead (tree.minus a)
read_minus a h k ia = λ fs out rest top under end.
    step_minus fs out (spelling a ++ rest)
    ∙ signed_read a h k fs out rest
    ∙ ia (frame.Minus ∷ fs) out rest h k
    (omega (arith, end, h, weaker fs rest, unworded (frame.Minus ∷ fs) rest refl))
    ∙ waits_closed (level a) frame.Minus fs (out ++ postfix a) rest (lit< tt) end
    ∙ ap (λ xs. have sign_level fs xs rest) (regrouped_2 out (postfix a) (called call.Minus))

read_plus : (a : Syntax) → sign_level ≤ level a → IsRead a → IsRead (tree.plus a)
read_plus a h ia = λ fs out rest top under end.
    step_plus fs out (spelling a ++ rest)
    ∙ ia (frame.Plus ∷ fs) out rest h (level_literal a)
    (omega (arith, end, h, weaker fs rest, unworded (frame.Plus ∷ fs) rest refl))
    ∙ waits_closed (level a) frame.Plus fs (out ++ postfix a) rest (lit< tt) end
    ∙ ap (λ xs. have sign_level fs xs rest) (regrouped_2 out (postfix a) (called call.Plus))

read_bit_not : (a : Syntax) → bit_not_level ≤ level a → IsRead a → IsRead (tree.bit_not a)
read_bit_not a h ia = λ fs out rest top under end.
    step_bit_not fs out (spelling a ++ rest) top
    ∙ ia (frame.BitNot ∷ fs) out rest h (level_literal a)
    (omega (arith, end, h, weaker fs rest, unworded (frame.BitNot ∷ fs) rest refl))
    ∙ waits_closed (level a) frame.BitNot fs (out ++ postfix a) rest (lit< tt) end
    ∙ ap (λ xs. have bit_not_level fs xs rest) (regrouped_2 out (postfix a) (called call.BitNot))

read_grouped : (a : Syntax) → IsRead a → IsRead (tree.grouped a)
read_grouped a ia = λ fs out rest top under end.
    ap (λ ts. want fs out (sign sign.Open ∷ ts))
    (append_assoc (spelling a) (sign sign.Close ∷ []) rest)
    ∙ step_open fs out (spelling a ++ (sign sign.Close ∷ rest))
    ∙ ia (frame.Open ∷ fs) out (sign sign.Close ∷ rest) (omega arith) (level_literal a)
    (omega arith)
    ∙ step_close (level a) fs (out ++ postfix a) rest

read_negated : (a : Syntax) → not_level ≤ level a → IsRead a → IsRead (tree.negated a)
read_negated a h ia = λ fs out rest top under end.
    step_not fs out (spelling a ++ rest) top
    ∙ ia (frame.Not ∷ fs) out rest h (level_literal a)
    (omega (arith, end, h, weaker fs rest, unworded (frame.Not ∷ fs) rest refl))
    ∙ waits_closed (level a) frame.Not fs (out ++ postfix a) rest (lit< tt) end
    ∙ ap (λ xs. have not_level fs xs rest) (regrouped_2 out (postfix a) (called call.Not))

reach_test : (k : Tested) (n : Bool) (fs : List Frame) (ts : List Token)
    → reach_at fs (test_tokens k n ++ ts) ≡ is_level
reach_test k true fs ts = refl
reach_test k false fs ts = refl

read_tested : (k : Tested) (n : Bool) (a : Syntax) → IsTested k → is_level ≤ level a → IsRead a
    → IsRead (tree.tested k n a)
read_tested k n a i h ia = λ fs out rest top under end.
    ap (want fs out) (append_assoc (spelling a) (test_tokens k n) rest)
    ∙ ia fs out (test_tokens k n ++ rest) (omega (arith, top, h))
    (beneath a fs is_level top (lit< tt))
    (omega (arith, h, reach_test k n fs rest))
    ∙ step_test k n (level a) fs (out ++ postfix a) rest i h top
    ∙ ap (λ xs. have is_level fs xs rest)
    (regrouped_2 out (postfix a) (called (call.Is (test_of k) n)))

reach_null_test : (n : Bool) (fs : List Frame) (ts : List Token)
    → reach_at fs (sign (null_test_sign n) ∷ ts) ≡ is_level
reach_null_test true fs ts = refl
reach_null_test false fs ts = refl

read_null_tested : (n : Bool) (a : Syntax) → is_level ≤ level a → IsRead a
    → IsRead (tree.null_tested n a)
read_null_tested n a h ia = λ fs out rest top under end.
    let last : List Token = sign (null_test_sign n) ∷ rest in
    ap (want fs out) (append_assoc (spelling a) (sign (null_test_sign n) ∷ []) rest)
    ∙ ia fs out last (omega (arith, top, h)) (beneath a fs is_level top (lit< tt))
    (omega (arith, h, reach_null_test n fs rest))
    ∙ step_null_test n (level a) fs (out ++ postfix a) rest h top
    ∙ ap (λ xs. have is_level fs xs rest)
    (regrouped_2 out (postfix a) (called (call.Is test.Null n)))

reach_distinct : (n : Bool) (fs : List Frame) (ts : List Token)
    → reach_at fs (distinct_tokens n ++ ts) ≡ is_level
reach_distinct true fs ts = refl
reach_distinct false fs ts = refl

read_distinct : (n : Bool) (a b : Syntax) → is_level ≤ level a → comparison_level ≤ level b
    → IsRead a → IsRead b → IsRead (tree.distinct n a b)
read_distinct n a b h k ia ib = λ fs out rest top under end.
    let last : List Token = spelling b ++ rest in
    ap (want fs out)
    (append_assoc (spelling a) (distinct_tokens n ++ spelling b) rest
    ∙ ap (λ ts. spelling a ++ ts) (append_assoc (distinct_tokens n) (spelling b) rest))
    ∙ ia fs out (distinct_tokens n ++ last) (omega (arith, top, h))
    (beneath a fs distinct_level top (lit< tt))
    (omega (arith, h, reach_distinct n fs last))
    ∙ step_distinct n (level a) fs (out ++ postfix a) last h top
    ∙ ib (frame.Distinct n ∷ fs) (out ++ postfix a) rest k (level_literal b)
    (omega (arith, end, k, weaker fs rest, unworded (frame.Distinct n ∷ fs) rest refl))
    ∙ waits_closed (level b) (frame.Distinct n) fs ((out ++ postfix a) ++ postfix b) rest
    (lit< tt) end
    ∙ ap (λ xs. have distinct_level fs xs rest)
    (regrouped_3 out (postfix a) (postfix b) (called (call.Distinct n)))

reach_between : (n s : Bool) (fs : List Frame) (ts : List Token)
    → reach_at fs (between_tokens (specs.between_kind n s) ++ ts) ≡ predicate_level
reach_between true s fs ts = refl
reach_between false s fs ts = refl

read_between : (k : BetweenKind) (a b c : Syntax) → concat_level ≤ level a → concat_level ≤ level b
    → concat_level ≤ level c → IsRead a
    → IsRead b → IsRead c → IsRead (tree.between k a b c)
read_between k a b c ha hb hc ia ib ic = λ fs out rest top under end.
    let last : List Token = spelling c ++ rest in
    let upper : List Token = sign sign.And ∷ last in
    let lower : List Token = spelling b ++ upper in
    ap (want fs out)
    (append_assoc (spelling a)
    (between_tokens k ++ (spelling b ++ (sign sign.And ∷ spelling c))) rest
    ∙ ap (λ ts. spelling a ++ ts)
    (append_assoc (between_tokens k) (spelling b ++ (sign sign.And ∷ spelling c)) rest)
    ∙ ap (λ ts. spelling a ++ (between_tokens k ++ ts))
    (append_assoc (spelling b) (sign sign.And ∷ spelling c) rest))
    ∙ ia fs out (between_tokens k ++ lower) (omega (arith, top, ha))
    (beneath a fs predicate_level top (lit< tt))
    (omega (arith, ha, reach_between k.negated k.symmetric fs lower))
    ∙ step_between k (level a) fs (out ++ postfix a) lower ha top
    ∙ ib (frame.Between k ∷ fs) (out ++ postfix a) upper hb (level_literal b) (omega (arith, hb))
    ∙ step_bound k (level b) fs ((out ++ postfix a) ++ postfix b) last
    ∙ ic (frame.Bounded k ∷ fs) ((out ++ postfix a) ++ postfix b) rest hc (level_literal c)
    (omega (arith, end, hc, weaker fs rest, unworded (frame.Bounded k ∷ fs) rest refl))
    ∙ waits_closed (level c) (frame.Bounded k) fs
    (((out ++ postfix a) ++ postfix b) ++ postfix c) rest (lit< tt) end
    ∙ ap (λ xs. have predicate_level fs xs rest)
    (regrouped_4 out (postfix a) (postfix b) (postfix c) (called (call.Between k)))

reach_like : (n i : Bool) (fs : List Frame) (ts : List Token)
    → reach_at fs (like_sign (specs.like_kind n i) ++ ts) ≡ predicate_level
reach_like true true fs ts = refl
reach_like true false fs ts = refl
reach_like false true fs ts = refl
reach_like false false fs ts = refl

behind_pattern : (k : LikeKind) (e : Option (List ℕ)) (l : ℕ) (fs : List Frame) (out : List Step)
    (rest : List Token) → reach_at fs rest ≤ predicate_level
    → have l (frame.Like k ∷ fs) out (escape_tokens e ++ rest)
    ≡ have predicate_level fs (out ++ (like_step k e ∷ [])) rest
behind_pattern k None l fs out rest h = waits_closed l (frame.Like k) fs out rest (lit< tt) h
behind_pattern k (Some e) l fs out rest h = step_escape k e l fs out rest

reach_pattern : (k : LikeKind) (e : Option (List ℕ)) (fs : List Frame) (rest : List Token)
    → reach_at fs rest ≤ predicate_level
    → reach_at (frame.Like k ∷ fs) (escape_tokens e ++ rest) ≤ concat_level
reach_pattern k None fs rest h =
    omega (arith, h, weaker fs rest, unworded (frame.Like k ∷ fs) rest refl)
reach_pattern k (Some e) fs rest h = lit≤ tt

read_matched : (k : LikeKind) (a p : Syntax) (e : Option (List ℕ)) → concat_level ≤ level a
    → concat_level ≤ level p
    → IsRead a → IsRead p → IsRead (tree.matched k a p e)
read_matched k a p e ha hp ia ip = λ fs out rest top under end.
    let last : List Token = escape_tokens e ++ rest in
    let pattern : List Token = spelling p ++ last in
    ap (want fs out)
    (append_assoc (spelling a) (like_sign k ++ (spelling p ++ escape_tokens e)) rest
    ∙ ap (λ ts. spelling a ++ ts) (append_assoc (like_sign k) (spelling p ++ escape_tokens e) rest)
    ∙ ap (λ ts. spelling a ++ (like_sign k ++ ts))
    (append_assoc (spelling p) (escape_tokens e) rest))
    ∙ ia fs out (like_sign k ++ pattern) (omega (arith, top, ha))
    (beneath a fs predicate_level top (lit< tt))
    (omega (arith, ha, reach_like k.negated k.case_insensitive fs pattern))
    ∙ step_like k.negated k.case_insensitive (level a) fs (out ++ postfix a) pattern ha top
    ∙ ip (frame.Like k ∷ fs) (out ++ postfix a) last hp (level_literal p)
    (omega (arith, hp, reach_pattern k e fs rest end))
    ∙ behind_pattern k e (level p) fs ((out ++ postfix a) ++ postfix p) rest end
    ∙ ap (λ xs. have predicate_level fs xs rest) (regrouped_3 out (postfix a) (postfix p)
    (like_step k e))

read_cast : (p : Bool) (a : Syntax) (w : List ℕ) (n : Bool) → IsRead a
    → IsRead (tree.cast p a w n)
read_cast p a w n ia = λ fs out rest top under end.
    let last : List Token = sign sign.As ∷ type_token w n ∷ sign sign.Close ∷ rest in
    ap (λ ts. want fs out (sign (cast_sign p) ∷ sign sign.Open ∷ ts))
    (append_assoc (spelling a) (sign sign.As ∷ type_token w n ∷ sign sign.Close ∷ []) rest)
    ∙ step_cast_open p fs out (spelling a ++ last)
    ∙ ia (frame.Cast p ∷ fs) out last (omega arith) (level_literal a) (omega arith)
    ∙ step_cast p (level a) fs (out ++ postfix a) w n rest
    ∙ ap (λ xs. have atom_level fs xs rest) (regrouped_2 out (postfix a) (cast p w n))

mutual
  pub is_read : (t : Syntax) → Fits t → IsRead t
  is_read (tree.operand t) h = read_operand t h
  is_read (tree.negative ds) h = read_negative ds
  is_read (tree.minus a) h = read_minus a h.0 h.1 (is_read a h.2)
  is_read (tree.typed a w n) h = read_typed a w n h.0 (is_read a h.1)
  is_read (tree.titled w bs) h = read_titled w bs h
  is_read (tree.measured w t u) h = read_measured w t u h.0 h.1 h.2
  is_read (tree.grouped a) h = read_grouped a (is_read a h)
  is_read (tree.negated a) h = read_negated a h.0 (is_read a h.1)
  is_read (tree.joined o a b) h = read_joined o a b h.0 h.1 (is_read a h.2) (is_read b h.3)
  is_read (tree.plus a) h = read_plus a h.0 (is_read a h.1)
  is_read (tree.bit_not a) h = read_bit_not a h.0 (is_read a h.1)
  is_read (tree.tested k n a) h = read_tested k n a h.2 h.0 (is_read a h.1)
  is_read (tree.null_tested n a) h = read_null_tested n a h.0 (is_read a h.1)
  is_read (tree.distinct n a b) h = read_distinct n a b h.0 h.1 (is_read a h.2) (is_read b h.3)
  is_read (tree.between k a b c) h =
      read_between k a b c h.0 h.1 h.2 (is_read a h.3) (is_read b h.4) (is_read c h.5)
  is_read (tree.matched k a p e) h = read_matched k a p e h.0 h.1 (is_read a h.2) (is_read p h.3)
  is_read (tree.listed n a args b) h =
      read_listed n a args b h.0 (is_read a h.1) (are_read args h.2) (is_read b h.3)
  is_read (tree.cast p a w n) h = read_cast p a w n (is_read a h)
  is_read (tree.converted a w n) h = read_converted a w n h.0 h.1 (is_read a h.2)
  is_read (tree.chosen bs c v) h =
      read_chosen bs c v (branches_read bs h.0) (is_read c h.1) (is_read v h.2)
  is_read (tree.chosen_else bs c v e) h =
      read_chosen_else bs c v e (branches_read bs h.0) (is_read c h.1) (is_read v h.2)
      (is_read e h.3)
  is_read (tree.nullary p w) h = read_nullary p w
  is_read (tree.applied p w args a) h =
      read_applied p w args a h.2 (are_read args h.0) (is_read a h.1)
  is_read (tree.extracted p f w a) h = read_extracted p f w a h.0 (is_read a h.1)
  is_read (tree.parted p f s a) h = read_parted p f s a h.0 (is_read s h.1) (is_read a h.2)
  is_read (tree.parted_for p f s a w b) h =
      read_parted_for p f s a w b h.0 h.1 (is_read s h.2) (is_read a h.3) (is_read b h.4)
  is_read (tree.placed p f a b) h = read_placed p f a b h.0 h.1 (is_read a h.2) (is_read b h.3)
  is_read (tree.trimmed p f d a) h = read_trimmed p f d a h.0 (is_read a h.1)
  is_read (tree.trimmed_by p f o c a) h =
      read_trimmed_by p f o c a h.0 (is_read c h.1) (is_read a h.2)

  are_read : (args : Arguments) → AllFit args → AreRead args
  are_read tree.no_arguments h = read_no_arguments
  are_read (tree.argument args a) h = read_argument args a (are_read args h.0) (is_read a h.1)

  branches_read : (bs : Branches) → BranchesFit bs → BranchesRead bs
  branches_read tree.without_operand h = read_without_operand
  branches_read (tree.of_operand a) h = read_of_operand a (is_read a h)
  branches_read (tree.branch bs c v) h =
      read_branch bs c v (branches_read bs h.0) (is_read c h.1) (is_read v h.2)

-- all of the tokens
at_end : (l : ℕ) (out : List Step) → have l [] out [] ≡ Some out
unfolding run finish settled
at_end l out = refl

pub whole_read : (t : Syntax) → Fits t → steps_of (spelling t) ≡ Some (postfix t)
unfolding steps_of
whole_read t h = ap (want [] []) (sym (append-nil (spelling t)))
    ∙ is_read t h [] [] [] (omega arith) (level_literal t) (omega arith)
    ∙ at_end (level t) (postfix t)
