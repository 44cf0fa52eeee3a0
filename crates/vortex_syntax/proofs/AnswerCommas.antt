-- A tree's tokens are within one part of a list: its commas are inside of brackets.
use Rattle.std.specs.Prelude.{IfSome}
use Rattle.std.proofs.Common.{◌≡◌, ℕ, zero, suc, ◌==◌, ◌+◌, ◌<◌, ◌≤◌, Bool, true, false, List, []}
use Rattle.std.proofs.Common.{◌∷◌, ◌++◌, length, map, get_or, take, drop, Option, Some, None, refl}
use Rattle.std.proofs.Common.{ap, sym, subst, ◌∙◌, append_assoc, arith}
use Rattle.std.specs.List.{onto_first}
use Rattle.std.proofs.lemmas.Bool.{and_parts, eqb-true}
use Rattle.std.proofs.lemmas.Bool.Decides.{nat_tests}
use Rattle.std.proofs.lemmas.List.{append-nil, map-append, map_more, take-append-drop, drop_more}
use Rattle.std.proofs.lemmas.List.{take_all}
use Rattle.vortex_syntax.specs.declared.step.WrittenOperator.{WrittenOperator}
use Rattle.vortex_syntax.specs.declared.step.WrittenOperator.TheVariants as operator
use Rattle.vortex_syntax.specs.declared.token.Sign.TheVariants as sign
use Rattle.vortex_syntax.specs.Tokens.{Token, name, nullable, function, quoted, number, text, sign}
use Rattle.vortex_syntax.specs.Syntax as tree
use Rattle.vortex_syntax.specs.Syntax.{Syntax, Tested, Arguments, Branches}
use Rattle.vortex_syntax.specs.Levels.{Fits, AllFit, BranchesFit, is_operand, is_count}
use Rattle.vortex_syntax.specs.Spelling.{spelling, all_spelled, operator_sign, type_token, with_not}
use Rattle.vortex_syntax.specs.Spelling.{is_tokens, test_token, test_tokens, null_test_sign}
use Rattle.vortex_syntax.specs.Spelling.{distinct_tokens, function_tokens, between_tokens, cast_sign}
use Rattle.vortex_syntax.specs.declared.step.BetweenKind.{BetweenKind}
use Rattle.std.proofs.Common.{cond}
use Rattle.vortex_syntax.specs.Spelling.{in_tokens, like_sign, escape_tokens, branches_spelled}
use Rattle.vortex_syntax.specs.Spelling.{side_tokens}
use Rattle.vortex_syntax.specs.declared.token.TrimSide.{TrimSide}
use Rattle.vortex_syntax.specs.AnswerLists.{Answer, is_name, name_tokens, SpellsAnswer}
use Rattle.vortex_syntax.specs.AnswerParts.{is_comma, depth_behind, ends_answer, parts_from}
use Rattle.vortex_syntax.specs.AnswerParts.{answer_parts}

-- tokens before the first part
abbrev onto_all : List Token → List (List Token) → List (List Token)
onto_all [] ps = ps
onto_all (t ∷ ts) ps = onto_first t (onto_all ts ps)

onto_append : (ts us : List Token) (ps : List (List Token))
    → onto_all (ts ++ us) ps ≡ onto_all ts (onto_all us ps)
onto_append [] us ps = refl
onto_append (t ∷ ts) us ps = ap (onto_first t) (onto_append ts us ps)

onto_part : (ts p : List Token) (ps : List (List Token)) → onto_all ts (p ∷ ps) ≡ (ts ++ p) ∷ ps
onto_part [] p ps = refl
onto_part (t ∷ ts) p ps = ap (onto_first t) (onto_part ts p ps)

-- the tokens lead from that many open brackets to that many, without the end of a part
abbrev pub Passes : ℕ → ℕ → List Token → Type 0
Passes d e ts = (rest : List Token) → parts_from d (ts ++ rest) ≡ onto_all ts (parts_from e rest)

abbrev pub Stays : List Token → Type 0
Stays ts = (d : ℕ) → Passes d d ts

pub passes_none : (d : ℕ) → Passes d d []
passes_none d rest = refl

both : (d e f : ℕ) (ts us : List Token) → Passes d e ts → Passes e f us → Passes d f (ts ++ us)
both d e f ts us p q rest =
    ap (parts_from d) (append_assoc ts us rest) ∙ p (us ++ rest) ∙ ap (onto_all ts) (q rest)
    ∙ sym (onto_append ts us (parts_from f rest))

first : (d e : ℕ) (t : Token) (ts : List Token) → ends_answer d t ≡ false
    → Passes (depth_behind d t) e ts → Passes d e (t ∷ ts)
first d e t ts h p rest = rw h (ap (onto_first t) (p rest))

pub last : (d e : ℕ) (ts : List Token) (t : Token) → Passes d e ts → ends_answer e t ≡ false
    → Passes d (depth_behind e t) (ts ++ (t ∷ []))
last d e ts t p h =
    both d e (depth_behind e t) ts (t ∷ []) p
    (first e (depth_behind e t) t [] h (passes_none (depth_behind e t)))

-- a tree
operand_stays : (t : Token) → is_operand t ≡ true → Stays (t ∷ [])
operand_stays (name w) h d = first d d (name w) [] refl (passes_none d)
operand_stays (quoted w) h d = first d d (quoted w) [] refl (passes_none d)
operand_stays (number w) h d = first d d (number w) [] refl (passes_none d)
operand_stays (text w) h d = first d d (text w) [] refl (passes_none d)
operand_stays (sign sign.True) h d = first d d (sign sign.True) [] refl (passes_none d)
operand_stays (sign sign.False) h d = first d d (sign sign.False) [] refl (passes_none d)
operand_stays (sign sign.Null) h d = first d d (sign sign.Null) [] refl (passes_none d)
operand_stays t h d = absurd cc

operator_stays : (o : WrittenOperator) → Stays (sign (operator_sign o) ∷ [])
operator_stays operator.Or d = first d d (sign sign.Or) [] refl (passes_none d)
operator_stays operator.And d = first d d (sign sign.And) [] refl (passes_none d)
operator_stays operator.Equal d = first d d (sign sign.Equal) [] refl (passes_none d)
operator_stays operator.NotEqual d = first d d (sign sign.NotEqual) [] refl (passes_none d)
operator_stays operator.Less d = first d d (sign sign.Less) [] refl (passes_none d)
operator_stays operator.LessOrEqual d = first d d (sign sign.LessOrEqual) [] refl (passes_none d)
operator_stays operator.Greater d = first d d (sign sign.Greater) [] refl (passes_none d)
operator_stays operator.GreaterOrEqual d =
    first d d (sign sign.GreaterOrEqual) [] refl (passes_none d)
operator_stays operator.Add d = first d d (sign sign.Plus) [] refl (passes_none d)
operator_stays operator.Sub d = first d d (sign sign.Minus) [] refl (passes_none d)
operator_stays operator.Mul d = first d d (sign sign.Times) [] refl (passes_none d)
operator_stays operator.Div d = first d d (sign sign.Divide) [] refl (passes_none d)
operator_stays operator.Mod d = first d d (sign sign.Modulo) [] refl (passes_none d)
operator_stays operator.Concat d = first d d (sign sign.Concat) [] refl (passes_none d)
operator_stays operator.BitAnd d = first d d (sign sign.BitAnd) [] refl (passes_none d)
operator_stays operator.BitOr d = first d d (sign sign.BitOr) [] refl (passes_none d)
operator_stays operator.BitXor d = first d d (sign sign.BitXor) [] refl (passes_none d)
operator_stays operator.ShiftLeft d = first d d (sign sign.ShiftLeft) [] refl (passes_none d)
operator_stays operator.ShiftRight d = first d d (sign sign.ShiftRight) [] refl (passes_none d)
operator_stays operator.Matches d = first d d (sign sign.BitNot) [] refl (passes_none d)
operator_stays operator.MatchesAnyCase d =
    first d d (sign sign.MatchAnyCase) [] refl (passes_none d)
operator_stays operator.NotMatches d = first d d (sign sign.NotMatch) [] refl (passes_none d)
operator_stays operator.NotMatchesAnyCase d =
    first d d (sign sign.NotMatchAnyCase) [] refl (passes_none d)

type_first : (d e : ℕ) (w : List ℕ) (n : Bool) (ts : List Token) → Passes d e ts
    → Passes d e (type_token w n ∷ ts)
type_first d e w true ts p = first d e (nullable w) ts refl p
type_first d e w false ts p = first d e (name w) ts refl p

is_stays : (n : Bool) → Stays (is_tokens n)
is_stays true d =
    first d d (sign sign.Is) (sign sign.Not ∷ []) refl
    (first d d (sign sign.Not) [] refl (passes_none d))
is_stays false d = first d d (sign sign.Is) [] refl (passes_none d)

test_stays : (k : Tested) → Stays (test_token k ∷ [])
test_stays tree.Null d = first d d (sign sign.Null) [] refl (passes_none d)
test_stays tree.True d = first d d (sign sign.True) [] refl (passes_none d)
test_stays tree.False d = first d d (sign sign.False) [] refl (passes_none d)
test_stays (tree.Unknown w) d = first d d (name w) [] refl (passes_none d)

null_test_stays : (n : Bool) → Stays (sign (null_test_sign n) ∷ [])
null_test_stays true d = first d d (sign sign.NotNull) [] refl (passes_none d)
null_test_stays false d = first d d (sign sign.IsNull) [] refl (passes_none d)

distinct_stays : (n : Bool) → Stays (distinct_tokens n)
distinct_stays n d =
    let last : List Token = sign sign.Distinct ∷ sign sign.From ∷ [] in
    both d d d (is_tokens n) last (is_stays n d)
    (first d d (sign sign.Distinct) (sign sign.From ∷ []) refl
    (first d d (sign sign.From) [] refl (passes_none d)))

cast_stays : (p : Bool) → Stays (sign (cast_sign p) ∷ [])
cast_stays true d = first d d (sign sign.TryCast) [] refl (passes_none d)
cast_stays false d = first d d (sign sign.Cast) [] refl (passes_none d)

symmetric_stays : (s : Bool) → Stays (cond s (sign sign.Symmetric ∷ []) [])
symmetric_stays true d = first d d (sign sign.Symmetric) [] refl (passes_none d)
symmetric_stays false d = passes_none d

plain_stays : (n : Bool) → Stays (with_not n sign.Between)
plain_stays true d =
    first d d (sign sign.Not) (sign sign.Between ∷ []) refl
    (first d d (sign sign.Between) [] refl (passes_none d))
plain_stays false d = first d d (sign sign.Between) [] refl (passes_none d)

between_stays : (k : BetweenKind) → Stays (between_tokens k)
between_stays k d =
    both d d d (with_not k.negated sign.Between) (cond k.symmetric (sign sign.Symmetric ∷ []) [])
    (plain_stays k.negated d) (symmetric_stays k.symmetric d)

like_stays : (n i : Bool)
    → Stays (like_sign (record { negated = n; case_insensitive = i }))
like_stays true true d =
    first d d (sign sign.Not) (sign sign.Ilike ∷ []) refl
    (first d d (sign sign.Ilike) [] refl (passes_none d))
like_stays true false d =
    first d d (sign sign.Not) (sign sign.Like ∷ []) refl
    (first d d (sign sign.Like) [] refl (passes_none d))
like_stays false true d = first d d (sign sign.Ilike) [] refl (passes_none d)
like_stays false false d = first d d (sign sign.Like) [] refl (passes_none d)

escape_stays : (e : Option (List ℕ)) → Stays (escape_tokens e)
escape_stays None d = passes_none d
escape_stays (Some e) d =
    first d d (sign sign.Escape) (text e ∷ []) refl
    (first d d (text e) [] refl (passes_none d))

side_stays : (o : Option TrimSide) → Stays (side_tokens o)
side_stays None d = passes_none d
side_stays (Some s) d = first d d (sign (sign.Side s)) [] refl (passes_none d)

in_opens : (n : Bool) (d : ℕ) → Passes d (suc d) (in_tokens n)
in_opens true d =
    first d (suc d) (sign sign.Not) (sign sign.In ∷ sign sign.Open ∷ []) refl
    (first d (suc d) (sign sign.In) (sign sign.Open ∷ []) refl
    (first d (suc d) (sign sign.Open) [] refl (passes_none (suc d))))
in_opens false d =
    first d (suc d) (sign sign.In) (sign sign.Open ∷ []) refl
    (first d (suc d) (sign sign.Open) [] refl (passes_none (suc d)))

function_opens : (p : Bool) (w : List ℕ) (d : ℕ) → Passes d (suc d) (function_tokens p w)
function_opens true w d =
    first d (suc d) (name w) (sign sign.Open ∷ []) refl
    (first d (suc d) (sign sign.Open) [] refl (passes_none (suc d)))
function_opens false w d = first d (suc d) (function w) [] refl (passes_none (suc d))

-- `when`, a condition, `then` and what follows
branch_stays : (d : ℕ) (ts us : List Token) → Passes d d ts → Passes d d us
    → Passes d d (sign sign.When ∷ (ts ++ (sign sign.Then ∷ us)))
branch_stays d ts us p q =
    first d d (sign sign.When) (ts ++ (sign sign.Then ∷ us)) refl
    (both d d d ts (sign sign.Then ∷ us) p (first d d (sign sign.Then) us refl q))

inner : (d : ℕ) → (suc d == 0) ≡ false
inner d = grind (arith, nat_tests)

count_stays : (t : Token) → is_count t ≡ true → (d : ℕ) (ts : List Token) → Passes d d ts
    → Passes d d (t ∷ ts)
count_stays (text bs) h d ts p = first d d (text bs) ts refl p
count_stays (number ds) h d ts p = first d d (number ds) ts refl p
count_stays t h d ts p = absurd cc

mutual
  pub tree_stays : (t : Syntax) → Fits t → Stays (spelling t)
  tree_stays (tree.operand t) f d = operand_stays t f d
  tree_stays (tree.negative ds) f d =
      first d d (sign sign.Minus) (number ds ∷ []) refl
      (first d d (number ds) [] refl (passes_none d))
  tree_stays (tree.minus a) f d =
      first d d (sign sign.Minus) (spelling a) refl (tree_stays a f.2 d)
  tree_stays (tree.plus a) f d =
      first d d (sign sign.Plus) (spelling a) refl (tree_stays a f.1 d)
  tree_stays (tree.bit_not a) f d =
      first d d (sign sign.BitNot) (spelling a) refl (tree_stays a f.1 d)
  tree_stays (tree.typed a w n) f d =
      both d d d (spelling a) (sign sign.Typed ∷ type_token w n ∷ []) (tree_stays a f.1 d)
      (first d d (sign sign.Typed) (type_token w n ∷ []) refl
      (type_first d d w n [] (passes_none d)))
  tree_stays (tree.titled w bs) f d =
      first d d (name w) (text bs ∷ []) refl (first d d (text bs) [] refl (passes_none d))
  tree_stays (tree.measured w t u) f d =
      first d d (name w) (t ∷ name u ∷ []) refl
      (count_stays t f.1 d (name u ∷ []) (first d d (name u) [] refl (passes_none d)))
  tree_stays (tree.grouped a) f d =
      first d d (sign sign.Open) (spelling a ++ (sign sign.Close ∷ [])) refl
      (last (suc d) (suc d) (spelling a) (sign sign.Close) (tree_stays a f (suc d)) refl)
  tree_stays (tree.negated a) f d =
      first d d (sign sign.Not) (spelling a) refl (tree_stays a f.1 d)
  tree_stays (tree.joined o a b) f d =
      both d d d (spelling a) (sign (operator_sign o) ∷ spelling b) (tree_stays a f.2 d)
      (both d d d (sign (operator_sign o) ∷ []) (spelling b) (operator_stays o d)
      (tree_stays b f.3 d))
  tree_stays (tree.tested k n a) f d =
      both d d d (spelling a) (test_tokens k n) (tree_stays a f.1 d)
      (both d d d (is_tokens n) (test_token k ∷ []) (is_stays n d) (test_stays k d))
  tree_stays (tree.null_tested n a) f d =
      both d d d (spelling a) (sign (null_test_sign n) ∷ []) (tree_stays a f.1 d)
      (null_test_stays n d)
  tree_stays (tree.distinct n a b) f d =
      both d d d (spelling a) (distinct_tokens n ++ spelling b) (tree_stays a f.2 d)
      (both d d d (distinct_tokens n) (spelling b) (distinct_stays n d) (tree_stays b f.3 d))
  tree_stays (tree.between k a b c) f d =
      both d d d (spelling a)
      (between_tokens k ++ (spelling b ++ (sign sign.And ∷ spelling c)))
      (tree_stays a f.3 d)
      (both d d d (between_tokens k) (spelling b ++ (sign sign.And ∷ spelling c))
      (between_stays k d)
      (both d d d (spelling b) (sign sign.And ∷ spelling c) (tree_stays b f.4 d)
      (first d d (sign sign.And) (spelling c) refl (tree_stays c f.5 d))))
  tree_stays (tree.matched k a p e) f d =
      both d d d (spelling a) (like_sign k ++ (spelling p ++ escape_tokens e)) (tree_stays a f.2 d)
      (both d d d (like_sign k) (spelling p ++ escape_tokens e)
      (like_stays k.negated k.case_insensitive d)
      (both d d d (spelling p) (escape_tokens e) (tree_stays p f.3 d) (escape_stays e d)))
  tree_stays (tree.listed n a args b) f d =
      let end : List Token = spelling b ++ (sign sign.Close ∷ []) in
      both d d d (spelling a) (in_tokens n ++ (all_spelled args ++ end)) (tree_stays a f.1 d)
      (both d (suc d) d (in_tokens n) (all_spelled args ++ end) (in_opens n d)
      (both (suc d) (suc d) d (all_spelled args) end (all_stay args f.2 d)
      (last (suc d) (suc d) (spelling b) (sign sign.Close) (tree_stays b f.3 (suc d)) refl)))
  tree_stays (tree.converted a w n) f d =
      both d d d (spelling a) (sign sign.Typed ∷ type_token w n ∷ []) (tree_stays a f.2 d)
      (first d d (sign sign.Typed) (type_token w n ∷ []) refl
      (type_first d d w n [] (passes_none d)))
  tree_stays (tree.cast p a w n) f d =
      let last : List Token = sign sign.As ∷ type_token w n ∷ sign sign.Close ∷ [] in
      both d d d (sign (cast_sign p) ∷ []) (sign sign.Open ∷ (spelling a ++ last)) (cast_stays p d)
      (first d d (sign sign.Open) (spelling a ++ last) refl
      (both (suc d) (suc d) d (spelling a) last (tree_stays a f (suc d))
      (first (suc d) d (sign sign.As) (type_token w n ∷ sign sign.Close ∷ []) refl
      (type_first (suc d) d w n (sign sign.Close ∷ [])
      (first (suc d) d (sign sign.Close) [] refl (passes_none d))))))
  tree_stays (tree.chosen bs c v) f d =
      both d d d (branches_spelled bs)
      (sign sign.When ∷ (spelling c ++ (sign sign.Then ∷ (spelling v ++ (sign sign.End ∷ [])))))
      (branches_stay bs f.0 d)
      (branch_stays d (spelling c) (spelling v ++ (sign sign.End ∷ [])) (tree_stays c f.1 d)
      (last d d (spelling v) (sign sign.End) (tree_stays v f.2 d) refl))
  tree_stays (tree.chosen_else bs c v e) f d =
      let other : List Token = spelling e ++ (sign sign.End ∷ []) in
      both d d d (branches_spelled bs)
      (sign sign.When ∷ (spelling c ++ (sign sign.Then ∷ (spelling v ++ (sign sign.Else ∷ other)))))
      (branches_stay bs f.0 d)
      (branch_stays d (spelling c) (spelling v ++ (sign sign.Else ∷ other)) (tree_stays c f.1 d)
      (both d d d (spelling v) (sign sign.Else ∷ other) (tree_stays v f.2 d)
      (first d d (sign sign.Else) other refl
      (last d d (spelling e) (sign sign.End) (tree_stays e f.3 d) refl))))
  tree_stays (tree.nullary p w) f d =
      both d (suc d) d (function_tokens p w) (sign sign.Close ∷ []) (function_opens p w d)
      (first (suc d) d (sign sign.Close) [] refl (passes_none d))
  tree_stays (tree.applied p w args a) f d =
      both d (suc d) d (function_tokens p w)
      (all_spelled args ++ (spelling a ++ (sign sign.Close ∷ []))) (function_opens p w d)
      (both (suc d) (suc d) d (all_spelled args) (spelling a ++ (sign sign.Close ∷ []))
      (all_stay args f.0 d)
      (last (suc d) (suc d) (spelling a) (sign sign.Close) (tree_stays a f.1 (suc d)) refl))
  tree_stays (tree.extracted p g w a) f d =
      let end : List Token = spelling a ++ (sign sign.Close ∷ []) in
      both d (suc d) d (function_tokens p g) (name w ∷ sign sign.From ∷ end)
      (function_opens p g d)
      (first (suc d) d (name w) (sign sign.From ∷ end) refl
      (first (suc d) d (sign sign.From) end refl
      (last (suc d) (suc d) (spelling a) (sign sign.Close) (tree_stays a f.1 (suc d)) refl)))
  tree_stays (tree.parted p g s a) f d =
      let end : List Token = spelling a ++ (sign sign.Close ∷ []) in
      both d (suc d) d (function_tokens p g) (spelling s ++ (sign sign.From ∷ end))
      (function_opens p g d)
      (both (suc d) (suc d) d (spelling s) (sign sign.From ∷ end) (tree_stays s f.1 (suc d))
      (first (suc d) d (sign sign.From) end refl
      (last (suc d) (suc d) (spelling a) (sign sign.Close) (tree_stays a f.2 (suc d)) refl)))
  tree_stays (tree.placed p g s a) f d =
      let end : List Token = spelling a ++ (sign sign.Close ∷ []) in
      both d (suc d) d (function_tokens p g) (spelling s ++ (sign sign.In ∷ end))
      (function_opens p g d)
      (both (suc d) (suc d) d (spelling s) (sign sign.In ∷ end) (tree_stays s f.2 (suc d))
      (first (suc d) d (sign sign.In) end refl
      (last (suc d) (suc d) (spelling a) (sign sign.Close) (tree_stays a f.3 (suc d)) refl)))
  tree_stays (tree.parted_for p g s a w b) f d =
      let end : List Token = spelling b ++ (sign sign.Close ∷ []) in
      let limit : List Token = name w ∷ end in
      both d (suc d) d (function_tokens p g)
      (spelling s ++ (sign sign.From ∷ (spelling a ++ limit))) (function_opens p g d)
      (both (suc d) (suc d) d (spelling s) (sign sign.From ∷ (spelling a ++ limit))
      (tree_stays s f.2 (suc d))
      (first (suc d) d (sign sign.From) (spelling a ++ limit) refl
      (both (suc d) (suc d) d (spelling a) limit (tree_stays a f.3 (suc d))
      (first (suc d) d (name w) end refl
      (last (suc d) (suc d) (spelling b) (sign sign.Close) (tree_stays b f.4 (suc d)) refl)))))
  tree_stays (tree.trimmed p g s a) f d =
      let end : List Token = spelling a ++ (sign sign.Close ∷ []) in
      both d (suc d) d (function_tokens p g) (sign (sign.Side s) ∷ sign sign.From ∷ end)
      (function_opens p g d)
      (first (suc d) d (sign (sign.Side s)) (sign sign.From ∷ end) refl
      (first (suc d) d (sign sign.From) end refl
      (last (suc d) (suc d) (spelling a) (sign sign.Close) (tree_stays a f.1 (suc d)) refl)))
  tree_stays (tree.trimmed_by p g o c a) f d =
      let end : List Token = spelling a ++ (sign sign.Close ∷ []) in
      let text : List Token = sign sign.From ∷ end in
      both d (suc d) d (function_tokens p g) (side_tokens o ++ (spelling c ++ text))
      (function_opens p g d)
      (both (suc d) (suc d) d (side_tokens o) (spelling c ++ text) (side_stays o (suc d))
      (both (suc d) (suc d) d (spelling c) text (tree_stays c f.1 (suc d))
      (first (suc d) d (sign sign.From) end refl
      (last (suc d) (suc d) (spelling a) (sign sign.Close) (tree_stays a f.2 (suc d)) refl))))

  all_stay : (args : Arguments) → AllFit args → (d : ℕ) → Passes (suc d) (suc d) (all_spelled args)
  all_stay tree.no_arguments f d = passes_none (suc d)
  all_stay (tree.argument args a) f d =
      both (suc d) (suc d) (suc d) (all_spelled args) (spelling a ++ (sign sign.Comma ∷ []))
      (all_stay args f.0 d)
      (last (suc d) (suc d) (spelling a) (sign sign.Comma) (tree_stays a f.1 (suc d)) (inner d))

  branches_stay : (bs : Branches) → BranchesFit bs → Stays (branches_spelled bs)
  branches_stay tree.without_operand f d = first d d (sign sign.Case) [] refl (passes_none d)
  branches_stay (tree.of_operand a) f d =
      first d d (sign sign.Case) (spelling a) refl (tree_stays a f d)
  branches_stay (tree.branch bs c v) f d =
      both d d d (branches_spelled bs)
      (sign sign.When ∷ (spelling c ++ (sign sign.Then ∷ spelling v))) (branches_stay bs f.0 d)
      (branch_stays d (spelling c) (spelling v) (tree_stays c f.1 d) (tree_stays v f.2 d))

-- an answer
name_stays : (n : Token) → is_name n ≡ true → Stays (n ∷ [])
name_stays (name w) h d = first d d (name w) [] refl (passes_none d)
name_stays (quoted w) h d = first d d (quoted w) [] refl (passes_none d)
name_stays n h d = absurd cc

named_stays : (o : Option Token) → IfSome o (λ n. is_name n ≡ true) → Stays (name_tokens o)
named_stays None h d = passes_none d
named_stays (Some n) h d = first d d (sign sign.As) (n ∷ []) refl (name_stays n h d)

stays_as : (ts us : List Token) → ts ≡ us → Stays us → Stays ts
stays_as ts us e s d rest =
    ap (λ vs. parts_from d (vs ++ rest)) e ∙ s d rest
    ∙ ap (λ vs. onto_all vs (parts_from d rest)) (sym e)

pub answer_stays : (ts : List Token) (a : Answer) → SpellsAnswer ts a → Stays ts
answer_stays ts a s =
    stays_as ts (spelling a.tree ++ name_tokens a.name) s.tokens
    (λ d. both d d d (spelling a.tree) (name_tokens a.name) (tree_stays a.tree s.levels d)
    (named_stays a.name s.named d))

-- tokens up to the end of a list, and up to a comma outside of brackets
ends_at : (d : ℕ) (ts : List Token) → Passes 0 d ts → answer_parts ts ≡ ts ∷ []
ends_at d ts p =
    ap (parts_from 0) (sym (append-nil ts)) ∙ p [] ∙ onto_part ts [] []
    ∙ ap (λ us. us ∷ []) (append-nil ts)

cut_at : (d : ℕ) (ts : List Token) (t : Token) (us : List Token) → Passes 0 d ts
    → ends_answer d t ≡ true → answer_parts (ts ++ (t ∷ us)) ≡ ts ∷ answer_parts us
cut_at d ts t us p h =
    let none : d ≡ 0 = eqb-true d 0 (and_parts (is_comma t) (d == 0) h).1 in
    let cut : parts_from d (t ∷ us) ≡ [] ∷ parts_from d us = rw h refl in
    p (t ∷ us) ∙ ap (onto_all ts) (cut ∙ ap (λ n. [] ∷ parts_from n us) none)
    ∙ onto_part ts [] (answer_parts us) ∙ ap (λ vs. vs ∷ answer_parts us) (append-nil ts)

pub whole_part : (ts : List Token) → Stays ts → answer_parts ts ≡ ts ∷ []
whole_part ts s = ends_at 0 ts (s 0)

pub part_before : (ts us : List Token) → Stays ts
    → answer_parts (ts ++ (sign sign.Comma ∷ us)) ≡ ts ∷ answer_parts us
part_before ts us s = cut_at 0 ts (sign sign.Comma) us (s 0) refl

deeper : (d : ℕ) (t : Token) → depth_behind d t ≤ suc d
deeper d (function w) = omega arith
deeper d (sign sign.Open) = omega arith
deeper zero (sign sign.Close) = omega arith
deeper (suc d) (sign sign.Close) = omega arith
deeper d t = omega arith

pub deeper_by : (d n : ℕ) (t : Token) → n ≡ depth_behind d t → n ≤ suc d
deeper_by d n t e = subst (λ m. m ≤ suc d) (sym e) (deeper d t)

-- the same by the code's tokens, with the brackets that are open after the first ones
module _ {A : Type 0} (f : A → Token) (xs : List A) (n d : ℕ) where
  pub passes_more : (x : A) → n < length xs → Passes 0 d (map f (take n xs))
      → ends_answer d (f (get_or xs n x)) ≡ false
      → Passes 0 (depth_behind d (f (get_or xs n x))) (map f (take (n + 1) xs))
  passes_more x lt p h rest =
      ap (λ ts. parts_from 0 (ts ++ rest)) (map_more f xs n x lt)
      ∙ last 0 d (map f (take n xs)) (f (get_or xs n x)) p h rest
      ∙ ap (λ ts. onto_all ts (parts_from (depth_behind d (f (get_or xs n x))) rest))
      (sym (map_more f xs n x lt))

  pub first_at : (x : A) → n < length xs → Passes 0 d (map f (take n xs))
      → ends_answer d (f (get_or xs n x)) ≡ true
      → answer_parts (map f xs)
      ≡ map f (take n xs) ∷ answer_parts (map f (drop (n + 1) xs))
  first_at x lt p h =
      ap (λ ys. answer_parts (map f ys))
      (sym (take-append-drop n xs) ∙ ap (λ ys. take n xs ++ ys) (drop_more xs n x lt))
      ∙ ap answer_parts (map-append f (take n xs) (get_or xs n x ∷ drop (n + 1) xs))
      ∙ cut_at d (map f (take n xs)) (f (get_or xs n x)) (map f (drop (n + 1) xs)) p h

  pub none_at : length xs ≤ n → Passes 0 d (map f (take n xs))
      → answer_parts (map f xs) ≡ map f xs ∷ []
  none_at le p =
      ap (λ ys. answer_parts (map f ys)) (sym (take_all n xs le))
      ∙ ends_at d (map f (take n xs)) p
      ∙ ap (λ ys. map f ys ∷ []) (take_all n xs le)
