-- How deep brackets nest in the spelling of a tree.
use Rattle.std.proofs.Common.{◌≡◌, ℕ, suc, Bool, true, false, ◌&&◌, List, [], ◌∷◌, ◌++◌, Option}
use Rattle.std.proofs.Common.{Some, None, refl, ap, sym, ◌∙◌, append_assoc, nat_lt}
use Rattle.std.proofs.lemmas.List.{append-nil}
use Rattle.std.proofs.lemmas.Bool.{false≢true}
use Rattle.vortex_syntax.specs.Nesting.{nesting_limit}
use Rattle.vortex_syntax.specs.declared.step.WrittenOperator as syntax
use Rattle.vortex_syntax.specs.declared.step.WrittenOperator.TheVariants as written
use Rattle.vortex_syntax.specs.declared.token.Sign.TheVariants as sign
use Rattle.vortex_syntax.specs.Tokens as token
use Rattle.vortex_syntax.specs.Tokens.{Token, nullable, quoted, sign}
use Rattle.vortex_syntax.specs.Syntax.{Syntax, operand, negative, typed, grouped, negated, joined}
use Rattle.vortex_syntax.specs.Syntax.{minus, tested, distinct, between, matched, listed, cast}
use Rattle.vortex_syntax.specs.Syntax.{chosen, chosen_else, nullary, applied, Arguments}
use Rattle.vortex_syntax.specs.Syntax.{no_arguments, argument, Branches, without_operand}
use Rattle.vortex_syntax.specs.Syntax.{of_operand, branch, plus, bit_not, null_tested, converted, Tested}
use Rattle.vortex_syntax.specs.Syntax.{titled, measured, extracted, Null, True, False, Unknown}
use Rattle.vortex_syntax.specs.Syntax.{parted, parted_for, placed, trimmed, trimmed_by}
use Rattle.vortex_syntax.specs.declared.token.TrimSide.{TrimSide}
use Rattle.vortex_syntax.specs.Levels.{is_operand, Fits, AllFit, BranchesFit}
use Rattle.vortex_syntax.specs.Spelling.{spelling, all_spelled, branches_spelled, operator_sign}
use Rattle.vortex_syntax.specs.Spelling.{type_token, in_tokens, null_test_sign}
use Rattle.vortex_syntax.specs.Spelling.{function_tokens, between_tokens, cast_sign, side_tokens}
use Rattle.vortex_syntax.specs.Spelling.{test_tokens, distinct_tokens, like_sign, escape_tokens}
use Rattle.vortex_syntax.specs.Nesting.{nests, nests_from}
use Rattle.vortex_expressions.specs.WritingSteps.{nests_behind, all_nest_behind}
use Rattle.vortex_expressions.specs.WritingSteps.{branches_nest_behind}

and_grouped : (a b c : Bool) → ((a && b) && c) ≡ (a && (b && c))
and_grouped true b c = refl
and_grouped false b c = refl

four_grouped : (a b c d e : Bool)
    → ((a && (b && c)) && (d && e)) ≡ ((a && (b && (c && d))) && e)
four_grouped false b c d e = refl
four_grouped true false c d e = refl
four_grouped true true false d e = refl
four_grouped true true true d e = refl

operand_nests : (t : Token) (d : ℕ) (us : List Token) → is_operand t ≡ true
    → nests_from d (t ∷ us) ≡ nests_from d us
operand_nests (token.name w) d us h = refl
operand_nests (nullable w) d us h = refl
operand_nests (token.function w) d us h = absurd (false≢true h)
operand_nests (quoted w) d us h = refl
operand_nests (token.number ds) d us h = refl
operand_nests (token.text bs) d us h = refl
operand_nests (sign sign.True) d us h = refl
operand_nests (sign sign.False) d us h = refl
operand_nests (sign sign.Null) d us h = refl
operand_nests (sign s) d us h = absurd (false≢true h)

type_nests : (w : List ℕ) (n : Bool) (d : ℕ) (us : List Token)
    → nests_from d (type_token w n ∷ us) ≡ nests_from d us
type_nests w true d us = refl
type_nests w false d us = refl

operator_nests : (o : syntax.WrittenOperator) (d : ℕ) (us : List Token)
    → nests_from d (sign (operator_sign o) ∷ us) ≡ nests_from d us
operator_nests written.Or d us = refl
operator_nests written.And d us = refl
operator_nests written.Equal d us = refl
operator_nests written.NotEqual d us = refl
operator_nests written.Less d us = refl
operator_nests written.LessOrEqual d us = refl
operator_nests written.Greater d us = refl
operator_nests written.GreaterOrEqual d us = refl
operator_nests written.Add d us = refl
operator_nests written.Sub d us = refl
operator_nests written.Mul d us = refl
operator_nests written.Div d us = refl
operator_nests written.Mod d us = refl
operator_nests written.Concat d us = refl
operator_nests written.BitAnd d us = refl
operator_nests written.BitOr d us = refl
operator_nests written.BitXor d us = refl
operator_nests written.ShiftLeft d us = refl
operator_nests written.ShiftRight d us = refl
operator_nests written.Matches d us = refl
operator_nests written.MatchesAnyCase d us = refl
operator_nests written.NotMatches d us = refl
operator_nests written.NotMatchesAnyCase d us = refl

test_nests : (k : Tested) (n : Bool) (d : ℕ) (us : List Token)
    → nests_from d (test_tokens k n ++ us) ≡ nests_from d us
test_nests Null true d us = refl
test_nests Null false d us = refl
test_nests True true d us = refl
test_nests True false d us = refl
test_nests False true d us = refl
test_nests False false d us = refl
test_nests (Unknown w) true d us = refl
test_nests (Unknown w) false d us = refl

null_test_nests : (n : Bool) (d : ℕ) (us : List Token)
    → nests_from d (sign (null_test_sign n) ∷ us) ≡ nests_from d us
null_test_nests true d us = refl
null_test_nests false d us = refl

function_nests : (p : Bool) (w : List ℕ) (d : ℕ) (us : List Token)
    → nests_from d (function_tokens p w ++ us)
    ≡ (nat_lt d nesting_limit && nests_from (suc d) us)
function_nests true w d us = refl
function_nests false w d us = refl

distinct_nests : (n : Bool) (d : ℕ) (us : List Token)
    → nests_from d (distinct_tokens n ++ us) ≡ nests_from d us
distinct_nests true d us = refl
distinct_nests false d us = refl

between_nests : (n s : Bool) (d : ℕ) (us : List Token)
    → nests_from d (between_tokens (record { negated = n; symmetric = s }) ++ us)
    ≡ nests_from d us
between_nests true true d us = refl
between_nests true false d us = refl
between_nests false true d us = refl
between_nests false false d us = refl

like_nests : (n i : Bool) (d : ℕ) (us : List Token)
    → nests_from d (like_sign (record { negated = n; case_insensitive = i }) ++ us)
    ≡ nests_from d us
like_nests true true d us = refl
like_nests true false d us = refl
like_nests false true d us = refl
like_nests false false d us = refl

escape_nests : (e : Option (List ℕ)) (d : ℕ) (us : List Token)
    → nests_from d (escape_tokens e ++ us) ≡ nests_from d us
escape_nests None d us = refl
escape_nests (Some e) d us = refl

-- a tree, and arguments
abbrev NestsAs : Syntax → Type 0
NestsAs a = (d : ℕ) (us : List Token)
    → nests_from d (spelling a ++ us) ≡ (nests_behind d a && nests_from d us)

abbrev AllNestAs : Arguments → Type 0
AllNestAs args = (d : ℕ) (us : List Token)
    → nests_from d (all_spelled args ++ us) ≡ (all_nest_behind d args && nests_from d us)

argument_nests : (args : Arguments) (a : Syntax) → AllNestAs args → NestsAs a
    → AllNestAs (argument args a)
argument_nests args a h k = λ d us.
    ap (nests_from d)
    (append_assoc (all_spelled args) (spelling a ++ (sign sign.Comma ∷ [])) us
    ∙ ap (λ ts. all_spelled args ++ ts) (append_assoc (spelling a) (sign sign.Comma ∷ []) us))
    ∙ h d (spelling a ++ (sign sign.Comma ∷ us))
    ∙ ap (λ b. all_nest_behind d args && b) (k d (sign sign.Comma ∷ us))
    ∙ sym (and_grouped (all_nest_behind d args) (nests_behind d a) (nests_from d us))

call_nests : (p : Bool) (w : List ℕ) (args : Arguments) (a : Syntax) → AllNestAs args
    → NestsAs a → NestsAs (applied p w args a)
call_nests p w args a h k = λ d us.
    let limit = nat_lt d nesting_limit in
    let first = all_nest_behind (suc d) args in
    let rest = nests_behind (suc d) a in
    let last : List Token = all_spelled args ++ (spelling a ++ (sign sign.Close ∷ [])) in
    ap (nests_from d) (append_assoc (function_tokens p w) last us)
    ∙ function_nests p w d (last ++ us)
    ∙ ap (λ ts. limit && nests_from (suc d) ts)
    (append_assoc (all_spelled args) (spelling a ++ (sign sign.Close ∷ [])) us
    ∙ ap (λ ts. all_spelled args ++ ts) (append_assoc (spelling a) (sign sign.Close ∷ []) us))
    ∙ ap (λ b. limit && b)
    (h (suc d) (spelling a ++ (sign sign.Close ∷ us))
    ∙ ap (λ b. first && b) (k (suc d) (sign sign.Close ∷ us))
    ∙ sym (and_grouped first rest (nests_from d us)))
    ∙ sym (and_grouped limit (first && rest) (nests_from d us))

extract_nests : (p : Bool) (f w : List ℕ) (a : Syntax) → NestsAs a
    → NestsAs (extracted p f w a)
extract_nests p f w a k = λ d us.
    let limit = nat_lt d nesting_limit in
    let close : List Token = sign sign.Close ∷ [] in
    let end : List Token = token.name w ∷ sign sign.From ∷ (spelling a ++ close) in
    ap (nests_from d) (append_assoc (function_tokens p f) end us)
    ∙ function_nests p f d (end ++ us)
    ∙ ap (λ ts. limit && nests_from (suc d) ts) (append_assoc (spelling a) close us)
    ∙ ap (λ b. limit && b) (k (suc d) (sign sign.Close ∷ us))
    ∙ sym (and_grouped limit (nests_behind (suc d) a) (nests_from d us))

part_grouped : (a b c d : List Token)
    → (a ++ (b ++ (sign sign.From ∷ (c ++ (sign sign.Close ∷ []))))) ++ d
    ≡ a ++ (b ++ (sign sign.From ∷ (c ++ (sign sign.Close ∷ d))))
part_grouped a b c d = simp append_assoc

part_nests : (p : Bool) (f : List ℕ) (s a : Syntax) → NestsAs s → NestsAs a
    → NestsAs (parted p f s a)
part_nests p f s a h k = λ d us.
    let limit = nat_lt d nesting_limit in
    let first = nests_behind (suc d) s in
    let rest = nests_behind (suc d) a in
    let close : List Token = sign sign.Close ∷ us in
    let from : List Token = sign sign.From ∷ (spelling a ++ close) in
    ap (nests_from d) (part_grouped (function_tokens p f) (spelling s) (spelling a) us)
    ∙ function_nests p f d (spelling s ++ from)
    ∙ ap (λ b. limit && b)
    (h (suc d) from ∙ ap (λ b. first && b) (k (suc d) close)
    ∙ sym (and_grouped first rest (nests_from d us)))
    ∙ sym (and_grouped limit (first && rest) (nests_from d us))

limit_grouped : (w : List ℕ) (a b c d e : List Token)
    → (a ++ (b ++ (sign sign.From ∷ (c ++ (token.name w ∷ (d ++ (sign sign.Close ∷ []))))))) ++ e
    ≡ a ++ (b ++ (sign sign.From ∷ (c ++ (token.name w ∷ (d ++ (sign sign.Close ∷ e))))))
limit_grouped w a b c d e = simp append_assoc

limit_nests : (p : Bool) (f : List ℕ) (s a : Syntax) (w : List ℕ) (b : Syntax) → NestsAs s
    → NestsAs a → NestsAs b → NestsAs (parted_for p f s a w b)
limit_nests p f s a w b h k j = λ d us.
    let limit = nat_lt d nesting_limit in
    let first = nests_behind (suc d) s in
    let second = nests_behind (suc d) a in
    let third = nests_behind (suc d) b in
    let close : List Token = sign sign.Close ∷ us in
    let word : List Token = token.name w ∷ (spelling b ++ close) in
    let from : List Token = sign sign.From ∷ (spelling a ++ word) in
    ap (nests_from d)
    (limit_grouped w (function_tokens p f) (spelling s) (spelling a) (spelling b) us)
    ∙ function_nests p f d (spelling s ++ from)
    ∙ ap (λ v. limit && v)
    (h (suc d) from
    ∙ ap (λ v. first && v)
    (k (suc d) word ∙ ap (λ v. second && v) (j (suc d) close)
    ∙ sym (and_grouped second third (nests_from d us)))
    ∙ sym (and_grouped first (second && third) (nests_from d us)))
    ∙ sym (and_grouped limit (first && (second && third)) (nests_from d us))

place_grouped : (a b c d : List Token)
    → (a ++ (b ++ (sign sign.In ∷ (c ++ (sign sign.Close ∷ []))))) ++ d
    ≡ a ++ (b ++ (sign sign.In ∷ (c ++ (sign sign.Close ∷ d))))
place_grouped a b c d = simp append_assoc

place_nests : (p : Bool) (f : List ℕ) (a b : Syntax) → NestsAs a → NestsAs b
    → NestsAs (placed p f a b)
place_nests p f a b h k = λ d us.
    let limit = nat_lt d nesting_limit in
    let first = nests_behind (suc d) a in
    let rest = nests_behind (suc d) b in
    let close : List Token = sign sign.Close ∷ us in
    let word : List Token = sign sign.In ∷ (spelling b ++ close) in
    ap (nests_from d) (place_grouped (function_tokens p f) (spelling a) (spelling b) us)
    ∙ function_nests p f d (spelling a ++ word)
    ∙ ap (λ v. limit && v)
    (h (suc d) word ∙ ap (λ v. first && v) (k (suc d) close)
    ∙ sym (and_grouped first rest (nests_from d us)))
    ∙ sym (and_grouped limit (first && rest) (nests_from d us))

trim_grouped : (s : TrimSide) (a b c : List Token)
    → (a ++ (sign (sign.Side s) ∷ sign sign.From ∷ (b ++ (sign sign.Close ∷ [])))) ++ c
    ≡ a ++ (sign (sign.Side s) ∷ sign sign.From ∷ (b ++ (sign sign.Close ∷ c)))
trim_grouped s a b c = simp append_assoc

trim_nests : (p : Bool) (f : List ℕ) (s : TrimSide) (a : Syntax) → NestsAs a
    → NestsAs (trimmed p f s a)
trim_nests p f s a k = λ d us.
    let limit = nat_lt d nesting_limit in
    let close : List Token = sign sign.Close ∷ us in
    ap (nests_from d) (trim_grouped s (function_tokens p f) (spelling a) us)
    ∙ function_nests p f d (sign (sign.Side s) ∷ sign sign.From ∷ (spelling a ++ close))
    ∙ ap (λ b. limit && b) (k (suc d) close)
    ∙ sym (and_grouped limit (nests_behind (suc d) a) (nests_from d us))

trim_by_grouped : (a b c d e : List Token)
    → (a ++ (b ++ (c ++ (sign sign.From ∷ (d ++ (sign sign.Close ∷ [])))))) ++ e
    ≡ a ++ (b ++ (c ++ (sign sign.From ∷ (d ++ (sign sign.Close ∷ e)))))
trim_by_grouped a b c d e = simp append_assoc

side_nests : (o : Option TrimSide) (d : ℕ) (us : List Token)
    → nests_from d (side_tokens o ++ us) ≡ nests_from d us
side_nests None d us = refl
side_nests (Some s) d us = refl

trim_by_nests : (p : Bool) (f : List ℕ) (o : Option TrimSide) (c a : Syntax) → NestsAs c
    → NestsAs a → NestsAs (trimmed_by p f o c a)
trim_by_nests p f o c a h k = λ d us.
    let limit = nat_lt d nesting_limit in
    let first = nests_behind (suc d) c in
    let rest = nests_behind (suc d) a in
    let close : List Token = sign sign.Close ∷ us in
    let from : List Token = sign sign.From ∷ (spelling a ++ close) in
    ap (nests_from d)
    (trim_by_grouped (function_tokens p f) (side_tokens o) (spelling c) (spelling a) us)
    ∙ function_nests p f d (side_tokens o ++ (spelling c ++ from))
    ∙ ap (λ v. limit && v)
    (side_nests o (suc d) (spelling c ++ from) ∙ h (suc d) from
    ∙ ap (λ v. first && v) (k (suc d) close)
    ∙ sym (and_grouped first rest (nests_from d us)))
    ∙ sym (and_grouped limit (first && rest) (nests_from d us))

in_nests : (n : Bool) (d : ℕ) (us : List Token)
    → nests_from d (in_tokens n ++ us) ≡ (nat_lt d nesting_limit && nests_from (suc d) us)
in_nests true d us = refl
in_nests false d us = refl

list_nests : (n : Bool) (a : Syntax) (args : Arguments) (b : Syntax) → NestsAs a → AllNestAs args
    → NestsAs b → NestsAs (listed n a args b)
list_nests n a args b h k j = λ d us.
    let limit = nat_lt d nesting_limit in
    let first = all_nest_behind (suc d) args in
    let rest = nests_behind (suc d) b in
    let close : List Token = sign sign.Close ∷ [] in
    let last : List Token = spelling b ++ (sign sign.Close ∷ us) in
    ap (nests_from d)
    (append_assoc (spelling a) (in_tokens n ++ (all_spelled args ++ (spelling b ++ close))) us
    ∙ ap (λ ts. spelling a ++ ts)
    (append_assoc (in_tokens n) (all_spelled args ++ (spelling b ++ close)) us
    ∙ ap (λ ts. in_tokens n ++ ts)
    (append_assoc (all_spelled args) (spelling b ++ close) us
    ∙ ap (λ ts. all_spelled args ++ ts) (append_assoc (spelling b) close us))))
    ∙ h d (in_tokens n ++ (all_spelled args ++ last))
    ∙ ap (λ v. nests_behind d a && v)
    (in_nests n d (all_spelled args ++ last)
    ∙ ap (λ v. limit && v)
    (k (suc d) last ∙ ap (λ v. first && v) (j (suc d) (sign sign.Close ∷ us))
    ∙ sym (and_grouped first rest (nests_from d us)))
    ∙ sym (and_grouped limit (first && rest) (nests_from d us)))
    ∙ sym (and_grouped (nests_behind d a) (limit && (first && rest)) (nests_from d us))

-- branches, and a condition with its value after tokens
abbrev BranchesNestAs : Branches → Type 0
BranchesNestAs bs = (d : ℕ) (us : List Token)
    → nests_from d (branches_spelled bs ++ us) ≡ (branches_nest_behind d bs && nests_from d us)

abbrev pair_spelled : Syntax → Syntax → List Token → List Token
pair_spelled c v us = sign sign.When ∷ (spelling c ++ (sign sign.Then ∷ (spelling v ++ us)))

pair_nests : (c v : Syntax) → NestsAs c → NestsAs v → (d : ℕ) (us : List Token)
    → nests_from d (pair_spelled c v us)
    ≡ ((nests_behind d c && nests_behind d v) && nests_from d us)
pair_nests c v h k d us =
    h d (sign sign.Then ∷ (spelling v ++ us))
    ∙ ap (λ x. nests_behind d c && x) (k d us)
    ∙ sym (and_grouped (nests_behind d c) (nests_behind d v) (nests_from d us))

branch_nests : (bs : Branches) (c v : Syntax) → BranchesNestAs bs → NestsAs c → NestsAs v
    → (d : ℕ) (us : List Token)
    → nests_from d (branches_spelled bs ++ pair_spelled c v us)
    ≡ ((branches_nest_behind d bs && (nests_behind d c && nests_behind d v)) && nests_from d us)
branch_nests bs c v h k j d us =
    h d (pair_spelled c v us)
    ∙ ap (λ x. branches_nest_behind d bs && x) (pair_nests c v k j d us)
    ∙ sym (and_grouped (branches_nest_behind d bs) (nests_behind d c && nests_behind d v)
    (nests_from d us))

-- the tokens of a last branch, and what follows it
pair_grouped : (c v : Syntax) (ts us : List Token)
    → (sign sign.When ∷ (spelling c ++ (sign sign.Then ∷ (spelling v ++ ts)))) ++ us
    ≡ pair_spelled c v (ts ++ us)
pair_grouped c v ts us =
    ap (λ xs. sign sign.When ∷ xs)
    (append_assoc (spelling c) (sign sign.Then ∷ (spelling v ++ ts)) us
    ∙ ap (λ xs. spelling c ++ (sign sign.Then ∷ xs)) (append_assoc (spelling v) ts us))

cast_opens : (p : Bool) (d : ℕ) (us : List Token)
    → nests_from d (sign (cast_sign p) ∷ us) ≡ nests_from d us
cast_opens true d us = refl
cast_opens false d us = refl

cast_nests : (p : Bool) (a : Syntax) (w : List ℕ) (n : Bool) → NestsAs a
    → NestsAs (cast p a w n)
cast_nests p a w n ia d us =
    let last : List Token = sign sign.As ∷ type_token w n ∷ sign sign.Close ∷ us in
    cast_opens p d (sign sign.Open ∷ ((spelling a ++ (sign sign.As ∷ type_token w n ∷ sign
    sign.Close ∷ [])) ++ us))
    ∙ ap (λ ts. nat_lt d nesting_limit && nests_from (suc d) ts)
    (append_assoc (spelling a) (sign sign.As ∷ type_token w n ∷ sign sign.Close ∷ []) us)
    ∙ ap (λ b. nat_lt d nesting_limit && b)
    (ia (suc d) last
    ∙ ap (λ v. nests_behind (suc d) a && v) (type_nests w n (suc d) (sign sign.Close ∷ us)))
    ∙ sym (and_grouped (nat_lt d nesting_limit) (nests_behind (suc d) a) (nests_from d us))

mutual
  pub nests_spelled : (a : Syntax) → Fits a → (d : ℕ) (us : List Token)
      → nests_from d (spelling a ++ us) ≡ (nests_behind d a && nests_from d us)
  nests_spelled (operand t) f d us = operand_nests t d us f
  nests_spelled (negative ds) f d us = refl
  nests_spelled (typed a w n) f d us =
      ap (nests_from d) (append_assoc (spelling a) (sign sign.Typed ∷ type_token w n ∷ []) us)
      ∙ nests_spelled a f.1 d (sign sign.Typed ∷ type_token w n ∷ us)
      ∙ ap (λ b. nests_behind d a && b) (type_nests w n d us)
  nests_spelled (titled w bs) f d us = refl
  nests_spelled (measured w (token.text bs) u) f d us = refl
  nests_spelled (measured w (token.number ds) u) f d us = refl
  nests_spelled (measured w t u) f d us = absurd (let k = f.1 in cc)
  nests_spelled (grouped a) f d us =
      ap (λ ts. nat_lt d nesting_limit && nests_from (suc d) ts)
      (append_assoc (spelling a) (sign sign.Close ∷ []) us)
      ∙ ap (λ b. nat_lt d nesting_limit && b) (nests_spelled a f (suc d) (sign sign.Close ∷ us))
      ∙ sym (and_grouped (nat_lt d nesting_limit) (nests_behind (suc d) a) (nests_from d us))
  nests_spelled (negated a) f d us = nests_spelled a f.1 d us
  nests_spelled (joined o a b) f d us =
      ap (nests_from d) (append_assoc (spelling a) (sign (operator_sign o) ∷ spelling b) us)
      ∙ nests_spelled a f.2 d (sign (operator_sign o) ∷ (spelling b ++ us))
      ∙ ap (λ v. nests_behind d a && v)
      (operator_nests o d (spelling b ++ us) ∙ nests_spelled b f.3 d us)
      ∙ sym (and_grouped (nests_behind d a) (nests_behind d b) (nests_from d us))
  nests_spelled (tested k n a) f d us =
      ap (nests_from d) (append_assoc (spelling a) (test_tokens k n) us)
      ∙ nests_spelled a f.1 d (test_tokens k n ++ us)
      ∙ ap (λ v. nests_behind d a && v) (test_nests k n d us)
  nests_spelled (distinct n a b) f d us =
      ap (nests_from d)
      (append_assoc (spelling a) (distinct_tokens n ++ spelling b) us
      ∙ ap (λ ts. spelling a ++ ts) (append_assoc (distinct_tokens n) (spelling b) us))
      ∙ nests_spelled a f.2 d (distinct_tokens n ++ (spelling b ++ us))
      ∙ ap (λ v. nests_behind d a && v)
      (distinct_nests n d (spelling b ++ us) ∙ nests_spelled b f.3 d us)
      ∙ sym (and_grouped (nests_behind d a) (nests_behind d b) (nests_from d us))
  nests_spelled (between k a low high) f d us =
      let upper : List Token = spelling high ++ us in
      let lower : List Token = spelling low ++ (sign sign.And ∷ upper) in
      ap (nests_from d)
      (append_assoc (spelling a)
      (between_tokens k ++ (spelling low ++ (sign sign.And ∷ spelling high))) us
      ∙ ap (λ ts. spelling a ++ ts)
      (append_assoc (between_tokens k)
      (spelling low ++ (sign sign.And ∷ spelling high)) us)
      ∙ ap (λ ts. spelling a ++ (between_tokens k ++ ts))
      (append_assoc (spelling low) (sign sign.And ∷ spelling high) us))
      ∙ nests_spelled a f.3 d (between_tokens k ++ lower)
      ∙ ap (λ v. nests_behind d a && v)
      (between_nests k.negated k.symmetric d lower ∙ nests_spelled low f.4 d (sign sign.And ∷ upper)
      ∙ ap (λ v. nests_behind d low && v) (nests_spelled high f.5 d us)
      ∙ sym (and_grouped (nests_behind d low) (nests_behind d high) (nests_from d us)))
      ∙ sym (and_grouped (nests_behind d a) (nests_behind d low && nests_behind d high)
      (nests_from d us))
  nests_spelled (matched k a p e) f d us =
      let last : List Token = escape_tokens e ++ us in
      ap (nests_from d)
      (append_assoc (spelling a) (like_sign k ++ (spelling p ++ escape_tokens e)) us
      ∙ ap (λ ts. spelling a ++ ts) (append_assoc (like_sign k) (spelling p ++ escape_tokens e) us)
      ∙ ap (λ ts. spelling a ++ (like_sign k ++ ts)) (append_assoc (spelling p) (escape_tokens e) us))
      ∙ nests_spelled a f.2 d (like_sign k ++ (spelling p ++ last))
      ∙ ap (λ v. nests_behind d a && v)
      (like_nests k.negated k.case_insensitive d (spelling p ++ last) ∙ nests_spelled p f.3 d last
      ∙ ap (λ v. nests_behind d p && v) (escape_nests e d us))
      ∙ sym (and_grouped (nests_behind d a) (nests_behind d p) (nests_from d us))
  nests_spelled (converted a w n) f d us =
      let last : List Token = sign sign.Typed ∷ type_token w n ∷ [] in
      ap (nests_from d) (append_assoc (spelling a) last us)
      ∙ nests_spelled a f.2 d (last ++ us)
      ∙ ap (λ v. nests_behind d a && v) (type_nests w n d us)
  nests_spelled (cast p a w n) f d us = cast_nests p a w n (nests_spelled a f) d us
  nests_spelled (minus a) f d us = nests_spelled a f.2 d us
  nests_spelled (plus a) f d us = nests_spelled a f.1 d us
  nests_spelled (bit_not a) f d us = nests_spelled a f.1 d us
  nests_spelled (null_tested n a) f d us =
      let last : List Token = sign (null_test_sign n) ∷ [] in
      ap (nests_from d) (append_assoc (spelling a) last us)
      ∙ nests_spelled a f.1 d (last ++ us)
      ∙ ap (λ v. nests_behind d a && v) (null_test_nests n d us)
  nests_spelled (listed n a args b) f d us =
      list_nests n a args b (nests_spelled a f.1) (all_nest args f.2) (nests_spelled b f.3) d us
  nests_spelled (chosen bs c v) f d us =
      let end : List Token = sign sign.End ∷ [] in
      ap (nests_from d)
      (append_assoc (branches_spelled bs) (pair_spelled c v end) us
      ∙ ap (λ ts. branches_spelled bs ++ ts) (pair_grouped c v end us))
      ∙ branch_nests bs c v (branches_nest bs f.0) (nests_spelled c f.1) (nests_spelled v f.2) d
      (sign sign.End ∷ us)
  nests_spelled (chosen_else bs c v e) f d us =
      let end : List Token = sign sign.End ∷ [] in
      let last : List Token = sign sign.Else ∷ (spelling e ++ end) in
      let b = branches_nest_behind d bs in
      ap (nests_from d)
      (append_assoc (branches_spelled bs) (pair_spelled c v last) us
      ∙ ap (λ ts. branches_spelled bs ++ ts)
      (pair_grouped c v last us
      ∙ ap (λ ts. pair_spelled c v (sign sign.Else ∷ ts)) (append_assoc (spelling e) end us)))
      ∙ branch_nests bs c v (branches_nest bs f.0) (nests_spelled c f.1) (nests_spelled v f.2) d
      (sign sign.Else ∷ (spelling e ++ (sign sign.End ∷ us)))
      ∙ ap (λ x. (b && (nests_behind d c && nests_behind d v)) && x)
      (nests_spelled e f.3 d (sign sign.End ∷ us))
      ∙ four_grouped b (nests_behind d c) (nests_behind d v) (nests_behind d e) (nests_from d us)
  nests_spelled (nullary true w) f d us = refl
  nests_spelled (nullary false w) f d us = refl
  nests_spelled (applied p w args a) f d us =
      call_nests p w args a (all_nest args f.0) (nests_spelled a f.1) d us
  nests_spelled (extracted p g w a) f d us = extract_nests p g w a (nests_spelled a f.1) d us
  nests_spelled (parted p g s a) f d us =
      part_nests p g s a (nests_spelled s f.1) (nests_spelled a f.2) d us
  nests_spelled (placed p g a b) f d us =
      place_nests p g a b (nests_spelled a f.2) (nests_spelled b f.3) d us
  nests_spelled (trimmed p g s a) f d us = trim_nests p g s a (nests_spelled a f.1) d us
  nests_spelled (trimmed_by p g o c a) f d us =
      trim_by_nests p g o c a (nests_spelled c f.1) (nests_spelled a f.2) d us
  nests_spelled (parted_for p g s a w b) f d us =
      limit_nests p g s a w b (nests_spelled s f.2) (nests_spelled a f.3) (nests_spelled b f.4) d us

  all_nest : (args : Arguments) → AllFit args → AllNestAs args
  all_nest no_arguments f d us = refl
  all_nest (argument args a) f d us =
      argument_nests args a (all_nest args f.0) (nests_spelled a f.1) d us

  branches_nest : (bs : Branches) → BranchesFit bs → BranchesNestAs bs
  branches_nest without_operand f d us = refl
  branches_nest (of_operand a) f d us = nests_spelled a f d us
  branches_nest (branch bs c v) f d us =
      ap (nests_from d)
      (append_assoc (branches_spelled bs)
      (sign sign.When ∷ (spelling c ++ (sign sign.Then ∷ spelling v))) us
      ∙ ap (λ ts. branches_spelled bs ++ (sign sign.When ∷ ts))
      (append_assoc (spelling c) (sign sign.Then ∷ spelling v) us))
      ∙ branch_nests bs c v (branches_nest bs f.0) (nests_spelled c f.1) (nests_spelled v f.2) d us

and_right : (b : Bool) → (b && true) ≡ b
and_right true = refl
and_right false = refl

pub nests_is : (a : Syntax) → Fits a → nests (spelling a) ≡ nests_behind 0 a
nests_is a f = ap (nests_from 0) (sym (append-nil (spelling a))) ∙ nests_spelled a f 0 []
    ∙ and_right (nests_behind 0 a)
