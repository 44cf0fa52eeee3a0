-- The tokens of a tree are those of its parts.
use Rattle.std.specs.Prelude.{if◌then◌else◌}
use Rattle.std.proofs.Common.{◌≡◌, ℕ, suc, Bool, true, false, ◌&&◌, List, [], ◌∷◌, ◌++◌, map}
use Rattle.std.proofs.Common.{Option, Some, None, refl, ap, sym, ◌∙◌}
use Rattle.std.proofs.Common.{option_map, nat_lt}
use Rattle.std.specs.Prelude.{codes, slice_get, nat_le}
use Rattle.std.specs.Option.{option_and_then}
use Rattle.vortex_like.specs.declared.options.LikeOptions.{LikeOptions}
use Rattle.vortex_interface.specs.Shipped.{Binary, Not, NullTest, Cast, Between, Like}
use Rattle.vortex_interface.specs.Functions.{ours, custom}
use Rattle.vortex_interface.specs.Trees as trees
use Rattle.vortex_interface.specs.Trees.{call, list_of}
use Rattle.vortex_interface.specs.declared.options.EmptyOptions.{EmptyOptions}
use Rattle.vortex_standard.specs.declared.standard.Standard.{Standard}
use Rattle.vortex_syntax.specs.Nesting.{nesting_limit}
use Rattle.vortex_syntax.specs.declared.step.WrittenOperator as syntax
use Rattle.vortex_syntax.specs.Syntax.{Null}
use Rattle.vortex_syntax.specs.declared.token.Sign.TheVariants as sign
use Rattle.vortex_syntax.specs.Tokens.{Token, nullable, sign}
use Rattle.vortex_syntax.specs.Syntax.{Syntax, negated, tested, cast}
use Rattle.vortex_syntax.specs.Levels.{level, left, right, not_level, is_level, concat_level}
use Rattle.vortex_syntax.specs.Spelling.{spelling, operator_sign, like_sign}
use Rattle.vortex_expressions.specs.Writing.{null_test}
use Rattle.vortex_syntax.specs.Spelling.{escape_tokens}
use Rattle.vortex_standard.specs.Names.{name_of}
use Rattle.vortex_expressions.specs.Items.{Tree, Callable}
use Rattle.vortex_expressions.specs.Writing.{at_level, joined_syntax, written_operator, is_within}
use Rattle.vortex_expressions.specs.Writing.{between_syntax, matched_syntax, like_kind}
use Rattle.vortex_expressions.specs.Writing.{escape_written, both, all_three, nth, syntax_of}
use Rattle.vortex_expressions.specs.Writing.{syntaxes_of, all_present, named_syntax}
use Rattle.vortex_expressions.specs.WritingSteps.{nests_behind, tokens_behind, token, tree}
use Rattle.vortex_expressions.specs.WritingSteps.{joined_tokens, part_tokens, all_tokens}
use Rattle.vortex_expressions.specs.WritingSteps.{binary_parts, between_parts, like_parts}
use Rattle.vortex_expressions.specs.WritingSteps.{cast_parts, call_plan, bracket_plan}
use Rattle.vortex_expressions.specs.WritingSteps.{argument_parts}
use Rattle.vortex_expressions.proofs.JoinedTokens.{joined_none, all_append, all_signs, fused}
use Rattle.vortex_expressions.proofs.JoinedTokens.{both_none, three_none, no_third, nth_is, if_so}
use Rattle.vortex_expressions.proofs.JoinedTokens.{prefix_if, suffix_if, two_if, three_if, like_if}
use Rattle.vortex_expressions.proofs.JoinedTokens.{within_if, operand_tokens, bare_operand}
use Rattle.vortex_expressions.proofs.NamedTokens.{as_call, arguments_are, named_case, planned_case}

abbrev Trees : Type 0
Trees = trees.Trees Standard EmptyOptions

-- each form, from the syntax of its operands
binary_made : (d : ℕ) (o : syntax.WrittenOperator) (x y : Option Syntax)
    → option_and_then (tokens_behind d) (both (joined_syntax o) x y)
    ≡ joined_tokens (operand_tokens d (left o) x)
    (joined_tokens (Some (sign (operator_sign o) ∷ []))
    (joined_tokens (operand_tokens d (right o) y) (Some [])))
binary_made d o None y = refl
binary_made d o (Some a) None = sym (joined_none (operand_tokens d (left o) (Some a)))
binary_made d o (Some a) (Some b) =
    let first = at_level (left o) a in
    let second = at_level (right o) b in
    two_if (nests_behind d first) (nests_behind d second) (spelling first) (spelling second)
    (sign (operator_sign o))

binary_case : (d : ℕ) (o : syntax.WrittenOperator) (x y : Option Tree)
    → option_and_then (tokens_behind d)
    (both (joined_syntax o) (option_and_then syntax_of x) (option_and_then syntax_of y))
    ≡ option_and_then all_tokens (both (binary_parts d o) x y)
binary_case d o None y = refl
binary_case d o (Some a) None =
    ap (option_and_then (tokens_behind d)) (both_none (joined_syntax o) (syntax_of a))
binary_case d o (Some a) (Some b) = binary_made d o (syntax_of a) (syntax_of b)

not_made : (d : ℕ) (x : Option Syntax)
    → option_and_then (tokens_behind d) (option_map (λ a. negated (at_level not_level a)) x)
    ≡ joined_tokens (Some (sign sign.Not ∷ []))
    (joined_tokens (operand_tokens d not_level x) (Some []))
not_made d None = refl
not_made d (Some a) = let first = at_level not_level a in
    prefix_if (nests_behind d first) (sign sign.Not) (spelling first)

not_case : (d : ℕ) (x : Option Tree)
    → option_and_then (tokens_behind d)
    (option_map (λ a. negated (at_level not_level a)) (option_and_then syntax_of x))
    ≡ option_and_then all_tokens
    (option_map (λ t. token (sign sign.Not) ∷ tree d not_level t ∷ []) x)
not_case d None = refl
not_case d (Some t) = not_made d (syntax_of t)

test_made : (d : ℕ) (n : Bool) (x : Option Syntax)
    → option_and_then (tokens_behind d) (option_map (λ a. tested Null n (at_level is_level a)) x)
    ≡ joined_tokens (operand_tokens d is_level x) (Some (null_test n))
test_made d n None = refl
test_made d n (Some a) = let first = at_level is_level a in
    suffix_if (nests_behind d first) (spelling first) (null_test n)

test_case : (d : ℕ) (n : Bool) (x : Option Tree)
    → option_and_then (tokens_behind d)
    (option_map (λ a. tested Null n (at_level is_level a)) (option_and_then syntax_of x))
    ≡ option_and_then all_tokens (option_map (λ t. tree d is_level t ∷ map token (null_test n)) x)
test_case d n None = refl
test_case d n (Some t) = test_made d n (syntax_of t)
    ∙ ap (joined_tokens (part_tokens (tree d is_level t))) (sym (all_signs (null_test n)))

abbrev cast_end : List Token
cast_end = sign sign.As ∷ nullable (codes "bool") ∷ sign sign.Close ∷ []

abbrev cast_begin : List Token
cast_begin = sign sign.Cast ∷ sign sign.Open ∷ []

-- tokens before and after a tree in brackets
enclosed : (d : ℕ) (xs ys : List Token) (t : Tree)
    → all_tokens (map token xs ++ (tree (suc d) 0 t ∷ map token ys)) ≡ joined_tokens (Some xs)
    (joined_tokens (option_and_then (tokens_behind (suc d)) (syntax_of t)) (Some ys))
enclosed d xs ys t =
    all_append (map token xs) (tree (suc d) 0 t ∷ map token ys)
    ∙ ap (λ o. joined_tokens o
    (joined_tokens (part_tokens (tree (suc d) 0 t)) (all_tokens (map token ys)))) (all_signs xs)
    ∙ ap (λ o. joined_tokens (Some xs) (joined_tokens (part_tokens (tree (suc d) 0 t)) o))
    (all_signs ys)
    ∙ ap (λ o. joined_tokens (Some xs) (joined_tokens o (Some ys)))
    (bare_operand (suc d) (syntax_of t))

enclosed_made : (b : Bool) (d : ℕ) (xs ys : List Token) (x : Option Syntax)
    → option_and_then (λ a. if_so (b && nests_behind (suc d) a) (xs ++ (spelling a ++ ys))) x
    ≡ (if b then joined_tokens (Some xs)
    (joined_tokens (option_and_then (tokens_behind (suc d)) x) (Some ys)) else None)
enclosed_made true d xs ys None = refl
enclosed_made false d xs ys None = refl
enclosed_made b d xs ys (Some a) = within_if b (nests_behind (suc d) a) (spelling a) xs ys

enclosed_case : (b : Bool) (d : ℕ) (xs ys : List Token) (t : Tree)
    → option_and_then (λ a. if_so (b && nests_behind (suc d) a) (xs ++ (spelling a ++ ys)))
    (syntax_of t)
    ≡ option_and_then all_tokens
    (if b then Some (map token xs ++ (tree (suc d) 0 t ∷ map token ys)) else None)
enclosed_case true d xs ys t = enclosed_made true d xs ys (syntax_of t) ∙ sym (enclosed d xs ys t)
enclosed_case false d xs ys t = enclosed_made false d xs ys (syntax_of t)

cast_case : (b : Bool) (d : ℕ) (x : Option Tree)
    → option_and_then
    (λ a. if_so (b && nests_behind (suc d) a) (cast_begin ++ (spelling a ++ cast_end)))
    (option_and_then syntax_of x)
    ≡ option_and_then all_tokens (if b then option_map (cast_parts d) x else None)
cast_case true d None = refl
cast_case false d None = refl
cast_case true d (Some t) = enclosed_case true d cast_begin cast_end t
cast_case false d (Some t) = enclosed_case false d cast_begin cast_end t

between_made : (d : ℕ) (x y z : Option Syntax)
    → option_and_then (tokens_behind d) (all_three between_syntax x y z)
    ≡ joined_tokens (operand_tokens d concat_level x)
    (joined_tokens (Some (sign sign.Between ∷ [])) (joined_tokens (operand_tokens d concat_level y)
    (joined_tokens (Some (sign sign.And ∷ []))
    (joined_tokens (operand_tokens d concat_level z) (Some [])))))
between_made d None y z = refl
between_made d (Some a) None z = sym (joined_none (operand_tokens d concat_level (Some a)))
between_made d (Some a) (Some b) None =
    sym (ap (λ o. joined_tokens (operand_tokens d concat_level (Some a))
    (joined_tokens (Some (sign sign.Between ∷ [])) o))
    (joined_none (operand_tokens d concat_level (Some b)))
    ∙ joined_none (operand_tokens d concat_level (Some a)))
between_made d (Some a) (Some b) (Some c) =
    let first = at_level concat_level a in
    let second = at_level concat_level b in
    let third = at_level concat_level c in
    three_if (nests_behind d first) (nests_behind d second) (nests_behind d third) (spelling first)
    (spelling second) (spelling third) (sign sign.Between) (sign sign.And)

three_case : (d : ℕ) (x y z : Option Tree)
    → option_and_then (tokens_behind d)
    (all_three between_syntax (option_and_then syntax_of x) (option_and_then syntax_of y)
    (option_and_then syntax_of z))
    ≡ option_and_then all_tokens (all_three (between_parts d) x y z)
three_case d None y z = refl
three_case d (Some a) None z =
    ap (option_and_then (tokens_behind d))
    (three_none between_syntax (syntax_of a) (option_and_then syntax_of z))
three_case d (Some a) (Some b) None =
    ap (option_and_then (tokens_behind d)) (no_third between_syntax (syntax_of a) (syntax_of b))
three_case d (Some a) (Some b) (Some c) = between_made d (syntax_of a) (syntax_of b) (syntax_of c)

between_case : (b : Bool) (d : ℕ) (x y z : Option Tree)
    → option_and_then (tokens_behind d)
    (if b then all_three between_syntax (option_and_then syntax_of x) (option_and_then syntax_of y)
    (option_and_then syntax_of z) else None)
    ≡ option_and_then all_tokens (if b then all_three (between_parts d) x y z else None)
between_case true d x y z = three_case d x y z
between_case false d x y z = refl

like_made : (d : ℕ) (o : LikeOptions) (x y : Option Syntax)
    → option_and_then (tokens_behind d) (both (matched_syntax o) x y)
    ≡ joined_tokens (operand_tokens d concat_level x)
    (joined_tokens (Some (like_sign (like_kind o)))
    (joined_tokens (operand_tokens d concat_level y)
    (Some (escape_tokens (escape_written o.escape)))))
like_made d o None y = refl
like_made d o (Some a) None = sym (joined_none (operand_tokens d concat_level (Some a)))
like_made d o (Some a) (Some p) =
    let first = at_level concat_level a in
    let second = at_level concat_level p in
    like_if (nests_behind d first) (nests_behind d second) (spelling first)
    (like_sign (like_kind o)) (spelling second) (escape_tokens (escape_written o.escape))

like_tokens : (d : ℕ) (o : LikeOptions) (a p : Tree)
    → all_tokens (like_parts d o a p)
    ≡ joined_tokens (part_tokens (tree d concat_level a))
    (joined_tokens (Some (like_sign (like_kind o)))
    (joined_tokens (part_tokens (tree d concat_level p))
    (Some (escape_tokens (escape_written o.escape)))))
like_tokens d o a p =
    let ls = like_sign (like_kind o) in
    let es = escape_tokens (escape_written o.escape) in
    let first = part_tokens (tree d concat_level a) in
    let second = part_tokens (tree d concat_level p) in
    ap (joined_tokens first)
    (all_append (map token ls) (tree d concat_level p ∷ map token es)
    ∙ ap (λ o. joined_tokens o (joined_tokens second (all_tokens (map token es)))) (all_signs ls)
    ∙ ap (λ o. joined_tokens (Some ls) (joined_tokens second o)) (all_signs es))

like_case : (d : ℕ) (o : LikeOptions) (x y : Option Tree)
    → option_and_then (tokens_behind d)
    (both (matched_syntax o) (option_and_then syntax_of x) (option_and_then syntax_of y))
    ≡ option_and_then all_tokens (both (like_parts d o) x y)
like_case d o None y = refl
like_case d o (Some a) None =
    ap (option_and_then (tokens_behind d)) (both_none (matched_syntax o) (syntax_of a))
like_case d o (Some a) (Some p) = like_made d o (syntax_of a) (syntax_of p)
    ∙ sym (like_tokens d o a p)

-- a call's tokens are those of its parts
pub call_tokens : (d : ℕ) (f : Callable) (ts : Trees)
    → option_and_then (tokens_behind d) (syntax_of (call f ts)) ≡ option_and_then all_tokens
    (call_plan d f (list_of ts))
call_tokens d (ours (Binary o)) ts =
    ap (λ x. option_and_then (tokens_behind d)
    (both (joined_syntax (written_operator o)) x (nth 1 (syntaxes_of ts)))) (nth_is ts 0)
    ∙ ap (λ y. option_and_then (tokens_behind d)
    (both (joined_syntax (written_operator o))
    (option_and_then syntax_of (slice_get (list_of ts) 0)) y)) (nth_is ts 1)
    ∙ binary_case d (written_operator o) (slice_get (list_of ts) 0) (slice_get (list_of ts) 1)
call_tokens d (ours Not) ts =
    ap (λ x. option_and_then (tokens_behind d) (option_map (λ a. negated (at_level not_level a)) x))
    (nth_is ts 0) ∙ not_case d (slice_get (list_of ts) 0)
call_tokens d (ours (NullTest n)) ts =
    ap (λ x. option_and_then (tokens_behind d) (option_map (λ a. tested Null n (at_level is_level a)) x))
    (nth_is ts 0) ∙ test_case d n (slice_get (list_of ts) 0)
call_tokens d (ours Cast) ts =
    ap (λ x. option_and_then (tokens_behind d) (option_map (λ a. cast false a (codes "bool") true) x))
    (nth_is ts 0)
    ∙ fused (tokens_behind d) (λ a. cast false a (codes "bool") true)
    (option_and_then syntax_of (slice_get (list_of ts) 0))
    ∙ cast_case (nat_lt d nesting_limit) d (slice_get (list_of ts) 0)
call_tokens d (ours (Between o)) ts =
    ap (λ x. option_and_then (tokens_behind d)
    (if is_within o then all_three between_syntax x (nth 1 (syntaxes_of ts))
    (nth 2 (syntaxes_of ts)) else None)) (nth_is ts 0)
    ∙ ap (λ y. option_and_then (tokens_behind d)
    (if is_within o then all_three between_syntax
    (option_and_then syntax_of (slice_get (list_of ts) 0)) y
    (nth 2 (syntaxes_of ts)) else None)) (nth_is ts 1)
    ∙ ap (λ z. option_and_then (tokens_behind d)
    (if is_within o then all_three between_syntax
    (option_and_then syntax_of (slice_get (list_of ts) 0))
    (option_and_then syntax_of (slice_get (list_of ts) 1)) z else None)) (nth_is ts 2)
    ∙ between_case (is_within o) d (slice_get (list_of ts) 0) (slice_get (list_of ts) 1)
    (slice_get (list_of ts) 2)
call_tokens d (ours (Like o)) ts =
    ap (λ x. option_and_then (tokens_behind d) (both (matched_syntax o) x (nth 1 (syntaxes_of ts))))
    (nth_is ts 0)
    ∙ ap (λ y. option_and_then (tokens_behind d)
    (both (matched_syntax o) (option_and_then syntax_of (slice_get (list_of ts) 0)) y))
    (nth_is ts 1)
    ∙ like_case d o (slice_get (list_of ts) 0) (slice_get (list_of ts) 1)
call_tokens d (custom f o) ts =
    let w = name_of f in
    fused (tokens_behind d) (named_syntax w) (all_present (syntaxes_of ts))
    ∙ named_case d w (all_present (syntaxes_of ts))
    ∙ planned_case (nat_lt d nesting_limit) w (argument_parts (suc d) (list_of ts))
    (option_and_then (as_call (suc d)) (all_present (syntaxes_of ts))) (arguments_are (suc d) ts)

-- a tree's tokens, in brackets and without
abbrev open_only : List Token
open_only = sign sign.Open ∷ []

abbrev close_only : List Token
close_only = sign sign.Close ∷ []

pub bracket_tokens : (d l : ℕ) (t : Tree)
    → ((a : Syntax) → syntax_of t ≡ Some a → nat_le l (level a) ≡ false)
    → part_tokens (tree d l t) ≡ option_and_then all_tokens (bracket_plan d t)
bracket_tokens d l t h = by (syntax_of t) refl
    ∙ enclosed_case (nat_lt d nesting_limit) d open_only close_only t
  where
    by : (o : Option Syntax) → syntax_of t ≡ o
        → operand_tokens d l o
        ≡ option_and_then
        (λ a. if_so (nat_lt d nesting_limit && nests_behind (suc d) a)
        (open_only ++ (spelling a ++ close_only))) o
    by None e = refl
    by (Some a) e = let low = h a e in rw low refl

pub bare_tokens : (d l : ℕ) (t : Tree)
    → ((a : Syntax) → syntax_of t ≡ Some a → nat_le l (level a) ≡ true)
    → part_tokens (tree d l t) ≡ option_and_then (tokens_behind d) (syntax_of t)
bare_tokens d l t h = by (syntax_of t) refl
  where
    by : (o : Option Syntax) → syntax_of t ≡ o
        → operand_tokens d l o ≡ option_and_then (tokens_behind d) o
    by None e = refl
    by (Some a) e = let high = h a e in rw high refl

pub zero_tokens : (d : ℕ) (t : Tree)
    → part_tokens (tree d 0 t) ≡ option_and_then (tokens_behind d) (syntax_of t)
zero_tokens d t = bare_operand d (syntax_of t)
