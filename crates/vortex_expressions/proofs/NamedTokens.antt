-- The tokens of a call by its name are those of its parts.
use Rattle.std.specs.Prelude.{if◌then◌else◌}
use Rattle.std.proofs.Common.{◌≡◌, ℕ, suc, Bool, true, false, ◌&&◌, List, [], ◌∷◌, ◌++◌}
use Rattle.std.proofs.Common.{Option, Some, None, refl, ap, sym, ◌∙◌}
use Rattle.std.proofs.Common.{option_map, nat_lt}
use Rattle.std.specs.Option.{option_and_then}
use Rattle.vortex_interface.specs.Trees as trees
use Rattle.vortex_interface.specs.Trees.{call, no_trees, list_of}
use Rattle.vortex_interface.specs.declared.options.EmptyOptions.{EmptyOptions}
use Rattle.vortex_standard.specs.declared.standard.Standard.{Standard}
use Rattle.vortex_syntax.specs.Nesting.{nesting_limit}
use Rattle.vortex_syntax.specs.declared.token.Sign.TheVariants as sign
use Rattle.vortex_syntax.specs.Tokens.{Token, function, sign}
use Rattle.vortex_syntax.specs.Syntax.{Syntax}
use Rattle.vortex_syntax.specs.Spelling.{spelling}
use Rattle.vortex_expressions.specs.Writing.{syntax_of}
use Rattle.vortex_expressions.specs.Writing.{syntaxes_of, all_present, named_syntax}
use Rattle.vortex_expressions.specs.WritingSteps.{nests_behind, tokens_behind, Part, token}
use Rattle.vortex_expressions.specs.WritingSteps.{joined_tokens, all_tokens}
use Rattle.vortex_expressions.specs.WritingSteps.{more_parts}
use Rattle.vortex_expressions.specs.WritingSteps.{argument_parts}
use Rattle.vortex_expressions.proofs.NamedSyntax.{spelled_from, call_spelled, spelling_named}
use Rattle.vortex_expressions.proofs.NamedSyntax.{nest_from, call_nests, nests_named}
use Rattle.vortex_expressions.proofs.JoinedTokens.{joined_none, if_so, suffix_if, bare_operand}

abbrev Trees : Type 0
Trees = trees.Trees Standard EmptyOptions

-- a call by its name: the tokens after its first argument, from the syntax of the others
abbrev comma_only : List Token
comma_only = sign sign.Comma ∷ []

abbrev close_bracket : List Token
close_bracket = sign sign.Close ∷ []

abbrev more_tokens : ℕ → List (Option Syntax) → Option (List Token)
more_tokens d [] = Some close_bracket
more_tokens d (o ∷ os) =
    joined_tokens (Some comma_only)
    (joined_tokens (option_and_then (tokens_behind d) o) (more_tokens d os))

more_are : (d : ℕ) (ts : Trees) → all_tokens (more_parts d (list_of ts)) ≡ more_tokens d (syntaxes_of ts)
more_are d no_trees = refl
more_are d (trees.tree t ts) =
    ap (λ o. joined_tokens (Some comma_only) (joined_tokens o (all_tokens (more_parts d (list_of ts)))))
    (bare_operand d (syntax_of t))
    ∙ ap (λ o. joined_tokens (Some comma_only)
    (joined_tokens (option_and_then (tokens_behind d) (syntax_of t)) o)) (more_are d ts)

abbrev as_more : ℕ → List Syntax → Option (List Token)
as_more d [] = Some close_bracket
as_more d (b ∷ bs) = if_so (nest_from d b bs) (sign sign.Comma ∷ spelled_from b bs)

comma_if : (p q : Bool) (ts us : List Token)
    → joined_tokens (Some comma_only)
    (joined_tokens (if_so p ts) (if_so q (sign sign.Comma ∷ us)))
    ≡ if_so (p && q) (sign sign.Comma ∷ (ts ++ (sign sign.Comma ∷ us)))
comma_if true true ts us = refl
comma_if true false ts us = refl
comma_if false q ts us = refl

comma_close : (p : Bool) (ts : List Token)
    → joined_tokens (Some comma_only) (joined_tokens (if_so p ts) (Some close_bracket))
    ≡ if_so p (sign sign.Comma ∷ (ts ++ close_bracket))
comma_close true ts = refl
comma_close false ts = refl

one_more : (d : ℕ) (a : Syntax) (o : Option (List Syntax))
    → joined_tokens (Some comma_only)
    (joined_tokens (tokens_behind d a) (option_and_then (as_more d) o))
    ≡ option_and_then (as_more d) (option_map (λ bs. a ∷ bs) o)
one_more d a None = ap (joined_tokens (Some comma_only)) (joined_none (tokens_behind d a))
one_more d a (Some []) = comma_close (nests_behind d a) (spelling a)
one_more d a (Some (b ∷ bs)) =
    comma_if (nests_behind d a) (nest_from d b bs) (spelling a) (spelled_from b bs)

more_present : (d : ℕ) (os : List (Option Syntax))
    → more_tokens d os ≡ option_and_then (as_more d) (all_present os)
more_present d [] = refl
more_present d (None ∷ os) = refl
more_present d (Some a ∷ os) =
    ap (λ o. joined_tokens (Some comma_only) (joined_tokens (tokens_behind d a) o))
    (more_present d os)
    ∙ one_more d a (all_present os)

-- and those of all arguments
abbrev pub as_call : ℕ → List Syntax → Option (List Token)
as_call d bs = if_so (call_nests d bs) (call_spelled bs)

first_if : (p q : Bool) (ts us : List Token)
    → joined_tokens (if_so p ts) (if_so q us) ≡ if_so (p && q) (ts ++ us)
first_if true true ts us = refl
first_if true false ts us = refl
first_if false q ts us = refl

first_more : (d : ℕ) (x : Option Syntax) (o : Option (List Syntax)) (os : List (Option Syntax))
    → all_present os ≡ o
    → joined_tokens (option_and_then (tokens_behind d) x) (option_and_then (as_more d) o)
    ≡ option_and_then (as_call d) (all_present (x ∷ os))
first_more d None o os e = refl
first_more d (Some a) None os e = rw e (joined_none (tokens_behind d a))
first_more d (Some a) (Some []) os e =
    rw e (sym (suffix_if (nests_behind d a) (spelling a) close_bracket))
first_more d (Some a) (Some (b ∷ bs)) os e =
    rw e (first_if (nests_behind d a) (nest_from d b bs) (spelling a)
    (sign sign.Comma ∷ spelled_from b bs))

pub arguments_are : (d : ℕ) (ts : Trees)
    → option_and_then (as_call d) (all_present (syntaxes_of ts))
    ≡ all_tokens (argument_parts d (list_of ts))
arguments_are d no_trees = refl
arguments_are d (trees.tree t ts) =
    sym (ap (λ o. joined_tokens o (all_tokens (more_parts d (list_of ts))))
    (bare_operand d (syntax_of t))
    ∙ ap (joined_tokens (option_and_then (tokens_behind d) (syntax_of t)))
    (more_are d ts ∙ more_present d (syntaxes_of ts))
    ∙ first_more d (syntax_of t) (all_present (syntaxes_of ts)) (syntaxes_of ts) refl)

named_if : (p q : Bool) (w : List ℕ) (ts : List Token)
    → if_so (p && q) (function w ∷ ts)
    ≡ (if p then joined_tokens (Some (function w ∷ [])) (if_so q ts) else None)
named_if true true w ts = refl
named_if true false w ts = refl
named_if false q w ts = refl

named_tokens : (d : ℕ) (w : List ℕ) (bs : List Syntax)
    → tokens_behind d (named_syntax w bs)
    ≡ (if nat_lt d nesting_limit
    then joined_tokens (Some (function w ∷ [])) (as_call (suc d) bs) else None)
named_tokens d w bs =
    ap (λ p. if_so p (spelling (named_syntax w bs))) (nests_named d w bs)
    ∙ ap (if_so (nat_lt d nesting_limit && call_nests (suc d) bs)) (spelling_named w bs)
    ∙ named_if (nat_lt d nesting_limit) (call_nests (suc d) bs) w (call_spelled bs)

none_if : (p : Bool) (w : List ℕ)
    → None ≡ (if p then joined_tokens (Some (function w ∷ [])) None else None)
none_if true w = refl
none_if false w = refl

pub named_case : (d : ℕ) (w : List ℕ) (o : Option (List Syntax))
    → option_and_then (λ bs. tokens_behind d (named_syntax w bs)) o
    ≡ (if nat_lt d nesting_limit
    then joined_tokens (Some (function w ∷ [])) (option_and_then (as_call (suc d)) o) else None)
named_case d w None = none_if (nat_lt d nesting_limit) w
named_case d w (Some bs) = named_tokens d w bs

pub planned_case : (p : Bool) (w : List ℕ) (ps : List Part) (o : Option (List Token))
    → o ≡ all_tokens ps
    → (if p then joined_tokens (Some (function w ∷ [])) o else None)
    ≡ option_and_then all_tokens (if p then Some (token (function w) ∷ ps) else None)
planned_case true w ps o e = ap (joined_tokens (Some (function w ∷ []))) e
planned_case false w ps o e = refl
