-- Tokens of parts, joined if each is present.
use Rattle.std.specs.Prelude.{if◌then◌else◌}
use Rattle.std.proofs.Common.{◌≡◌, ℕ, zero, suc, Bool, true, false, ◌&&◌, List, [], ◌∷◌, ◌++◌, map}
use Rattle.std.proofs.Common.{Option, Some, None, refl, ap, sym, ◌∙◌, append_assoc, arith}
use Rattle.std.proofs.Common.{option_map}
use Rattle.std.specs.Prelude.{slice_get, nat_le}
use Rattle.std.specs.Option.{option_and_then}
use Rattle.std.proofs.lemmas.List.{append-nil}
use Rattle.std.proofs.lemmas.Bool.{le-leb}
use Rattle.vortex_interface.specs.Trees as trees
use Rattle.vortex_interface.specs.Trees.{no_trees, list_of}
use Rattle.vortex_interface.specs.declared.options.EmptyOptions.{EmptyOptions}
use Rattle.vortex_standard.specs.declared.standard.Standard.{Standard}
use Rattle.vortex_syntax.specs.Tokens.{Token}
use Rattle.vortex_syntax.specs.Syntax.{Syntax}
use Rattle.vortex_syntax.specs.Levels.{level}
use Rattle.vortex_expressions.specs.Writing.{at_level}
use Rattle.vortex_expressions.specs.Writing.{both, all_three, nth, syntax_of}
use Rattle.vortex_expressions.specs.Writing.{syntaxes_of}
use Rattle.vortex_expressions.specs.WritingSteps.{tokens_behind, Part, token}
use Rattle.vortex_expressions.specs.WritingSteps.{joined_tokens, part_tokens, all_tokens}

abbrev Trees : Type 0
Trees = trees.Trees Standard EmptyOptions

-- tokens after others
abbrev pub behind : List Token → Option (List Token) → Option (List Token)
behind ts o = option_map (λ us. ts ++ us) o

pub joined_none : (o : Option (List Token)) → joined_tokens o None ≡ None
joined_none None = refl
joined_none (Some ts) = refl

pub joined_nil : (o : Option (List Token)) → joined_tokens o (Some []) ≡ o
joined_nil None = refl
joined_nil (Some ts) = ap (λ us. Some us) (append-nil ts)

pub joined_empty : (o : Option (List Token)) → joined_tokens (Some []) o ≡ o
joined_empty None = refl
joined_empty (Some ts) = refl

pub behind_nil : (o : Option (List Token)) → behind [] o ≡ o
behind_nil None = refl
behind_nil (Some ts) = refl

pub joined_behind : (ts : List Token) (a b : Option (List Token))
    → joined_tokens (behind ts a) b ≡ behind ts (joined_tokens a b)
joined_behind ts None b = refl
joined_behind ts (Some us) None = refl
joined_behind ts (Some us) (Some vs) = ap (λ ws. Some ws) (append_assoc ts us vs)

pub behind_twice : (ts us : List Token) (o : Option (List Token))
    → behind ts (behind us o) ≡ behind (ts ++ us) o
behind_twice ts us None = refl
behind_twice ts us (Some vs) = ap (λ ws. Some ws) (sym (append_assoc ts us vs))

pub joined_assoc : (a b c : Option (List Token))
    → joined_tokens (joined_tokens a b) c ≡ joined_tokens a (joined_tokens b c)
joined_assoc None b c = refl
joined_assoc (Some ts) None c = refl
joined_assoc (Some ts) (Some bs) None = refl
joined_assoc (Some ts) (Some bs) (Some cs) = ap (λ ws. Some ws) (append_assoc ts bs cs)

pub all_append : (ps qs : List Part)
    → all_tokens (ps ++ qs) ≡ joined_tokens (all_tokens ps) (all_tokens qs)
all_append [] qs = sym (joined_empty (all_tokens qs))
all_append (p ∷ ps) qs = ap (joined_tokens (part_tokens p)) (all_append ps qs)
    ∙ sym (joined_assoc (part_tokens p) (all_tokens ps) (all_tokens qs))

pub all_signs : (ts : List Token) → all_tokens (map token ts) ≡ Some ts
all_signs [] = refl
all_signs (t ∷ ts) = ap (joined_tokens (Some (t ∷ []))) (all_signs ts)

-- options with a consequence
pub fused : {A B C : Type 0} (f : B → Option C) (g : A → B) (o : Option A)
    → option_and_then f (option_map g o) ≡ option_and_then (λ a. f (g a)) o
fused f g None = refl
fused f g (Some a) = refl

pub both_none : {A B : Type 0} (f : A → A → B) (x : Option A) → both f x None ≡ None
both_none f None = refl
both_none f (Some a) = refl

pub three_none : {A B : Type 0} (f : A → A → A → B) (x z : Option A) → all_three f x None z ≡ None
three_none f None z = refl
three_none f (Some a) z = refl

pub no_third : {A B : Type 0} (f : A → A → A → B) (x y : Option A) → all_three f x y None ≡ None
no_third f None y = refl
no_third f (Some a) None = refl
no_third f (Some a) (Some b) = refl

pub at_zero : (a : Syntax) → at_level 0 a ≡ a
at_zero a = let low : nat_le 0 (level a) ≡ true = le-leb 0 (level a) (omega arith) in rw low refl

-- the operands at their places
pub nth_is : (ts : Trees) (k : ℕ)
    → nth k (syntaxes_of ts) ≡ option_and_then syntax_of (slice_get (list_of ts) k)
nth_is no_trees k = refl
nth_is (trees.tree t ts) zero = refl
nth_is (trees.tree t ts) (suc k) = nth_is ts k

-- texts of parts, if each is present
abbrev pub if_so : Bool → List Token → Option (List Token)
if_so b ts = if b then Some ts else None

pub prefix_if : (p : Bool) (t : Token) (ts : List Token)
    → if_so p (t ∷ ts) ≡ joined_tokens (Some (t ∷ [])) (joined_tokens (if_so p ts) (Some []))
prefix_if true t ts = ap (λ ys. Some (t ∷ ys)) (sym (append-nil ts))
prefix_if false t ts = refl

pub suffix_if : (p : Bool) (ts bs : List Token)
    → if_so p (ts ++ bs) ≡ joined_tokens (if_so p ts) (Some bs)
suffix_if true ts bs = refl
suffix_if false ts bs = refl

pub two_if : (p q : Bool) (ts bs : List Token) (t : Token)
    → if_so (p && q) (ts ++ (t ∷ bs)) ≡ joined_tokens (if_so p ts)
    (joined_tokens (Some (t ∷ [])) (joined_tokens (if_so q bs) (Some [])))
two_if true true ts bs t = ap (λ ys. Some (ts ++ (t ∷ ys))) (sym (append-nil bs))
two_if true false ts bs t = refl
two_if false q ts bs t = refl

pub three_if : (p q r : Bool) (ts bs cs : List Token) (t u : Token)
    → if_so (p && (q && r)) (ts ++ ((t ∷ []) ++ (bs ++ (u ∷ cs))))
    ≡ joined_tokens (if_so p ts)
    (joined_tokens (Some (t ∷ []))
    (joined_tokens (if_so q bs)
    (joined_tokens (Some (u ∷ [])) (joined_tokens (if_so r cs) (Some [])))))
three_if true true true ts bs cs t u =
    ap (λ ys. Some (ts ++ (t ∷ (bs ++ (u ∷ ys))))) (sym (append-nil cs))
three_if true true false ts bs cs t u = refl
three_if true false r ts bs cs t u = refl
three_if false q r ts bs cs t u = refl

pub like_if : (p q : Bool) (ts ls bs es : List Token)
    → if_so (p && q) (ts ++ (ls ++ (bs ++ es))) ≡ joined_tokens (if_so p ts)
    (joined_tokens (Some ls) (joined_tokens (if_so q bs) (Some es)))
like_if true true ts ls bs es = refl
like_if true false ts ls bs es = refl
like_if false q ts ls bs es = refl

pub within_if : (b p : Bool) (ts : List Token) (xs ys : List Token)
    → if_so (b && p) (xs ++ (ts ++ ys))
    ≡ (if b then joined_tokens (Some xs) (joined_tokens (if_so p ts) (Some ys)) else None)
within_if true true ts xs ys = refl
within_if true false ts xs ys = refl
within_if false p ts xs ys = refl

-- an operand at a level, and without one
abbrev pub operand_tokens : ℕ → ℕ → Option Syntax → Option (List Token)
operand_tokens d l o = option_and_then (λ a. tokens_behind d (at_level l a)) o

pub bare_operand : (d : ℕ) (x : Option Syntax)
    → operand_tokens d 0 x ≡ option_and_then (tokens_behind d) x
bare_operand d None = refl
bare_operand d (Some a) = ap (tokens_behind d) (at_zero a)
