-- The level of the syntax of a tree, and that it fits.
use Rattle.std.proofs.Common.{◌≡◌, ℕ, zero, suc, ◌≤◌, Bool, true, false, List, [], ◌∷◌, Option}
use Rattle.std.proofs.Common.{Some, None, refl, ap, sym, subst, ◌∙◌, arith, option_map, pos, negsuc}
use Rattle.std.proofs.Common.{lit≤}
use Rattle.std.specs.Prelude.{codes, nat_le, if◌then◌else◌}
use Rattle.std.specs.Fmt.{decimal}
use Rattle.std.specs.Option.{option_and_then}
use Rattle.std.proofs.lemmas.Bool.{leb-true}
use Rattle.vortex_types.specs.LogicalTypes.{LogicalType, is_nullable}
use Rattle.vortex_types.specs.ScalarView.{ScalarView}
use Rattle.vortex_types.specs.Values.{Value, null, truth, number, text, bytes, list}
use Rattle.vortex_interface.specs.Shipped.{Shipped, Binary, Not, NullTest, Cast, Between, Like}
use Rattle.vortex_interface.specs.Functions.{ours, custom}
use Rattle.vortex_interface.specs.Trees as trees
use Rattle.vortex_interface.specs.Trees.{place, held, leaf, constant, call, no_trees}
use Rattle.vortex_interface.specs.declared.options.EmptyOptions.{EmptyOptions}
use Rattle.vortex_standard.specs.declared.standard.Standard.{Standard}
use Rattle.vortex_syntax.specs.declared.step.WrittenOperator as syntax
use Rattle.vortex_syntax.specs.declared.step.WrittenOperator.TheVariants as written
use Rattle.vortex_syntax.specs.Syntax.{Null}
use Rattle.vortex_syntax.specs.declared.token.Sign.TheVariants as sign
use Rattle.vortex_syntax.specs.Tokens as token
use Rattle.vortex_syntax.specs.Tokens.{quoted, sign}
use Rattle.vortex_syntax.specs.Syntax.{Syntax, operand, negative, typed, negated, tested, cast}
use Rattle.vortex_syntax.specs.Levels.{level, left, right, operand_level, is_operand, Fits}
use Rattle.vortex_syntax.specs.Levels.{not_level, is_level, concat_level}
use Rattle.vortex_syntax.specs.Writing.{is_bare, name_token, text_token, doubled}
use Rattle.vortex_standard.specs.Names.{name_of}
use Rattle.vortex_expressions.specs.Items.{Tree}
use Rattle.vortex_expressions.specs.Writing.{at_level, value_syntax, type_name, is_own_type}
use Rattle.vortex_expressions.specs.Writing.{of_type, literal_syntax, joined_syntax}
use Rattle.vortex_expressions.specs.Writing.{written_operator, is_within, between_syntax}
use Rattle.vortex_expressions.specs.Writing.{matched_syntax, all_three, nth, shipped_syntax}
use Rattle.vortex_expressions.specs.Writing.{syntax_of, syntaxes_of, all_present, named_syntax}
use Rattle.vortex_expressions.specs.WritingSteps.{tree_level}
use Rattle.vortex_expressions.proofs.Options.{some_is, both_is, three_is, mapped_is, where_is}
use Rattle.vortex_expressions.proofs.FunctionNames.{placeless_name}
use Rattle.vortex_expressions.proofs.NamedSyntax.{AllOf, level_named, fits_named}

abbrev Trees : Type 0
Trees = trees.Trees Standard EmptyOptions

-- literals
pub record IsLiteral (s : ScalarView) (a : Syntax) : Type 0 where
  pub value : Syntax
  pub word : List ℕ
  pub says : value_syntax s.value ≡ Some value
  pub named : type_name s.dtype ≡ Some word
  pub made : of_type s.dtype value word ≡ a

pub literal_is : (s : ScalarView) (a : Syntax) → literal_syntax s ≡ Some a → IsLiteral s a
literal_is s a e = by (value_syntax s.value) refl e
  where
    by : (o : Option Syntax) → value_syntax s.value ≡ o
        → option_and_then (λ b. option_map (of_type s.dtype b) (type_name s.dtype)) o ≡ Some a
        → IsLiteral s a
    by None h g = absurd cc
    by (Some v) h g =
        let m = mapped_is (of_type s.dtype v) (type_name s.dtype) a g in
        record { value = v; word = m.a; says = h; named = m.there; made = m.made }

-- levels
name_level : (w : List ℕ) → operand_level (name_token w) ≡ 12
name_level w = by (is_bare w)
  where
    by : (b : Bool) → operand_level (if b then token.name w else quoted (doubled 34 w)) ≡ 12
    by true = refl
    by false = refl

pub value_level : (v : Value) (a : Syntax) → value_syntax v ≡ Some a → level a ≡ 14
value_level null a e = ap level (sym (some_is (operand (sign sign.Null)) a e))
value_level (truth true) a e = ap level (sym (some_is (operand (sign sign.True)) a e))
value_level (truth false) a e = ap level (sym (some_is (operand (sign sign.False)) a e))
value_level (number (pos n)) a e = ap level (sym (some_is (operand (token.number (decimal n))) a e))
value_level (number (negsuc n)) a e = ap level (sym (some_is (negative (decimal (suc n))) a e))
value_level (text bs) a e = ap level (sym (some_is (operand (text_token bs)) a e))
value_level (bytes bs) a e = absurd cc
value_level (list vs) a e = absurd cc

literal_level_is : (t : LogicalType) (v : Syntax) (w : List ℕ) → level v ≡ 14
    → level (of_type t v w) ≡ (if is_own_type t then 14 else 13)
literal_level_is t v w h = by (is_own_type t)
  where
    by : (b : Bool) → level (if b then v else typed v w (is_nullable t)) ≡ (if b then 14 else 13)
    by true = h
    by false = refl

shipped_level_is : (s : Shipped) (os : List (Option Syntax)) (a : Syntax)
    → shipped_syntax s os ≡ Some a → level a ≡ tree_level (call (ours s) no_trees)
shipped_level_is (Binary o) os a e = let m =
    both_is (joined_syntax (written_operator o)) (nth 0 os) (nth 1 os) a e in ap level (sym m.made)
shipped_level_is Not os a e = let m =
    mapped_is (λ b. negated (at_level not_level b)) (nth 0 os) a e in ap level (sym m.made)
shipped_level_is (NullTest n) os a e = let m =
    mapped_is (λ b. tested Null n (at_level is_level b)) (nth 0 os) a e in ap level (sym m.made)
shipped_level_is Cast os a e = let m = mapped_is (λ b. cast false b (codes "bool") true) (nth 0 os) a e in
    ap level (sym m.made)
shipped_level_is (Between o) os a e =
    let h = where_is (is_within o)
    (all_three between_syntax (nth 0 os) (nth 1 os) (nth 2 os)) a e in
    let m = three_is between_syntax (nth 0 os) (nth 1 os) (nth 2 os) a h.there in
    ap level (sym m.made)
shipped_level_is (Like o) os a e = let m = both_is (matched_syntax o) (nth 0 os) (nth 1 os) a e in
    ap level (sym m.made)

pub level_is : (t : Tree) (a : Syntax) → syntax_of t ≡ Some a → level a ≡ tree_level t
level_is (leaf (place p name t)) a e = ap level (sym (some_is (operand (name_token name)) a e))
    ∙ name_level name
level_is (leaf (held c)) a e = absurd cc
level_is (constant s) a e =
    let m = literal_is s a e in
    ap level (sym m.made)
    ∙ literal_level_is s.dtype m.value m.word (value_level s.value m.value m.says)
level_is (call (ours s) ts) a e = shipped_level_is s (syntaxes_of ts) a e
level_is (call (custom f o) ts) a e = let m =
    mapped_is (named_syntax (name_of f)) (all_present (syntaxes_of ts)) a e in
    ap level (sym m.made) ∙ level_named (name_of f) m.a

-- each operand binds at least as tightly as required there
pub record FitsAt (l : ℕ) (a : Syntax) : Type 0 where
  pub high : l ≤ level (at_level l a)
  pub fits : Fits (at_level l a)

pub fits_at : (l : ℕ) (a : Syntax) → l ≤ 12 → Fits a → FitsAt l a
fits_at l a le f = by (nat_le l (level a)) refl
  where
    by : (b : Bool) → nat_le l (level a) ≡ b → FitsAt l a
    by true h = record { high = rw h (leb-true l (level a) h); fits = rw h f }
    by false h = record { high = rw h le; fits = rw h f }

left_low : (o : syntax.WrittenOperator) → left o ≤ 12
left_low written.Or = lit≤ tt
left_low written.And = lit≤ tt
left_low written.Add = lit≤ tt
left_low written.Sub = lit≤ tt
left_low written.Mul = lit≤ tt
left_low written.Div = lit≤ tt
left_low written.Mod = lit≤ tt
left_low written.Concat = lit≤ tt
left_low written.BitAnd = lit≤ tt
left_low written.BitOr = lit≤ tt
left_low written.BitXor = lit≤ tt
left_low written.ShiftLeft = lit≤ tt
left_low written.ShiftRight = lit≤ tt
left_low written.Matches = lit≤ tt
left_low written.MatchesAnyCase = lit≤ tt
left_low written.NotMatches = lit≤ tt
left_low written.NotMatchesAnyCase = lit≤ tt
left_low written.Equal = lit≤ tt
left_low written.NotEqual = lit≤ tt
left_low written.Less = lit≤ tt
left_low written.LessOrEqual = lit≤ tt
left_low written.Greater = lit≤ tt
left_low written.GreaterOrEqual = lit≤ tt

right_low : (o : syntax.WrittenOperator) → right o ≤ 12
right_low written.Or = lit≤ tt
right_low written.And = lit≤ tt
right_low written.Add = lit≤ tt
right_low written.Sub = lit≤ tt
right_low written.Mul = lit≤ tt
right_low written.Div = lit≤ tt
right_low written.Mod = lit≤ tt
right_low written.Concat = lit≤ tt
right_low written.BitAnd = lit≤ tt
right_low written.BitOr = lit≤ tt
right_low written.BitXor = lit≤ tt
right_low written.ShiftLeft = lit≤ tt
right_low written.ShiftRight = lit≤ tt
right_low written.Matches = lit≤ tt
right_low written.MatchesAnyCase = lit≤ tt
right_low written.NotMatches = lit≤ tt
right_low written.NotMatchesAnyCase = lit≤ tt
right_low written.Equal = lit≤ tt
right_low written.NotEqual = lit≤ tt
right_low written.Less = lit≤ tt
right_low written.LessOrEqual = lit≤ tt
right_low written.Greater = lit≤ tt
right_low written.GreaterOrEqual = lit≤ tt

value_fits : (v : Value) (a : Syntax) → value_syntax v ≡ Some a → Fits a
value_fits null a e = subst Fits (some_is (operand (sign sign.Null)) a e) refl
value_fits (truth true) a e = subst Fits (some_is (operand (sign sign.True)) a e) refl
value_fits (truth false) a e = subst Fits (some_is (operand (sign sign.False)) a e) refl
value_fits (number (pos n)) a e = subst Fits (some_is (operand (token.number (decimal n))) a e) refl
value_fits (number (negsuc n)) a e = subst Fits (some_is (negative (decimal (suc n))) a e) tt
value_fits (text bs) a e = subst Fits (some_is (operand (text_token bs)) a e) refl
value_fits (bytes bs) a e = absurd cc
value_fits (list vs) a e = absurd cc

name_fits : (w : List ℕ) → is_operand (name_token w) ≡ true
name_fits w = by (is_bare w)
  where
    by : (b : Bool) → is_operand (if b then token.name w else quoted (doubled 34 w)) ≡ true
    by true = refl
    by false = refl

of_type_fits : (t : LogicalType) (v : Syntax) (w : List ℕ) → level v ≡ 14 → Fits v
    → Fits (of_type t v w)
of_type_fits t v w h f = by (is_own_type t)
  where
    by : (b : Bool) → Fits (if b then v else typed v w (is_nullable t))
    by true = f
    by false = (omega (arith, h), f)

-- a property of the syntaxes of operands
abbrev pub AllSyntax : (Syntax → Type 0) → List (Option Syntax) → Type 0
AllSyntax P [] = Unit {0}
AllSyntax P (None ∷ os) = AllSyntax P os
AllSyntax P (Some a ∷ os) = P a × AllSyntax P os

pub at_place : (P : Syntax → Type 0) (k : ℕ) (os : List (Option Syntax)) (a : Syntax)
    → AllSyntax P os → nth k os ≡ Some a → P a
at_place P k [] a h e = absurd cc
at_place P zero (None ∷ os) a h e = absurd cc
at_place P (suc k) (None ∷ os) a h e = at_place P k os a h e
at_place P zero (Some b ∷ os) a h e = subst P (some_is b a e) h.0
at_place P (suc k) (Some b ∷ os) a h e = at_place P k os a h.1 e

pub with_syntax : (P : Syntax → Type 0) (o : Option Syntax) (os : List (Option Syntax))
    → ((a : Syntax) → o ≡ Some a → P a) → AllSyntax P os → AllSyntax P (o ∷ os)
with_syntax P None os h k = k
with_syntax P (Some a) os h k = (h a refl, k)

pub each_present : (P : Syntax → Type 0) (os : List (Option Syntax)) (bs : List Syntax)
    → AllSyntax P os → all_present os ≡ Some bs → AllOf P bs
each_present P [] bs h e = subst (AllOf P) (some_is [] bs e) tt
each_present P (None ∷ os) bs h e = absurd cc
each_present P (Some a ∷ os) bs h e =
    let m = mapped_is (λ xs. a ∷ xs) (all_present os) bs e in
    subst (AllOf P) m.made (h.0, each_present P os m.a h.1 m.there)

shipped_fits : (s : Shipped) (os : List (Option Syntax)) (a : Syntax) → AllSyntax Fits os
    → shipped_syntax s os ≡ Some a → Fits a
shipped_fits (Binary o) os a h e =
    let w = written_operator o in
    let m = both_is (joined_syntax w) (nth 0 os) (nth 1 os) a e in
    let x = fits_at (left w) m.a (left_low w) (at_place Fits 0 os m.a h m.first) in
    let y = fits_at (right w) m.b (right_low w) (at_place Fits 1 os m.b h m.second) in
    subst Fits m.made (x.high, y.high, x.fits, y.fits)
shipped_fits Not os a h e =
    let m = mapped_is (λ b. negated (at_level not_level b)) (nth 0 os) a e in
    let x = fits_at not_level m.a (lit≤ tt) (at_place Fits 0 os m.a h m.there) in
    subst Fits m.made (x.high, x.fits)
shipped_fits (NullTest n) os a h e =
    let m = mapped_is (λ b. tested Null n (at_level is_level b)) (nth 0 os) a e in
    let x = fits_at is_level m.a (lit≤ tt) (at_place Fits 0 os m.a h m.there) in
    subst Fits m.made (x.high, x.fits, tt)
shipped_fits Cast os a h e =
    let m = mapped_is (λ b. cast false b (codes "bool") true) (nth 0 os) a e in
    subst Fits m.made (at_place Fits 0 os m.a h m.there)
shipped_fits (Between o) os a h e =
    let g = where_is (is_within o)
    (all_three between_syntax (nth 0 os) (nth 1 os) (nth 2 os)) a e in
    let m = three_is between_syntax (nth 0 os) (nth 1 os) (nth 2 os) a g.there in
    let x = fits_at concat_level m.a (lit≤ tt) (at_place Fits 0 os m.a h m.first) in
    let y = fits_at concat_level m.b (lit≤ tt) (at_place Fits 1 os m.b h m.second) in
    let z = fits_at concat_level m.c (lit≤ tt) (at_place Fits 2 os m.c h m.third) in
    subst Fits m.made (x.high, y.high, z.high, x.fits, y.fits, z.fits)
shipped_fits (Like o) os a h e =
    let m = both_is (matched_syntax o) (nth 0 os) (nth 1 os) a e in
    let x = fits_at concat_level m.a (lit≤ tt) (at_place Fits 0 os m.a h m.first) in
    let y = fits_at concat_level m.b (lit≤ tt) (at_place Fits 1 os m.b h m.second) in
    subst Fits m.made (x.high, y.high, x.fits, y.fits)

mutual
  pub fits_of : (t : Tree) (a : Syntax) → syntax_of t ≡ Some a → Fits a
  fits_of (leaf (place p name t)) a e =
      subst Fits (some_is (operand (name_token name)) a e) (name_fits name)
  fits_of (leaf (held c)) a e = absurd cc
  fits_of (constant s) a e =
      let m = literal_is s a e in
      subst Fits m.made
      (of_type_fits s.dtype m.value m.word (value_level s.value m.value m.says)
      (value_fits s.value m.value m.says))
  fits_of (call (ours s) ts) a e = shipped_fits s (syntaxes_of ts) a (all_fit ts) e
  fits_of (call (custom f o) ts) a e = let m =
      mapped_is (named_syntax (name_of f)) (all_present (syntaxes_of ts)) a e in
      subst Fits m.made
      (fits_named (name_of f) m.a (placeless_name f)
      (each_present Fits (syntaxes_of ts) m.a (all_fit ts) m.there))

  all_fit : (ts : Trees) → AllSyntax Fits (syntaxes_of ts)
  all_fit no_trees = tt
  all_fit (trees.tree t ts) =
      with_syntax Fits (syntax_of t) (syntaxes_of ts) (fits_of t) (all_fit ts)
