-- Results of the calls that write columns, literals and trees.
use Rattle.std.proofs.Common.{◌≡◌, ◌≢◌, ℕ, suc, ◌<◌, ◌≤◌, Bool, true, false, List, [], ◌∷◌, Option}
use Rattle.std.proofs.Common.{Some, None, Result, Ok, Err, refl, ap, sym, subst, ◌∙◌, arith}
use Rattle.std.proofs.Common.{option_map, ℤ, pos, negsuc, string_bytes, lit<}
use Rattle.std.specs.Prelude.{MatchOption, String, if◌then◌else◌}
use Rattle.std.specs.Borrow.{Bor}
use Rattle.std.specs.declared.alloc.Global.{Global}
use Rattle.std.specs.Int.RustNames.{unsigned_abs}
use Rattle.std.specs.Fmt.{decimal}
use Rattle.std.specs.Option.{option_and_then}
use Rattle.std.proofs.lemmas.Int.{ints}
use lib.Signed.{lt_z}
use Rattle.vortex_errors.specs.declared.error.VortexError.{VortexError}
use Rattle.vortex_errors.specs.Answers.{AnswersUnlessMemory}
use Rattle.vortex_types.specs.LogicalTypes.{is_nullable}
use Rattle.vortex_types.specs.ScalarView.{ScalarView}
use Rattle.vortex_types.specs.Values as value
use Rattle.vortex_types.specs.Values.{Value}
use Rattle.vortex_interface.specs.Trees.{Leaf, place, held, leaf, constant, call, called, literal}
use Rattle.vortex_interface.specs.Trees.{children_of, list_of}
use Rattle.vortex_functions.specs.Binding.{IsLeafAt}
use Rattle.vortex_functions.specs.Texts.{IsTextOf}
use Rattle.vortex_syntax.specs.declared.token.Sign.TheVariants as sign
use Rattle.vortex_syntax.specs.declared.writing.Writer.{Writer}
use Rattle.vortex_syntax.specs.Tokens as token
use Rattle.vortex_syntax.specs.Tokens.{Token, sign}
use Rattle.vortex_syntax.specs.Syntax.{Syntax, operand, negative, typed}
use Rattle.vortex_syntax.specs.Spelling.{spelling}
use Rattle.vortex_syntax.specs.Writing.{name_token, text_token, Adds}
use Rattle.vortex_expressions.specs.declared.tasks.TreeWriter.{TreeWriter}
use Rattle.vortex_expressions.specs.Items.{Tree, Callable}
use Rattle.vortex_expressions.specs.Writing.{number_syntax, value_syntax, is_own_type}
use Rattle.vortex_expressions.specs.Writing.{literal_syntax, leaf_syntax}
use Rattle.vortex_expressions.specs.WritingSteps.{tree_level, nests_behind, tokens_behind, Part}
use Rattle.vortex_expressions.specs.WritingSteps.{tree, tasks_in, part_tokens, call_plan}
use Rattle.vortex_expressions.specs.WritingSteps.{bracket_plan, Plans, PushesIf, literal_tokens}
use Rattle.vortex_expressions.specs.WritingSteps.{column_tokens, Goes, Steps}
use Rattle.vortex_expressions.proofs.Options.{some_is}
use Rattle.vortex_expressions.proofs.SyntaxLevels.{literal_is}
use Rattle.vortex_expressions.proofs.PartTokens.{zero_tokens}
use Rattle.vortex_expressions.proofs.Walked.{pushes_one, steps_written, call_steps, bracket_steps}
use Rattle.vortex_expressions.proofs.Walked.{bare_steps}

-- numbers
below : (z : ℤ) (n : ℕ) (shown ds : List ℕ) → lt_z z (pos 0) ≡ true → n ≡ unsigned_abs z
    → shown ≡ decimal n → ds ≡ shown
    → sign sign.Minus ∷ token.number ds ∷ [] ≡ spelling (number_syntax z)
below (pos m) n shown ds h e g k = absurd (let j : ⊥ = grind (arith, ints, h) in j)
below (negsuc m) n shown ds h e g k =
    ap (λ xs. sign sign.Minus ∷ token.number xs ∷ []) (k ∙ g ∙ ap decimal e)

pub negative_tokens : (z y : ℤ) (n : ℕ) (shown ds : List ℕ) → y ≡ z → lt_z y (pos 0) ≡ true
    → n ≡ unsigned_abs y → shown ≡ decimal n → ds ≡ shown
    → sign sign.Minus ∷ token.number ds ∷ [] ≡ spelling (number_syntax z)
negative_tokens z y n shown ds same h e g k = below y n shown ds h e g k
    ∙ ap (λ v. spelling (number_syntax v)) same

not_below : (z : ℤ) (n : ℕ) (shown ds : List ℕ) → lt_z z (pos 0) ≡ false → n ≡ unsigned_abs z
    → shown ≡ decimal n → ds ≡ shown
    → token.number ds ∷ [] ≡ spelling (number_syntax z)
not_below (negsuc m) n shown ds h e g k = absurd (let j : ⊥ = grind (arith, ints, h) in j)
not_below (pos m) n shown ds h e g k = ap (λ xs. token.number xs ∷ []) (k ∙ g ∙ ap decimal e)

pub positive_tokens : (z y : ℤ) (n : ℕ) (shown ds : List ℕ) → y ≡ z → lt_z y (pos 0) ≡ false
    → n ≡ unsigned_abs y → shown ≡ decimal n → ds ≡ shown
    → token.number ds ∷ [] ≡ spelling (number_syntax z)
positive_tokens z y n shown ds same h e g k = not_below y n shown ds h e g k
    ∙ ap (λ v. spelling (number_syntax v)) same

-- the name in a column's text
tail_is : (a b : ℕ) (xs ys : List ℕ) → a ∷ xs ≡ b ∷ ys → xs ≡ ys
tail_is a b xs ys e = cc

pub no_dollar : (bs : List ℕ) → ((rest : List ℕ) → bs ≢ 36 ∷ rest) → (name : List ℕ)
    → bs ≢ 36 ∷ 46 ∷ name
no_dollar bs h name e = h (46 ∷ name) e

pub behind_dollar : (bs rest : List ℕ) (r : Option (Bor (List ℕ))) → bs ≡ 36 ∷ rest
    → MatchOption r ((x : List ℕ) → rest ≢ 46 ∷ x) (λ x. rest ≡ 46 ∷ x.now)
    → MatchOption r ((name : List ℕ) → bs ≢ 36 ∷ 46 ∷ name) (λ name. bs ≡ 36 ∷ 46 ∷ name.now)
behind_dollar bs rest None e h = λ name g. h name (tail_is 36 36 rest (46 ∷ name) (sym e ∙ g))
behind_dollar bs rest (Some x) e h = e ∙ ap (λ v. 36 ∷ v) h

pub column_pushed : (t : Tree) (k : ℕ) (text : String Global) (shown name : List ℕ)
    (old new : Writer) → IsLeafAt k t → IsTextOf t text → shown ≡ string_bytes text
    → shown ≡ 36 ∷ 46 ∷ name → Adds (name_token name) old new
    → PushesIf (column_tokens t) old new true
column_pushed (leaf (place p w ty)) k text shown name old new at h e g a =
    let same : name ≡ w =
    tail_is 46 46 name w (tail_is 36 36 (46 ∷ name) (46 ∷ w) (sym g ∙ e ∙ h)) in (
      refl,
      pushes_one (name_token w) old new
          (subst (λ (v : List ℕ). Adds (name_token v) old new) same a),
    )
column_pushed (leaf (held c)) k text shown name old new at h e g a = absurd at
column_pushed (constant s) k text shown name old new at h e g a = absurd at
column_pushed (call f ts) k text shown name old new at h e g a = absurd at

-- the tokens of leaves, which contain no bracket
leaf_tokens : (d : ℕ) (o : Option Syntax) → ((a : Syntax) → o ≡ Some a → nests_behind d a ≡ true)
    → option_and_then (tokens_behind d) o ≡ option_map spelling o
leaf_tokens d None h = refl
leaf_tokens d (Some a) h = let k = h a refl in rw k refl

value_nests : (d : ℕ) (v : Value) (a : Syntax) → value_syntax v ≡ Some a → nests_behind d a ≡ true
value_nests d value.null a e = ap (nests_behind d) (sym (some_is (operand (sign sign.Null)) a e))
value_nests d (value.truth true) a e =
    ap (nests_behind d) (sym (some_is (operand (sign sign.True)) a e))
value_nests d (value.truth false) a e =
    ap (nests_behind d) (sym (some_is (operand (sign sign.False)) a e))
value_nests d (value.number (pos n)) a e =
    ap (nests_behind d) (sym (some_is (operand (token.number (decimal n))) a e))
value_nests d (value.number (negsuc n)) a e =
    ap (nests_behind d) (sym (some_is (negative (decimal (suc n))) a e))
value_nests d (value.text bs) a e =
    ap (nests_behind d) (sym (some_is (operand (text_token bs)) a e))
value_nests d (value.bytes bs) a e = absurd cc
value_nests d (value.list vs) a e = absurd cc

literal_nests : (d : ℕ) (s : ScalarView) (a : Syntax) → literal_syntax s ≡ Some a
    → nests_behind d a ≡ true
literal_nests d s a e = let m = literal_is s a e in
    ap (nests_behind d) (sym m.made)
    ∙ by (is_own_type s.dtype) m.value m.word (value_nests d s.value m.value m.says)
  where
    by : (b : Bool) (v : Syntax) (w : List ℕ) → nests_behind d v ≡ true
        → nests_behind d (if b then v else typed v w (is_nullable s.dtype)) ≡ true
    by true v w h = h
    by false v w h = h

leaf_nests : (d : ℕ) (l : Leaf) (a : Syntax) → leaf_syntax l ≡ Some a → nests_behind d a ≡ true
leaf_nests d (place p w t) a e = ap (nests_behind d) (sym (some_is (operand (name_token w)) a e))
leaf_nests d (held c) a e = absurd cc

constant_part : (d : ℕ) (s : ScalarView) → part_tokens (tree d 0 (constant s)) ≡ literal_tokens s
constant_part d s = zero_tokens d (constant s)
    ∙ leaf_tokens d (literal_syntax s) (literal_nests d s)

leaf_part : (d : ℕ) (l : Leaf) → part_tokens (tree d 0 (leaf l)) ≡ column_tokens (leaf l)
leaf_part d l = zero_tokens d (leaf l) ∙ leaf_tokens d (leaf_syntax l) (leaf_nests d l)

-- the result, from the results below
module _ (old new : TreeWriter) where
  turned : (P Q : Bool → Type 0) (r : Result Bool VortexError) → ((b : Bool) → P b → Q b)
      → AnswersUnlessMemory r P → AnswersUnlessMemory r Q
  turned P Q (Ok b) f h = f b h
  turned P Q (Err e) f h = h

  call_made : (d : ℕ) (t : Tree) (f : Callable) (ts : List Tree) → called t ≡ Some f
      → ts ≡ children_of t → (b : Bool) → Plans (call_plan d f ts) old new b
      → Steps (tree d 0 t) old new b
  call_made d (leaf l) f ts e k b h = absurd cc
  call_made d (constant s) f ts e k b h = absurd cc
  call_made d (call g us) f ts e k b h =
      let same : g ≡ f = some_is g f e in
      call_steps d g us old new b
      (subst (λ (v : Callable). Plans (call_plan d v (list_of us)) old new b) (sym same)
      (subst (λ (xs : List Tree). Plans (call_plan d f xs) old new b) k h))

  pub call_answers : (d : ℕ) (t : Tree) (f : Callable) (ts : List Tree)
      (r : Result Bool VortexError) → called t ≡ Some f → ts ≡ children_of t
      → AnswersUnlessMemory r (Plans (call_plan d f ts) old new)
      → AnswersUnlessMemory r (Steps (tree d 0 t) old new)
  call_answers d t f ts r e k h =
      turned (Plans (call_plan d f ts) old new) (Steps (tree d 0 t) old new) r
      (call_made d t f ts e k) h

  literal_made : (d : ℕ) (t : Tree) (s : ScalarView) → literal t ≡ Some s
      → tasks_in new ≡ tasks_in old → (b : Bool)
      → PushesIf (literal_tokens s) old.writer new.writer b → Steps (tree d 0 t) old new b
  literal_made d (leaf l) s e same b h = absurd cc
  literal_made d (call f ts) s e same b h = absurd cc
  literal_made d (constant u) s e same b h =
      steps_written (tree d 0 (constant u)) (literal_tokens s) old new b
      (constant_part d u ∙ ap literal_tokens (some_is u s e)) (lit< tt) same h

  pub literal_answers : (d : ℕ) (t : Tree) (s : ScalarView) (r : Result Bool VortexError)
      → literal t ≡ Some s → tasks_in new ≡ tasks_in old
      → AnswersUnlessMemory r (PushesIf (literal_tokens s) old.writer new.writer)
      → AnswersUnlessMemory r (Steps (tree d 0 t) old new)
  literal_answers d t s r e same h =
      turned (PushesIf (literal_tokens s) old.writer new.writer) (Steps (tree d 0 t) old new) r
      (literal_made d t s e same) h

  column_made : (d : ℕ) (t : Tree) → called t ≡ None → literal t ≡ None
      → tasks_in new ≡ tasks_in old → (b : Bool)
      → PushesIf (column_tokens t) old.writer new.writer b → Steps (tree d 0 t) old new b
  column_made d (call f ts) e g same b h = absurd cc
  column_made d (constant u) e g same b h = absurd cc
  column_made d (leaf l) e g same b h =
      steps_written (tree d 0 (leaf l)) (column_tokens (leaf l)) old new b (leaf_part d l)
      (lit< tt) same h

  pub column_answers : (d : ℕ) (t : Tree) (r : Result Bool VortexError) → called t ≡ None
      → literal t ≡ None → tasks_in new ≡ tasks_in old
      → AnswersUnlessMemory r (PushesIf (column_tokens t) old.writer new.writer)
      → AnswersUnlessMemory r (Steps (tree d 0 t) old new)
  column_answers d t r e g same h =
      turned (PushesIf (column_tokens t) old.writer new.writer) (Steps (tree d 0 t) old new) r
      (column_made d t e g same) h

  pub bracket_answers : (d l n : ℕ) (t : Tree) (r : Result Bool VortexError) → n ≡ tree_level t
      → n < l → AnswersUnlessMemory r (Plans (bracket_plan d t) old new)
      → AnswersUnlessMemory r (Steps (tree d l t) old new)
  bracket_answers d l n t r e low h =
      turned (Plans (bracket_plan d t) old new) (Steps (tree d l t) old new) r
      (λ b k. bracket_steps d l t old new b (omega (arith, e, low)) k) h

  pub bare_answers : (d l n : ℕ) (t : Tree) (r : Result Bool VortexError) → n ≡ tree_level t → l ≤ n
      → AnswersUnlessMemory r (Steps (tree d 0 t) old new)
      → AnswersUnlessMemory r (Steps (tree d l t) old new)
  bare_answers d l n t r e high h =
      turned (Steps (tree d 0 t) old new) (Steps (tree d l t) old new) r
      (λ b k. bare_steps d l t old new b (omega (arith, e, high)) k) h

  pub stepped : (p : Part) (b : Bool) → b ≡ true → Steps p old new b → Goes p old new
  stepped p b e s = subst (λ (v : Bool). Steps p old new v) e s

  pub stopped : (p : Part) (b : Bool) → b ≡ false → Steps p old new b → part_tokens p ≡ None
  stopped p b e s = subst (λ (v : Bool). Steps p old new v) e s
