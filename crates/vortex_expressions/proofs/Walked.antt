-- Writing a tree task by task: what is written and what is left are the tree's tokens, and less is
-- left with each step.
use Rattle.std.proofs.Common.{◌≡◌, ℕ, zero, suc, ◌+◌, ◌<◌, ◌≤◌, Bool, true, false, List, [], ◌∷◌}
use Rattle.std.proofs.Common.{◌++◌, map, Option, Some, None, refl, ap, sym, subst, ◌∙◌}
use Rattle.std.proofs.Common.{append_assoc, arith, option_map, nat_lt, lit≤, lit<, length}
use Rattle.std.specs.Prelude.{slice_get, nat_le}
use Rattle.std.specs.Option.{option_and_then}
use Rattle.std.proofs.lemmas.List.{append-nil}
use Rattle.std.proofs.lemmas.Bool.{le-leb, lt-leb}
use Rattle.vortex_interface.specs.Shipped.{Shipped, Binary, Not, NullTest, Cast, Between, Like}
use Rattle.vortex_interface.specs.Functions.{ours, custom}
use Rattle.vortex_interface.specs.Trees as trees
use Rattle.vortex_interface.specs.Trees.{leaf, constant, call, no_trees, list_of}
use Rattle.vortex_interface.specs.declared.options.EmptyOptions.{EmptyOptions}
use Rattle.vortex_standard.specs.declared.standard.Standard.{Standard}
use Rattle.vortex_syntax.specs.Nesting.{nesting_limit}
use Rattle.vortex_syntax.specs.declared.writing.Writer.{Writer}
use Rattle.vortex_syntax.specs.Tokens.{Token, function, sign}
use Rattle.vortex_syntax.specs.declared.token.Sign.TheVariants as sign
use Rattle.vortex_syntax.specs.Syntax.{Syntax}
use Rattle.vortex_syntax.specs.Levels.{level, not_level, is_level, concat_level, left, right}
use Rattle.vortex_syntax.specs.Spelling.{spelling, like_sign, escape_tokens}
use Rattle.vortex_expressions.specs.Writing.{null_test}
use Rattle.vortex_syntax.specs.Nesting.{nests}
use Rattle.vortex_syntax.specs.Writing as tokens
use Rattle.vortex_syntax.specs.Writing.{Holds, Adds}
use Rattle.vortex_syntax.proofs.Written.{holds_more}
use Rattle.vortex_expressions.specs.declared.tasks.TreeWriter.{TreeWriter}
use Rattle.vortex_standard.specs.Names.{name_of}
use Rattle.vortex_expressions.specs.Items.{Tree, Callable}
use Rattle.vortex_expressions.specs.Writing.{is_within, written_operator, like_kind, escape_written}
use Rattle.vortex_expressions.specs.Writing.{all_three, syntax_of, text_if, text_of_tree}
use Rattle.vortex_expressions.specs.WritingSteps.{tree_level, tokens_behind, nests_behind, Part}
use Rattle.vortex_expressions.specs.WritingSteps.{token, tree, tasks_in, joined_tokens, part_tokens}
use Rattle.vortex_expressions.specs.WritingSteps.{all_tokens, binary_parts, between_parts}
use Rattle.vortex_expressions.specs.WritingSteps.{like_parts, bracket_parts, cast_parts, call_plan}
use Rattle.vortex_expressions.specs.WritingSteps.{shipped_plan, bracket_plan, Plans, Pushes}
use Rattle.vortex_expressions.specs.WritingSteps.{PushesIf, tree_cost, trees_cost, part_cost}
use Rattle.vortex_expressions.specs.WritingSteps.{parts_cost, Goes, Steps, more_parts}
use Rattle.vortex_expressions.specs.WritingSteps.{argument_parts}
use Rattle.vortex_expressions.proofs.JoinedTokens.{behind, joined_nil, behind_nil, joined_behind}
use Rattle.vortex_expressions.proofs.JoinedTokens.{behind_twice, all_append}
use Rattle.vortex_expressions.proofs.PartTokens.{call_tokens}
use Rattle.vortex_expressions.proofs.PartTokens.{bracket_tokens, bare_tokens, zero_tokens}
use Rattle.vortex_expressions.proofs.Options.{some_is, both_is, three_is, mapped_is, where_is}
use Rattle.vortex_expressions.proofs.SyntaxLevels.{level_is, fits_of}
use Rattle.vortex_expressions.proofs.SyntaxNests.{nests_is}

abbrev Trees : Type 0
Trees = trees.Trees Standard EmptyOptions

-- what is written of several tokens
pub pushes_one : (t : Token) (old new : Writer) → Adds t old new → Pushes (t ∷ []) old new
pushes_one t old new a = λ us h. holds_more us t old new h a

pub pushes_both : (ts us : List Token) (old mid new : Writer) → Pushes ts old mid
    → Pushes us mid new → Pushes (ts ++ us) old new
pushes_both ts us old mid new f g =
    λ vs h. subst (λ (ws : List Token). Holds ws new) (append_assoc vs ts us)
    (g (vs ++ ts) (f vs h))

pub pushes_none : (w : Writer) → Pushes [] w w
pushes_none w = λ us h. subst (λ (ws : List Token). Holds ws w) (sym (append-nil us)) h

-- the cost of parts
part_most : (d l : ℕ) (t : Tree) → part_cost (tree d l t) ≤ tree_cost t + 4
part_most d zero t = omega arith
part_most d (suc l) t = omega arith

part_least : (d l : ℕ) (t : Tree) → tree_cost t ≤ part_cost (tree d l t)
part_least d zero t = omega arith
part_least d (suc l) t = omega arith

signs_cost : (ts : List Token) (ps : List Part)
    → parts_cost (map token ts ++ ps) ≡ parts_cost ps + length ts
signs_cost [] ps = omega arith
signs_cost (t ∷ ts) ps = omega (arith, signs_cost ts ps)

first_cost : (ts : Trees) (a : Tree) → slice_get (list_of ts) 0 ≡ Some a
    → tree_cost a + 4 ≤ trees_cost ts
first_cost no_trees a e = absurd cc
first_cost (trees.tree t ts) a e = let same = ap tree_cost (some_is t a e) in omega (arith, same)

second_cost : (ts : Trees) (a b : Tree) → slice_get (list_of ts) 0 ≡ Some a
    → slice_get (list_of ts) 1 ≡ Some b → tree_cost a + tree_cost b + 8 ≤ trees_cost ts
second_cost no_trees a b e g = absurd cc
second_cost (trees.tree t ts) a b e g = let same = ap tree_cost (some_is t a e) in
    omega (arith, same, first_cost ts b g)

third_cost : (ts : Trees) (a b c : Tree) → slice_get (list_of ts) 0 ≡ Some a
    → slice_get (list_of ts) 1 ≡ Some b → slice_get (list_of ts) 2 ≡ Some c
    → tree_cost a + tree_cost b + tree_cost c + 12 ≤ trees_cost ts
third_cost no_trees a b c e g h = absurd cc
third_cost (trees.tree t ts) a b c e g h = let same = ap tree_cost (some_is t a e) in
    omega (arith, same, second_cost ts b c g h)

null_count : (n : Bool) → length (null_test n) ≤ 3
null_count true = lit≤ tt
null_count false = lit≤ tt

like_count : (n i : Bool) → length (like_sign (record { negated = n; case_insensitive = i })) ≤ 2
like_count true true = lit≤ tt
like_count true false = lit≤ tt
like_count false true = lit≤ tt
like_count false false = lit≤ tt

escape_count : (e : Option (List ℕ)) → length (escape_tokens e) ≤ 2
escape_count None = lit≤ tt
escape_count (Some e) = lit≤ tt

ends_signs : (ts : List Token) → parts_cost (map token ts) ≡ length ts
ends_signs [] = refl
ends_signs (t ∷ ts) = omega (arith, ends_signs ts)

plan_cost : (d : ℕ) (s : Shipped) (ts : Trees) (ps : List Part)
    → shipped_plan d s (list_of ts) ≡ Some ps → parts_cost ps < 10 + trees_cost ts
plan_cost d (Binary o) ts ps e =
    let w = written_operator o in
    let m = both_is (binary_parts d w) (slice_get (list_of ts) 0) (slice_get (list_of ts) 1) ps e in
    let same = ap parts_cost m.made in
    omega (
      arith,
      same,
      second_cost ts m.a m.b m.first m.second,
      part_most d (left w) m.a,
      part_most d (right w) m.b,
    )
plan_cost d Not ts ps e =
    let m = mapped_is (λ t. token (sign sign.Not) ∷ tree d not_level t ∷ [])
    (slice_get (list_of ts) 0) ps e in
    let same = ap parts_cost m.made in
    omega (arith, same, first_cost ts m.a m.there, part_most d not_level m.a)
plan_cost d (NullTest n) ts ps e =
    let m = mapped_is (λ t. tree d is_level t ∷ map token (null_test n))
    (slice_get (list_of ts) 0) ps e in
    let same = ap parts_cost m.made in
    omega (
      arith,
      same,
      first_cost ts m.a m.there,
      part_most d is_level m.a,
      ends_signs (null_test n),
      null_count n,
    )
plan_cost d Cast ts ps e =
    let g = where_is (nat_lt d nesting_limit) (option_map (cast_parts d) (slice_get (list_of ts) 0)) ps e in
    let m = mapped_is (cast_parts d) (slice_get (list_of ts) 0) ps g.there in
    let same = ap parts_cost m.made in
    omega (arith, same, first_cost ts m.a m.there)
plan_cost d (Between o) ts ps e =
    let l = list_of ts in
    let g = where_is (is_within o)
    (all_three (between_parts d) (slice_get l 0) (slice_get l 1) (slice_get l 2)) ps e in
    let m = three_is (between_parts d) (slice_get l 0) (slice_get l 1) (slice_get l 2) ps g.there in
    let same = ap parts_cost m.made in
    omega (
      arith,
      same,
      third_cost ts m.a m.b m.c m.first m.second m.third,
      part_most d concat_level m.a,
      part_most d concat_level m.b,
      part_most d concat_level m.c,
    )
plan_cost d (Like o) ts ps e =
    let m = both_is (like_parts d o) (slice_get (list_of ts) 0) (slice_get (list_of ts) 1) ps e in
    let ls = like_sign (like_kind o) in
    let es = escape_tokens (escape_written o.escape) in
    let same = ap parts_cost m.made in
    omega (
      arith,
      same,
      second_cost ts m.a m.b m.first m.second,
      part_most d concat_level m.a,
      part_most d concat_level m.b,
      signs_cost ls (tree d concat_level m.b ∷ map token es),
      ends_signs es,
      like_count o.negated o.case_insensitive,
      escape_count (escape_written o.escape),
    )

more_cost : (d : ℕ) (ts : Trees) → parts_cost (more_parts d (list_of ts)) ≤ 1 + trees_cost ts
more_cost d no_trees = omega arith
more_cost d (trees.tree t ts) = omega (arith, more_cost d ts)

arguments_cost : (d : ℕ) (ts : Trees)
    → parts_cost (argument_parts d (list_of ts)) ≤ 1 + trees_cost ts
arguments_cost d no_trees = omega arith
arguments_cost d (trees.tree t ts) = omega (arith, more_cost d ts)

call_cost : (d : ℕ) (f : Callable) (ts : Trees) (ps : List Part)
    → call_plan d f (list_of ts) ≡ Some ps → parts_cost ps < tree_cost (call f ts)
call_cost d (ours s) ts ps e = plan_cost d s ts ps e
call_cost d (custom f o) ts ps e =
    let parts : List Part = token (function (name_of f)) ∷ argument_parts (suc d) (list_of ts) in
    let g = where_is (nat_lt d nesting_limit) (Some parts) ps e in
    let same = ap parts_cost (some_is parts ps g.there) in
    omega (arith, same, arguments_cost (suc d) ts)

-- a step that plans, and one that writes
pub steps_planned : (p : Part) (plan : Option (List Part)) (old new : TreeWriter) (goes : Bool)
    → part_tokens p ≡ option_and_then all_tokens plan
    → ((ps : List Part) → plan ≡ Some ps → parts_cost ps < part_cost p) → Plans plan old new goes
    → Steps p old new goes
steps_planned p None old new goes e cost h = subst (λ (b : Bool). Steps p old new b) (sym h) e
steps_planned p (Some ps) old new goes e cost h =
    subst (λ (b : Bool). Steps p old new b) (sym h.0) (record {
      tokens = [];
      parts = ps;
      written = subst (λ (w : Writer). Pushes [] old.writer w) (sym h.2) (pushes_none old.writer);
      tasks = h.1;
      same = e ∙ sym (behind_nil (all_tokens ps));
      less = cost ps refl;
    })

pub steps_written : (p : Part) (o : Option (List Token)) (old new : TreeWriter) (goes : Bool)
    → part_tokens p ≡ o → 0 < part_cost p → tasks_in new ≡ tasks_in old
    → PushesIf o old.writer new.writer goes → Steps p old new goes
steps_written p None old new goes e cost same h = subst (λ (b : Bool). Steps p old new b) (sym h) e
steps_written p (Some ts) old new goes e cost same h =
    subst (λ (b : Bool). Steps p old new b) (sym h.0) (record {
      tokens = ts;
      parts = [];
      written = h.1;
      tasks = same;
      same = e ∙ ap (λ us. Some us) (sym (append-nil ts));
      less = cost;
    })

pub steps_token : (t : Token) (old new : TreeWriter) → tasks_in new ≡ tasks_in old
    → Pushes (t ∷ []) old.writer new.writer → Steps (token t) old new true
steps_token t old new same h =
    record { tokens = t ∷ []; parts = []; written = h; tasks = same; same = refl; less = lit< tt }

-- trees, with brackets and without
pub call_steps : (d : ℕ) (f : Callable) (ts : Trees) (old new : TreeWriter) (goes : Bool)
    → Plans (call_plan d f (list_of ts)) old new goes → Steps (tree d 0 (call f ts)) old new goes
call_steps d f ts old new goes h =
    steps_planned (tree d 0 (call f ts)) (call_plan d f (list_of ts)) old new goes
    (zero_tokens d (call f ts) ∙ call_tokens d f ts) (call_cost d f ts) h

too_low : (l : ℕ) (t : Tree) → tree_level t < l → (a : Syntax) → syntax_of t ≡ Some a
    → nat_le l (level a) ≡ false
too_low l t h a e = let same = level_is t a e in lt-leb l (level a) (omega (arith, same, h))

high_enough : (l : ℕ) (t : Tree) → l ≤ tree_level t → (a : Syntax) → syntax_of t ≡ Some a
    → nat_le l (level a) ≡ true
high_enough l t h a e = let same = level_is t a e in le-leb l (level a) (omega (arith, same, h))

bracket_cost : (d l : ℕ) (t : Tree) → 0 < l → (ps : List Part) → bracket_plan d t ≡ Some ps
    → parts_cost ps < part_cost (tree d l t)
bracket_cost d zero t h ps e = absurd (let k : ⊥ = omega (arith, h) in k)
bracket_cost d (suc l) t h ps e =
    let g = where_is (nat_lt d nesting_limit) (Some (bracket_parts d t)) ps e in
    let same = ap parts_cost (some_is (bracket_parts d t) ps g.there) in
    omega (arith, same)

pub bracket_steps : (d l : ℕ) (t : Tree) (old new : TreeWriter) (goes : Bool) → tree_level t < l
    → Plans (bracket_plan d t) old new goes → Steps (tree d l t) old new goes
bracket_steps d l t old new goes low h =
    steps_planned (tree d l t) (bracket_plan d t) old new goes
    (bracket_tokens d l t (too_low l t low)) (bracket_cost d l t (omega (arith, low))) h

same_tokens : (d l : ℕ) (t : Tree) → l ≤ tree_level t
    → part_tokens (tree d l t) ≡ part_tokens (tree d 0 t)
same_tokens d l t h = bare_tokens d l t (high_enough l t h) ∙ sym (zero_tokens d t)

pub bare_steps : (d l : ℕ) (t : Tree) (old new : TreeWriter) (goes : Bool) → l ≤ tree_level t
    → Steps (tree d 0 t) old new goes → Steps (tree d l t) old new goes
bare_steps d l t old new true h s =
    record {
      tokens = s.tokens;
      parts = s.parts;
      written = s.written;
      tasks = s.tasks;
      same =
          same_tokens d l t h ∙ s.same;
      less = omega (arith, s.less, part_least d l t);
    }
bare_steps d l t old new false h s = same_tokens d l t h ∙ s

-- what is written and what is left
pub record Going (root : Tree) (w : TreeWriter) : Type 0 where
  pub tokens : List Token
  pub held : Holds tokens w.writer
  pub same : behind tokens (all_tokens (tasks_in w)) ≡ part_tokens (tree 0 0 root)

pub going_first : (root : Tree) (start w : TreeWriter) → tasks_in start ≡ [] → Holds [] start.writer
    → tasks_in w ≡ tree 0 0 root ∷ tasks_in start → w.writer ≡ start.writer → Going root w
going_first root start w none h e k = record {
  tokens = [];
  held = subst (λ (v : Writer). Holds [] v) (sym k) h;
  same = behind_nil (all_tokens (tasks_in w))
      ∙ ap all_tokens (e ∙ ap (λ ps. tree 0 0 root ∷ ps) none)
      ∙ joined_nil (part_tokens (tree 0 0 root));
}

pub going_on : (root : Tree) (w old new : TreeWriter) (p : Part) → Going root w
    → tasks_in w ≡ p ∷ tasks_in old → old.writer ≡ w.writer → Goes p old new → Going root new
going_on root w old new p g e k s = record {
  tokens = g.tokens ++ s.tokens;
  held = s.written g.tokens (subst (λ (v : Writer). Holds g.tokens v) (sym k) g.held);
  same =
      ap (λ ps. behind (g.tokens ++ s.tokens) (all_tokens ps)) s.tasks
      ∙ ap (behind (g.tokens ++ s.tokens)) (all_append s.parts (tasks_in old))
      ∙ sym (behind_twice g.tokens s.tokens
      (joined_tokens (all_tokens s.parts) (all_tokens (tasks_in old))))
      ∙ ap (behind g.tokens)
      (sym (joined_behind s.tokens (all_tokens s.parts) (all_tokens (tasks_in old))))
      ∙ ap (λ o. behind g.tokens (joined_tokens o (all_tokens (tasks_in old)))) (sym s.same)
      ∙ ap (λ ps. behind g.tokens (all_tokens ps)) (sym e)
      ∙ g.same;
}

parts_cost-append : (ps qs : List Part) → parts_cost (ps ++ qs) ≡ parts_cost ps + parts_cost qs
parts_cost-append [] qs = omega arith
parts_cost-append (p ∷ ps) qs = omega (arith, parts_cost-append ps qs)

pub less_left : (w old new : TreeWriter) (p : Part) → tasks_in w ≡ p ∷ tasks_in old → Goes p old new
    → parts_cost (tasks_in new) < parts_cost (tasks_in w)
less_left w old new p e s =
    let before = ap parts_cost e in
    let after = ap parts_cost s.tasks in
    omega (arith, before, after, parts_cost-append s.parts (tasks_in old), s.less)

-- the text
text_is : (t : Tree) → text_of_tree t ≡ option_map tokens.written (part_tokens (tree 0 0 t))
text_is t = by (syntax_of t) refl ∙ ap (option_map tokens.written) (sym (zero_tokens 0 t))
  where
    one : (a : Syntax) (b : Bool) → nests (spelling a) ≡ b → nests_behind 0 a ≡ b
        → text_if (spelling a) ≡ option_map tokens.written (tokens_behind 0 a)
    one a true h k = rw (h, k) refl
    one a false h k = rw (h, k) refl

    by : (o : Option Syntax) → syntax_of t ≡ o
        → option_and_then (λ a. text_if (spelling a)) o ≡ option_map tokens.written
        (option_and_then (tokens_behind 0) o)
    by None e = refl
    by (Some a) e = one a (nests_behind 0 a) (nests_is a (fits_of t a e)) refl

pub no_text : (root : Tree) (w old : TreeWriter) (p : Part) → Going root w
    → tasks_in w ≡ p ∷ tasks_in old → part_tokens p ≡ None → None ≡ text_of_tree root
no_text root w old p g e h =
    ap (option_map tokens.written)
    (sym (ap (λ ps. behind g.tokens (all_tokens ps)) e
    ∙ ap (λ o. behind g.tokens (joined_tokens o (all_tokens (tasks_in old)))) h) ∙ g.same)
    ∙ sym (text_is root)

pub all_text : (root : Tree) (w : TreeWriter) → (g : Going root w) → tasks_in w ≡ []
    → Some (tokens.written g.tokens) ≡ text_of_tree root
all_text root w g e =
    ap (λ ts. Some (tokens.written ts)) (sym (append-nil g.tokens))
    ∙ ap (option_map tokens.written) (sym (ap (λ ps. behind g.tokens (all_tokens ps)) e) ∙ g.same)
    ∙ sym (text_is root)
