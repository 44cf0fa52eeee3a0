-- Writing a tree from left to right: what is still to be written is in a list.
use Rattle.std.specs.Prelude.{◌≡◌, ℕ, zero, suc, ◌+◌, ◌<◌, nat_lt, ◌&&◌, Bool, true, false, List}
use Rattle.std.specs.Prelude.{[]}
use Rattle.std.specs.Prelude.{◌∷◌, ◌++◌, map, reverse, Option, Some, None, codes, slice_get}
use Rattle.std.specs.Prelude.{if◌then◌else◌}
use Rattle.std.specs.Option.{option_map, option_and_then}
use Rattle.vortex_types.specs.ScalarView.{ScalarView}
use Rattle.vortex_types.specs.Values.{Value}
use Rattle.vortex_operators.specs.declared.between.BetweenOptions.{BetweenOptions}
use Rattle.vortex_like.specs.declared.options.LikeOptions.{LikeOptions}
use Rattle.vortex_interface.specs.Shipped.{Shipped, Binary, Not, NullTest, Cast, Between, Like}
use Rattle.vortex_interface.specs.Functions.{ours, custom}
use Rattle.vortex_interface.specs.Trees as trees
use Rattle.vortex_interface.specs.Trees.{leaf, constant, call, no_trees}
use Rattle.vortex_interface.specs.declared.options.EmptyOptions.{EmptyOptions}
use Rattle.vortex_standard.specs.declared.standard.Standard.{Standard}
use Rattle.vortex_syntax.specs.Nesting.{nesting_limit}
use Rattle.vortex_syntax.specs.declared.step.WrittenOperator as syntax
use Rattle.vortex_syntax.specs.declared.token.Sign.TheVariants as sign
use Rattle.vortex_syntax.specs.declared.writing.Writer.{Writer}
use Rattle.vortex_syntax.specs.Tokens.{Token, nullable, function, sign}
use Rattle.vortex_syntax.specs.Syntax.{Syntax, operand, negative, typed, grouped, negated, joined}
use Rattle.vortex_syntax.specs.Syntax.{minus, tested, distinct, between, matched, listed, cast}
use Rattle.vortex_syntax.specs.Syntax.{chosen, chosen_else, nullary, applied, Arguments}
use Rattle.vortex_syntax.specs.Syntax.{no_arguments, argument, Branches, without_operand}
use Rattle.vortex_syntax.specs.Syntax.{of_operand, branch, plus, bit_not, null_tested, converted}
use Rattle.vortex_syntax.specs.Syntax.{titled, measured, extracted, parted, parted_for, placed}
use Rattle.vortex_syntax.specs.Syntax.{trimmed, trimmed_by}
use Rattle.vortex_syntax.specs.Levels.{own, left, right, not_level, is_level, predicate_level}
use Rattle.vortex_syntax.specs.Levels.{concat_level, atom_level, typed_level, literal_level}
use Rattle.vortex_syntax.specs.Spelling.{spelling, operator_sign, like_sign}
use Rattle.vortex_syntax.specs.Spelling.{escape_tokens}
use Rattle.vortex_syntax.specs.Writing.{text_token, Holds}
use Rattle.vortex_standard.specs.Names.{name_of}
use Rattle.vortex_expressions.specs.declared.tasks.WriteTask.{WriteTask}
use Rattle.vortex_expressions.specs.declared.tasks.WriteTask.TheVariants as task
use Rattle.vortex_expressions.specs.declared.tasks.TreeWriter.{TreeWriter}
use Rattle.vortex_expressions.specs.Items.{Tree, Callable}
use Rattle.vortex_expressions.specs.Writing.{at_level, is_own_type, written_operator, is_within}
use Rattle.vortex_expressions.specs.Writing.{like_kind, escape_text, escape_written, both}
use Rattle.vortex_expressions.specs.Writing.{all_three, null_test}
use Rattle.vortex_expressions.specs.Writing.{syntax_of, leaf_syntax, literal_syntax, value_syntax}

-- the level of a tree's syntax
abbrev pub shipped_level : Shipped → ℕ
shipped_level (Binary o) = own (written_operator o)
shipped_level Not = not_level
shipped_level (NullTest n) = is_level
shipped_level Cast = atom_level
shipped_level (Between o) = predicate_level
shipped_level (Like o) = predicate_level

abbrev pub function_level : Callable → ℕ
function_level (ours s) = shipped_level s
function_level (custom f o) = atom_level

abbrev pub leaf_level : Tree → ℕ
leaf_level (constant s) = if is_own_type s.dtype then literal_level else typed_level
leaf_level t = atom_level

abbrev pub tree_level : Tree → ℕ
tree_level (call f ts) = function_level f
tree_level t = leaf_level t

-- inside that many open brackets, its own nest no deeper than allowed
abbrev mutual
  pub nests_behind : ℕ → Syntax → Bool
  nests_behind d (operand t) = true
  nests_behind d (negative ds) = true
  nests_behind d (minus a) = nests_behind d a
  nests_behind d (plus a) = nests_behind d a
  nests_behind d (bit_not a) = nests_behind d a
  nests_behind d (typed a w n) = nests_behind d a
  nests_behind d (titled w bs) = true
  nests_behind d (measured w t u) = true
  nests_behind d (grouped a) = nat_lt d nesting_limit && nests_behind (suc d) a
  nests_behind d (negated a) = nests_behind d a
  nests_behind d (joined o a b) = nests_behind d a && nests_behind d b
  nests_behind d (tested k n a) = nests_behind d a
  nests_behind d (null_tested n a) = nests_behind d a
  nests_behind d (distinct n a b) = nests_behind d a && nests_behind d b
  nests_behind d (between k a low high) =
      nests_behind d a && (nests_behind d low && nests_behind d high)
  nests_behind d (matched k a p e) = nests_behind d a && nests_behind d p
  nests_behind d (converted a w n) = nests_behind d a
  nests_behind d (cast p a w n) = nat_lt d nesting_limit && nests_behind (suc d) a
  nests_behind d (listed n a args b) =
      nests_behind d a && (nat_lt d nesting_limit
      && (all_nest_behind (suc d) args && nests_behind (suc d) b))
  nests_behind d (chosen bs c v) =
      branches_nest_behind d bs && (nests_behind d c && nests_behind d v)
  nests_behind d (chosen_else bs c v e) =
      branches_nest_behind d bs && (nests_behind d c && (nests_behind d v && nests_behind d e))
  nests_behind d (nullary p w) = nat_lt d nesting_limit
  nests_behind d (applied p w args a) =
      nat_lt d nesting_limit && (all_nest_behind (suc d) args && nests_behind (suc d) a)
  nests_behind d (extracted p f w a) = nat_lt d nesting_limit && nests_behind (suc d) a
  nests_behind d (parted p f s a) =
      nat_lt d nesting_limit && (nests_behind (suc d) s && nests_behind (suc d) a)
  nests_behind d (parted_for p f s a w b) =
      nat_lt d nesting_limit
      && (nests_behind (suc d) s && (nests_behind (suc d) a && nests_behind (suc d) b))
  nests_behind d (placed p f a b) =
      nat_lt d nesting_limit && (nests_behind (suc d) a && nests_behind (suc d) b)
  nests_behind d (trimmed p f s a) = nat_lt d nesting_limit && nests_behind (suc d) a
  nests_behind d (trimmed_by p f o c a) =
      nat_lt d nesting_limit && (nests_behind (suc d) c && nests_behind (suc d) a)

  pub all_nest_behind : ℕ → Arguments → Bool
  all_nest_behind d no_arguments = true
  all_nest_behind d (argument args a) = all_nest_behind d args && nests_behind d a

  pub branches_nest_behind : ℕ → Branches → Bool
  branches_nest_behind d without_operand = true
  branches_nest_behind d (of_operand a) = nests_behind d a
  branches_nest_behind d (branch bs c v) =
      branches_nest_behind d bs && (nests_behind d c && nests_behind d v)

abbrev pub tokens_behind : ℕ → Syntax → Option (List Token)
tokens_behind d a = if nests_behind d a then Some (spelling a) else None

-- a part of a tree's text: a token, or a tree inside that many open brackets, at a level
pub data Part : Type 0 where
  token : Token → Part
  tree : ℕ → ℕ → Tree → Part

abbrev pub task_in : WriteTask → Part
task_in (task.Sign s) = token (sign s)
task_in (task.Tree t l d) = tree d l t.now
task_in task.TruthType = token (nullable (codes "bool"))
task_in (task.Escape e) = token (text_token (escape_text e))
task_in (task.Function w) = token (function w.now)

abbrev pub tasks_in : TreeWriter → List Part
tasks_in w = map task_in (reverse w.tasks.items)

-- the tokens of parts, if they have a text
abbrev pub joined_tokens : Option (List Token) → Option (List Token) → Option (List Token)
joined_tokens None more = None
joined_tokens (Some ts) None = None
joined_tokens (Some ts) (Some us) = Some (ts ++ us)

abbrev pub part_tokens : Part → Option (List Token)
part_tokens (token t) = Some (t ∷ [])
part_tokens (tree d l t) = option_and_then (λ a. tokens_behind d (at_level l a)) (syntax_of t)

abbrev pub all_tokens : List Part → Option (List Token)
all_tokens [] = Some []
all_tokens (p ∷ ps) = joined_tokens (part_tokens p) (all_tokens ps)

-- the parts of a call
abbrev pub binary_parts : ℕ → syntax.WrittenOperator → Tree → Tree → List Part
binary_parts d o a b =
    tree d (left o) a ∷ token (sign (operator_sign o)) ∷ tree d (right o) b ∷ []

abbrev pub between_parts : ℕ → Tree → Tree → Tree → List Part
between_parts d a low high =
    tree d concat_level a ∷ token (sign sign.Between)
    ∷ tree d concat_level low ∷ token (sign sign.And) ∷ tree d concat_level high ∷ []

abbrev pub like_parts : ℕ → LikeOptions → Tree → Tree → List Part
like_parts d o a p =
    tree d concat_level a ∷ (map token (like_sign (like_kind o))
    ++ (tree d concat_level p ∷ map token (escape_tokens (escape_written o.escape))))

abbrev pub bracket_parts : ℕ → Tree → List Part
bracket_parts d t = token (sign sign.Open) ∷ tree (suc d) 0 t ∷ token (sign sign.Close) ∷ []

abbrev pub cast_parts : ℕ → Tree → List Part
cast_parts d t =
    token (sign sign.Cast) ∷ token (sign sign.Open) ∷ tree (suc d) 0 t
    ∷ token (sign sign.As) ∷ token (nullable (codes "bool")) ∷ token (sign sign.Close) ∷ []

-- and of a function's call on these, if it has a text
abbrev pub binary_plan : ℕ → syntax.WrittenOperator → List Tree → Option (List Part)
binary_plan d o ts = both (binary_parts d o) (slice_get ts 0) (slice_get ts 1)

abbrev pub not_plan : ℕ → List Tree → Option (List Part)
not_plan d ts = option_map (λ t. token (sign sign.Not) ∷ tree d not_level t ∷ []) (slice_get ts 0)

abbrev pub test_plan : ℕ → Bool → List Tree → Option (List Part)
test_plan d n ts = option_map (λ t. tree d is_level t ∷ map token (null_test n)) (slice_get ts 0)

abbrev pub cast_plan : ℕ → List Tree → Option (List Part)
cast_plan d ts = if nat_lt d nesting_limit then option_map (cast_parts d) (slice_get ts 0) else None

abbrev pub between_plan : ℕ → BetweenOptions → List Tree → Option (List Part)
between_plan d o ts =
    if is_within o
    then all_three (between_parts d) (slice_get ts 0) (slice_get ts 1) (slice_get ts 2) else None

abbrev pub like_plan : ℕ → LikeOptions → List Tree → Option (List Part)
like_plan d o ts = both (like_parts d o) (slice_get ts 0) (slice_get ts 1)

abbrev pub shipped_plan : ℕ → Shipped → List Tree → Option (List Part)
shipped_plan d (Binary o) ts = binary_plan d (written_operator o) ts
shipped_plan d Not ts = not_plan d ts
shipped_plan d (NullTest n) ts = test_plan d n ts
shipped_plan d Cast ts = cast_plan d ts
shipped_plan d (Between o) ts = between_plan d o ts
shipped_plan d (Like o) ts = like_plan d o ts

-- arguments after the first, each after a comma, and the closing bracket
abbrev pub more_parts : ℕ → List Tree → List Part
more_parts d [] = token (sign sign.Close) ∷ []
more_parts d (t ∷ ts) = token (sign sign.Comma) ∷ tree d 0 t ∷ more_parts d ts

abbrev pub argument_parts : ℕ → List Tree → List Part
argument_parts d [] = more_parts d []
argument_parts d (t ∷ ts) = tree d 0 t ∷ more_parts d ts

abbrev pub named_plan : ℕ → List ℕ → List Tree → Option (List Part)
named_plan d w ts =
    if nat_lt d nesting_limit then Some (token (function w) ∷ argument_parts (suc d) ts) else None

abbrev pub call_plan : ℕ → Callable → List Tree → Option (List Part)
call_plan d (ours s) ts = shipped_plan d s ts
call_plan d (custom f o) ts = named_plan d (name_of f) ts

abbrev pub bracket_plan : ℕ → Tree → Option (List Part)
bracket_plan d t = if nat_lt d nesting_limit then Some (bracket_parts d t) else None

-- these come next, if there are any; and nothing is written yet
abbrev pub Plans : Option (List Part) → TreeWriter → TreeWriter → Bool → Type 0
Plans None old new goes = goes ≡ false
Plans (Some ps) old new goes =
    (goes ≡ true) × (tasks_in new ≡ ps ++ tasks_in old) × (new.writer ≡ old.writer)

-- these are written, if there are any
abbrev pub Pushes : List Token → Writer → Writer → Type 0
Pushes ts old new = (us : List Token) → Holds us old → Holds (us ++ ts) new

abbrev pub PushesIf : Option (List Token) → Writer → Writer → Bool → Type 0
PushesIf None old new goes = goes ≡ false
PushesIf (Some ts) old new goes = (goes ≡ true) × Pushes ts old new

-- the tokens of a literal without its type, of a literal, and of a column
abbrev pub value_tokens : Value → Option (List Token)
value_tokens v = option_map spelling (value_syntax v)

abbrev pub literal_tokens : ScalarView → Option (List Token)
literal_tokens s = option_map spelling (literal_syntax s)

abbrev pub column_tokens : Tree → Option (List Token)
column_tokens (leaf l) = option_map spelling (leaf_syntax l)
column_tokens t = None

-- how much is left to do
abbrev mutual
  pub tree_cost : Tree → ℕ
  tree_cost (leaf l) = 1
  tree_cost (constant s) = 1
  tree_cost (call f ts) = 10 + trees_cost ts

  pub trees_cost : trees.Trees Standard EmptyOptions → ℕ
  trees_cost no_trees = 0
  trees_cost (trees.tree t ts) = tree_cost t + 4 + trees_cost ts

abbrev pub part_cost : Part → ℕ
part_cost (token t) = 1
part_cost (tree d zero t) = tree_cost t
part_cost (tree d (suc l) t) = tree_cost t + 4

abbrev pub parts_cost : List Part → ℕ
parts_cost [] = 0
parts_cost (p ∷ ps) = part_cost p + parts_cost ps

-- the effect of a part on what is written and what is left
pub record Goes (p : Part) (old new : TreeWriter) : Type 0 where
  pub tokens : List Token
  pub parts : List Part
  pub written : Pushes tokens old.writer new.writer
  pub tasks : tasks_in new ≡ parts ++ tasks_in old
  pub same : part_tokens p ≡ option_map (λ us. tokens ++ us) (all_tokens parts)
  pub less : parts_cost parts < part_cost p

-- or it has no text
abbrev pub Steps : Part → TreeWriter → TreeWriter → Bool → Type 0
Steps p old new true = Goes p old new
Steps p old new false = part_tokens p ≡ None
