-- The trees of a session match its columns. So where `run` fails, with a number or without, a row
-- faults; each tree has a type, which its column has; and each has a text, which `show` prints.
use Rattle.std.specs.Prelude.{◌≡◌, ℕ, ◌<◌, List, [], ◌∷◌, true, Option, Some, None, is_some, ⊤}
use Rattle.std.specs.Prelude.{All}
use Rattle.vortex_errors.specs.declared.error.VortexError.{VortexError}
use Rattle.vortex_types.specs.LogicalTypes.{Fields, no_fields, field}
use Rattle.vortex_columns.specs.ColumnView.{ColumnView, AreTyped}
use Rattle.vortex_interface.specs.Meaning.{Meaning}
use Rattle.vortex_interface.specs.Rules.{Rules}
use Rattle.vortex_interface.specs.Trees.{Tree}
use Rattle.vortex_interface.specs.Printing.{tree_text}
use Rattle.vortex_interface.specs.Eval.{tree_type, IsFirstFault}
use Rattle.vortex_interface.specs.Execution.{LeavesFit, other_length}
use Rattle.vortex_interface.specs.Rewrites.{HasRow}
use Rattle.vortex_interface.specs.Running.{IsFaultAfter}
use Rattle.vortex_rewriting.specs.Runs.{expression_step}
use Rattle.rowfn_lines.specs.Commands.{run, run_after}
use Rattle.rowfn_scripts.specs.Sessions.{SessionView, refuses, StepsTo}
use Rattle.rowfn_scripts.specs.Scripts.{Reaches}

-- no column before the row count is given, and then each has it
abbrev pub Counted : Option ℕ → List ColumnView → Type 0
Counted None cs = cs ≡ []
Counted (Some n) cs = other_length n cs ≡ None

-- each column has the type of the field at its index
abbrev pub AreTypes : Fields → List ColumnView → Type 0
AreTypes no_fields [] = ⊤
AreTypes no_fields (c ∷ cs) = ⊥
AreTypes (field name t fs) [] = ⊥
AreTypes (field name t fs) (c ∷ cs) = (c.dtype ≡ t) × AreTypes fs cs

abbrev pub AllFit : {V O : Type 0} → List ColumnView → List (Tree V O) → Type 0
AllFit cs [] = ⊤
AllFit cs (t ∷ ts) = LeavesFit cs t × AllFit cs ts

-- the tree has a text: it contains no caller's function
abbrev pub HasText : {V O : Type 0} → Tree V O → Type 0
HasText t = (text : List ℕ) × (tree_text t ≡ Some text)

abbrev pub AllShown : {V O : Type 0} → List (Tree V O) → Type 0
AllShown [] = ⊤
AllShown (t ∷ ts) = HasText t × AllShown ts

abbrev pub AllHaveTypes : {V O : Type 0} → Meaning V O → List (Tree V O) → Type 0
AllHaveTypes m [] = ⊤
AllHaveTypes m (t ∷ ts) = (is_some (tree_type m t) ≡ true) × AllHaveTypes m ts

-- in each of n rows the leaves and the constants of each tree have values of their types; there is
-- no tree before the row count is given
abbrev pub StackHasRows : {V O : Type 0} → List ColumnView → ℕ → List (Tree V O) → Type 0
StackHasRows cs n [] = ⊤
StackHasRows cs n (t ∷ ts) = ((i : ℕ) → i < n → HasRow cs i t) × StackHasRows cs n ts

abbrev pub HaveRows : {V O : Type 0} → Option ℕ → List ColumnView → List (Tree V O) → Type 0
HaveRows None cs ts = ts ≡ []
HaveRows (Some n) cs ts = StackHasRows cs n ts

pub record Fits {V O : Type 0} (m : Meaning V O) (s : SessionView V O) : Type 0 where
  pub counted : Counted s.row_count s.columns
  pub typed : AreTypes s.fields s.columns
  pub typed_rows : All (λ c. AreTyped c.dtype c.rows) s.columns
  pub with_rows : HaveRows s.row_count s.columns s.stack
  pub fit : AllFit s.columns s.stack
  pub with_types : AllHaveTypes m s.stack
  pub shown : AllShown s.stack

-- in a session that lines reach, `run` fails only with the first fault of the last tree, never for
-- its leaves or lengths
abbrev pub RefusesFaultsAlone : {V O : Type 0} → Meaning V O → Rules V O → Type 0
RefusesFaultsAlone {V} {O} m rs =
    (lines : List (List ℕ)) (read n : ℕ) (s : SessionView V O)
    (t : Tree V O) (stack : List (Tree V O)) (e : VortexError)
    → Reaches m rs lines read s → s.row_count ≡ Some n → s.stack ≡ t ∷ stack
    → StepsTo m rs run s (refuses e) → IsFirstFault m s.columns n t e

-- so does `run` with a number: with the first fault of the tree that its run leads to, if a row of
-- the last tree faults too
abbrev pub RefusesFaultsAfterAlone : {V O : Type 0} → Meaning V O → Rules V O → Type 0
RefusesFaultsAfterAlone {V} {O} m rs =
    (lines : List (List ℕ)) (read n limit : ℕ) (s : SessionView V O)
    (t : Tree V O) (stack : List (Tree V O)) (e : VortexError)
    → Reaches m rs lines read s → s.row_count ≡ Some n → s.stack ≡ t ∷ stack
    → StepsTo m rs (run_after limit) s (refuses e)
    → IsFaultAfter m s.columns n (expression_step m rs) limit t e

-- in a session that lines reach, each tree has a text, so `show` prints it
abbrev pub TreesHaveTexts : {V O : Type 0} → Meaning V O → Rules V O → Type 0
TreesHaveTexts {V} {O} m rs =
    (lines : List (List ℕ)) (read : ℕ) (s : SessionView V O)
    → Reaches m rs lines read s → AllShown s.stack
