-- The meaning of a script: the lines that continue, what they print, and how it ends.
use Rattle.std.specs.Prelude.{◌≡◌, ◌+◌, ◌<◌, ℕ, suc, List, [], length, slice_index_or}
use Rattle.vortex_errors.specs.Answers.{UnlessMemory}
use Rattle.vortex_interface.specs.Meaning.{Meaning}
use Rattle.vortex_interface.specs.Rules.{Rules}
use Rattle.rowfn_scripts.specs.declared.ending.End.{End}
use Rattle.rowfn_scripts.specs.declared.ending.End.TheVariants.{Done, Refused, Malformed}
use Rattle.rowfn_lines.specs.Lines.{lines_of}
use Rattle.rowfn_lines.specs.Commands.{Command, command_of}
use Rattle.rowfn_scripts.specs.Sessions.{SessionView, goes_on, refuses, is_malformed, fresh}
use Rattle.rowfn_scripts.specs.Sessions.{StepsTo}

-- the command of line n, counted from 0
abbrev pub command_at : List (List ℕ) → ℕ → Command
command_at lines n = command_of (slice_index_or lines n [])

module _ {V O : Type 0} (m : Meaning V O) (rs : Rules V O) (lines : List (List ℕ)) where
  -- the session after the first lines, each of which continues
  pub data Reaches : ℕ → SessionView V O → Type 0 where
    begins : Reaches 0 fresh
    one_more : (n : ℕ) (s t : SessionView V O) → Reaches n s → n < length lines
        → StepsTo m rs (command_at lines n) s (goes_on t) → Reaches (suc n) t

  -- after that many lines the lines are over, or the next fails or is malformed; lines are reported
  -- counted from 1; memory may run out at any line
  abbrev pub EndsAt : ℕ → SessionView V O → End → Type 0
  EndsAt n s Done = n ≡ length lines
  EndsAt n s (Refused e) =
      UnlessMemory (λ e. (n < length lines) × StepsTo m rs (command_at lines n) s (refuses e)) e
  EndsAt n s (Malformed k) =
      (n < length lines) × StepsTo m rs (command_at lines n) s is_malformed × (k ≡ n + 1)

-- what is printed is what the lines before the end print
pub record IsOutcome {V O : Type 0} (m : Meaning V O) (rs : Rules V O)
    (script out : List ℕ) (ending : End) : Type 0 where
  pub read : ℕ
  pub session : SessionView V O
  pub reached : Reaches m rs (lines_of script) read session
  pub ends : EndsAt m rs (lines_of script) read session ending
  pub printed : out ≡ session.printed
