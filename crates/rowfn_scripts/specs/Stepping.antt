-- When a call makes a step.
use Rattle.std.specs.Prelude.{◌≡◌, ◌++◌, ℕ, List, Result, MatchResult, Option, Some, None, String}
use Rattle.std.specs.Prelude.{string_bytes}
use Rattle.std.specs.declared.alloc.Global.{Global}
use Rattle.vortex_errors.specs.Answers.{UnlessMemory}
use Rattle.rowfn_scripts.specs.declared.stop.Stop.{Stop}
use Rattle.rowfn_scripts.specs.declared.stop.Stop.TheVariants.{Refused, Malformed}
use Rattle.rowfn_scripts.specs.declared.ending.End.{End}
use Rattle.rowfn_scripts.specs.declared.ending.End.TheVariants as end
use Rattle.vortex_interface.specs.Meaning.{Meaning}
use Rattle.vortex_interface.specs.Rules.{Rules}
use Rattle.vortex_interface.specs.ValidityRules.{default_rules}
use Rattle.vortex_functions.specs.Fixed.{fixed_meaning}
use Rattle.vortex_functions.specs.declared.custom.NoCustom.{NoCustom}
use Rattle.vortex_interface.specs.declared.options.EmptyOptions.{EmptyOptions}
use Rattle.rowfn_lines.specs.Commands.{Command}
use Rattle.rowfn_scripts.specs.Sessions.{SessionView, Step, goes_on, refuses, is_malformed, StepsTo}

abbrev pub end_of : Stop → ℕ → End
end_of (Refused e) line = end.Refused e
end_of Malformed line = end.Malformed line

-- scripts have no callers' functions
abbrev pub script_meaning : Meaning NoCustom EmptyOptions
script_meaning = fixed_meaning

abbrev pub script_rules : Rules NoCustom EmptyOptions
script_rules = default_rules script_meaning

-- the step of a script's session
abbrev pub Steps : Command → SessionView NoCustom EmptyOptions → Step NoCustom EmptyOptions → Type 0
Steps = StepsTo script_meaning script_rules

module _ {V O : Type 0} where
  abbrev pub StopsBy : (Step V O → Type 0) → Stop → Type 0
  StopsBy P (Refused e) = UnlessMemory (λ e. P (refuses e)) e
  StopsBy P Malformed = P is_malformed

  -- from s the call makes a step of P to t; or it stops, and the printed text is unchanged; or
  -- memory ran out, and it is unchanged as well
  abbrev pub MakesStep : (SessionView V O → Step V O → Type 0) → SessionView V O
      → Result (Unit {0}) Stop → SessionView V O → Type 0
  MakesStep P s r t =
      MatchResult r (λ _. P s (goes_on t)) (λ stop. StopsBy (P s) stop × (t.printed ≡ s.printed))

  -- a text is printed, if there is a tree
  abbrev pub after_text : SessionView V O → Option (String Global) → Step V O
  after_text s None = is_malformed
  after_text s (Some text) = goes_on (record s { printed = s.printed ++ string_bytes text })
