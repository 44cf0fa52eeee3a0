use Rattle.rowfn_lines.specs.Lines.{lines_of}
use Rattle.rowfn_scripts.specs.Scripts.{Reaches}
use Rattle.rowfn_scripts.specs.Stepping.{script_meaning, script_rules}
use Rattle.rowfn_scripts.proofs.script.read_lines.Given as goal

-- the lines so far continued
abbrev pub invariant-loop-i : goal.invariant-loop-i
invariant-loop-i l =
    Reaches script_meaning script_rules (lines_of l.script) l.i l.session
