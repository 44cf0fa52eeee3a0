-- What a program prints about the ending of a script.
use Rattle.std.specs.Prelude.{ℕ, List, [], ◌∷◌, ◌++◌, codes}
use Rattle.std.specs.Fmt.{decimal}
use Rattle.vortex_errors.specs.Errors.{name_of}
use Rattle.rowfn_scripts.specs.declared.ending.End.{End}
use Rattle.rowfn_scripts.specs.declared.ending.End.TheVariants.{Done, Refused, Malformed}

abbrev pub status_of : End → ℕ
status_of Done = 0
status_of (Refused e) = 1
status_of (Malformed n) = 2

abbrev pub fault_line_of : End → List ℕ
fault_line_of Done = []
fault_line_of (Refused e) = (codes "error: " ++ name_of e) ++ (10 ∷ [])
fault_line_of (Malformed n) = (codes "line " ++ decimal n) ++ (codes ": malformed" ++ (10 ∷ []))
