use Rattle.std.proofs.Common.{◌≡◌, ◌++◌, take, string_bytes}
use Rattle.std.specs.Prelude.{codes}
use Rattle.vortex_types.specs.DTypeTexts.{type_text}
use Rattle.vortex_columns.specs.Printing.{cells_text}
use Rattle.vortex_columns.proofs.column.Column.text.Given as goal

-- the cells so far
abbrev pub invariant-loop-i : goal.invariant-loop-i
invariant-loop-i l =
    string_bytes l.text
    ≡ (type_text l.self.dtype ++ codes ":") ++ cells_text l.self.dtype (take l.i l.self.rows)
