-- The text of an error of a text.
use Rattle.std.specs.Prelude.{ℕ, List, ◌++◌, codes, string_bytes, if◌then◌else◌}
use Rattle.std.specs.Fmt.{decimal}
use Rattle.vortex_expressions.specs.declared.error.TextError.{TextError}
use Rattle.vortex_expressions.specs.Reading.{is_want_of_memory}

-- the position, and the words that the error carries; out of memory has no position
abbrev pub read_error_text : TextError → List ℕ
read_error_text e =
    if is_want_of_memory e then codes "out of memory"
    else codes "line " ++ (decimal e.line ++ (codes ", column " ++ (decimal e.column
    ++ (codes ": " ++ string_bytes e.told))))
