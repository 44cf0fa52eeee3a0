-- The meaning of a line of a script.
use Rattle.std.specs.Prelude.{◌==◌, ℕ, ◌-◌, ◌&&◌, ◌||◌, nat_le, nat_lt, map, List, [], ◌∷◌, length}
use Rattle.std.specs.Prelude.{Bool, false, Option, Some, None, codes, if◌then◌else◌}
use Rattle.std.specs.List.{list_all}
use Rattle.std.specs.Option.{option_and_then}
use Rattle.std.specs.Char.{is_ascii_alphanumeric, is_ascii_digit}
use Rattle.std.specs.Str.{chars, is_utf8, bytes_eq}
use Rattle.vortex_types.specs.LogicalTypes.{LogicalType, is_text_type}
use Rattle.vortex_types.specs.ScalarView.{ScalarView}
use Rattle.vortex_types.specs.Values.{null, number, text}
use Rattle.vortex_columns.specs.ColumnView.{ColumnView}
use Rattle.rowfn_lines.specs.declared.command.Line.{Line}
use Rattle.rowfn_lines.specs.declared.command.Line.TheVariants as line
use Rattle.rowfn_lines.specs.Lines.{Word, plain, quoted, words_of, after_spaces}
use Rattle.vortex_cells.specs.TypeWords.{type_of_word}
use Rattle.vortex_cells.specs.CellValues.{decimal_from, digits_of, all_some, column_of_cells}
use Rattle.vortex_cells.specs.CellValues.{literal_of_cell}
use Rattle.vortex_cells.specs.Escapes.{escape_of}

-- nothing: the line is empty or a comment
-- rows: the number of rows
-- column: a name, and its column from here on
-- get: the column of a name
-- literal: a value in each row
-- call: the function that these words name, of the last trees, and its escape, if
-- there is one
-- show: the last tree's text
-- optimize: a run of rules from the last tree, which replaces it
-- run: the last tree's column
-- run_after: the column of the tree that a run of at most that many steps leads to
pub data Command : Type 0 where
  nothing : Command
  malformed : Command
  rows : ℕ → Command
  column : List ℕ → ColumnView → Command
  get : List ℕ → Command
  literal : ScalarView → Command
  call : List (List ℕ) → Option (Option ℕ) → Command
  show : Command
  optimize : Command
  run : Command
  run_after : ℕ → Command

abbrev pub begins_comment : List ℕ → Bool
begins_comment [] = false
begins_comment (b ∷ bs) = b == 35

-- a word has at least one byte, and so does a name
abbrev pub is_name : List ℕ → Bool
is_name w = list_all (λ b. is_ascii_alphanumeric b || (b == 95)) w

-- the number of one to six digits
abbrev pub count_of : List ℕ → Option ℕ
count_of w =
    if nat_lt 0 (length w) && (nat_le (length w) 6 && list_all is_ascii_digit w)
    then Some (decimal_from 0 w) else None

-- the cell of a word of a script: texts are in quotes and all else without, null as `null`
abbrev pub cell_of : LogicalType → Word → Option (Option (List ℕ))
cell_of t (quoted w) = if is_text_type t then Some (Some w) else None
cell_of t (plain w) =
    if bytes_eq w (codes "null") then Some None
    else (if is_text_type t then None else Some (Some w))

abbrev pub cells_of : LogicalType → List Word → Option (List (Option (List ℕ)))
cells_of t ws = all_some (map (cell_of t) ws)

-- those of words
abbrev pub written_column : LogicalType → List Word → Option ColumnView
written_column t ws = option_and_then (column_of_cells t) (cells_of t ws)

abbrev pub written_literal : LogicalType → Word → Option ScalarView
written_literal t w = option_and_then (literal_of_cell t) (cell_of t w)

-- a number that 64 bits hold
abbrev pub held_by_64_bits : ℕ → Option ℕ
held_by_64_bits n = if nat_le n 18446744073709551615 then Some n else None

-- the number of steps of digits
abbrev pub limit_of : List ℕ → Option ℕ
limit_of w = option_and_then held_by_64_bits (digits_of w)

-- the word, of a line with one more, without quotes
abbrev pub only_word : List Word → Option (List ℕ)
only_word (plain w ∷ []) = Some w
only_word ws = None

abbrev pub or_malformed : {A : Type 0} → (A → Command) → Option A → Command
or_malformed f None = malformed
or_malformed f (Some x) = f x

abbrev pub rows_command : List Word → Command
rows_command ws = or_malformed rows (option_and_then count_of (only_word ws))

abbrev pub name_of : List ℕ → Option (List ℕ)
name_of w = if is_name w then Some w else None

abbrev pub column_command : List Word → Command
column_command (plain name ∷ plain t ∷ cells) =
    if is_name name
    then or_malformed (column name) (option_and_then (λ u. written_column u cells) (type_of_word t))
    else malformed
column_command ws = malformed

abbrev pub literal_command : List Word → Command
literal_command (plain t ∷ cell ∷ []) =
    or_malformed literal (option_and_then (λ u. written_literal u cell) (type_of_word t))
literal_command ws = malformed

abbrev pub get_command : List Word → Command
get_command ws = or_malformed get (option_and_then name_of (only_word ws))

-- the function that a word names, with the escape of a text after `escape`
abbrev pub escaped_call : List ℕ → List ℕ → List ℕ → Command
escaped_call w option t =
    if bytes_eq option (codes "escape")
    then or_malformed (λ escape. call (w ∷ []) (Some escape)) (escape_of (chars t))
    else malformed

-- the function that a word names, or that word and two bounds
abbrev pub call_of : List ℕ → List Word → Command
call_of w [] = call (w ∷ []) None
call_of w (plain lower ∷ plain upper ∷ []) = call (w ∷ lower ∷ upper ∷ []) None
call_of w (plain option ∷ quoted t ∷ []) = escaped_call w option t
call_of w ws = malformed

abbrev pub call_command : List Word → Command
call_command (plain w ∷ ws) = call_of w ws
call_command ws = malformed

-- the meaning of a first word without others
abbrev pub alone : Command → List Word → Command
alone k [] = k
alone k ws = malformed

-- nothing, or how many steps come before
abbrev pub run_command : List Word → Command
run_command [] = run
run_command (w ∷ ws) =
    or_malformed run_after (option_and_then limit_of (only_word (w ∷ ws)))

-- by the first word
abbrev pub command_by : List ℕ → List Word → Command
command_by w ws =
    if bytes_eq w (codes "rows") then rows_command ws
    else (if bytes_eq w (codes "col") then column_command ws
    else (if bytes_eq w (codes "get") then get_command ws
    else (if bytes_eq w (codes "lit") then literal_command ws
    else (if bytes_eq w (codes "call") then call_command ws
    else (if bytes_eq w (codes "show") then alone show ws
    else (if bytes_eq w (codes "optimize") then alone optimize ws
    else (if bytes_eq w (codes "run") then run_command ws
    else malformed)))))))

abbrev pub command_of_words : List Word → Command
command_of_words [] = nothing
command_of_words (plain w ∷ ws) = command_by w ws
command_of_words (quoted w ∷ ws) = malformed

-- of a text that begins with no space
abbrev pub command_of_text : List ℕ → Command
command_of_text t = if begins_comment t then nothing else or_malformed command_of_words (words_of t)

abbrev pub command_of : List ℕ → Command
command_of line = if is_utf8 line then command_of_text (after_spaces line) else malformed

-- the command that a line was parsed as
abbrev pub command_in : Line → Command
command_in line.Nothing = nothing
command_in line.Malformed = malformed
command_in (line.Rows n) = rows n
command_in (line.Column name c) = column name.now c
command_in (line.Get name) = get name.now
command_in (line.Literal s) = literal s
command_in (line.Call words escape) = call (map (λ w. w.now) words.items) escape
command_in line.Show = show
command_in line.Optimize = optimize
command_in line.Run = run
command_in (line.RunAfter n) = run_after n
