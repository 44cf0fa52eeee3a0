-- Comments: lines of the input that begin with the comment byte, outside quotes. They are skipped.
use Rattle.std.specs.Prelude.{◌≡◌, Bool, true, false, ◌==◌, ℕ, List, [], ◌∷◌, ◌++◌, Option, Some}
use Rattle.std.specs.Prelude.{None, map, if◌then◌else◌}
use Rattle.rowfn_csv.specs.Formats.{is_line_end, begins_comment}
use Rattle.rowfn_csv.specs.Records.{Lacks}
use Rattle.rowfn_csv.specs.Scanning.{place_behind}
use Rattle.rowfn_csv.specs.declared.raw.RecordPlace.TheVariants as at
use Rattle.rowfn_csv.specs.declared.comments.LinePlace.{LinePlace}
use Rattle.rowfn_csv.specs.declared.comments.Lines.{Lines}
use Rattle.rowfn_csv.specs.declared.comments.LinePlace.TheVariants as line

-- a byte order mark at the start of the input goes on with a byte
abbrev pub goes_on_mark : LinePlace → ℕ → Bool
goes_on_mark line.Input b = b == 0xEF
goes_on_mark line.Mark1 b = b == 0xBB
goes_on_mark line.Mark2 b = b == 0xBF
goes_on_mark line.Start b = false
goes_on_mark line.Comment b = false
goes_on_mark (line.Record p) b = false

-- where the byte after it is then, and where the byte itself is else
abbrev pub mark_after : LinePlace → LinePlace
mark_after line.Input = line.Mark1
mark_after line.Mark1 = line.Mark2
mark_after line.Mark2 = line.Start
mark_after line.Start = line.Start
mark_after line.Comment = line.Start
mark_after (line.Record p) = line.Start

abbrev pub past_mark : LinePlace → LinePlace
past_mark line.Input = line.Start
past_mark line.Mark1 = line.Record at.Plain
past_mark line.Mark2 = line.Record at.Plain
past_mark line.Start = line.Start
past_mark line.Comment = line.Comment
past_mark (line.Record p) = line.Record p

-- where the byte after one is: a comment goes on to the end of its line, and a record to the first
-- end of a line outside quotes
abbrev pub begun_after : ℕ → Option ℕ → ℕ → LinePlace
begun_after delimiter comment b =
    if begins_comment comment b
    then line.Comment
    else line.Record (place_behind delimiter at.Start b)

abbrev pub text_after : ℕ → Option ℕ → LinePlace → ℕ → LinePlace
text_after delimiter comment (line.Record at.Quoted) b =
    line.Record (place_behind delimiter at.Quoted b)
text_after delimiter comment (line.Record at.Start) b =
    if is_line_end b then line.Start else line.Record (place_behind delimiter at.Start b)
text_after delimiter comment (line.Record at.Plain) b =
    if is_line_end b then line.Start else line.Record (place_behind delimiter at.Plain b)
text_after delimiter comment (line.Record at.Closed) b =
    if is_line_end b then line.Start else line.Record (place_behind delimiter at.Closed b)
text_after delimiter comment line.Comment b = if is_line_end b then line.Start else line.Comment
text_after delimiter comment line.Start b =
    if is_line_end b then line.Start else begun_after delimiter comment b
text_after delimiter comment line.Input b =
    if is_line_end b then line.Start else begun_after delimiter comment b
text_after delimiter comment line.Mark1 b =
    if is_line_end b then line.Start else begun_after delimiter comment b
text_after delimiter comment line.Mark2 b =
    if is_line_end b then line.Start else begun_after delimiter comment b

abbrev pub line_after : ℕ → Option ℕ → LinePlace → ℕ → LinePlace
line_after delimiter comment l b =
    if goes_on_mark l b then mark_after l else text_after delimiter comment (past_mark l) b

-- where the byte after these is
abbrev pub line_behind : ℕ → Option ℕ → LinePlace → List ℕ → LinePlace
line_behind delimiter comment l [] = l
line_behind delimiter comment l (b ∷ bs) =
    line_behind delimiter comment (line_after delimiter comment l b) bs

abbrev pub is_comment : LinePlace → Bool
is_comment line.Input = false
is_comment line.Mark1 = false
is_comment line.Mark2 = false
is_comment line.Start = false
is_comment line.Comment = true
is_comment (line.Record p) = false

-- bytes as they are read: each byte of a comment is a line feed, and blank lines are skipped
abbrev pub blanked : ℕ → Option ℕ → LinePlace → List ℕ → List ℕ
blanked delimiter comment l [] = []
blanked delimiter comment l (b ∷ bs) =
    (if is_comment (line_after delimiter comment l b) then 10 else b)
    ∷ blanked delimiter comment (line_after delimiter comment l b) bs

-- the lines of an input whose first byte comes next
pub record BeginsLines (delimiter : ℕ) (comment : Option ℕ) (lines : Lines) : Type 0 where
  pub delimiter_is : lines.delimiter ≡ delimiter
  pub comment_is : lines.comment ≡ comment
  pub at_start : lines.line ≡ line.Input

-- the next bytes as a reader is given them: without a comment byte, as they are
abbrev pub given_by : Option ℕ → ℕ → LinePlace → List ℕ → List ℕ
given_by None delimiter l bytes = bytes
given_by (Some c) delimiter l bytes = blanked delimiter (Some c) l bytes

abbrev pub bytes_given : Lines → List ℕ → List ℕ
bytes_given lines bytes = given_by lines.comment lines.delimiter lines.line bytes

-- the lines after those bytes
abbrev pub line_by : Option ℕ → ℕ → LinePlace → List ℕ → LinePlace
line_by None delimiter l bytes = l
line_by (Some c) delimiter l bytes = line_behind delimiter (Some c) l bytes

abbrev pub lines_after : Lines → List ℕ → Lines
lines_after lines bytes =
    record lines { line = line_by lines.comment lines.delimiter lines.line bytes }

-- a comment is read as line feeds, up to the end of its line
abbrev pub CommentIsBlank : Type 0
CommentIsBlank =
    (delimiter c : ℕ) (text rest : List ℕ) → is_line_end c ≡ false → Lacks 10 text → Lacks 13 text
    → blanked delimiter (Some c) line.Start ((c ∷ text) ++ rest)
    ≡ map (λ b. 10) (c ∷ text) ++ blanked delimiter (Some c) line.Comment rest

-- no comment begins within quotes
abbrev pub QuotesHoldNone : Type 0
QuotesHoldNone =
    (delimiter : ℕ) (comment : Option ℕ) (text rest : List ℕ) → Lacks 34 text
    → blanked delimiter comment (line.Record at.Quoted) (text ++ rest)
    ≡ text ++ blanked delimiter comment (line.Record at.Quoted) rest

pub record CommentsAreSkipped : Type 0 where
  pub comment : CommentIsBlank
  pub quotes : QuotesHoldNone
