-- What the settings of a format mean: which texts are null, and which lines are comments.
use Rattle.std.specs.Prelude.{Bool, false, ◌==◌, ◌||◌, ◌&&◌, not, ℕ, List, [], ◌∷◌, Option, Some, None}
use Rattle.std.specs.List.{list_any}
use Rattle.std.specs.Str.{bytes_eq}
use Rattle.rowfn_csv.specs.declared.format.Format.{Format}

-- a text is one of those for null
abbrev pub is_null_text : Format → List ℕ → Bool
is_null_text format text =
    bytes_eq text format.null.now
    || list_any (λ other. bytes_eq text other.now) format.more_nulls.now

-- a field is null: it has such a text, in no quotes, or in quotes where they make no difference
abbrev pub is_null_field : Format → List ℕ → Bool → Bool
is_null_field format text is_quoted =
    is_null_text format text && (format.quoted_nulls || not is_quoted)

abbrev pub is_line_end : ℕ → Bool
is_line_end byte = (byte == 10) || (byte == 13)

-- a byte at the start of a line begins a comment
abbrev pub begins_comment : Option ℕ → ℕ → Bool
begins_comment None byte = false
begins_comment (Some c) byte = byte == c

-- a line is a comment: it begins with such a byte
abbrev pub is_comment_line : Option ℕ → List ℕ → Bool
is_comment_line comment [] = false
is_comment_line comment (b ∷ bs) = begins_comment comment b
