-- Formats of dates and timestamps as lists of items.
use Rattle.std.specs.Prelude.{◌+◌, ◌-◌, ◌||◌, ◌∷◌, ◌==◌, ℕ, zero, suc, [], Bool, true, false, List}
use Rattle.std.specs.Prelude.{Option, Some, None, if◌then◌else◌, length, not}
use Rattle.std.specs.Char.{is_ascii_alphanumeric}
use Rattle.vortex_sql_date_formats.specs.declared.items.FormatItem.{FormatItem}
use Rattle.vortex_sql_date_formats.specs.declared.items.FormatItem.TheVariants as item
use Rattle.vortex_sql_date_formats.specs.FormatWords.{word}

-- no letter, no digit, no double quote and no backslash stands for itself
abbrev pub is_literal : ℕ → Bool
is_literal b = not (is_ascii_alphanumeric b || (b == 34) || (b == 92))

abbrev pub literal : ℕ → FormatItem
literal b = if is_literal b then item.Literal b else item.Unknown

-- the first item of a format, a byte or a word, and how many bytes of the format follow that byte
-- in the word
abbrev pub first_item : Option (FormatItem × ℕ) → ℕ → FormatItem × ℕ
first_item (Some p) b = (p.0, p.1 - 1)
first_item None b = (literal b, 0)

abbrev pub begins_quote : List ℕ → Bool
begins_quote [] = false
begins_quote (b ∷ bs) = b == 34

-- in double quotes each byte stands for itself, but a backslash is none that is taken
abbrev pub quoted : ℕ → FormatItem
quoted b = if b == 92 then item.Unknown else item.Literal b

-- the items of a format, of which so many bytes are passed over first, and that may begin within
-- double quotes; each of those ends what the one before began
unfoldable pub items_after : ℕ → Bool → List ℕ → List FormatItem
items_after k false [] = []
items_after k true [] = item.Unknown ∷ []
items_after (suc k) q (b ∷ bs) = items_after k q bs
items_after zero false (b ∷ bs) =
    if b == 34 then items_after 0 true bs
    else (first_item (word (b ∷ bs)) b).0 ∷ items_after (first_item (word (b ∷ bs)) b).1 false bs
items_after zero true (b ∷ bs) =
    if b == 34 then items_after 0 false bs else quoted b ∷ items_after 0 true bs

abbrev pub items_from : Bool → List ℕ → List FormatItem
items_from q bs = items_after 0 q bs

abbrev pub items_of : List ℕ → List FormatItem
items_of bs = items_from false bs

-- how many items may be there at most
abbrev pub items_bound : Bool → List ℕ → ℕ
items_bound q bs = length bs + (if q then 1 else 0)
