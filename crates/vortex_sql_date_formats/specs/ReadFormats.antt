-- Texts as their formats read them.
use Rattle.std.specs.Prelude.{◌+◌, ◌∷◌, ◌==◌, ℕ, [], Bool, true, false, List, Option, Some, None}
use Rattle.std.specs.Prelude.{codes, drop, if◌then◌else◌, nat_eq, nat_le, option_and_then}
use Rattle.std.specs.Char.{eq_ignore_ascii_case, is_ascii_digit, to_ascii_lowercase}
use Rattle.std.specs.List.{starts_with}
use Rattle.std.specs.Option.{option_map, option_or}
use Rattle.vortex_sql_date_formats.specs.declared.fields.Fields.{Fields}
use Rattle.vortex_sql_date_formats.specs.declared.items.FormatItem.{FormatItem}
use Rattle.vortex_sql_date_formats.specs.declared.items.FormatItem.TheVariants as item
use Rattle.vortex_sql_date_formats.specs.declared.items.FormatPart.{FormatPart}
use Rattle.vortex_sql_date_formats.specs.declared.items.FormatPart.TheVariants as part
use Rattle.vortex_sql_date_formats.specs.Fields.{filled}
use Rattle.vortex_sql_date_formats.specs.Names.{month_name}
use Rattle.vortex_sql_date_formats.specs.ReadDigits.{fraction_of, number_of}

-- a digit in double quotes counts as one
abbrev pub is_number : FormatItem → Bool
is_number (item.Part p) = true
is_number (item.BarePart p) = true
is_number (item.Literal b) = is_ascii_digit b
is_number i = false

abbrev pub begins_number : List FormatItem → Bool
begins_number [] = false
begins_number (i ∷ is) = is_number i

-- a number before another has all its digits, and else at least one
abbrev pub least : Bool → ℕ → ℕ
least full width = if full then width else 1

abbrev pub after_byte : ℕ → List ℕ → Option (ℕ × List ℕ)
after_byte b [] = None
after_byte b (c ∷ bs) = if c == b then Some (0, bs) else None

-- the month whose name begins with small letters
abbrev pub early_month : List ℕ → Option ℕ
early_month bs =
    if starts_with nat_eq bs (codes "jan") then Some 1
    else if starts_with nat_eq bs (codes "feb") then Some 2
    else if starts_with nat_eq bs (codes "mar") then Some 3
    else if starts_with nat_eq bs (codes "apr") then Some 4
    else if starts_with nat_eq bs (codes "may") then Some 5
    else if starts_with nat_eq bs (codes "jun") then Some 6
    else None

abbrev pub late_month : List ℕ → Option ℕ
late_month bs =
    if starts_with nat_eq bs (codes "jul") then Some 7
    else if starts_with nat_eq bs (codes "aug") then Some 8
    else if starts_with nat_eq bs (codes "sep") then Some 9
    else if starts_with nat_eq bs (codes "oct") then Some 10
    else if starts_with nat_eq bs (codes "nov") then Some 11
    else if starts_with nat_eq bs (codes "dec") then Some 12
    else None

-- three letters of any case
unfoldable pub month_of : ℕ → ℕ → ℕ → Option ℕ
month_of a b c =
    let letters = to_ascii_lowercase a ∷ to_ascii_lowercase b ∷ to_ascii_lowercase c ∷ [] in
    option_or (early_month letters) (late_month letters)

abbrev pub named_month : List ℕ → Option (ℕ × List ℕ)
named_month (a ∷ b ∷ c ∷ bs) = option_map (λ m. (m, bs)) (month_of a b c)
named_month bs = None

-- the text after letters that it begins with, of any case
abbrev pub after_letters : List ℕ → List ℕ → Option (List ℕ)
after_letters [] bs = Some bs
after_letters (c ∷ cs) [] = None
after_letters (c ∷ cs) (b ∷ bs) = if eq_ignore_ascii_case b c then after_letters cs bs else None

-- the month whose whole name the text begins with
abbrev pub whole_month : List ℕ → Option (ℕ × List ℕ)
whole_month bs =
    option_and_then (λ p. option_map (λ r. (p.0, r)) (after_letters (drop 3 (month_name p.0)) p.1))
    (named_month bs)

-- 0 before noon, 1 from noon on
abbrev pub half_of : ℕ → Option ℕ
half_of b =
    if eq_ignore_ascii_case b 97 then Some 0
    else if eq_ignore_ascii_case b 112 then Some 1
    else None

abbrev pub half_day : List ℕ → Option (ℕ × List ℕ)
half_day (a ∷ m ∷ bs) =
    if eq_ignore_ascii_case m 109 then option_map (λ h. (h, bs)) (half_of a) else None
half_day bs = None

-- the year nearest to 2020 with these last two digits, the earlier one of two
abbrev pub near_year : ℕ → ℕ
near_year n = if nat_le n 69 then 2000 + n else 1900 + n

abbrev pub short_year : List ℕ → Option (ℕ × List ℕ)
short_year bs = option_map (λ p. (near_year p.0, p.1)) (number_of 2 2 bs)

-- the number that a text has for a part, and the text after it
abbrev pub read_part : FormatPart → Bool → List ℕ → Option (ℕ × List ℕ)
read_part part.Year full bs = number_of 4 4 bs
read_part part.ShortYear full bs = short_year bs
read_part part.Month full bs = number_of (least full 2) 2 bs
read_part part.Day full bs = number_of (least full 2) 2 bs
read_part part.Hour full bs = number_of (least full 2) 2 bs
read_part part.HalfDayHour full bs = number_of (least full 2) 2 bs
read_part part.Minute full bs = number_of (least full 2) 2 bs
read_part part.Second full bs = number_of (least full 2) 2 bs
read_part part.Millisecond full bs = fraction_of (least full 3) 3 1000 bs
read_part part.Microsecond full bs = fraction_of (least full 6) 6 1 bs
read_part p full bs = None

-- the same for an item
abbrev pub item_number : FormatItem → Bool → List ℕ → Option (ℕ × List ℕ)
item_number (item.Part p) full bs = read_part p full bs
item_number (item.Month l) full bs = whole_month bs
item_number (item.BareMonth l) full bs = whole_month bs
item_number (item.ShortMonth l) full bs = named_month bs
item_number (item.HalfDay l) full bs = half_day bs
item_number (item.Literal b) full bs = after_byte b bs
item_number i full bs = None

-- the fields that a text has by the items, from left to right; nothing may be left
abbrev pub read_items : List FormatItem → List ℕ → Fields → Option Fields
read_items [] [] f = Some f
read_items [] (b ∷ bs) f = None
read_items (i ∷ is) bs f =
    option_and_then (λ p. option_and_then (read_items is p.1) (filled i p.0 f))
    (item_number i (begins_number is) bs)
