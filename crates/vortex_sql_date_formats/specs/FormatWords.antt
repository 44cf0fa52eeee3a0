-- The words of formats, each with the item that it is and how many bytes it has.
use Rattle.std.specs.Prelude.{◌+◌, ◌||◌, ℕ, Bool, List, Option, Some, None, codes, drop, nat_eq}
use Rattle.std.specs.Prelude.{if◌then◌else◌}
use Rattle.std.specs.List.{starts_with}
use Rattle.std.specs.Option.{option_map, option_or}
use Rattle.vortex_sql_date_formats.specs.declared.items.FormatItem.{FormatItem}
use Rattle.vortex_sql_date_formats.specs.declared.items.FormatItem.TheVariants as item
use Rattle.vortex_sql_date_formats.specs.declared.items.FormatPart.TheVariants as part
use Rattle.vortex_sql_date_formats.specs.declared.items.Letters.TheVariants as letters

-- a word is written in capital letters or in small ones
abbrev pub begins : List ℕ → List ℕ → List ℕ → Bool
begins bs w v = starts_with nat_eq bs w || starts_with nat_eq bs v

-- names are written in the letters that the word has
abbrev pub month_word : List ℕ → Option (FormatItem × ℕ)
month_word bs =
    if starts_with nat_eq bs (codes "Month") then Some (item.Month letters.Title, 5)
    else if starts_with nat_eq bs (codes "MONTH") then Some (item.Month letters.Capital, 5)
    else if starts_with nat_eq bs (codes "month") then Some (item.Month letters.Small, 5)
    else if starts_with nat_eq bs (codes "Mon") then Some (item.ShortMonth letters.Title, 3)
    else if starts_with nat_eq bs (codes "MON") then Some (item.ShortMonth letters.Capital, 3)
    else if starts_with nat_eq bs (codes "mon") then Some (item.ShortMonth letters.Small, 3)
    else None

abbrev pub weekday_word : List ℕ → Option (FormatItem × ℕ)
weekday_word bs =
    if starts_with nat_eq bs (codes "Day") then Some (item.Weekday letters.Title, 3)
    else if starts_with nat_eq bs (codes "DAY") then Some (item.Weekday letters.Capital, 3)
    else if starts_with nat_eq bs (codes "day") then Some (item.Weekday letters.Small, 3)
    else if starts_with nat_eq bs (codes "Dy") then Some (item.ShortWeekday letters.Title, 2)
    else if starts_with nat_eq bs (codes "DY") then Some (item.ShortWeekday letters.Capital, 2)
    else if starts_with nat_eq bs (codes "dy") then Some (item.ShortWeekday letters.Small, 2)
    else None

-- three Y that are not four are a word of PostgreSQL that is not taken
abbrev pub date_word : List ℕ → Option (FormatItem × ℕ)
date_word bs =
    if begins bs (codes "YYYY") (codes "yyyy") then Some (item.Part part.Year, 4)
    else if begins bs (codes "YYY") (codes "yyy") then Some (item.Unknown, 3)
    else if begins bs (codes "YY") (codes "yy") then Some (item.Part part.ShortYear, 2)
    else if begins bs (codes "MM") (codes "mm") then Some (item.Part part.Month, 2)
    else if begins bs (codes "DDD") (codes "ddd") then Some (item.Part part.DayOfYear, 3)
    else if begins bs (codes "DD") (codes "dd") then Some (item.Part part.Day, 2)
    else if begins bs (codes "D") (codes "d") then Some (item.Part part.DayOfWeek, 1)
    else if begins bs (codes "Q") (codes "q") then Some (item.Part part.Quarter, 1)
    else None

-- so is the day of the year by weeks
abbrev pub week_word : List ℕ → Option (FormatItem × ℕ)
week_word bs =
    if begins bs (codes "IYYY") (codes "iyyy") then Some (item.Part part.IsoYear, 4)
    else if begins bs (codes "IW") (codes "iw") then Some (item.Part part.IsoWeek, 2)
    else if begins bs (codes "IDDD") (codes "iddd") then Some (item.Unknown, 4)
    else if begins bs (codes "ID") (codes "id") then Some (item.Part part.IsoDayOfWeek, 2)
    else None

-- and so are four S, which begin with three
abbrev pub time_word : List ℕ → Option (FormatItem × ℕ)
time_word bs =
    if begins bs (codes "HH24") (codes "hh24") then Some (item.Part part.Hour, 4)
    else if begins bs (codes "HH12") (codes "hh12") then Some (item.Part part.HalfDayHour, 4)
    else if begins bs (codes "HH") (codes "hh") then Some (item.Part part.HalfDayHour, 2)
    else if begins bs (codes "MI") (codes "mi") then Some (item.Part part.Minute, 2)
    else if begins bs (codes "SSS") (codes "sss") then Some (item.Unknown, 3)
    else if begins bs (codes "SS") (codes "ss") then Some (item.Part part.Second, 2)
    else if begins bs (codes "MS") (codes "ms") then Some (item.Part part.Millisecond, 2)
    else if begins bs (codes "US") (codes "us") then Some (item.Part part.Microsecond, 2)
    else None

-- either word stands for the half that it is
abbrev pub half_word : List ℕ → Option (FormatItem × ℕ)
half_word bs =
    if begins bs (codes "AM") (codes "PM") then Some (item.HalfDay letters.Capital, 2)
    else if begins bs (codes "am") (codes "pm") then Some (item.HalfDay letters.Small, 2)
    else None

abbrev pub name_word : List ℕ → Option (FormatItem × ℕ)
name_word bs = option_or (option_or (month_word bs) (weekday_word bs)) (half_word bs)

-- names are before numbers: `D` begins `Day`
abbrev pub plain_word : List ℕ → Option (FormatItem × ℕ)
plain_word bs =
    option_or (option_or (option_or (name_word bs) (date_word bs)) (week_word bs)) (time_word bs)

-- what is written without leading zeros, or without blanks after it
abbrev pub bare : FormatItem → FormatItem
bare (item.Part p) = item.BarePart p
bare (item.Month l) = item.BareMonth l
bare (item.Weekday l) = item.BareWeekday l
bare i = i

-- `FM` is part of the word after it
abbrev pub word : List ℕ → Option (FormatItem × ℕ)
word bs =
    if begins bs (codes "FM") (codes "fm")
    then option_map (λ p. (bare p.0, p.1 + 2)) (plain_word (drop 2 bs)) else plain_word bs
