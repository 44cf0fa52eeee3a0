-- The names of months and of days of the week in English.
use Rattle.std.specs.Prelude.{◌==◌, ℕ, List, codes, if◌then◌else◌, map}
use Rattle.std.specs.Char.{to_ascii_lowercase, to_ascii_uppercase}
use Rattle.vortex_sql_date_formats.specs.declared.items.Letters.{Letters}
use Rattle.vortex_sql_date_formats.specs.declared.items.Letters.TheVariants as letters

abbrev pub month_name : ℕ → List ℕ
month_name m =
    if m == 1 then codes "January"
    else if m == 2 then codes "February"
    else if m == 3 then codes "March"
    else if m == 4 then codes "April"
    else if m == 5 then codes "May"
    else if m == 6 then codes "June"
    else if m == 7 then codes "July"
    else if m == 8 then codes "August"
    else if m == 9 then codes "September"
    else if m == 10 then codes "October"
    else if m == 11 then codes "November"
    else codes "December"

-- Monday is 0
abbrev pub weekday_name : ℕ → List ℕ
weekday_name d =
    if d == 0 then codes "Monday"
    else if d == 1 then codes "Tuesday"
    else if d == 2 then codes "Wednesday"
    else if d == 3 then codes "Thursday"
    else if d == 4 then codes "Friday"
    else if d == 5 then codes "Saturday"
    else codes "Sunday"

abbrev pub in_letters : Letters → List ℕ → List ℕ
in_letters letters.Title n = n
in_letters letters.Capital n = map to_ascii_uppercase n
in_letters letters.Small n = map to_ascii_lowercase n
