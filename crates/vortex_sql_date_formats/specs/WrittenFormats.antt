-- What a format writes of a day of the calendar and a time of that day.
use Rattle.std.specs.Prelude.{◌+◌, ◌-◌, ◌/◌, ◌%◌, ◌&&◌, ◌++◌, ◌∷◌, ℕ, [], Bool, true, false, List}
use Rattle.std.specs.Prelude.{if◌then◌else◌, ◌==◌, codes, decimal, length, nat_lt, not, take}
use Rattle.std.specs.List.{flat_map, list_all}
use Rattle.vortex_logical.specs.DecimalTexts.{last_digits}
use Rattle.vortex_sql_date_formats.specs.declared.items.FormatItem.{FormatItem}
use Rattle.vortex_sql_date_formats.specs.declared.items.FormatItem.TheVariants as item
use Rattle.vortex_sql_date_formats.specs.declared.items.FormatPart.{FormatPart}
use Rattle.vortex_sql_date_formats.specs.declared.items.FormatPart.TheVariants as part
use Rattle.vortex_sql_date_formats.specs.declared.items.Letters.{Letters}
use Rattle.vortex_sql_date_formats.specs.declared.civil.CivilTime.{CivilTime}
use Rattle.vortex_sql_date_formats.specs.Formats.{items_of}
use Rattle.vortex_sql_date_formats.specs.Names.{in_letters, month_name, weekday_name}

-- how many digits a part has
abbrev pub width : FormatPart → ℕ
width part.Year = 4
width part.IsoYear = 4
width part.DayOfYear = 3
width part.DayOfWeek = 1
width part.IsoDayOfWeek = 1
width part.Quarter = 1
width part.Millisecond = 3
width part.Microsecond = 6
width p = 2

-- Sunday is the first day of a week, but the last one by ISO 8601; the hours of half a day are 12, 1,
-- 2, .. 11
abbrev pub part_number : CivilTime → FormatPart → ℕ
part_number c part.Year = c.year
part_number c part.ShortYear = c.year % 100
part_number c part.IsoYear = c.iso_year
part_number c part.Quarter = (c.month + 2) / 3
part_number c part.Month = c.month
part_number c part.IsoWeek = c.iso_week
part_number c part.Day = c.day
part_number c part.DayOfYear = c.ordinal
part_number c part.DayOfWeek = (c.weekday + 1) % 7 + 1
part_number c part.IsoDayOfWeek = c.weekday + 1
part_number c part.Hour = c.time / 3600000000
part_number c part.HalfDayHour = (c.time / 3600000000 + 11) % 12 + 1
part_number c part.Minute = c.time / 60000000 % 60
part_number c part.Second = c.time / 1000000 % 60
part_number c part.Millisecond = c.time / 1000
part_number c part.Microsecond = c.time

-- so many digits of the number at the end
abbrev pub part_text : CivilTime → FormatPart → List ℕ
part_text c p = last_digits (width p) (part_number c p)

-- without zeros at the beginning; fractions have all their digits
abbrev pub bare_text : CivilTime → FormatPart → List ℕ
bare_text c part.Millisecond = part_text c part.Millisecond
bare_text c part.Microsecond = part_text c part.Microsecond
bare_text c p = decimal (part_number c p)

-- before noon and from noon on
abbrev pub half_name : ℕ → List ℕ
half_name t = if nat_lt t 43200000000 then codes "am" else codes "pm"

-- the first three letters of a name
abbrev pub short_name : Letters → List ℕ → List ℕ
short_name l n = in_letters l (take 3 n)

-- a name with blanks after it, nine bytes in all
abbrev pub padded_name : Letters → List ℕ → List ℕ
padded_name l n = in_letters l n ++ take (9 - length n) (codes "         ")

-- what an item writes
unfoldable pub item_text : CivilTime → FormatItem → List ℕ
item_text c (item.Part p) = part_text c p
item_text c (item.BarePart p) = bare_text c p
item_text c (item.Month l) = padded_name l (month_name c.month)
item_text c (item.BareMonth l) = in_letters l (month_name c.month)
item_text c (item.ShortMonth l) = short_name l (month_name c.month)
item_text c (item.Weekday l) = padded_name l (weekday_name c.weekday)
item_text c (item.BareWeekday l) = in_letters l (weekday_name c.weekday)
item_text c (item.ShortWeekday l) = short_name l (weekday_name c.weekday)
item_text c (item.HalfDay l) = in_letters l (half_name c.time)
item_text c (item.Literal b) = b ∷ []
item_text c item.Unknown = []

abbrev pub format_text : CivilTime → List FormatItem → List ℕ
format_text c is = flat_map (item_text c) is

abbrev pub is_known : FormatItem → Bool
is_known item.Unknown = false
is_known i = true

-- each item of a format is known, and there is one
abbrev pub is_writable : List ℕ → Bool
is_writable bs = not (length bs == 0) && list_all is_known (items_of bs)
