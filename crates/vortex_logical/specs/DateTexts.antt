-- Days since 1970-01-01, as they are written: YYYY-MM-DD, in the years 0000 to 9999. They are read
-- with slashes, too: YYYY/MM/DD.
use Rattle.std.specs.Prelude.{◌≡◌, ◌+◌, ◌-◌, ◌*◌, ◌/◌, ◌%◌, ℕ, ℤ, pos, List, [], ◌∷◌, Option, Some}
use Rattle.std.specs.Prelude.{None}
use Rattle.std.specs.Prelude.{if◌then◌else◌, ◌==◌, ◌&&◌, ◌||◌, nat_le, Bool, neg_ℤ, ◌≤ℤ◌, ◌↔◌}
use Rattle.std.specs.Char.{is_ascii_digit}
use Rattle.jiff_core.specs.Calendar.{days_from_civil, days_in_month, IsCivilDate}

-- the number that two digits write
abbrev pub two_digits : ℕ → ℕ → Option ℕ
two_digits a b =
    if is_ascii_digit a && is_ascii_digit b then Some ((a - 48) * 10 + (b - 48)) else None

-- whether the calendar has the day
abbrev pub is_civil : ℕ → ℕ → ℕ → Bool
is_civil y m d =
    nat_le 1 m && nat_le m 12 && nat_le 1 d && nat_le d (days_in_month (pos y) m)

-- the number of a day: two digits of the year, two more, the month, and the day of the month
abbrev pub day_number : Option ℕ → Option ℕ → Option ℕ → Option ℕ → Option ℤ
day_number (Some c) (Some y) (Some m) (Some d) =
    if is_civil (c * 100 + y) m d then Some (days_from_civil (pos (c * 100 + y)) m d) else None
day_number c y m d = None

-- two hyphens or two slashes
abbrev pub are_signs : ℕ → ℕ → Bool
are_signs p q = ((p == 45) && (q == 45)) || ((p == 47) && (q == 47))

-- the day that a text names
abbrev pub date_of_text : List ℕ → Option ℤ
date_of_text (c ∷ d ∷ y ∷ z ∷ p ∷ m ∷ n ∷ q ∷ e ∷ f ∷ []) =
    if are_signs p q
    then day_number (two_digits c d) (two_digits y z) (two_digits m n) (two_digits e f) else None
date_of_text bs = None

-- a number below 100 as two digits, before what follows
abbrev pub padded : ℕ → List ℕ → List ℕ
padded n bs = (48 + n / 10) ∷ (48 + n % 10) ∷ bs

abbrev pub date_text : ℕ → ℕ → ℕ → List ℕ
date_text y m d = padded (y / 100) (padded (y % 100) (45 ∷ padded m (45 ∷ padded d [])))

-- year, month and day of the day with that number
pub record IsDay (z : ℤ) (y m d : ℕ) : Type 0 where
  pub calendar : IsCivilDate (pos y) m d
  pub number : days_from_civil (pos y) m d ≡ z

-- the day with that number is in the years 0000 to 9999
abbrev pub IsDated : ℤ → Type 0
IsDated z = (y : ℕ) × (m : ℕ) × (d : ℕ) × IsDay z y m d

-- the text of the day with that number
abbrev pub IsDateText : ℤ → List ℕ → Type 0
IsDateText z text = (y : ℕ) × (m : ℕ) × (d : ℕ) × IsDay z y m d × (text ≡ date_text y m d)

-- what is written of a day is read back
abbrev pub DatesAreReadBack : Type 0
DatesAreReadBack = (z : ℤ) (text : List ℕ) → IsDateText z text → date_of_text text ≡ Some z

-- the days with a text are those from 0000-01-01 to 9999-12-31
abbrev pub DatedDays : Type 0
DatedDays =
    (z : ℤ) → IsDated z ↔ ((neg_ℤ (pos 719528) ≤ℤ z) × (z ≤ℤ pos 2932896))
