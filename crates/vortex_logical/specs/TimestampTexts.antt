-- Microseconds since 1970-01-01T00:00:00, as they are written: a date, T or a blank, hours, minutes
-- and seconds, which may be left out, and if need be a point with up to six digits, and a zone's
-- offset.
use Rattle.std.specs.Prelude.{◌≡◌, ◌+◌, ◌-◌, ◌*◌, ◌/◌, ◌%◌, ◌^◌, ◌<◌, ℕ, zero, suc, ℤ, pos, neg_ℤ}
use Rattle.std.specs.Prelude.{◌+ℤ◌, ◌-ℤ◌}
use Rattle.std.specs.Prelude.{◌*ℤ◌, List, [], ◌∷◌, ◌++◌, Option, Some, None, take, drop}
use Rattle.std.specs.Prelude.{if◌then◌else◌, ◌==◌, ◌&&◌, ◌||◌, nat_le, int_le}
use Rattle.std.specs.Char.{is_ascii_digit}
use Rattle.std.specs.Int.{int_div_euclid}
use Rattle.std.specs.Option.{option_map}
use Rattle.vortex_logical.specs.DecimalTexts.{last_digits}
use Rattle.vortex_logical.specs.DateTexts.{two_digits, date_of_text, padded}
use Rattle.vortex_logical.specs.DateTexts.{IsDated, IsDateText}

-- the minutes that a zone is ahead: hours and minutes after a sign
abbrev pub signed_offset : ℕ → Option ℕ → Option ℕ → Option ℤ
signed_offset sign (Some h) (Some m) =
    if nat_le h 23 && nat_le m 59
    then (if sign == 43 then Some (pos (h * 60 + m))
    else (if sign == 45 then Some (neg_ℤ (pos (h * 60 + m))) else None))
    else None
signed_offset sign h m = None

-- the same of a text: nothing, Z, +hh, +hhmm or +hh:mm
abbrev pub offset_of_text : List ℕ → Option ℤ
offset_of_text [] = Some (pos 0)
offset_of_text (z ∷ []) = if z == 90 then Some (pos 0) else None
offset_of_text (s ∷ h ∷ i ∷ []) = signed_offset s (two_digits h i) (Some 0)
offset_of_text (s ∷ h ∷ i ∷ m ∷ n ∷ []) = signed_offset s (two_digits h i) (two_digits m n)
offset_of_text (s ∷ h ∷ i ∷ c ∷ m ∷ n ∷ []) =
    if c == 58 then signed_offset s (two_digits h i) (two_digits m n) else None
offset_of_text bs = None

-- the digits from here on as millionths, and what follows them: how many places are left, and the
-- number so far
abbrev pub fraction_from : ℕ → ℕ → List ℕ → Option (ℕ × List ℕ)
fraction_from left n [] = Some (n * 10 ^ left, [])
fraction_from zero n (b ∷ bs) = if is_ascii_digit b then None else Some (n, b ∷ bs)
fraction_from (suc left) n (b ∷ bs) =
    if is_ascii_digit b then fraction_from left (n * 10 + (b - 48)) bs
    else Some (n * 10 ^ suc left, b ∷ bs)

-- at least one digit
abbrev pub fraction_of_text : List ℕ → Option (ℕ × List ℕ)
fraction_of_text [] = None
fraction_of_text (b ∷ bs) = if is_ascii_digit b then fraction_from 6 0 (b ∷ bs) else None

-- a time of the day in microseconds, less the offset that follows it
abbrev pub zoned : ℕ → List ℕ → Option ℤ
zoned micros bs = option_map (λ o. pos micros -ℤ (o *ℤ pos 60000000)) (offset_of_text bs)

abbrev pub with_fraction : ℕ → Option (ℕ × List ℕ) → Option ℤ
with_fraction seconds None = None
with_fraction seconds (Some p) = zoned (seconds * 1000000 + p.0) p.1

abbrev pub after_seconds : ℕ → List ℕ → Option ℤ
after_seconds seconds [] = zoned (seconds * 1000000) []
after_seconds seconds (b ∷ bs) =
    if b == 46 then with_fraction seconds (fraction_of_text bs)
    else zoned (seconds * 1000000) (b ∷ bs)

abbrev pub clock_seconds : Option ℕ → Option ℕ → Option ℕ → Option ℕ
clock_seconds (Some h) (Some m) (Some s) =
    if nat_le h 23 && nat_le m 59 && nat_le s 59 then Some (h * 3600 + m * 60 + s) else None
clock_seconds h m s = None

abbrev pub with_seconds : Option ℕ → List ℕ → Option ℤ
with_seconds None bs = None
with_seconds (Some seconds) bs = after_seconds seconds bs

-- hours and minutes without seconds
abbrev pub with_minutes : Option ℕ → List ℕ → Option ℤ
with_minutes None bs = None
with_minutes (Some seconds) bs = zoned (seconds * 1000000) bs

-- what follows hours and minutes: a colon and seconds, or none
abbrev pub after_minutes : ℕ → ℕ → List ℕ → Option ℤ
after_minutes h m (d ∷ s ∷ u ∷ bs) =
    if d == 58 then with_seconds (clock_seconds (Some h) (Some m) (two_digits s u)) bs
    else with_minutes (clock_seconds (Some h) (Some m) (Some 0)) (d ∷ s ∷ u ∷ bs)
after_minutes h m bs = with_minutes (clock_seconds (Some h) (Some m) (Some 0)) bs

abbrev pub timed : Option ℕ → Option ℕ → List ℕ → Option ℤ
timed (Some h) (Some m) bs = after_minutes h m bs
timed h m bs = None

-- what follows the date, in microseconds
abbrev pub time_of_text : List ℕ → Option ℤ
time_of_text (t ∷ h ∷ i ∷ c ∷ m ∷ n ∷ bs) =
    if ((t == 84) || (t == 32)) && (c == 58) then timed (two_digits h i) (two_digits m n) bs
    else None
time_of_text bs = None

-- the instant, if it is in the years 0000 to 9999
abbrev pub in_years : ℤ → Option ℤ
in_years z =
    if int_le (neg_ℤ (pos 62167219200000000)) z && int_le z (pos 253402300799999999)
    then Some z else None

abbrev pub instant_at : Option ℤ → Option ℤ → Option ℤ
instant_at (Some day) (Some time) = in_years (day *ℤ pos 86400000000 +ℤ time)
instant_at day time = None

-- the instant of a text
abbrev pub timestamp_of_text : List ℕ → Option ℤ
timestamp_of_text text = instant_at (date_of_text (take 10 text)) (time_of_text (drop 10 text))

abbrev pub fraction_text : ℕ → List ℕ
fraction_text f = if f == 0 then [] else 46 ∷ last_digits 6 f

-- a time of the day, in microseconds
abbrev pub time_text : ℕ → List ℕ
time_text t =
    84 ∷ padded (t / 3600000000) (58 ∷ padded (t / 60000000 % 60)
    (58 ∷ padded (t / 1000000 % 60) (fraction_text (t % 1000000))))

-- the instant is in the years 0000 to 9999
abbrev pub IsTimed : ℤ → Type 0
IsTimed z = IsDated (int_div_euclid z (pos 86400000000))

-- the text of the instant z: that of its day and of its time
pub record IsTimestampText (z : ℤ) (text : List ℕ) : Type 0 where
  pub day : ℤ
  pub time : ℕ
  pub date : List ℕ
  pub number : z ≡ (day *ℤ pos 86400000000 +ℤ pos time)
  pub within : time < 86400000000
  pub dated : IsDateText day date
  pub written : text ≡ date ++ time_text time

-- what is written of an instant is read back
abbrev pub TimestampsAreReadBack : Type 0
TimestampsAreReadBack =
    (z : ℤ) (text : List ℕ) → IsTimestampText z text → timestamp_of_text text ≡ Some z
