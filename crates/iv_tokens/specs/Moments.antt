-- A moment as a text, in seconds since 1970 (RFC 3339, section 5.6: a date-time of UTC, in whole seconds; the Gregorian calendar).
use Rattle.std.specs.Prelude.{ℕ, zero, suc, ◌+◌, ◌-◌, ◌*◌, ◌%◌, ◌==◌, ◌&&◌, ◌||◌, not, Bool, if◌then◌else◌, List, map, get_or, nat_le, nat_lt, bytes_eq, codes, Option, Some, None}
use Rattle.std.specs.Char.{is_ascii_digit}

-- ---- the calendar

abbrev pub is_leap : (year : ℕ) → Bool
is_leap y = (y % 4 == 0) && (not (y % 100 == 0) || (y % 400 == 0))

abbrev pub days_of_year : (year : ℕ) → ℕ
days_of_year y = if is_leap y then 366 else 365

-- April, June, September and November
abbrev pub has_30_days : (month : ℕ) → Bool
has_30_days m = (m == 4) || ((m == 6) || ((m == 9) || (m == 11)))

abbrev pub days_of_month : (year month : ℕ) → ℕ
days_of_month y m = if m == 2 then days_of_year y - 337 else if has_30_days m then 30 else 31

-- the days of as many years from 1970 on
abbrev pub days_of_years : ℕ → ℕ
days_of_years zero = 0
days_of_years (suc n) = days_of_years n + days_of_year (1970 + n)

-- the days of the first months of a year
abbrev pub days_of_months : (year : ℕ) → ℕ → ℕ
days_of_months y zero = 0
days_of_months y (suc n) = days_of_months y n + days_of_month y (n + 1)

-- ---- a moment

pub record Moment : Type 0 where
  pub year : ℕ
  pub month : ℕ
  pub day : ℕ
  pub hour : ℕ
  pub minute : ℕ
  pub second : ℕ

-- from 1970 on
abbrev pub is_moment : Moment → Bool
is_moment m =
    (nat_le 1970 m.year && ((nat_le 1 m.month && nat_le m.month 12) && (nat_le 1 m.day && nat_le m.day (days_of_month m.year m.month))))
    && (nat_lt m.hour 24 && (nat_lt m.minute 60 && nat_lt m.second 60))

-- full days since the first one of 1970
abbrev pub days_of : Moment → ℕ
days_of m = days_of_years (m.year - 1970) + days_of_months m.year (m.month - 1) + (m.day - 1)

abbrev pub seconds_of : Moment → ℕ
seconds_of m = ((days_of m * 24 + m.hour) * 60 + m.minute) * 60 + m.second

-- ---- its text

-- 0 for a digit
abbrev pub shape_of : ℕ → ℕ
shape_of b = if is_ascii_digit b then 48 else b

abbrev pub is_shaped : List ℕ → Bool
is_shaped text = bytes_eq (map shape_of text) (codes "0000-00-00T00:00:00Z")

-- the number that two digits are
abbrev pub two_at : ℕ → List ℕ → ℕ
two_at k text = (get_or text k 0 - 48) * 10 + (get_or text (k + 1) 0 - 48)

abbrev pub read_of : List ℕ → Moment
read_of text = record {
  year = two_at 0 text * 100 + two_at 2 text;
  month = two_at 5 text;
  day = two_at 8 text;
  hour = two_at 11 text;
  minute = two_at 14 text;
  second = two_at 17 text;
}

-- the second that a text names
abbrev pub moment_in : List ℕ → Option ℕ
moment_in text = if is_shaped text && is_moment (read_of text) then Some (seconds_of (read_of text)) else None
