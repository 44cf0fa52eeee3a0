-- Stored integers are in the order of what they mean.
use Rattle.std.proofs.Common.{◌≡◌, ◌∙◌, ◌⊎◌, inl, inr, ℕ, ℤ, ◌<◌, ◌^◌, arith, ap, sym, subst, pos, T}
use Rattle.std.specs.Prelude.{◌<ℤ◌, ◌*ℤ◌, ◌+ℤ◌}
use Rattle.std.specs.Ordering.{int_cmp, nan_last_cmp}
use Rattle.std.specs.declared.cmp.Ordering.TheVariants.{Less, Equal}
use Rattle.std.specs.Float.{Float, Format, binary32, binary64}
use Rattle.std.proofs.lemmas.Int.{ints}
use borrow.Author.Differences.{below_in}
use lib.Ieee.{fits}
use Rattle.jiff_core.specs.Calendar.{days_from_civil}
use Rattle.jiff_core.proofs.SignedLemmas.{signed_arith}
use Rattle.jiff_core.proofs.DateLemmas.{epoch_day-lt}
use Rattle.vortex_logical.specs.declared.kind.Kind.TheVariants.{Plain, Date, Timestamp, Decimal, F64, F32}
use Rattle.vortex_logical.specs.Decimals.{shifted, decimal_cmp}
use Rattle.vortex_logical.specs.FloatKeys.{key_of_float}
use Rattle.vortex_logical.specs.StandsFor.{Day, number, day, instant, float, NumbersDay, NumbersInstant, IsBefore}
use Rattle.vortex_logical.specs.StandsFor.{StoredValuesAreOrdered}
use Rattle.vortex_logical.proofs.DateLemmas.{date_of}
use Rattle.vortex_logical.proofs.DecimalLaws.{scaled_cmp, ten_pos}
use Rattle.vortex_logical.proofs.FloatKeyOrder.{keys_are_ordered}
use Rattle.vortex_logical.proofs.CellLemmas.{equal_is}

less_is : (u v : ℤ) → int_cmp u v ≡ Less → u <ℤ v
less_is u v e = grind (arith, ints, e)

level_is : (u v : ℤ) → u ≡ v → int_cmp u v ≡ Equal
level_is u v e = grind (arith, ints, e)

day_lt : (y z : ℤ) (a b : Day) → NumbersDay y a → NumbersDay z b → IsBefore a b → y <ℤ z
day_lt y z a b h k l =
    subst (λ n. y <ℤ n) k.number
    (subst (λ n. n <ℤ days_from_civil (pos b.year) b.month b.day) h.number
    (epoch_day-lt (date_of a.year a.month a.day h.calendar) (date_of b.year b.month b.day k.calendar) (earlier l)))
  where
    earlier : IsBefore a b
        → (pos a.year <ℤ pos b.year) ⊎ ((pos a.year ≡ pos b.year) × ((a.month < b.month) ⊎ ((a.month ≡ b.month) × (a.day < b.day))))
    earlier (inl year) = inl (below_in (pos a.year) (pos b.year) (omega (arith, year)))
    earlier (inr rest) = inr (ap (λ n. pos n) rest.0, rest.1)

day_same : (y z : ℤ) (a b : Day) → NumbersDay y a → NumbersDay z b → a ≡ b → y ≡ z
day_same y z a b h k e =
    sym h.number ∙ (λ i. days_from_civil (pos (e i).year) (e i).month (e i).day) ∙ k.number

instant_lt : (y z : ℤ) (a b : Day) (t u : ℕ) → NumbersInstant y a t → NumbersInstant z b u
    → IsBefore a b ⊎ ((a ≡ b) × (t < u)) → y <ℤ z
instant_lt y z a b t u h k (inl l) =
    let less = day_lt h.number k.number a b h.of_day k.of_day l in
    omega (arith, signed_arith, ints, less, h.total, k.total, h.within)
instant_lt y z a b t u h k (inr l) =
    let same = day_same h.number k.number a b h.of_day k.of_day l.0 in
    omega (arith, signed_arith, ints, same, h.total, k.total, l.1)

instant_same : (y z : ℤ) (a b : Day) (t u : ℕ) → NumbersInstant y a t → NumbersInstant z b u → a ≡ b → t ≡ u → y ≡ z
instant_same y z a b t u h k e f =
    h.total
    ∙ (λ i. day_same h.number k.number a b h.of_day k.of_day e i *ℤ pos 86400000000 +ℤ pos (f i))
    ∙ sym k.total

decimal_lt : (m n : ℤ) (s : ℕ) → decimal_cmp m s n s ≡ Less → m <ℤ n
decimal_lt m n s e = less_is m n (sym (scaled_cmp m n (10 ^ s) (ten_pos s)) ∙ e)

decimal_same : (m n : ℤ) (s : ℕ) → shifted m s ≡ shifted n s → m ≡ n
decimal_same m n s e =
    equal_is m n (sym (scaled_cmp m n (10 ^ s) (ten_pos s)) ∙ level_is (shifted m s) (shifted n s) e)

float_lt : (f : Format) (x y : Float) → T (fits f x) → T (fits f y) → nan_last_cmp x y ≡ Less
    → key_of_float f x <ℤ key_of_float f y
float_lt f x y g h e = less_is (key_of_float f x) (key_of_float f y) (keys_are_ordered f x y g h ∙ e)

float_same : (f : Format) (x y : Float) → T (fits f x) → T (fits f y) → nan_last_cmp x y ≡ Equal
    → key_of_float f x ≡ key_of_float f y
float_same f x y g h e = equal_is (key_of_float f x) (key_of_float f y) (keys_are_ordered f x y g h ∙ e)

pub stored_values_are_ordered : StoredValuesAreOrdered
stored_values_are_ordered Plain y z v w h k = absurd h
stored_values_are_ordered Date y z (day a) (day b) h k = (day_lt y z a b h k, day_same y z a b h k)
stored_values_are_ordered Date y z (day a) w h k = absurd k
stored_values_are_ordered Date y z v w h k = absurd h
stored_values_are_ordered Timestamp y z (instant a t) (instant b u) h k =
    (instant_lt y z a b t u h k, λ e. instant_same y z a b t u h k e.0 e.1)
stored_values_are_ordered Timestamp y z (instant a t) w h k = absurd k
stored_values_are_ordered Timestamp y z v w h k = absurd h
stored_values_are_ordered (Decimal p) y z (number m s) (number n t) h k = (
  λ e. by_lt (subst (λ r. decimal_cmp m s n r ≡ Less) (k.1 ∙ sym h.1) e),
  λ e. h.0 ∙ decimal_same m n s (subst (λ r. shifted m r ≡ shifted n s) (k.1 ∙ sym h.1) e) ∙ sym k.0,
)
  where
    by_lt : decimal_cmp m s n s ≡ Less → y <ℤ z
    by_lt e = subst (λ r. y <ℤ r) (sym k.0) (subst (λ r. r <ℤ n) (sym h.0) (decimal_lt m n s e))
stored_values_are_ordered (Decimal p) y z (number m s) w h k = absurd k
stored_values_are_ordered (Decimal p) y z v w h k = absurd h
stored_values_are_ordered F64 y z (float a) (float b) h k = (
  λ e. subst (λ r. y <ℤ r) (sym k.1) (subst (λ r. r <ℤ key_of_float binary64 b) (sym h.1) (float_lt binary64 a b h.0 k.0 e)),
  λ e. h.1 ∙ float_same binary64 a b h.0 k.0 e ∙ sym k.1,
)
stored_values_are_ordered F64 y z (float a) w h k = absurd k
stored_values_are_ordered F64 y z v w h k = absurd h
stored_values_are_ordered F32 y z (float a) (float b) h k = (
  λ e. subst (λ r. y <ℤ r) (sym k.1) (subst (λ r. r <ℤ key_of_float binary32 b) (sym h.1) (float_lt binary32 a b h.0 k.0 e)),
  λ e. h.1 ∙ float_same binary32 a b h.0 k.0 e ∙ sym k.1,
)
stored_values_are_ordered F32 y z (float a) w h k = absurd k
stored_values_are_ordered F32 y z v w h k = absurd h
