-- What statistics say of a column, and which of them contradict themselves.
use Rattle.std.specs.Prelude.{◌≡◌, ◌&&◌, ◌||◌, ℕ, Bool, true, false, Option, Some, None}
use Rattle.std.specs.Prelude.{nat_eq, nat_le, IfSome, refl}
use Rattle.std.specs.Coded.{Coded, code_by, coded×, coded_ℕ, coded_bool, coded_option}
use Rattle.std.specs.Ordering.{is_le}
use Rattle.vortex_types.specs.LogicalTypes.{LogicalType, is_nullable}
use Rattle.vortex_types.specs.Values.{Value, is_null}
use Rattle.vortex_types.specs.Order.{compare_values}
use Rattle.vortex_types.specs.Typing.{HasType}
use Rattle.vortex_types.specs.Codes.{coded_type, coded_value}

-- an end of the values; an attained one is the value of a row
pub record EndView : Type 0 where
  pub value : Value
  pub attained : Bool

-- None for what is not known: how many rows there are, how many of them are null, and the ends
-- between which the others lie; and whether the ends leave NaN out
pub record StatisticsView : Type 0 where
  pub dtype : LogicalType
  pub rows : Option ℕ
  pub nulls : Option ℕ
  pub low : Option EndView
  pub high : Option EndView
  pub skips_nan : Bool

-- no more nulls than rows, and none where the type has no null
abbrev pub counts_agree : Bool → Option ℕ → Option ℕ → Bool
counts_agree nullable rows None = true
counts_agree nullable None (Some k) = nullable || nat_eq k 0
counts_agree nullable (Some n) (Some k) = (nullable || nat_eq k 0) && nat_le k n

-- a value of the type that is not null
pub record IsEndOf (t : LogicalType) (e : EndView) : Type 0 where
  pub valid : is_null e.value ≡ false
  pub typed : HasType t e.value

-- v is below w, or the same
abbrev pub is_at_most : Value → Value → Bool
is_at_most v w = is_le (compare_values v w)

-- the low end is not above the high one
abbrev pub are_in_order : Option EndView → Option EndView → Bool
are_in_order (Some a) (Some b) = is_at_most a.value b.value
are_in_order low high = true

abbrev pub is_attained : Option EndView → Bool
is_attained None = false
is_attained (Some e) = e.attained

-- it is known that each row is null
abbrev pub is_all_null : Option ℕ → Option ℕ → Bool
is_all_null (Some n) (Some k) = nat_eq n k
is_all_null (Some n) None = nat_eq n 0
is_all_null None nulls = false

pub record AreConsistent (s : StatisticsView) : Type 0 where
  pub counts : counts_agree (is_nullable s.dtype) s.rows s.nulls ≡ true
  pub low : IfSome s.low (IsEndOf s.dtype)
  pub high : IfSome s.high (IsEndOf s.dtype)
  pub ordered : are_in_order s.low s.high ≡ true
  pub attained : ((is_attained s.low || is_attained s.high) && is_all_null s.rows s.nulls) ≡ false

abbrev pub coded_end : Coded EndView
coded_end =
    code_by (Value × Bool) (coded× coded_value coded_bool) (λ e. (e.value, e.attained))
    (λ p. record { value = p.0; attained = p.1 }) (λ _. refl)

abbrev pub coded_statistics : Coded StatisticsView
coded_statistics =
    code_by
    (LogicalType × (Option ℕ × (Option ℕ × (Option EndView × (Option EndView × Bool))))) coded_parts
    (λ s. (s.dtype, (s.rows, (s.nulls, (s.low, (s.high, s.skips_nan))))))
    (λ p.
    record {
      dtype = p.0;
      rows = p.1.0;
      nulls = p.1.1.0;
      low = p.1.1.1.0;
      high = p.1.1.1.1.0;
      skips_nan = p.1.1.1.1.1;
    })
    (λ _. refl)
  where
    coded_parts : Coded
        (LogicalType × (Option ℕ × (Option ℕ × (Option EndView × (Option EndView × Bool)))))
    coded_parts =
        coded× coded_type
        (coded× (coded_option coded_ℕ)
        (coded× (coded_option coded_ℕ)
        (coded× (coded_option coded_end) (coded× (coded_option coded_end) coded_bool))))
