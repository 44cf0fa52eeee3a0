-- Sets of numbers or texts in buckets of four slots.
use Rattle.std.specs.Prelude.{ℕ, ℤ, ◌+◌, ◌-◌, ◌*◌, ◌/◌, ◌%◌, ◌^◌, ◌||◌, Bool, List, fold, bit_and}
use Rattle.std.specs.Prelude.{bit_xor, slice_index_or}
use Rattle.std.specs.Ordering.{is_eq}
use Rattle.std.specs.Int.{w128, cast_unsigned}
use Rattle.std.specs.List.{list_any}
use Rattle.vortex_types.specs.Order.{compare_values}
use Rattle.vortex_types.specs.Values.{Value, null, number, text}

abbrev pub is_same_item : Value → Value → Bool
is_same_item v w = is_eq (compare_values v w)

abbrev pub is_member : List Value → Value → Bool
is_member vs v = list_any (is_same_item v) vs

-- the lower 64 bits
abbrev pub lower_bits : ℤ → ℕ
lower_bits z = bit_and (cast_unsigned w128 z) (2 ^ 64 - 1)

-- the hash of Fowler, Noll and Vo, in its variant 1a of 64 bits
abbrev pub fnv_step : ℕ → ℕ → ℕ
fnv_step h b = (bit_xor h b * 0x100_0000_01b3) % 2 ^ 64

abbrev pub fnv : List ℕ → ℕ
fnv bs = fold fnv_step 0xcbf2_9ce4_8422_2325 bs

-- by which a value finds its bucket
abbrev pub number_key : Value → ℕ
number_key (number z) = lower_bits z
number_key v = 0

abbrev pub text_key : Value → ℕ
text_key (text bs) = fnv bs
text_key v = 0

-- the bucket of a key, of as many as the last one's number and 1
abbrev pub bucket_of : ℕ → ℕ → ℕ
bucket_of last key = bit_and (((key * 0x9e37_79b9_7f4a_7c15) % 2 ^ 64) / 2 ^ 40) last

abbrev pub is_at : List Value → ℕ → Value → Bool
is_at slots i v = is_same_item v (slice_index_or slots i null)

-- one of four slots
abbrev pub has_at : List Value → ℕ → Value → Bool
has_at slots i v =
    (is_at slots i v || is_at slots (i + 1) v) || (is_at slots (i + 2) v || is_at slots (i + 3) v)

-- the bucket of the value has it
abbrev pub is_found : (Value → ℕ) → ℕ → List Value → Value → Bool
is_found key last slots v = has_at slots (4 * bucket_of last (key v)) v
