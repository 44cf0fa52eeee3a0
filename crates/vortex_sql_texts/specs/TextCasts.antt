-- Casts of texts to integers and to truth values.
use Rattle.std.specs.Prelude.{◌≡◌, ◌+◌, ◌-◌, ◌*◌, ◌==◌, ◌&&◌, ◌||◌, codes, ℕ, ℤ, pos, neg_ℤ, List, []}
use Rattle.std.specs.Prelude.{◌∷◌, Option, Some, None, Bool, true, false, get_or, map, nat_le, refl}
use Rattle.std.specs.Prelude.{if◌then◌else◌, length, take}
use Rattle.std.proofs.Common.{cond}
use Rattle.std.specs.Char.{is_ascii_digit, to_ascii_lowercase}
use Rattle.std.specs.Str.{bytes_eq}
use Rattle.vortex_types.specs.declared.dtype.PType.{PType}
use Rattle.vortex_types.specs.declared.dtype.PType.TheVariants.{I8, I16, I32, I64, U8, U16, U32}
use Rattle.vortex_types.specs.declared.dtype.PType.TheVariants.{U64}
use Rattle.vortex_types.specs.LogicalTypes.{bool_type, integer_type}
use Rattle.vortex_types.specs.Values.{truth}
use Rattle.vortex_interface.specs.Outcomes.{Outcome, gives, GivesType}
use Rattle.vortex_sql_rows.specs.declared.faults.RowFault.TheVariants.{NoInteger, NoTruth}
use Rattle.vortex_sql_rows.specs.declared.types.Gives.TheVariants as answer
use Rattle.vortex_sql_rows.specs.declared.types.Kind.TheVariants.{Text}
use Rattle.vortex_sql_rows.specs.declared.types.Takes.TheVariants.{Alike}
use Rattle.vortex_sql_rows.specs.Faults.{faults_by}
use Rattle.vortex_sql_rows.specs.Integers.{checked, checked_fits, int_or_fault}
use Rattle.vortex_sql_rows.specs.Row.{Row, LawfulRow}
use Rattle.vortex_sql_rows.specs.Shapes.{strict_row, one_text, one_text_lawful}
use Rattle.vortex_sql_texts.specs.Trims.{members, trimmed}
use Rattle.vortex_sql_texts.specs.declared.trims.Trim.TheVariants.{Both}
use Rattle.vortex_sql_texts.specs.declared.trims.LeftOut.TheVariants.{Spaces}

-- the text without spaces at its ends
abbrev pub within_spaces : List ℕ → List ℕ
within_spaces bs = trimmed Both (members Spaces) bs

-- the number that digits write after the digits of n; none where there are others than digits, or
-- where more digits follow a number that no type has
abbrev pub digits_after : ℕ → List ℕ → Option ℕ
digits_after n [] = Some n
digits_after n (c ∷ cs) =
    if is_ascii_digit c && nat_le n 18446744073709551615 then digits_after (n * 10 + (c - 48)) cs
    else None

-- one digit at least
abbrev pub digits_number : List ℕ → Option ℕ
digits_number [] = None
digits_number (c ∷ cs) = digits_after 0 (c ∷ cs)

abbrev pub negated : Option ℕ → Option ℤ
negated None = None
negated (Some n) = Some (neg_ℤ (pos n))

abbrev pub positive : Option ℕ → Option ℤ
positive None = None
positive (Some n) = Some (pos n)

-- digits, with a sign before them or without
abbrev pub signed_number : List ℕ → Option ℤ
signed_number [] = None
signed_number (c ∷ cs) =
    if c == 45 then negated (digits_number cs)
    else if c == 43 then positive (digits_number cs) else positive (digits_number (c ∷ cs))

-- the number, where the type has it
abbrev pub in_type : PType → Option ℤ → Option ℤ
in_type p None = None
in_type p (Some z) = checked p z

abbrev pub text_number : PType → List ℕ → Outcome
text_number q bs = int_or_fault (NoInteger q) (in_type q (signed_number (within_spaces bs)))

abbrev pub int_cast_id : PType → List ℕ
int_cast_id I8 = codes "sql.utf8_to_i8"
int_cast_id I16 = codes "sql.utf8_to_i16"
int_cast_id I32 = codes "sql.utf8_to_i32"
int_cast_id I64 = codes "sql.utf8_to_i64"
int_cast_id U8 = codes "sql.utf8_to_u8"
int_cast_id U16 = codes "sql.utf8_to_u16"
int_cast_id U32 = codes "sql.utf8_to_u32"
int_cast_id U64 = codes "sql.utf8_to_u64"

abbrev pub int_cast_row : PType → Row
int_cast_row q =
    strict_row (int_cast_id q) 1 (Alike Text) (answer.Integer q) false (one_text (text_number q))

int_cast_named : (q : PType) → get_or (int_cast_id q) 0 0 ≡ 115
int_cast_named I8 = refl
int_cast_named I16 = refl
int_cast_named I32 = refl
int_cast_named I64 = refl
int_cast_named U8 = refl
int_cast_named U16 = refl
int_cast_named U32 = refl
int_cast_named U64 = refl

number_fits : (q : PType) (z : Option ℤ)
    → GivesType (integer_type q false) (int_or_fault (NoInteger q) (in_type q z))
number_fits q None = tt
number_fits q (Some z) = checked_fits (NoInteger q) q z

pub int_cast_lawful : (q : PType) → LawfulRow (int_cast_row q)
int_cast_lawful q =
    one_text_lawful (int_cast_id q) (answer.Integer q) false (int_cast_named q) (text_number q)
    (λ n bs u. number_fits q (signed_number (within_spaces bs))) (λ bs e u. cc)

-- ignoring case: a word, and the start of one, of a byte at least
abbrev pub same_word : List ℕ → List ℕ → Bool
same_word w v = bytes_eq (map to_ascii_lowercase w) (map to_ascii_lowercase v)

abbrev pub is_start : List ℕ → List ℕ → Bool
is_start w v =
    if nat_le 1 (length w) && nat_le (length w) (length v) then same_word w (take (length w) v)
    else false

-- `true`, `yes` or a start of these, `on` and `1`; `false`, `no` or a start of these, `of`, `off`
-- and `0`
abbrev pub is_true_word : List ℕ → Bool
is_true_word w =
    is_start w (codes "true") || (is_start w (codes "yes")
    || (same_word w (codes "on") || same_word w (codes "1")))

abbrev pub is_false_word : List ℕ → Bool
is_false_word w =
    is_start w (codes "false") || (is_start w (codes "no")
    || (same_word w (codes "of") || (same_word w (codes "off") || same_word w (codes "0"))))

abbrev pub word_truth : List ℕ → Outcome
word_truth w =
    if is_true_word w then gives (truth true)
    else if is_false_word w then gives (truth false) else faults_by NoTruth

abbrev pub text_truth : List ℕ → Outcome
text_truth bs = word_truth (within_spaces bs)

abbrev pub truth_cast_row : Row
truth_cast_row =
    strict_row (codes "sql.utf8_to_bool") 1 (Alike Text) answer.Truth false (one_text text_truth)

truth_fits : (b c : Bool)
    → GivesType (bool_type false)
    (cond b (gives (truth true)) (cond c (gives (truth false)) (faults_by NoTruth)))
truth_fits true c = tt
truth_fits false true = tt
truth_fits false false = tt

pub truth_cast_lawful : LawfulRow truth_cast_row
truth_cast_lawful =
    one_text_lawful (codes "sql.utf8_to_bool") answer.Truth false refl text_truth
    (λ n bs u. truth_fits (is_true_word (within_spaces bs)) (is_false_word (within_spaces bs)))
    (λ bs e u. cc)
