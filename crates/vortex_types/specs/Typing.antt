-- Which values have which type.
use Rattle.std.specs.Prelude.{◌≡◌, ◌<◌, ◌≤ℤ◌, ℤ, pos, negsuc, Bool, true, IsTrue, All, IsUtf8}
use Rattle.vortex_types.specs.declared.dtype.PType.{PType}
use Rattle.vortex_types.specs.declared.dtype.PType.TheVariants.{I8, I16, I32, I64, U8, U16, U32}
use Rattle.vortex_types.specs.declared.dtype.PType.TheVariants.{U64}
use Rattle.vortex_types.specs.LogicalTypes.{LogicalType, null_type, bool_type, integer_type}
use Rattle.vortex_types.specs.LogicalTypes.{text_type, bytes_type, struct_type, list_type}
use Rattle.vortex_types.specs.LogicalTypes.{fixed_size_list_type, map_type, Fields, no_fields}
use Rattle.vortex_types.specs.LogicalTypes.{field}
use Rattle.vortex_types.specs.Values.{Value, null, truth, number, text, bytes, list, Values}
use Rattle.vortex_types.specs.Values.{no_values, value, value_count}

-- the least number of an integer type
abbrev pub least_of : PType → ℤ
least_of I8 = negsuc 127
least_of I16 = negsuc 32767
least_of I32 = negsuc 2147483647
least_of I64 = negsuc 9223372036854775807
least_of p = pos 0

-- and the greatest
abbrev pub greatest_of : PType → ℤ
greatest_of I8 = pos 127
greatest_of I16 = pos 32767
greatest_of I32 = pos 2147483647
greatest_of I64 = pos 9223372036854775807
greatest_of U8 = pos 255
greatest_of U16 = pos 65535
greatest_of U32 = pos 4294967295
greatest_of U64 = pos 18446744073709551615

-- the range of an integer type
abbrev pub FitsPType : PType → ℤ → Type 0
FitsPType p z = (least_of p ≤ℤ z) × (z ≤ℤ greatest_of p)

-- null if the type has it, else P
abbrev pub OrNull : Bool → (Value → Type 0) → Value → Type 0
OrNull n P null = IsTrue n
OrNull n P v = P v

abbrev pub IsTruth : Value → Type 0
IsTruth (truth b) = Unit {0}
IsTruth v = ⊥

abbrev pub IsNumber : (ℤ → Type 0) → Value → Type 0
IsNumber P (number z) = P z
IsNumber P v = ⊥

abbrev pub IsText : Value → Type 0
IsText (text bs) = IsUtf8 bs
IsText v = ⊥

abbrev pub IsBytes : Value → Type 0
IsBytes (bytes bs) = All (λ b. b < 256) bs
IsBytes v = ⊥

abbrev pub IsList : (Values → Type 0) → Value → Type 0
IsList P (list vs) = P vs
IsList P v = ⊥

abbrev pub Each : (Value → Type 0) → Values → Type 0
Each P no_values = Unit {0}
Each P (value v vs) = P v × Each P vs

abbrev pub IsPair : (Value → Type 0) → (Value → Type 0) → Values → Type 0
IsPair P Q (value v (value w no_values)) = P v × Q w
IsPair P Q vs = ⊥

abbrev pub IsNone : Values → Type 0
IsNone no_values = Unit {0}
IsNone vs = ⊥

abbrev pub IsFirst : (Value → Type 0) → (Values → Type 0) → Values → Type 0
IsFirst P Q (value v vs) = P v × Q vs
IsFirst P Q vs = ⊥

-- the value has the type: null has every nullable type; a number, an integer type that holds it; a
-- list, fixed-size list or map, the type of its elements or entries; a record, the types of its
-- fields in declared order
abbrev mutual
  pub HasType : LogicalType → Value → Type 0
  HasType null_type = OrNull true (λ v. ⊥)
  HasType (bool_type n) = OrNull n IsTruth
  HasType (integer_type p n) = OrNull n (IsNumber (FitsPType p))
  HasType (text_type n) = OrNull n IsText
  HasType (bytes_type n) = OrNull n IsBytes
  HasType (struct_type fs n) = OrNull n (IsList (HaveFields fs))
  HasType (list_type t n) = OrNull n (IsList (Each (HasType t)))
  HasType (fixed_size_list_type t s n) =
      OrNull n (IsList (λ vs. (value_count vs ≡ s) × Each (HasType t) vs))
  HasType (map_type k v n) = OrNull n (IsList (Each (IsList (IsPair (HasType k) (HasType v)))))

  pub HaveFields : Fields → Values → Type 0
  HaveFields no_fields = IsNone
  HaveFields (field name t fs) = IsFirst (HasType t) (HaveFields fs)
