-- A name is a word, and names its function alone.
use Rattle.std.specs.Prelude.{◌≡◌, ◌∷◌, ◌&&◌, [], Bool, List, Some, false, refl, true}
use Rattle.std.specs.List.{find, list_all}
use Rattle.std.proofs.Common.{cond}
use Rattle.vortex_types.specs.declared.dtype.PType.{PType}
use Rattle.vortex_types.specs.declared.dtype.PType.TheVariants.{I8, I16, I32, I64, U8, U16, U32}
use Rattle.vortex_types.specs.declared.dtype.PType.TheVariants.{U64}
use Rattle.vortex_sql_choices.specs.declared.extremes.Extreme.TheVariants.{Greatest, Least}
use Rattle.vortex_sql_texts.specs.declared.letters.Letters.TheVariants.{Lower, Upper}
use Rattle.vortex_sql_choices.specs.declared.truth_tests.TruthTest.TheVariants.{IsTrue, IsFalse}
use Rattle.vortex_sql_choices.specs.declared.truth_tests.TruthTest.TheVariants.{IsUnknown}
use Rattle.vortex_sql_numbers.specs.declared.bits.BitOperator.TheVariants.{And, Or, Xor}
use Rattle.vortex_sql_numbers.specs.declared.bits.Shift.TheVariants as shift
use Rattle.vortex_sql_texts.specs.declared.parts.Side.TheVariants as side
use Rattle.vortex_sql_texts.specs.declared.trims.Trim.TheVariants.{Both, Start, End}
use Rattle.vortex_standard.specs.declared.standard.Standard.{Standard}
use Rattle.vortex_standard.specs.declared.standard.Standard.TheVariants as standard
use Rattle.vortex_sql_texts.specs.declared.texts.Measure.TheVariants.{Characters, Bytes}
use Rattle.vortex_sql_float_functions.specs.declared.functions.FloatFunction.TheVariants as function
use Rattle.vortex_sql_float_functions.specs.declared.places.FloatPlaces.TheVariants as places
use Rattle.vortex_sql_floats.specs.declared.floats.FloatOperator.TheVariants as float
use Rattle.vortex_sql_dates.specs.declared.parts.Part.{Part}
use Rattle.vortex_sql_dates.specs.declared.parts.Part.TheVariants as part
use Rattle.vortex_sql_dates.specs.declared.truncations.Unit.{Unit}
use Rattle.vortex_sql_dates.specs.declared.truncations.Unit.TheVariants as unit
use Rattle.vortex_sql_pads.specs.declared.pads.Pad.TheVariants as pad
use Rattle.vortex_sql_patterns.specs.declared.functions.PatternFunction.TheVariants as pattern
use Rattle.vortex_float_texts.specs.declared.width.Width.{Width}
use Rattle.vortex_float_texts.specs.declared.width.Width.TheVariants as width
use Rattle.vortex_sql_kind_texts.specs.declared.kinds.StoredKind.{StoredKind}
use Rattle.vortex_sql_kind_texts.specs.declared.kinds.StoredKind.TheVariants as stored
use Rattle.vortex_sql_kind_texts.specs.declared.kinds.WrittenKind.{WrittenKind}
use Rattle.vortex_sql_kind_texts.specs.declared.kinds.WrittenKind.TheVariants as written
use Rattle.vortex_sql_kind_texts.specs.declared.decimals.Rounding.{Rounding}
use Rattle.vortex_sql_kind_texts.specs.declared.decimals.Rounding.TheVariants as rounding
use Rattle.vortex_standard.specs.declared.names.TheConstants.{FUNCTIONS}
use Rattle.vortex_standard.specs.declared.scales.DecimalScale.{DecimalScale}
use Rattle.vortex_standard.specs.declared.scales.DecimalScale.TheVariants as scale
use Rattle.vortex_standard.specs.Names.{functions, has_name, is_name, is_short, name_of}
use Rattle.vortex_standard.specs.Names.{standard_named}

-- a function is the first that has its name
abbrev IsFirst : Standard → Type 0
IsFirst f = find (has_name (name_of f)) functions ≡ Some f

first_cast : (p : PType) → IsFirst (standard.Cast (record { ptype = p }))
first_cast I8 = refl
first_cast I16 = refl
first_cast I32 = refl
first_cast I64 = refl
first_cast U8 = refl
first_cast U16 = refl
first_cast U32 = refl
first_cast U64 = refl

first_widen : (p : PType) → IsFirst (standard.Widen (record { ptype = p }))
first_widen I8 = refl
first_widen I16 = refl
first_widen I32 = refl
first_widen I64 = refl
first_widen U8 = refl
first_widen U16 = refl
first_widen U32 = refl
first_widen U64 = refl

first_text : (p : PType) → IsFirst (standard.TextToInt (record { ptype = p }))
first_text I8 = refl
first_text I16 = refl
first_text I32 = refl
first_text I64 = refl
first_text U8 = refl
first_text U16 = refl
first_text U32 = refl
first_text U64 = refl

first_try_cast : (p : PType) → IsFirst (standard.TryCast (record { ptype = p }))
first_try_cast I8 = refl
first_try_cast I16 = refl
first_try_cast I32 = refl
first_try_cast I64 = refl
first_try_cast U8 = refl
first_try_cast U16 = refl
first_try_cast U32 = refl
first_try_cast U64 = refl

first_try_text : (p : PType) → IsFirst (standard.TryTextToInt (record { ptype = p }))
first_try_text I8 = refl
first_try_text I16 = refl
first_try_text I32 = refl
first_try_text I64 = refl
first_try_text U8 = refl
first_try_text U16 = refl
first_try_text U32 = refl
first_try_text U64 = refl

first_truth : (p : PType) → IsFirst (standard.TruthToInt (record { ptype = p }))
first_truth I8 = refl
first_truth I16 = refl
first_truth I32 = refl
first_truth I64 = refl
first_truth U8 = refl
first_truth U16 = refl
first_truth U32 = refl
first_truth U64 = refl

first_float_cast : (p : PType) → IsFirst (standard.FloatToInt (record { ptype = p }))
first_float_cast I8 = refl
first_float_cast I16 = refl
first_float_cast I32 = refl
first_float_cast I64 = refl
first_float_cast U8 = refl
first_float_cast U16 = refl
first_float_cast U32 = refl
first_float_cast U64 = refl

first_try_float : (p : PType) → IsFirst (standard.TryFloatToInt (record { ptype = p }))
first_try_float I8 = refl
first_try_float I16 = refl
first_try_float I32 = refl
first_try_float I64 = refl
first_try_float U8 = refl
first_try_float U16 = refl
first_try_float U32 = refl
first_try_float U64 = refl

first_decimal : (s : DecimalScale) → IsFirst (standard.DecimalToFloat s)
first_decimal scale.S0 = refl
first_decimal scale.S1 = refl
first_decimal scale.S2 = refl
first_decimal scale.S3 = refl
first_decimal scale.S4 = refl
first_decimal scale.S5 = refl
first_decimal scale.S6 = refl
first_decimal scale.S7 = refl
first_decimal scale.S8 = refl
first_decimal scale.S9 = refl
first_decimal scale.S10 = refl
first_decimal scale.S11 = refl
first_decimal scale.S12 = refl
first_decimal scale.S13 = refl
first_decimal scale.S14 = refl
first_decimal scale.S15 = refl
first_decimal scale.S16 = refl
first_decimal scale.S17 = refl
first_decimal scale.S18 = refl

first_date_part : (p : Part) → IsFirst (standard.DatePart (record { part = p }))
first_date_part part.Year = refl
first_date_part part.Quarter = refl
first_date_part part.Month = refl
first_date_part part.Week = refl
first_date_part part.Day = refl
first_date_part part.DayOfWeek = refl
first_date_part part.IsoDayOfWeek = refl
first_date_part part.DayOfYear = refl
first_date_part part.Epoch = refl
first_date_part part.Hour = refl
first_date_part part.Minute = refl
first_date_part part.Second = refl
first_date_part part.Millisecond = refl
first_date_part part.Microsecond = refl

first_timestamp_part : (p : Part) → IsFirst (standard.TimestampPart (record { part = p }))
first_timestamp_part part.Year = refl
first_timestamp_part part.Quarter = refl
first_timestamp_part part.Month = refl
first_timestamp_part part.Week = refl
first_timestamp_part part.Day = refl
first_timestamp_part part.DayOfWeek = refl
first_timestamp_part part.IsoDayOfWeek = refl
first_timestamp_part part.DayOfYear = refl
first_timestamp_part part.Epoch = refl
first_timestamp_part part.Hour = refl
first_timestamp_part part.Minute = refl
first_timestamp_part part.Second = refl
first_timestamp_part part.Millisecond = refl
first_timestamp_part part.Microsecond = refl

first_date_trunc : (u : Unit) → IsFirst (standard.DateTrunc (record { unit = u }))
first_date_trunc unit.Year = refl
first_date_trunc unit.Quarter = refl
first_date_trunc unit.Month = refl
first_date_trunc unit.Week = refl
first_date_trunc unit.Day = refl
first_date_trunc unit.Hour = refl
first_date_trunc unit.Minute = refl
first_date_trunc unit.Second = refl

first_timestamp_trunc : (u : Unit) → IsFirst (standard.TimestampTrunc (record { unit = u }))
first_timestamp_trunc unit.Year = refl
first_timestamp_trunc unit.Quarter = refl
first_timestamp_trunc unit.Month = refl
first_timestamp_trunc unit.Week = refl
first_timestamp_trunc unit.Day = refl
first_timestamp_trunc unit.Hour = refl
first_timestamp_trunc unit.Minute = refl
first_timestamp_trunc unit.Second = refl

first_reading : (k : StoredKind) → IsFirst (standard.TextToKind (record { kind = k }))
first_reading stored.Date = refl
first_reading stored.Timestamp = refl
first_reading stored.F64 = refl
first_reading stored.F32 = refl

first_try_reading : (k : StoredKind) → IsFirst (standard.TryTextToKind (record { kind = k }))
first_try_reading stored.Date = refl
first_try_reading stored.Timestamp = refl
first_try_reading stored.F64 = refl
first_try_reading stored.F32 = refl

first_writing : (k : WrittenKind) → IsFirst (standard.KindToText (record { kind = k }))
first_writing written.Date = refl
first_writing written.Timestamp = refl

first_float_writing : (w : Width) → IsFirst (standard.FloatToText (record { width = w }))
first_float_writing width.F64 = refl
first_float_writing width.F32 = refl

first_rounding : (r : Rounding) → IsFirst (standard.DecimalRound (record { rounding = r }))
first_rounding rounding.Half = refl
first_rounding rounding.Floor = refl
first_rounding rounding.Ceiling = refl
first_rounding rounding.Trunc = refl

first : (f : Standard) → IsFirst f
first standard.Coalesce = refl
first standard.NullIf = refl
first standard.Case = refl
first standard.InList = refl
first standard.IsDistinct = refl
first standard.Remainder = refl
first standard.Sign = refl
first standard.Abs = refl
first standard.BitNot = refl
first standard.IntToTruth = refl
first standard.TruthToText = refl
first standard.StartsWith = refl
first standard.Substr = refl
first standard.StrPos = refl
first standard.TextToTruth = refl
first standard.Concat = refl
first standard.IntToText = refl
first standard.SplitPart = refl
first standard.Replace = refl
first standard.Repeat = refl
first standard.Reverse = refl
first standard.ConcatAll = refl
first standard.Initcap = refl
first standard.RegexpReplace = refl
first standard.RegexpExtract = refl
first standard.ConcatWs = refl
first standard.Ascii = refl
first standard.Chr = refl
first standard.ToHex = refl
first standard.BitLength = refl
first standard.Translate = refl
first standard.Overlay = refl
first standard.Space = refl
first standard.TryTextToTruth = refl
first standard.FloatNegate = refl
first standard.IntToFloat = refl
first standard.WidenFloat = refl
first standard.DateToTimestamp = refl
first standard.TimestampToDate = refl
first standard.MakeDate = refl
first standard.DateAddMonths = refl
first standard.TimestampAddMonths = refl
first standard.DateToChar = refl
first standard.TimestampToChar = refl
first standard.TextToDateBy = refl
first standard.TextToTimestampBy = refl
first standard.TryTextToDateBy = refl
first standard.TryTextToTimestampBy = refl
first standard.TextToDecimal = refl
first standard.TryTextToDecimal = refl
first standard.DecimalToText = refl
first standard.DecimalScaled = refl
first standard.TryDecimalScaled = refl
first standard.FloatToDecimal = refl
first standard.TryFloatToDecimal = refl
first (standard.Extreme Greatest) = refl
first (standard.Extreme Least) = refl
first (standard.TruthTest IsTrue) = refl
first (standard.TruthTest IsFalse) = refl
first (standard.TruthTest IsUnknown) = refl
first (standard.BitOperator And) = refl
first (standard.BitOperator Or) = refl
first (standard.BitOperator Xor) = refl
first (standard.Shift shift.Left) = refl
first (standard.Shift shift.Right) = refl
first (standard.Cast f) = first_cast f.ptype
first (standard.Widen f) = first_widen f.ptype
first (standard.TruthToInt f) = first_truth f.ptype
first (standard.Measure Characters) = refl
first (standard.Measure Bytes) = refl
first (standard.Side side.Left) = refl
first (standard.Side side.Right) = refl
first (standard.Trim Both) = refl
first (standard.Trim Start) = refl
first (standard.Trim End) = refl
first (standard.TextToInt f) = first_text f.ptype
first (standard.TryCast f) = first_try_cast f.ptype
first (standard.TryTextToInt f) = first_try_text f.ptype
first (standard.Letters Lower) = refl
first (standard.Letters Upper) = refl
first (standard.Pad pad.Left) = refl
first (standard.Pad pad.Right) = refl
first (standard.FloatOperator float.Add) = refl
first (standard.FloatOperator float.Subtract) = refl
first (standard.FloatOperator float.Multiply) = refl
first (standard.FloatOperator float.Divide) = refl
first (standard.DecimalToFloat s) = first_decimal s
first (standard.FloatToInt f) = first_float_cast f.ptype
first (standard.TryFloatToInt f) = first_try_float f.ptype
first (standard.FloatFunction function.Round) = refl
first (standard.FloatFunction function.Floor) = refl
first (standard.FloatFunction function.Ceil) = refl
first (standard.FloatFunction function.Trunc) = refl
first (standard.FloatFunction function.Sqrt) = refl
first (standard.FloatFunction function.Abs) = refl
first (standard.FloatFunction function.Sign) = refl
first (standard.FloatPlaces places.Round) = refl
first (standard.FloatPlaces places.Trunc) = refl
first (standard.DatePart f) = first_date_part f.part
first (standard.TimestampPart f) = first_timestamp_part f.part
first (standard.DateTrunc f) = first_date_trunc f.unit
first (standard.TimestampTrunc f) = first_timestamp_trunc f.unit
first (standard.TextToKind f) = first_reading f.kind
first (standard.TryTextToKind f) = first_try_reading f.kind
first (standard.KindToText f) = first_writing f.kind
first (standard.FloatToText f) = first_float_writing f.width
first (standard.DecimalRound f) = first_rounding f.rounding
first (standard.PatternFunction pattern.Like) = refl
first (standard.PatternFunction pattern.Substr) = refl
first (standard.PatternFunction pattern.Instr) = refl
first (standard.PatternFunction pattern.Count) = refl
first (standard.PatternFunction pattern.AnyCase) = refl
first (standard.PatternFunction pattern.NotLike) = refl
first (standard.PatternFunction pattern.NotAnyCase) = refl
first (standard.PatternFunction pattern.Part) = refl

-- a function's name names that function
pub named_back : (f : Standard) → standard_named (name_of f) ≡ Some f
named_back f = rw (first f) refl

found_passes : {X : Type 0} (p q : X → Bool) (xs : List X) (x : X) → find p xs ≡ Some x
    → list_all q xs ≡ true → q x ≡ true
found_passes p q [] x e h = cc
found_passes p q (y ∷ ys) x e h =
    by (p y) (q y) refl refl (λ l m. found_passes p q ys x l m) e h
  where
    by : (b c : Bool) → p y ≡ b → q y ≡ c
        → (find p ys ≡ Some x → list_all q ys ≡ true → q x ≡ true)
        → cond b (Some y) (find p ys) ≡ Some x → (c && list_all q ys) ≡ true → q x ≡ true
    by true true k l later m n = cc
    by false true k l later m n = later m n
    by b false k l later m n = cc

-- what holds of each function of the lists holds of any
pub of_each : (q : Standard → Bool) → list_all q functions ≡ true → (f : Standard) → q f ≡ true
of_each q e f = found_passes (has_name (name_of f)) q functions f (first f) e

pub name_is_word : (f : Standard) → is_name (name_of f) ≡ true
name_is_word = of_each (λ f. is_name (name_of f)) refl

pub short_names : list_all (λ f. is_short (name_of f)) FUNCTIONS ≡ true
short_names = refl
