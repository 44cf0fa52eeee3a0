-- The list: a line of each function's row, and one of its laws.
use Rattle.std.specs.Prelude.{codes}
use Rattle.vortex_interface.specs.Meaning.{Meaning}
use Rattle.vortex_standard.specs.declared.standard.Standard.{Standard}
use Rattle.vortex_standard.specs.declared.standard.Standard.TheVariants as standard
use Rattle.vortex_sql_numbers.specs.Abs.{abs_row, abs_lawful}
use Rattle.vortex_sql_choices.specs.Case.{case_row, case_lawful}
use Rattle.vortex_sql_numbers.specs.Bits.{bit_not_row, bit_not_lawful, operator_row, operator_lawful}
use Rattle.vortex_sql_numbers.specs.Bits.{shift_row, shift_lawful}
use Rattle.vortex_sql_texts.specs.Parts.{side_row, side_lawful, substr_row, substr_lawful}
use Rattle.vortex_sql_numbers.specs.Casts.{cast_row, cast_lawful, widen_row, widen_lawful}
use Rattle.vortex_sql_numbers.specs.Casts.{truth_row, truth_lawful, nonzero_row, nonzero_lawful}
use Rattle.vortex_sql_numbers.specs.Casts.{truth_word_row, truth_word_lawful}
use Rattle.vortex_sql_choices.specs.Coalesce.{coalesce_row, coalesce_lawful}
use Rattle.vortex_sql_choices.specs.Extremes.{extreme_row, extreme_lawful}
use Rattle.vortex_sql_texts.specs.MadeTexts.{concat_row, concat_lawful, int_text_row}
use Rattle.vortex_sql_texts.specs.MadeTexts.{int_text_lawful}
use Rattle.vortex_sql_texts.specs.MadeTexts.{letters_row, letters_lawful}
use Rattle.vortex_sql_choices.specs.Distinct.{distinct_row, distinct_lawful}
use Rattle.vortex_sql_choices.specs.InList.{in_list_row, in_list_lawful}
use Rattle.vortex_sql_choices.specs.TruthTests.{test_row, test_lawful}
use Rattle.vortex_sql_choices.specs.NullIf.{nullif_row, nullif_lawful}
use Rattle.vortex_sql_numbers.specs.Remainder.{remainder_row, remainder_lawful}
use Rattle.vortex_sql_rows.specs.Row.{Row, LawfulRow, row_type, row_means}
use Rattle.vortex_sql_numbers.specs.Sign.{sign_row, sign_lawful}
use Rattle.vortex_sql_patterns.specs.PatternFunctions.{pattern_row, pattern_lawful}
use Rattle.vortex_sql_patterns.specs.RegexpExtract.{regexp_extract_lawful, regexp_extract_row}
use Rattle.vortex_sql_patterns.specs.RegexpReplace.{regexp_replace_lawful, regexp_replace_row}
use Rattle.vortex_sql_date_formats.specs.TimesByFormats as times_by
use Rattle.vortex_sql_date_formats.specs.TextsByFormats as texts_by
use Rattle.vortex_sql_date_formats.specs.TriedFormats as tried_by
use Rattle.vortex_sql_pads.specs.Capitals.{initcap_row, initcap_lawful}
use Rattle.vortex_sql_pads.specs.Joins.{concat_ws_row, concat_ws_lawful}
use Rattle.vortex_sql_pads.specs.Pads.{pad_row, pad_lawful}
use Rattle.vortex_sql_characters.specs.Blanks.{space_row, space_lawful}
use Rattle.vortex_sql_characters.specs.Codes.{ascii_row, ascii_lawful, chr_row, chr_lawful}
use Rattle.vortex_sql_characters.specs.Hexadecimal.{to_hex_row, to_hex_lawful}
use Rattle.vortex_sql_characters.specs.Overlays.{overlay_row, overlay_lawful}
use Rattle.vortex_sql_characters.specs.Sizes.{bit_length_row, bit_length_lawful}
use Rattle.vortex_sql_characters.specs.Translations.{translate_row, translate_lawful}
use Rattle.vortex_sql_texts.specs.Concats.{concat_all_row, concat_all_lawful}
use Rattle.vortex_sql_texts.specs.Fields.{split_part_row, split_part_lawful}
use Rattle.vortex_sql_texts.specs.Repeats.{repeat_row, repeat_lawful, reverse_row, reverse_lawful}
use Rattle.vortex_sql_texts.specs.Replaced.{replace_row, replace_lawful}
use Rattle.vortex_sql_texts.specs.Places.{strpos_row, strpos_lawful}
use Rattle.vortex_sql_texts.specs.TextCasts.{int_cast_row, int_cast_lawful, truth_cast_row}
use Rattle.vortex_sql_texts.specs.TextCasts.{truth_cast_lawful}
use Rattle.vortex_sql_texts.specs.Trims.{trim_row, trim_lawful}
use Rattle.vortex_sql_try_casts.specs.TryCasts.{try_cast_row, try_cast_lawful, try_text_row}
use Rattle.vortex_sql_try_casts.specs.TryCasts.{try_text_lawful, try_truth_row, try_truth_lawful}
use Rattle.vortex_sql_try_casts.specs.TryCasts.{try_float_row, try_float_lawful}
use Rattle.vortex_sql_texts.specs.Texts.{begins_row, begins_lawful, measure_row, measure_lawful}
use Rattle.vortex_sql_float_functions.specs.FloatRows as float_functions
use Rattle.vortex_sql_float_functions.specs.PlaceRows.{places_row, places_lawful}
use Rattle.vortex_sql_dates.specs.Casts as date_casts
use Rattle.vortex_sql_dates.specs.MadeDates.{make_date_row, make_date_lawful}
use Rattle.vortex_sql_dates.specs.Parts.{date_part_row, timestamp_part_row}
use Rattle.vortex_sql_dates.specs.PartLaws.{date_part_lawful, timestamp_part_lawful}
use Rattle.vortex_sql_dates.specs.Truncations.{date_trunc_row, date_trunc_lawful}
use Rattle.vortex_sql_dates.specs.Truncations.{timestamp_trunc_row, timestamp_trunc_lawful}
use Rattle.vortex_sql_dates.specs.Months as months
use Rattle.vortex_sql_kind_texts.specs.DecimalRounding.{round_row, round_lawful}
use Rattle.vortex_sql_kind_texts.specs.DecimalScales.{scaled_row, scaled_lawful}
use Rattle.vortex_sql_kind_texts.specs.FloatDecimals.{float_decimal_row, float_decimal_lawful}
use Rattle.vortex_sql_kind_texts.specs.FloatTexts.{float_row, float_lawful}
use Rattle.vortex_sql_kind_texts.specs.KindTexts as to_texts
use Rattle.vortex_sql_kind_texts.specs.TextKinds as from_texts
use Rattle.vortex_sql_kind_texts.specs.Tried as tried
use Rattle.vortex_sql_floats.specs.ArithmeticRows as floats
use Rattle.vortex_sql_floats.specs.Conversions as conversions
use Rattle.vortex_sql_floats.specs.Decimals.{decimal_row, decimal_lawful}
use Rattle.vortex_sql_floats.specs.Negation.{negate_row, negate_lawful}
use Rattle.vortex_sql_floats.specs.ToIntegers.{to_int_row, to_int_lawful}
use Rattle.vortex_standard.specs.Scales.{scale_number}

abbrev pub row_of : Standard → Row
row_of standard.Coalesce = coalesce_row
row_of standard.NullIf = nullif_row
row_of standard.Case = case_row
row_of standard.InList = in_list_row
row_of standard.IsDistinct = distinct_row
row_of standard.Remainder = remainder_row
row_of standard.Sign = sign_row
row_of standard.Abs = abs_row
row_of standard.BitNot = bit_not_row
row_of standard.IntToTruth = nonzero_row
row_of standard.TruthToText = truth_word_row
row_of standard.StartsWith = begins_row
row_of standard.Substr = substr_row
row_of standard.StrPos = strpos_row
row_of standard.TextToTruth = truth_cast_row
row_of standard.Concat = concat_row
row_of standard.IntToText = int_text_row
row_of standard.SplitPart = split_part_row
row_of standard.Replace = replace_row
row_of standard.Repeat = repeat_row
row_of standard.Reverse = reverse_row
row_of standard.ConcatAll = concat_all_row
row_of standard.Initcap = initcap_row
row_of standard.RegexpReplace = regexp_replace_row
row_of standard.RegexpExtract = regexp_extract_row
row_of standard.ConcatWs = concat_ws_row
row_of standard.Ascii = ascii_row
row_of standard.Chr = chr_row
row_of standard.ToHex = to_hex_row
row_of standard.BitLength = bit_length_row
row_of standard.Translate = translate_row
row_of standard.Overlay = overlay_row
row_of standard.Space = space_row
row_of standard.TryTextToTruth = try_truth_row
row_of standard.FloatNegate = negate_row
row_of standard.IntToFloat = conversions.from_int_row
row_of standard.WidenFloat = conversions.widen_row
row_of standard.DateToTimestamp = date_casts.beginning_row
row_of standard.TimestampToDate = date_casts.day_row
row_of standard.MakeDate = make_date_row
row_of standard.DateAddMonths = months.date_row
row_of standard.TimestampAddMonths = months.timestamp_row
row_of standard.DateToChar = times_by.date_row
row_of standard.TimestampToChar = times_by.timestamp_row
row_of standard.TextToDateBy = texts_by.date_by_row
row_of standard.TextToTimestampBy = texts_by.timestamp_by_row
row_of standard.TryTextToDateBy = tried_by.try_date_row
row_of standard.TryTextToTimestampBy = tried_by.try_timestamp_row
row_of standard.TextToDecimal = from_texts.decimal_row
row_of standard.TryTextToDecimal = tried.try_decimal_row
row_of standard.DecimalToText = to_texts.decimal_row
row_of standard.DecimalScaled = scaled_row
row_of standard.TryDecimalScaled = tried.try_scaled_row
row_of standard.FloatToDecimal = float_decimal_row
row_of standard.TryFloatToDecimal = tried.try_float_row
row_of (standard.Extreme x) = extreme_row x
row_of (standard.TruthTest t) = test_row t
row_of (standard.BitOperator o) = operator_row o
row_of (standard.Shift s) = shift_row s
row_of (standard.Cast f) = cast_row f.ptype
row_of (standard.Widen f) = widen_row f.ptype
row_of (standard.TruthToInt f) = truth_row f.ptype
row_of (standard.Measure m) = measure_row m
row_of (standard.Side s) = side_row s
row_of (standard.Trim t) = trim_row t
row_of (standard.TextToInt f) = int_cast_row f.ptype
row_of (standard.TryCast f) = try_cast_row f.ptype
row_of (standard.TryTextToInt f) = try_text_row f.ptype
row_of (standard.Letters l) = letters_row l
row_of (standard.Pad p) = pad_row p
row_of (standard.FloatOperator o) = floats.operator_row o
row_of (standard.DecimalToFloat s) = decimal_row (scale_number s)
row_of (standard.FloatToInt f) = to_int_row f.ptype
row_of (standard.TryFloatToInt f) = try_float_row f.ptype
row_of (standard.FloatFunction f) = float_functions.function_row f
row_of (standard.FloatPlaces f) = places_row f
row_of (standard.DatePart f) = date_part_row f.part
row_of (standard.TimestampPart f) = timestamp_part_row f.part
row_of (standard.DateTrunc f) = date_trunc_row f.unit
row_of (standard.TimestampTrunc f) = timestamp_trunc_row f.unit
row_of (standard.TextToKind f) = from_texts.text_row f.kind
row_of (standard.TryTextToKind f) = tried.try_text_row f.kind
row_of (standard.KindToText f) = to_texts.kind_row f.kind
row_of (standard.FloatToText f) = float_row f.width
row_of (standard.DecimalRound f) = round_row f.rounding
row_of (standard.PatternFunction f) = pattern_row f

pub lawful_of : (f : Standard) → LawfulRow (row_of f)
lawful_of standard.Coalesce = coalesce_lawful
lawful_of standard.NullIf = nullif_lawful
lawful_of standard.Case = case_lawful
lawful_of standard.InList = in_list_lawful
lawful_of standard.IsDistinct = distinct_lawful
lawful_of standard.Remainder = remainder_lawful
lawful_of standard.Sign = sign_lawful
lawful_of standard.Abs = abs_lawful
lawful_of standard.BitNot = bit_not_lawful
lawful_of standard.IntToTruth = nonzero_lawful
lawful_of standard.TruthToText = truth_word_lawful
lawful_of standard.StartsWith = begins_lawful
lawful_of standard.Substr = substr_lawful
lawful_of standard.StrPos = strpos_lawful
lawful_of standard.TextToTruth = truth_cast_lawful
lawful_of standard.Concat = concat_lawful
lawful_of standard.IntToText = int_text_lawful
lawful_of standard.SplitPart = split_part_lawful
lawful_of standard.Replace = replace_lawful
lawful_of standard.Repeat = repeat_lawful
lawful_of standard.Reverse = reverse_lawful
lawful_of standard.ConcatAll = concat_all_lawful
lawful_of standard.Initcap = initcap_lawful
lawful_of standard.RegexpReplace = regexp_replace_lawful
lawful_of standard.RegexpExtract = regexp_extract_lawful
lawful_of standard.ConcatWs = concat_ws_lawful
lawful_of standard.Ascii = ascii_lawful
lawful_of standard.Chr = chr_lawful
lawful_of standard.ToHex = to_hex_lawful
lawful_of standard.BitLength = bit_length_lawful
lawful_of standard.Translate = translate_lawful
lawful_of standard.Overlay = overlay_lawful
lawful_of standard.Space = space_lawful
lawful_of standard.TryTextToTruth = try_truth_lawful
lawful_of standard.FloatNegate = negate_lawful
lawful_of standard.IntToFloat = conversions.from_int_lawful
lawful_of standard.WidenFloat = conversions.widen_lawful
lawful_of standard.DateToTimestamp = date_casts.beginning_lawful
lawful_of standard.TimestampToDate = date_casts.day_lawful
lawful_of standard.MakeDate = make_date_lawful
lawful_of standard.DateAddMonths = months.date_lawful
lawful_of standard.TimestampAddMonths = months.timestamp_lawful
lawful_of standard.DateToChar = times_by.date_lawful
lawful_of standard.TimestampToChar = times_by.timestamp_lawful
lawful_of standard.TextToDateBy = texts_by.date_by_lawful
lawful_of standard.TextToTimestampBy = texts_by.timestamp_by_lawful
lawful_of standard.TryTextToDateBy = tried_by.try_date_lawful
lawful_of standard.TryTextToTimestampBy = tried_by.try_timestamp_lawful
lawful_of standard.TextToDecimal = from_texts.decimal_lawful
lawful_of standard.TryTextToDecimal = tried.try_decimal_lawful
lawful_of standard.DecimalToText = to_texts.decimal_lawful
lawful_of standard.DecimalScaled = scaled_lawful
lawful_of standard.TryDecimalScaled = tried.try_scaled_lawful
lawful_of standard.FloatToDecimal = float_decimal_lawful
lawful_of standard.TryFloatToDecimal = tried.try_float_lawful
lawful_of (standard.Extreme x) = extreme_lawful x
lawful_of (standard.TruthTest t) = test_lawful t
lawful_of (standard.BitOperator o) = operator_lawful o
lawful_of (standard.Shift s) = shift_lawful s
lawful_of (standard.Cast f) = cast_lawful f.ptype
lawful_of (standard.Widen f) = widen_lawful f.ptype
lawful_of (standard.TruthToInt f) = truth_lawful f.ptype
lawful_of (standard.Measure m) = measure_lawful m
lawful_of (standard.Side s) = side_lawful s
lawful_of (standard.Trim t) = trim_lawful t
lawful_of (standard.TextToInt f) = int_cast_lawful f.ptype
lawful_of (standard.TryCast f) = try_cast_lawful f.ptype
lawful_of (standard.TryTextToInt f) = try_text_lawful f.ptype
lawful_of (standard.Letters l) = letters_lawful l
lawful_of (standard.Pad p) = pad_lawful p
lawful_of (standard.FloatOperator o) = floats.operator_lawful o
lawful_of (standard.DecimalToFloat s) = decimal_lawful (scale_number s)
lawful_of (standard.FloatToInt f) = to_int_lawful f.ptype
lawful_of (standard.TryFloatToInt f) = try_float_lawful f.ptype
lawful_of (standard.FloatFunction f) = float_functions.function_lawful f
lawful_of (standard.FloatPlaces f) = places_lawful f
lawful_of (standard.DatePart f) = date_part_lawful f.part
lawful_of (standard.TimestampPart f) = timestamp_part_lawful f.part
lawful_of (standard.DateTrunc f) = date_trunc_lawful f.unit
lawful_of (standard.TimestampTrunc f) = timestamp_trunc_lawful f.unit
lawful_of (standard.TextToKind f) = from_texts.text_lawful f.kind
lawful_of (standard.TryTextToKind f) = tried.try_text_lawful f.kind
lawful_of (standard.KindToText f) = to_texts.kind_lawful f.kind
lawful_of (standard.FloatToText f) = float_lawful f.width
lawful_of (standard.DecimalRound f) = round_lawful f.rounding
lawful_of (standard.PatternFunction f) = pattern_lawful f

-- What follows comes of the list.

abbrev pub standard_meaning : {O : Type 0} → Meaning Standard O
standard_meaning = record {
  id = λ f. (row_of f).id;
  arity = λ f o. (row_of f).arity;
  child_name = λ f o i. codes "input";
  means = λ f o ts vs. row_means (row_of f) ts vs;
  return_type = λ f o ts. row_type (row_of f) ts;
  strict = λ f o. (row_of f).strict;
  infallible = λ f o. (row_of f).infallible;
}
