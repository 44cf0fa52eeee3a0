-- The texts of errors: of E10 that of the fault with its number.
use Rattle.std.specs.Prelude.{ℕ, List, Option, Some, None}
use Rattle.std.specs.Option.{option_map, option_or}
use Rattle.vortex_errors.specs.declared.error.VortexError.{VortexError}
use Rattle.vortex_errors.specs.declared.error.VortexError.TheVariants.{Custom}
use Rattle.vortex_errors.specs.Errors.{error_text}
use Rattle.vortex_sql_rows.specs.declared.faults.RowFault.{RowFault}
use Rattle.vortex_sql_rows.specs.Faults.{fault_of, fault_text}
use Rattle.vortex_sql_float_functions.specs.RootFaults.{root_text}
use Rattle.vortex_sql_dates.specs.MadeDates.{no_date_text}
use Rattle.vortex_sql_date_formats.specs.FormatFaults.{format_fault_text}
use Rattle.vortex_sql_characters.specs.CharacterFaults.{character_fault_text}

-- the fault with the number that E10 has
abbrev pub fault_in : VortexError → Option RowFault
fault_in (Custom n) = fault_of n
fault_in e = None

-- the text of the fault with a number: a row's, a root's, a date's, a format's or a character's
abbrev pub number_text : ℕ → Option (List ℕ)
number_text n =
    option_or (option_map fault_text (fault_of n))
    (option_or (option_or (option_or (root_text n) (no_date_text n)) (format_fault_text n))
    (character_fault_text n))

-- the text of the fault whose number E10 has
abbrev pub text_in : VortexError → Option (List ℕ)
text_in (Custom n) = number_text n
text_in e = None

abbrev pub text_or : List ℕ → Option (List ℕ) → List ℕ
text_or words None = words
text_or words (Some w) = w

abbrev pub standard_error_text : VortexError → List ℕ
standard_error_text e = text_or (error_text e) (text_in e)
