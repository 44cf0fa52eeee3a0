-- The casts to values of kinds that are tried: their names, and that they may be.
use Rattle.std.specs.Prelude.{◌≡◌, ℕ, List, codes, get_or, refl}
use Rattle.vortex_sql_rows.specs.Row.{Row, LawfulRow}
use Rattle.vortex_sql_try_casts.specs.TriedRows.{MayTry, tried_row, tried_lawful}
use Rattle.vortex_sql_kind_texts.specs.declared.kinds.StoredKind.{StoredKind}
use Rattle.vortex_sql_kind_texts.specs.declared.kinds.StoredKind.TheVariants.{Date, Timestamp, F64}
use Rattle.vortex_sql_kind_texts.specs.declared.kinds.StoredKind.TheVariants.{F32}
use Rattle.vortex_sql_kind_texts.specs.DecimalScales.{scaled_row, scaled_lawful}
use Rattle.vortex_sql_kind_texts.specs.FloatDecimals.{float_decimal_row, float_decimal_lawful}
use Rattle.vortex_sql_kind_texts.specs.TextKinds.{text_row, text_lawful, decimal_row, decimal_lawful}

-- of a text: null where it is none of the kind
abbrev pub try_text_id : StoredKind → List ℕ
try_text_id Date = codes "sql.try_utf8_to_date"
try_text_id Timestamp = codes "sql.try_utf8_to_timestamp"
try_text_id F64 = codes "sql.try_utf8_to_f64"
try_text_id F32 = codes "sql.try_utf8_to_f32"

abbrev pub try_text_row : StoredKind → Row
try_text_row k = tried_row (try_text_id k) (text_row k)

try_text_named : (k : StoredKind) → get_or (try_text_id k) 0 0 ≡ 115
try_text_named Date = refl
try_text_named Timestamp = refl
try_text_named F64 = refl
try_text_named F32 = refl

pub may_try_text : (k : StoredKind) → MayTry (try_text_id k) (text_row k)
may_try_text k = record { named = try_text_named k; single = λ t. refl }

pub try_text_lawful : (k : StoredKind) → LawfulRow (try_text_row k)
try_text_lawful k = tried_lawful (try_text_id k) (text_row k) (may_try_text k) (text_lawful k)

-- of a text: null where it is no decimal of the digits, and where there are no such digits
abbrev pub try_decimal_id : List ℕ
try_decimal_id = codes "sql.try_utf8_to_decimal"

abbrev pub try_decimal_row : Row
try_decimal_row = tried_row try_decimal_id decimal_row

pub may_try_decimal : MayTry try_decimal_id decimal_row
may_try_decimal = record { named = refl; single = λ t. refl }

pub try_decimal_lawful : LawfulRow try_decimal_row
try_decimal_lawful = tried_lawful try_decimal_id decimal_row may_try_decimal decimal_lawful

-- of a number: null where the decimal does not have it
abbrev pub try_scaled_id : List ℕ
try_scaled_id = codes "sql.try_decimal_scaled"

abbrev pub try_scaled_row : Row
try_scaled_row = tried_row try_scaled_id scaled_row

pub may_try_scaled : MayTry try_scaled_id scaled_row
may_try_scaled = record { named = refl; single = λ t. refl }

pub try_scaled_lawful : LawfulRow try_scaled_row
try_scaled_lawful = tried_lawful try_scaled_id scaled_row may_try_scaled scaled_lawful

-- of a float: null where the decimal does not have it
abbrev pub try_float_id : List ℕ
try_float_id = codes "sql.try_float_to_decimal"

abbrev pub try_float_row : Row
try_float_row = tried_row try_float_id float_decimal_row

pub may_try_float : MayTry try_float_id float_decimal_row
may_try_float = record { named = refl; single = λ t. refl }

pub try_float_lawful : LawfulRow try_float_row
try_float_lawful = tried_lawful try_float_id float_decimal_row may_try_float float_decimal_lawful
