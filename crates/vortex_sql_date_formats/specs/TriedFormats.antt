-- The texts that are read by formats, tried: their names, and that they may be.
use Rattle.std.specs.Prelude.{List, ℕ, codes, refl}
use Rattle.vortex_sql_rows.specs.Row.{Row, LawfulRow}
use Rattle.vortex_sql_try_casts.specs.TriedRows.{MayTry, tried_row, tried_lawful}
use Rattle.vortex_sql_date_formats.specs.TextsByFormats.{date_by_row, date_by_lawful}
use Rattle.vortex_sql_date_formats.specs.TextsByFormats.{timestamp_by_row, timestamp_by_lawful}

-- null where the text is no date by the format, and where that is none
abbrev pub try_date_id : List ℕ
try_date_id = codes "sql.try_date_by"

abbrev pub try_date_row : Row
try_date_row = tried_row try_date_id date_by_row

pub may_try_date : MayTry try_date_id date_by_row
may_try_date = record { named = refl; single = λ t. refl }

pub try_date_lawful : LawfulRow try_date_row
try_date_lawful = tried_lawful try_date_id date_by_row may_try_date date_by_lawful

-- null where it is no timestamp by the format
abbrev pub try_timestamp_id : List ℕ
try_timestamp_id = codes "sql.try_timestamp_by"

abbrev pub try_timestamp_row : Row
try_timestamp_row = tried_row try_timestamp_id timestamp_by_row

pub may_try_timestamp : MayTry try_timestamp_id timestamp_by_row
may_try_timestamp = record { named = refl; single = λ t. refl }

pub try_timestamp_lawful : LawfulRow try_timestamp_row
try_timestamp_lawful =
    tried_lawful try_timestamp_id timestamp_by_row may_try_timestamp timestamp_by_lawful
