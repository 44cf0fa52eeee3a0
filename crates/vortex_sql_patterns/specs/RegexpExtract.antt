-- The part of a text that a group of a pattern takes: `regexp_extract`.
use Rattle.std.specs.Prelude.{codes, ℕ, ℤ, List, [], ◌∷◌, Option, Some, None, true, false, refl}
use Rattle.vortex_errors.specs.declared.arity.Arity.TheVariants.{Exact}
use Rattle.vortex_types.specs.declared.dtype.PType.TheVariants.{I64}
use Rattle.vortex_types.specs.LogicalTypes.{text_type}
use Rattle.vortex_types.specs.Values.{Value}
use Rattle.vortex_interface.specs.Outcomes.{Outcome, GivesType}
use Rattle.vortex_sql_rows.specs.declared.types.Gives.TheVariants as answer
use Rattle.vortex_sql_rows.specs.declared.types.Kind.TheVariants.{Text, Integer}
use Rattle.vortex_sql_rows.specs.declared.types.Nulls.TheVariants.{Always}
use Rattle.vortex_sql_rows.specs.declared.types.Takes.TheVariants.{Each}
use Rattle.vortex_sql_rows.specs.Row.{Row, LawfulRow, row_gives}
use Rattle.vortex_sql_rows.specs.Shapes.{number_in, on_one, text_in}
use Rattle.vortex_sql_rows.specs.Types.{ptype_in}
use Rattle.vortex_sql_patterns.specs.Patterns.{pattern_in}
use Rattle.vortex_sql_patterns.specs.PatternFunctions.{answered, group_typed, may_be_null}
use Rattle.vortex_sql_patterns.specs.declared.functions.PatternFunction.TheVariants.{Part}

-- what group n takes in the first match
abbrev pub extract : List ℕ → List ℕ → ℤ → Outcome
extract bs ps n = answered Part n bs (pattern_in ps)

abbrev pub all_three : Option (List ℕ) → Option (List ℕ) → Option ℤ
    → Option (List ℕ × List ℕ × ℤ)
all_three None p n = None
all_three (Some bs) None n = None
all_three (Some bs) (Some ps) None = None
all_three (Some bs) (Some ps) (Some n) = Some (bs, ps, n)

-- a text, a pattern and the number of a group
abbrev pub extract_asks : List Value → Option (List ℕ × List ℕ × ℤ)
extract_asks (v ∷ w ∷ x ∷ []) = all_three (text_in v) (text_in w) (number_in x)
extract_asks vs = None

abbrev pub extract_in : List Value → Outcome
extract_in vs = on_one (λ x. extract x.0 x.1 x.2) (extract_asks vs)

-- there may be no such part
abbrev pub regexp_extract_row : Row
regexp_extract_row = record {
  id = codes "sql.regexp_extract";
  arity = Exact 3;
  types = record { takes = Each Text Text Integer; nulls = Always; gives = answer.Text };
  strict = true;
  infallible = false;
  of = λ t vs. extract_in vs;
}

-- the outcome of a row, null included
abbrev pub extract_of : List Value → Outcome
extract_of = row_gives regexp_extract_row I64

typed : (o : Option (List ℕ × List ℕ × ℤ))
    → GivesType (text_type true) (on_one (λ x. extract x.0 x.1 x.2) o)
typed None = refl
typed (Some x) = group_typed x.2 x.0 (pattern_in x.1)

pub regexp_extract_lawful : LawfulRow regexp_extract_row
regexp_extract_lawful = record {
  named = refl;
  typed = λ t vs a. typed (extract_asks vs);
  nulls = λ t vs a. may_be_null vs (extract_in vs);
  settled = λ t vs a e. cc;
  strict = λ e. refl;
}
