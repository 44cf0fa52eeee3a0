-- Texts in one, where nulls are passed over: `concat`.
use Rattle.std.specs.Prelude.{◌≡◌, ◌++◌, codes, ℕ, List, [], ◌∷◌, None, Bool, true, false, refl}
use Rattle.std.proofs.Common.{cond}
use Rattle.vortex_errors.specs.declared.arity.Arity.TheVariants.{Variadic}
use Rattle.vortex_types.specs.LogicalTypes.{text_type}
use Rattle.vortex_types.specs.Values.{Value, text}
use Rattle.vortex_interface.specs.Outcomes.{gives, GivesType}
use Rattle.vortex_sql_rows.specs.declared.faults.RowFault.TheVariants.{TextTooLong}
use Rattle.vortex_sql_rows.specs.declared.types.Gives.TheVariants as answer
use Rattle.vortex_sql_rows.specs.declared.types.Kind.TheVariants.{Text}
use Rattle.vortex_sql_rows.specs.declared.types.Nulls.TheVariants.{Never}
use Rattle.vortex_sql_rows.specs.declared.types.Takes.TheVariants.{Alike}
use Rattle.vortex_sql_rows.specs.Faults.{faults_by}
use Rattle.vortex_sql_rows.specs.Row.{Row, LawfulRow, NullOnlyBy}
use Rattle.vortex_sql_texts.specs.MadeTexts.{made_fits, may_be_text, text_or_fault}

-- the texts in one
abbrev pub texts_of : List Value → List ℕ
texts_of [] = []
texts_of (text bs ∷ vs) = bs ++ texts_of vs
texts_of (v ∷ vs) = texts_of vs

abbrev pub concat_all_row : Row
concat_all_row = record {
  id = codes "sql.concat";
  arity = Variadic 1 None;
  types = record { takes = Alike Text; nulls = Never; gives = answer.Text };
  strict = false;
  infallible = false;
  of = λ p vs. text_or_fault (texts_of vs);
}

typed : (bs : List ℕ) → (b : Bool)
    → GivesType (text_type false) (cond b (gives (text bs)) (faults_by TextTooLong))
    → GivesType (text_type true) (cond b (gives (text bs)) (faults_by TextTooLong))
typed bs true h = h
typed bs false h = tt

never_null : (vs : List Value) (bs : List ℕ) (b : Bool)
    → NullOnlyBy Never vs (cond b (gives (text bs)) (faults_by TextTooLong))
never_null vs bs true = tt
never_null vs bs false = tt

pub concat_all_lawful : LawfulRow concat_all_row
concat_all_lawful = record {
  named = refl;
  typed = λ t vs a. typed (texts_of vs) (may_be_text (texts_of vs)) (made_fits (texts_of vs));
  nulls = λ t vs a. never_null vs (texts_of vs) (may_be_text (texts_of vs));
  settled = λ t vs a e. cc;
  strict = λ e. cc;
}
