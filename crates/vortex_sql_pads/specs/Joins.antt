-- Texts in one with a separator between each two, where nulls are passed over: `concat_ws`.
use Rattle.std.specs.Prelude.{◌≡◌, ◌++◌, codes, ℕ, List, [], ◌∷◌, None, Bool, true, false, refl}
use Rattle.std.proofs.Common.{cond}
use Rattle.vortex_errors.specs.declared.arity.Arity.TheVariants.{Variadic}
use Rattle.vortex_types.specs.LogicalTypes.{LogicalType, text_type}
use Rattle.vortex_types.specs.Values.{Value, null, text, truth, number}
use Rattle.vortex_interface.specs.Outcomes.{Outcome, gives, GivesType}
use Rattle.vortex_sql_rows.specs.declared.faults.RowFault.TheVariants.{OtherValues, TextTooLong}
use Rattle.vortex_sql_rows.specs.declared.types.Gives.TheVariants as answer
use Rattle.vortex_sql_rows.specs.declared.types.Kind.TheVariants.{Text}
use Rattle.vortex_sql_rows.specs.declared.types.Nulls.TheVariants.{WhereAny}
use Rattle.vortex_sql_rows.specs.declared.types.Takes.TheVariants.{Alike}
use Rattle.vortex_sql_rows.specs.Faults.{faults_by}
use Rattle.vortex_sql_rows.specs.Row.{Row, LawfulRow, NullOnlyBy}
use Rattle.vortex_sql_texts.specs.MadeTexts.{made_fits, may_be_text, text_or_fault}

-- the texts, with b before the first and the separator before each other
abbrev pub led : List ℕ → List ℕ → List Value → List ℕ
led b s [] = []
led b s (text bs ∷ vs) = b ++ (bs ++ led s s vs)
led b s (v ∷ vs) = led b s vs

-- with the separator between each two
abbrev pub separated : List ℕ → List Value → List ℕ
separated s vs = led [] s vs

-- a null separator gives null
abbrev pub concat_ws : List Value → Outcome
concat_ws (null ∷ vs) = gives null
concat_ws (text s ∷ vs) = text_or_fault (separated s vs)
concat_ws vs = faults_by OtherValues

abbrev pub concat_ws_row : Row
concat_ws_row = record {
  id = codes "sql.concat_ws";
  arity = Variadic 2 None;
  types = record { takes = Alike Text; nulls = WhereAny; gives = answer.Text };
  strict = false;
  infallible = false;
  of = λ p vs. concat_ws vs;
}

typed_if : (bs : List ℕ) → (b : Bool)
    → GivesType (text_type false) (cond b (gives (text bs)) (faults_by TextTooLong))
    → GivesType (text_type true) (cond b (gives (text bs)) (faults_by TextTooLong))
typed_if bs true h = h
typed_if bs false h = tt

concat_typed : (vs : List Value) → GivesType (text_type true) (concat_ws vs)
concat_typed (null ∷ vs) = refl
concat_typed (text s ∷ vs) =
    typed_if (separated s vs) (may_be_text (separated s vs)) (made_fits (separated s vs))
concat_typed [] = tt
concat_typed (v ∷ vs) = tt

null_if : (vs : List Value) (bs : List ℕ) (b : Bool)
    → NullOnlyBy WhereAny vs (cond b (gives (text bs)) (faults_by TextTooLong))
null_if vs bs true = tt
null_if vs bs false = tt

concat_nulls : (vs : List Value) → NullOnlyBy WhereAny vs (concat_ws vs)
concat_nulls (null ∷ vs) = refl
concat_nulls (text s ∷ vs) =
    null_if (text s ∷ vs) (separated s vs) (may_be_text (separated s vs))
concat_nulls [] = tt
concat_nulls (v ∷ vs) = tt

pub concat_ws_lawful : LawfulRow concat_ws_row
concat_ws_lawful = record {
  named = refl;
  typed = λ t vs a. concat_typed vs;
  nulls = λ t vs a. concat_nulls vs;
  settled = λ t vs a e. cc;
  strict = λ e. cc;
}
