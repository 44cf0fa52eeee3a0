-- Parsed texts, bound over the columns that they read.
use Rattle.std.specs.Prelude.{◌≡◌, ⊤, ℕ, List, Option, Some, None, String}
use Rattle.std.specs.declared.alloc.Global.{Global}
use Rattle.std.specs.Borrow.{Bor}
use Rattle.vortex_types.specs.LogicalTypes.{Fields}
use Rattle.vortex_program.specs.declared.form.Form.{Form}
use Rattle.vortex_program.specs.declared.parsed.Parsed.{Parsed}
use Rattle.vortex_program.specs.Texts.{IsRead}
use Rattle.rowfn_queries.specs.declared.binding.Binding.{Binding}
use Rattle.rowfn_queries.specs.declared.error.QueryError.{QueryError}
use Rattle.rowfn_queries.specs.declared.question.Question.{Question}
use Rattle.rowfn_queries.specs.declared.texts.Texts.{Texts}
use Rattle.rowfn_queries.specs.Columns.{Columns, none, scope_in, with_all, with_texts}
use Rattle.rowfn_queries.specs.DeclaredColumns.{declared_by}
use Rattle.rowfn_queries.specs.Places.{places_of}
use Rattle.rowfn_queries.specs.Queries.{IsAsked}
use Rattle.rowfn_queries.specs.Reading.{all_read, named_read, columns_read}
use Rattle.rowfn_queries.specs.Refusals.{RefusesText}

-- the text of that form is parsed, where there is one
abbrev pub IsParsedBy : Form → Option (Bor (List ℕ)) → Option Parsed → Type 0
IsParsedBy f None None = ⊤
IsParsedBy f (Some text) (Some p) = (p.form ≡ f) × (p.text.now ≡ text.now) × IsRead p
IsParsedBy f o p = ⊥

-- a parsed text, where there is one, is what was parsed
abbrev pub IsReadWhere : Option Parsed → Type 0
IsReadWhere None = ⊤
IsReadWhere (Some p) = IsRead p

pub record AreRead (texts : Texts) : Type 0 where
  pub answers : IsReadWhere texts.answers
  pub condition : IsReadWhere texts.condition

module _ (b : Binding) where
  abbrev pub columns_in : Columns
  columns_in = scope_in b.columns

  abbrev pub sampled_in : Columns
  sampled_in = scope_in b.sampled

  abbrev pub all_in : List (List ℕ) → Columns
  all_in = all_read columns_in sampled_in

  abbrev pub named_in : List (List ℕ) → Columns
  named_in = named_read columns_in sampled_in

  abbrev pub read_in : Form → List (List ℕ) → Columns
  read_in = columns_read columns_in sampled_in b.words

  -- where columns stand by their declarations
  abbrev pub placed_in : Fields → List (Option ℕ)
  placed_in = places_of (declared_by b.declared.now) b.words.header

  abbrev pub IsAskedIn : Form → List ℕ → Question → Type 0
  IsAskedIn f = IsAsked f (read_in f) placed_in

  abbrev pub RefusesIn : Form → List ℕ → QueryError → Type 0
  RefusesIn f = RefusesText f (read_in f)

  -- a question is there where a parsed text is
  abbrev pub IsBoundIn : Option Parsed → Option Question → Type 0
  IsBoundIn None None = ⊤
  IsBoundIn (Some p) (Some q) = IsAskedIn p.form p.text.now q
  IsBoundIn o q = ⊥

  pub record AreBoundIn (texts : Texts) (answers condition : Option Question) : Type 0 where
    pub answers_bound : IsBoundIn texts.answers answers
    pub condition_bound : IsBoundIn texts.condition condition

  abbrev pub RefusesWhere : Option Parsed → QueryError → Type 0
  RefusesWhere None e = ⊥
  RefusesWhere (Some p) e = RefusesIn p.form p.text.now e

  -- why texts are refused: by the condition, or, where it is none, by the answers
  pub data RefusesBound (texts : Texts) (e : QueryError) : Type 0 where
    by_condition : RefusesWhere texts.condition e → RefusesBound texts e
    by_answers : (condition : Option Question) → IsBoundIn texts.condition condition
        → RefusesWhere texts.answers e → RefusesBound texts e

-- the same over all columns of a header too
pub record RefusesWidened (b : Binding) (names : List (String Global)) (texts : Texts)
    (e : QueryError) : Type 0 where
  pub wide : Binding
  pub same_words : wide.words ≡ b.words
  pub same_sample : wide.sampled ≡ b.sampled
  pub columns : columns_in wide
      ≡ with_texts names (with_all (sampled_in b) (with_all (columns_in b) none))
  pub refused : RefusesBound wide texts e
