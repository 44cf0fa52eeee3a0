-- What fields make of a scope, one field more, and the first that is wrong.
use Rattle.std.proofs.Common.{◌≡◌, ◌+◌, ◌<◌, ℕ, List, [], ◌∷◌, length, drop, get_or}
use Rattle.std.proofs.Common.{refl, sym, ap, ◌∙◌, zero, suc, arith, add-one, Bool, true, false}
use Rattle.std.proofs.Common.{Some}
use Rattle.std.specs.Prelude.{if◌then◌else◌}
use Rattle.std.specs.Str.{is_utf8}
use Rattle.vortex_types.specs.LogicalTypes.{Fields, find_field}
use Rattle.yurkije_columns.specs.declared.kinds.Kind.{Kind}
use Rattle.yurkije_columns.specs.Kinds.{kind_numbered, kind_type}
use Rattle.yurkije_columns.specs.declared.fields.ScopeFault.TheVariants.{NotUtf8}
use Rattle.yurkije_columns.specs.declared.fields.BorrowedField.{BorrowedField}
use Rattle.yurkije_columns.specs.declared.fields.FieldError.{FieldError}
use Rattle.yurkije_columns.specs.declared.fields.ScopeFault.{ScopeFault}
use Rattle.yurkije_columns.specs.Scopes.{Outcome, answers, refuses, with_borrowed, numbered, and_borrowed}
use Rattle.yurkije_columns.specs.Scopes.{if_new, if_known}
use Rattle.yurkije_columns.specs.Scopes.{borrowed_behind, scope_borrowed}

-- what is refused stays refused
pub refused_behind : (k : ℕ) (e : FieldError) (fields : List BorrowedField)
    → borrowed_behind k (refuses e) fields ≡ refuses e
refused_behind k e [] = refl
refused_behind k e (f ∷ rest) = refused_behind (k + 1) e rest

-- the field at a place, and what lies behind it
behind_suc : (fields : List BorrowedField) (k j : ℕ) (d : BorrowedField) (o : Outcome FieldError)
    → k < length fields
    → borrowed_behind j o (drop k fields)
    ≡ borrowed_behind (j + 1) (and_borrowed j o (get_or fields k d)) (drop (suc k) fields)
behind_suc [] k j d o below = absurd (omega (arith, below))
behind_suc (f ∷ fields) zero j d o below = refl
behind_suc (f ∷ fields) (suc k) j d o below = behind_suc fields k j d o (omega (arith, below))

after_is : (fields : List BorrowedField) (k j : ℕ) (d : BorrowedField) (o : Outcome FieldError)
    → k < length fields
    → borrowed_behind j o (drop k fields)
    ≡ borrowed_behind (j + 1) (and_borrowed j o (get_or fields k d)) (drop (k + 1) fields)
after_is fields k j d o below =
    behind_suc fields k j d o below
    ∙ ap (λ (n : ℕ). borrowed_behind (j + 1) (and_borrowed j o (get_or fields k d)) (drop n fields))
    (sym (add-one k))

module _ (fields : List BorrowedField) (k : ℕ) (d : BorrowedField) (fs : Fields) (below : k < length fields)
    (kept : borrowed_behind k (answers fs) (drop k fields) ≡ scope_borrowed fields) where
  pub one_borrowed_more : (gs : Fields) → with_borrowed fs (get_or fields k d) ≡ answers gs
      → borrowed_behind (k + 1) (answers gs) (drop (k + 1) fields) ≡ scope_borrowed fields
  one_borrowed_more gs is =
      ap (λ o. borrowed_behind (k + 1) (numbered k o) (drop (k + 1) fields)) (sym is)
      ∙ sym (after_is fields k k d (answers fs) below) ∙ kept

  pub borrowed_wrong : (f : ScopeFault) → with_borrowed fs (get_or fields k d) ≡ refuses f
      → scope_borrowed fields ≡ refuses (record { field = k; fault = f })
  borrowed_wrong f is =
      sym kept ∙ after_is fields k k d (answers fs) below
      ∙ ap (λ o. borrowed_behind (k + 1) (numbered k o) (drop (k + 1) fields)) is
      ∙ refused_behind (k + 1) (record { field = k; fault = f }) (drop (k + 1) fields)

-- a field whose kind is one, by whether its name is a text
module _ (fs : Fields) (f : BorrowedField) (k : Kind) (is : kind_numbered f.kind ≡ Some k) where
  abbrev by_text : Bool → Outcome ScopeFault
  by_text b =
      if b then if_new fs f.name.now (kind_type k f.nullable) (find_field f.name.now fs)
      else refuses NotUtf8

  pub text_is : (name : List ℕ) → name ≡ f.name.now → is_utf8 f.name.now ≡ true
      → with_borrowed fs f ≡ if_new fs name (kind_type k f.nullable) (find_field name fs)
  text_is name same readable =
      ap (if_known fs f.name.now f.nullable) is ∙ ap by_text readable
      ∙ ap (λ (w : List ℕ). if_new fs w (kind_type k f.nullable) (find_field w fs)) (sym same)

  pub no_text : is_utf8 f.name.now ≡ false → with_borrowed fs f ≡ refuses NotUtf8
  no_text unreadable = ap (if_known fs f.name.now f.nullable) is ∙ ap by_text unreadable
