-- The scope that fields make which C lends.
use Rattle.std.specs.Prelude.{◌+◌, ℕ, List, [], ◌∷◌, Bool, if◌then◌else◌, Option, Some, None}
use Rattle.std.specs.Str.{is_utf8}
use Rattle.vortex_types.specs.LogicalTypes.{LogicalType, Fields, no_fields, with_field}
use Rattle.vortex_types.specs.LogicalTypes.{find_field}
use Rattle.vortex_logical.specs.declared.kind.Kind as logical
use Rattle.vortex_logical.specs.declared.kind.Kind.TheVariants.{Plain}
use Rattle.yurkije_columns.specs.declared.kinds.Kind.{Kind}
use Rattle.yurkije_columns.specs.declared.fields.BorrowedField.{BorrowedField}
use Rattle.yurkije_columns.specs.declared.fields.ScopeFault.{ScopeFault}
use Rattle.yurkije_columns.specs.declared.fields.ScopeFault.TheVariants as fault
use Rattle.yurkije_columns.specs.declared.fields.FieldError.{FieldError}
use Rattle.yurkije_columns.specs.Kinds.{kind_numbered, kind_type, logical_kind}

-- a scope, or what is wrong
pub data Outcome (E : Type 0) : Type 0 where
  answers : Fields → Outcome E
  refuses : E → Outcome E

-- a field of a name that none has
abbrev pub if_new : Fields → List ℕ → LogicalType → Option (ℕ × LogicalType) → Outcome ScopeFault
if_new fs name t None = answers (with_field fs name t)
if_new fs name t (Some found) = refuses fault.NameTwice

abbrev pub if_known : Fields → List ℕ → Bool → Option Kind → Outcome ScopeFault
if_known fs name n None = refuses fault.UnknownKind
if_known fs name n (Some k) =
    if is_utf8 name then if_new fs name (kind_type k n) (find_field name fs)
    else refuses fault.NotUtf8

-- one field more
abbrev pub with_borrowed : Fields → BorrowedField → Outcome ScopeFault
with_borrowed fs f = if_known fs f.name.now f.nullable (kind_numbered f.kind)

-- at that place
abbrev pub numbered : ℕ → Outcome ScopeFault → Outcome FieldError
numbered k (answers fs) = answers fs
numbered k (refuses f) = refuses (record { field = k; fault = f })

abbrev pub and_borrowed : ℕ → Outcome FieldError → BorrowedField → Outcome FieldError
and_borrowed k (answers fs) f = numbered k (with_borrowed fs f)
and_borrowed k (refuses e) f = refuses e

-- all of them behind others, of which there are k
abbrev pub borrowed_behind : ℕ → Outcome FieldError → List BorrowedField → Outcome FieldError
borrowed_behind k o [] = o
borrowed_behind k o (f ∷ rest) = borrowed_behind (k + 1) (and_borrowed k o f) rest

abbrev pub scope_borrowed : List BorrowedField → Outcome FieldError
scope_borrowed fields = borrowed_behind 0 (answers no_fields) fields

-- what the values of a field mean
abbrev pub kind_or_plain : Option Kind → logical.Kind
kind_or_plain None = Plain
kind_or_plain (Some k) = logical_kind k

abbrev pub field_kind : BorrowedField → logical.Kind
field_kind f = kind_or_plain (kind_numbered f.kind)
