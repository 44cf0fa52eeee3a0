-- Texts and byte strings that stand in the caller's buffers.
use Rattle.std.proofs.Common.{◌≡◌, ◌∙◌, sym, ap, subst, ℕ, ℤ, List, length, Bool}
use Rattle.std.specs.Prelude.{Result, Ok, Err, OnOk, OnErr}
use Rattle.vortex_types.specs.LogicalTypes.{LogicalType, is_text_type, is_nullable}
use Rattle.vortex_columns.specs.ColumnView.{ColumnView}
use Rattle.vortex_arrow.specs.Layouts.{Layout, offsets}
use Rattle.vortex_arrow.specs.Written.{bytes_for, SameBehind, AreCopied}
use Rattle.yurkije_columns.specs.declared.kinds.Kind.{Kind}
use Rattle.yurkije_columns.specs.declared.outputs.Room.{Room}
use Rattle.yurkije_columns.specs.Kinds.{kind_type}
use Rattle.yurkije_columns.specs.Outputs.{room_layout, KeepsBehind, StandsIn, IsOfKind, with_buffers}
use Rattle.yurkije_columns.specs.Outputs.{room_rows}
use Rattle.vortex_types.specs.Values.{Value}

-- whether a type is that of texts, of which a kind is
pub text_of_kind : (k j : Kind) (t : LogicalType) → k ≡ j → IsOfKind k t
    → is_text_type t ≡ is_text_type (kind_type j (is_nullable t))
text_of_kind k j t e h = sym (ap is_text_type (subst (λ (i : Kind). IsOfKind i t) e h))

pub texts_stand : {A E : Type 0} (r : Result A E) (k j : Kind) (c : ColumnView) (old new : Room)
    (b : Bool) (os : List ℤ) (bs : List ℕ) (B C : Type 0) → k ≡ j
    → room_layout j new ≡ offsets b os bs → room_rows j c.rows ≡ c.rows
    → is_text_type c.dtype ≡ b
    → OnOk r (AreCopied c.rows new.validity.now (offsets (is_text_type c.dtype) os bs))
    → OnOk r (SameBehind (bytes_for (length c.rows)) old.validity.now new.validity.now × B × C)
    → (B → C → KeepsBehind j c old new) → new ≡ with_buffers j old new
    → OnOk r (StandsIn k c old new)
texts_stand (Ok x) k j c old new b os bs B C e l same is rows behind both only =
    subst (λ (i : Kind). StandsIn i c old new) (sym e) (record {
      rows = subst (λ (vs : List Value). AreCopied vs new.validity.now (room_layout j new))
          (sym same)
          (subst (λ (y : Layout). AreCopied c.rows new.validity.now y)
          (ap (λ (z : Bool). offsets z os bs) is ∙ sym l) rows);
      validity = behind.0;
      values = both behind.1 behind.2;
      only = only;
    })
texts_stand (Err x) k j c old new b os bs B C e l same is rows behind both only = tt

-- what is refused is as it was where its buffers are
pub same_of_two : {A E X Y : Type 0} (r : Result A E) (f : X → Y → Room) (x x' : X) (y y' : Y)
    → OnErr r ((x' ≡ x) × (y' ≡ y)) → OnErr r (f x' y' ≡ f x y)
same_of_two (Ok a) f x x' y y' same = tt
same_of_two (Err e) f x x' y y' same = λ i. f (same.0 i) (same.1 i)

pub same_of_three : {A E X Y Z : Type 0} (r : Result A E) (f : X → Y → Z → Room) (x x' : X)
    (y y' : Y) (z z' : Z) → OnErr r ((x' ≡ x) × (y' ≡ y) × (z' ≡ z))
    → OnErr r (f x' y' z' ≡ f x y z)
same_of_three (Ok a) f x x' y y' z z' same = tt
same_of_three (Err e) f x x' y y' z z' same = λ i. f (same.0 i) (same.1 i) (same.2 i)
