-- What the fields of the first rows make, as fields that are borrowed say it.
use Rattle.std.proofs.Common.{◌≡◌, ◌∙◌, ◌*◌, ℕ, List, Option, Result, Ok, Err, map, take}
use Rattle.std.proofs.Common.{ap, sym, subst, true}
use Rattle.std.specs.Prelude.{IfOk}
use Rattle.std.specs.Borrow.{Bor}
use Rattle.std.proofs.Math.Logic.{∥∥₁_map}
use Rattle.std.proofs.lemmas.List.{take-map}
use Rattle.vortex_columns.specs.ColumnView.{ColumnView}
use Rattle.vortex_types.specs.LogicalTypes.{LogicalType, text_type}
use Rattle.vortex_cells.specs.Cells.{cells_apart}
use Rattle.vortex_cells.specs.Fields.{column_of_fields}
use Rattle.vortex_logical.specs.declared.kind.Kind.{Kind}
use Rattle.rowfn_batches.specs.Showing.{own_texts}
use Rattle.rowfn_batches.specs.declared.request.Request.{Request}
use Rattle.rowfn_batches.specs.Fields.{Field, field_in}
use Rattle.rowfn_batches.specs.Batches.{AreEven, AreColumns}
use Rattle.vortex_errors.specs.declared.error.VortexError.{VortexError}
use Rattle.vortex_errors.specs.declared.error.VortexError.TheVariants.{OutOfMemory}
use Rattle.vortex_errors.specs.Answers.{UnlessMemory}
use Rattle.vortex_program.specs.Executing.{RefusesColumnsFirst}
use Rattle.rowfn_batches.specs.declared.errors.StreamError.TheVariants as end
use Rattle.rowfn_batches.specs.BatchAnswers.{scope_of, kinds_of, width_of, first_fields, AreFirst, trees_asked}
use Rattle.rowfn_batches.specs.BatchAnswers.{IsUnserved}

pub if_ok-weaker : {A E : Type 0} (r : Result A E) (P Q : A → Type 0) → ((a : A) → P a → Q a)
    → IfOk r P → IfOk r Q
if_ok-weaker (Ok a) P Q f h = f a h
if_ok-weaker (Err e) P Q f h = tt

module _ (x : Request) (fs : List (Option (Bor (List ℕ)))) (n w : ℕ) (counted : w ≡ width_of x)
    (whole : List (Option (Bor (List ℕ)))) (taken : whole ≡ take (w * n) fs) where
  -- what holds of the borrowed fields holds of the first fields
  pub of_first : (P : List Field → Type 0) → P (map field_in whole)
      → P (first_fields x (map field_in fs) n)
  of_first P h =
      let same : map field_in whole ≡ first_fields x (map field_in fs) n =
      ap (map field_in) (taken ∙ ap (λ k. take (k * n) fs) counted)
      ∙ sym (take-map field_in (width_of x * n) fs) in
      subst P same h

  pub are_first : (cs : List ColumnView) (given : List Kind) → given ≡ kinds_of x
      → AreEven (scope_of x) given (map field_in whole) n
      × AreColumns (scope_of x) given (map field_in whole) n (width_of x) cs
      → AreFirst x (map field_in fs) n cs
  are_first cs given same h =
      let ds = scope_of x in
      let ks = kinds_of x in
      let here = of_first (λ f. AreEven ds ks f n × AreColumns ds ks f n (width_of x) cs)
      (subst (λ (k : List Kind). AreEven ds k (map field_in whole) n
      × AreColumns ds k (map field_in whole) n (width_of x) cs) same h) in
      record { even = here.0; said = here.1 }

  -- the fields of a column as texts
  pub are_own : (j : ℕ) (o : Option ColumnView) (t : LogicalType) → t ≡ text_type true
      → o ≡ column_of_fields t (cells_apart (map field_in whole) w n j)
      → o ≡ own_texts (width_of x) (first_fields x (map field_in fs) n) n j
  are_own j o t typed e =
      of_first (λ f. o ≡ column_of_fields (text_type true) (cells_apart f (width_of x) n j))
      (e
      ∙ ap (λ (u : LogicalType). column_of_fields u (cells_apart (map field_in whole) w n j)) typed
      ∙ ap (λ (v : ℕ). column_of_fields (text_type true) (cells_apart (map field_in whole) v n j))
      counted)

-- the columns of first rows do not serve a tree
pub unserved : {Known : Type 0} (x : Request) (fs : List Field) (n : ℕ) (cs : List ColumnView) → AreFirst x fs n cs
    → (e : VortexError) → (known : ∥ Known ∥₁)
    → (Known → UnlessMemory (RefusesColumnsFirst cs n (trees_asked x)) e)
    → IsUnserved x fs (end.Refused e)
unserved {Known} x fs n cs first OutOfMemory known h = tt
unserved {Known} x fs n cs first e known h = (n, cs, first, ∥∥₁_map known h)
