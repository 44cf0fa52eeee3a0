-- The result for the values is the result for the rows.
use Rattle.std.proofs.Common.{◌≡◌, ℕ, ◌<◌, ◌++◌, ◌∷◌, Bool, true, false, List, length, refl, sym}
use Rattle.std.proofs.Common.{ap}
use Rattle.std.proofs.Common.{◌∙◌, map, subst, arith, take, drop}
use Rattle.std.specs.Prelude.{Option, Some, None, Ok, Err, slice_index}
use Rattle.std.proofs.lemmas.List.{length-map, get_or_default}
use Rattle.vortex_errors.specs.declared.error.MismatchPlace.{MismatchPlace}
use Rattle.vortex_errors.specs.declared.error.VortexError.{VortexError}
use Rattle.vortex_errors.specs.declared.error.VortexError.TheVariants as error
use Rattle.vortex_errors.specs.Answers.{UnlessMemory}
use Rattle.vortex_types.specs.LogicalTypes.{LogicalType}
use Rattle.vortex_types.specs.ScalarView.{ScalarView}
use Rattle.vortex_types.specs.Values.{Value}
use Rattle.vortex_columns.specs.ColumnView.{ColumnView, row}
use Rattle.vortex_columns.specs.Taken.{AreRowsOf}
use Rattle.vortex_interface.specs.Meaning.{Meaning, Lawful, HaveTypes}
use Rattle.vortex_interface.specs.Outcomes.{Outcome, gives, faults, GivesValue, HasCallRows}
use Rattle.vortex_interface.specs.Outcomes.{IsCallFault, call_row, types_in}
use Rattle.vortex_interface.specs.Functions.{Function, ours, custom, function_type, function_means}
use Rattle.vortex_interface.specs.Functions.{function_infallible, IsMismatchOf, IsMismatchAt}
use Rattle.vortex_interface.specs.Functions.{IsTypeMismatch}
use Rattle.vortex_interface.specs.Shipped.{shipped_place, row_lawful}
use Rattle.vortex_arrays.specs.Dictionary.{DictView, decoded}
use Rattle.vortex_arrays.specs.PushDown.{inputs_of, TakesInputs, RefusesInputs, count, types}
use Rattle.vortex_arrays.specs.PushDown.{MayRunOver, IsPushedDown, RefusesPushDown, binding}
use Rattle.vortex_arrays.specs.PushDown.{fault}
use Rattle.vortex_arrays.specs.Laws.{AreKept, SaysNothing, IsFaultOfRows, AreRowsOfCall}
use Rattle.vortex_arrays.specs.Laws.{RowsAreOfRows, ErrsWhereRowsFault}
use Rattle.vortex_arrays.proofs.CallInputs.{inputs_types, inputs_at, inputs_typed, value_in}
use Rattle.vortex_arrays.proofs.CodedRows.{coded_row, decoded_length}

-- the arguments have the same types over the rows, and in a row the items of its value
same_types : (d : DictView) (k : ℕ) (others : List ScalarView)
    → types_in (inputs_of k (decoded d) others) ≡ types_in (inputs_of k d.values others)
same_types d k others = inputs_types k (decoded d) others ∙ sym (inputs_types k d.values others)

row_of_value : (means : List LogicalType → List Value → Outcome) (d : DictView) (k : ℕ)
    (others : List ScalarView) (i : ℕ)
    → AreRowsOf d.values d.codes → i < length d.codes
    → call_row means (inputs_of k (decoded d) others) i
    ≡ call_row means (inputs_of k d.values others) (slice_index d.codes i)
row_of_value means d k others i below lt =
    let at = slice_index d.codes i in
    λ j.
    means (same_types d k others j)
    ((inputs_at k (decoded d) others i (omega (arith, decoded_length d, lt))
    ∙ ap (λ v. map value_in (take k others) ++ v ∷ map value_in (drop k others))
    (coded_row d.values.rows d.codes i lt)
    ∙ sym (inputs_at k d.values others at (below i 0 lt))) j)

module _ {V O : Type 0} (m : Meaning V O) where
  -- the rows of the result
  rows_are : (f : Function V O) (d e : DictView) (k : ℕ) (others : List ScalarView)
      → AreRowsOf d.values d.codes → IsPushedDown m f d (inputs_of k d.values others) e
      → AreRowsOfCall m f d k others e
  rows_are f d e k others below h = record {
    dtype = ap (function_type m f) (same_types d k others) ∙ h.values.dtype;
    count = length-map e.codes (row e.values.rows) ∙ ap length h.codes;
    each = λ i lt.
        let at = slice_index d.codes i in
        row_of_value (function_means m f) d k others i below lt
        ∙ h.values.each at (below i 0 lt)
        ∙ ap gives
        (sym
        (ap (λ codes. row (map (row e.values.rows) codes) i) h.codes
        ∙ coded_row e.values.rows d.codes i lt));
  }

  -- rows that each have a value do not fault
  none_faults : (f : Function V O) (inputs : List ColumnView) (n : ℕ) (c : ColumnView)
      (e : VortexError)
      → HasCallRows (function_type m f) (function_means m f) inputs n c
      → ¬ IsCallFault (function_means m f) inputs n e
  none_faults f inputs n c e h r =
      let here : gives (row c.rows r.at) ≡ faults r.fault = sym (h.each r.at r.below) ∙ r.here in cc

  -- a function that is marked infallible does not fault
  never_faults : Lawful m → (f : Function V O) (ts : List LogicalType) (t : LogicalType)
      (vs : List Value)
      → function_infallible m f ≡ true → function_type m f ts ≡ Some t → HaveTypes ts vs
      → GivesValue (function_means m f ts vs)
  never_faults lawful (ours s) ts t vs i e h = (row_lawful s).never_faults ts t vs i e h
  never_faults lawful (custom f o) ts t vs i e h = lawful.never_faults f o ts t vs i e h

  -- a fault of a value, if the function may run over the values, is a fault of a row
  fault_of_row : Lawful m → (f : Function V O) (d : DictView) (k : ℕ) (others : List ScalarView)
      (e : VortexError)
      → AreKept d others → TakesInputs m f (inputs_of k d.values others) → MayRunOver m f d
      → IsCallFault (function_means m f) (inputs_of k d.values others) (length d.values.rows) e
      → IsFaultOfRows m f d k others e
  fault_of_row lawful f d k others e kept takes may r = by (function_infallible m f) refl
    where
      by : (b : Bool) → function_infallible m f ≡ b → IsFaultOfRows m f d k others e
      by true is =
          let gives_value =
          never_faults lawful f (types_in (inputs_of k d.values others)) takes.dtype _ is
          takes.accepted
          (inputs_typed k d.values others r.at kept.values kept.others r.below) in
          absurd (subst GivesValue r.here gives_value)
      by false is =
          let found = may is r.at r.below in
          let i = found.0 in
          let names : slice_index d.codes i ≡ r.at =
          get_or_default d.codes i 0 r.at found.1 ∙ found.2 in
          record {
            at = i;
            below = found.1;
            fault = r.fault;
            here =
                row_of_value (function_means m f) d k others i kept.codes found.1
                ∙ ap (call_row (function_means m f) (inputs_of k d.values others)) names ∙ r.here;
            told = r.told;
          }

  -- an error of binding the call is independent of the rows
  mismatch_says_nothing : (f : Function V O) (ts : List LogicalType) (e : VortexError)
      → IsMismatchOf f ts e → SaysNothing (Err e)
  mismatch_says_nothing (ours s) ts e h = placed (shipped_place s ts) h
    where
      placed : (p : Option MismatchPlace) → IsMismatchAt p e → SaysNothing (Err e)
      placed None g = absurd g
      placed (Some p) g = subst (λ (x : VortexError). SaysNothing (Err x)) (sym g) tt
  mismatch_says_nothing (custom f o) ts e h = by e h
    where
      by : (x : VortexError) → IsTypeMismatch x → SaysNothing (Err x)
      by (error.TypeMismatch p) g = tt
      by x g = absurd g

  binding_says_nothing : (f : Function V O) (inputs : List ColumnView) (e : VortexError)
      → RefusesInputs m f inputs e → SaysNothing (Err e)
  binding_says_nothing f inputs e (count h is) =
      subst (λ (x : VortexError). SaysNothing (Err x)) (sym is) tt
  binding_says_nothing f inputs e (types h none is) =
      mismatch_says_nothing f (types_in inputs) e is

  not_memory : (Q : VortexError → Type 0) (e : VortexError) → ¬ SaysNothing (Err e)
      → UnlessMemory Q e → Q e
  not_memory Q error.OutOfMemory h q = absurd (h tt)
  not_memory Q e h q = q

  refused : Lawful m → (f : Function V O) (d : DictView) (k : ℕ) (others : List ScalarView)
      (e : VortexError)
      → AreKept d others → ¬ SaysNothing (Err e)
      → RefusesPushDown m f d (inputs_of k d.values others) e → IsFaultOfRows m f d k others e
  refused lawful f d k others e kept tells (binding h) =
      absurd (tells (binding_says_nothing f (inputs_of k d.values others) e h))
  refused lawful f d k others e kept tells (fault takes may h) =
      fault_of_row lawful f d k others e kept takes may h

  pub rows_are_of_rows : RowsAreOfRows m
  rows_are_of_rows f d e k others kept h = rows_are f d e k others kept.codes h.1.1

  pub errs_where_rows_fault : Lawful m → ErrsWhereRowsFault m
  errs_where_rows_fault lawful f d k others (Ok None) kept h tells = absurd (tells tt)
  errs_where_rows_fault lawful f d k others (Ok (Some e)) kept h tells =
      λ x. none_faults f (inputs_of k (decoded d) others) (length d.codes) (decoded e) x
      (rows_are f d e k others kept.codes h.1.1)
  errs_where_rows_fault lawful f d k others (Err e) kept h tells =
      refused lawful f d k others e kept tells
      (not_memory (RefusesPushDown m f d (inputs_of k d.values others)) e tells h)
