-- The result of a push-down, from the results of its calls.
use Rattle.std.proofs.Common.{◌≡◌, ℕ, List, length, ap, sym, subst, ◌∙◌}
use Rattle.std.specs.Prelude.{Some, None}
use Rattle.vortex_errors.specs.declared.error.VortexError.{VortexError}
use Rattle.vortex_errors.specs.Answers.{UnlessMemory}
use Rattle.vortex_errors.proofs.Answering.{UnlessMemory-weaker}
use Rattle.vortex_types.specs.ScalarView.{ScalarView}
use Rattle.vortex_columns.specs.ColumnView.{ColumnView}
use Rattle.vortex_interface.specs.Meaning.{Meaning}
use Rattle.vortex_interface.specs.Outcomes.{HasCallRows, IsCallFault}
use Rattle.vortex_interface.specs.Functions.{Function, function_type, function_means}
use Rattle.vortex_arrays.specs.Dictionary.{DictView}
use Rattle.vortex_arrays.specs.PushDown.{inputs_of, TakesInputs, RefusesInputs, MayRunOver}
use Rattle.vortex_arrays.specs.PushDown.{RefusesPushDown, binding, fault, PushesDown}

-- the arguments, from the borrowed values
pub inputs_are : (k : ℕ) (v : ColumnView) (d : DictView) (others : List ScalarView)
    (made : List ColumnView)
    → made ≡ inputs_of k v others → v ≡ d.values → made ≡ inputs_of k d.values others
inputs_are k v d others made is borrowed =
    is ∙ ap (λ (c : ColumnView). inputs_of k c others) borrowed

module _ {V O : Type 0} (m : Meaning V O) (f : Function V O) (d : DictView)
    (inputs made : List ColumnView) (is : made ≡ inputs)
  where
    -- the arguments as checked, and as given
    module _ (checked : List ColumnView) (same : checked ≡ made) where
      takes_inputs : TakesInputs m f checked → TakesInputs m f inputs
      takes_inputs takes = subst (λ (cs : List ColumnView). TakesInputs m f cs) (same ∙ is) takes

      pub refused : (e : VortexError) → UnlessMemory (RefusesInputs m f checked) e
          → UnlessMemory (RefusesPushDown m f d inputs) e
      refused e h =
          UnlessMemory-weaker (RefusesInputs m f checked) (RefusesPushDown m f d inputs)
          (λ x p.
          binding (subst (λ (cs : List ColumnView). RefusesInputs m f cs x) (same ∙ is) p)) e h

      pub not_pushed : TakesInputs m f checked → ¬ MayRunOver m f d → PushesDown m f d inputs None
      not_pushed takes may_not = (takes_inputs takes, may_not)

      module _ (given : List ColumnView) (also : given ≡ made) (n : ℕ)
          (long : n ≡ length d.values.rows) (takes : TakesInputs m f checked)
          (may : MayRunOver m f d)
        where
          pub faulted : (e : VortexError)
              → UnlessMemory (IsCallFault (function_means m f) given n) e
              → UnlessMemory (RefusesPushDown m f d inputs) e
          faulted e h =
              UnlessMemory-weaker (IsCallFault (function_means m f) given n)
              (RefusesPushDown m f d inputs)
              (λ x p.
              fault (takes_inputs takes) may
              (subst
              (λ (l : ℕ). IsCallFault (function_means m f) inputs l x) long
              (subst (λ (cs : List ColumnView). IsCallFault (function_means m f) cs n x)
              (also ∙ is) p))) e h

          pub pushed : (answers : ColumnView) (e : DictView)
              → HasCallRows (function_type m f) (function_means m f) given n answers
              → e ≡ record { values = answers; codes = d.codes } → PushesDown m f d inputs (Some e)
          pushed answers e rows at = (
            takes_inputs takes,
            (
              may,
              record {
                codes = ap (λ (x : DictView). x.codes) at;
                values =
                    subst
                    (λ (c : ColumnView).
                    HasCallRows (function_type m f) (function_means m f) inputs
                    (length d.values.rows) c)
                    (sym (ap (λ (x : DictView). x.values) at))
                    (subst
                    (λ (l : ℕ).
                    HasCallRows (function_type m f) (function_means m f) inputs l answers) long
                    (subst
                    (λ (cs : List ColumnView).
                    HasCallRows (function_type m f) (function_means m f) cs n answers)
                    (also ∙ is) rows));
              },
            ),
          )
