-- A column that is false in each row.
use Rattle.std.proofs.Common.{◌≡◌, ℕ, Bool, false, List, [], ◌∷◌, length, Some, refl, sym, ap, ◌∙◌}
use Rattle.std.proofs.Common.{arith, replicate}
use Rattle.std.specs.Prelude.{IsSome, Result, slice_index_or}
use Rattle.std.proofs.lemmas.List.{get_or-replicate, length-replicate}
use Rattle.std.proofs.lemmas.List.FromFn.{get_or-map-range_with_len, length-map-range_with_len}
use Rattle.vortex_errors.specs.declared.error.VortexError.{VortexError}
use Rattle.vortex_errors.specs.declared.error.VortexError.TheVariants.{InvalidColumn}
use Rattle.vortex_types.specs.LogicalTypes.{bool_type}
use Rattle.vortex_types.specs.Values.{null, truth}
use Rattle.vortex_columns.specs.ColumnView.{ColumnView, row}
use Rattle.vortex_columns.specs.ValidityView.{non_nullable, ValidityView, FitsRows}
use Rattle.vortex_columns.specs.Stored.{bool_column}
use Rattle.vortex_errors.specs.Answers.{Answers, AnswersWhere}
use Rattle.vortex_errors.proofs.Answering.{Answers-weaker}
use Rattle.vortex_interface.specs.Outcomes.{gives, HasCallRows, IsCallFault, types_in}
use Rattle.vortex_functions.specs.Fixed.{fixed_type}

abbrev pub plain : ValidityView
plain = record { form = non_nullable; bits = [] }

no_inputs : (cs : List ColumnView) → IsSome (fixed_type (types_in cs))
    → fixed_type (types_in cs) ≡ Some (bool_type false)
no_inputs [] h = refl
no_inputs (c ∷ cs) h = cc

fixed_rows : (cs : List ColumnView) (n : ℕ) (bits : List Bool) (c : ColumnView)
    → IsSome (fixed_type (types_in cs)) → bits ≡ replicate n false → c ≡ bool_column bits plain
    → HasCallRows fixed_type (λ ts vs. gives (truth false)) cs n c
fixed_rows cs n bits c h e is = record {
  dtype = no_inputs cs h ∙ ap (λ (d : ColumnView). Some d.dtype) (sym is);
  count =
      ap (λ (d : ColumnView). length d.rows) is
      ∙ length-map-range_with_len (λ i. truth (slice_index_or bits i false)) 0 (length bits)
      ∙ counts;
  each = λ i lt.
      ap gives
      (sym
      (ap (λ (d : ColumnView). row d.rows i) is
      ∙ get_or-map-range_with_len (λ k. truth (slice_index_or bits k false)) 0 (length bits) i i
      null (omega (arith, counts)) (omega arith)
      ∙ ap (λ l. truth (slice_index_or l i false)) e
      ∙ ap truth (get_or-replicate n i false false lt)));
}
  where
    counts : length bits ≡ n
    counts = ap length e ∙ length-replicate n false

pub fixed_call : (cs : List ColumnView) (n : ℕ) (bits : List Bool)
    (answer : Result ColumnView VortexError)
    → IsSome (fixed_type (types_in cs)) → bits ≡ replicate n false
    → AnswersWhere answer (FitsRows plain (length bits)) (λ c. c ≡ bool_column bits plain)
    InvalidColumn
    → Answers answer (HasCallRows fixed_type (λ ts vs. gives (truth false)) cs n)
    (IsCallFault (λ ts vs. gives (truth false)) cs n)
fixed_call cs n bits answer h e answered =
    Answers-weaker answer (λ c. FitsRows plain (length bits) × (c ≡ bool_column bits plain))
    (HasCallRows fixed_type (λ ts vs. gives (truth false)) cs n)
    (λ f. (¬ FitsRows plain (length bits)) × (f ≡ InvalidColumn))
    (IsCallFault (λ ts vs. gives (truth false)) cs n) (λ c p. fixed_rows cs n bits c h e p.1)
    (λ f p. absurd (p.0 tt)) answered
