-- The leftmost field of a row that does not fit, found column by column.
use Rattle.std.proofs.Common.{◌≡◌, ◌+◌, ◌*◌, ◌<◌, ◌≤◌, ℕ, List, Bool, true, false, length, get_or}
use Rattle.std.proofs.Common.{refl, sym, subst, ◌∙◌, arith, below_more, inl, inr, ◌⊎◌}
use Rattle.std.proofs.lemmas.Bool.{cases_lt}
use Rattle.vortex_types.specs.LogicalTypes.{Fields, field_count}
use Rattle.vortex_logical.specs.declared.kind.Kind.{Kind}
use Rattle.rowfn_batches.specs.Fields.{Field}
use Rattle.rowfn_batches.specs.Batches.{fits_in, IsLeftmostOf, IsLeftmost, IsMisfit}
use Rattle.rowfn_batches.proofs.FieldPlaces.{place_beside}

module _ (ds : Fields) (ks : List Kind) (fs : List Field) (places : List ℕ) (row : ℕ) where
  -- of the columns up to the first that has a misfit
  pub leftmost_first : (column n : ℕ) → n ≡ column + 1 → IsMisfit ds ks fs row column
      → IsLeftmostOf ds ks fs places row n column
  leftmost_first column n e m =
      record { below = m.below; misfit = m.first.misfit; leftmost = none }
    where
      by_order : (j : ℕ) → j < n → fits_in ds ks fs row j ≡ false → (j < column) ⊎ (column ≤ j)
          → get_or places column 0 ≤ get_or places j 0
      by_order j lt bad (inl less) =
          absurd (cc (sym (m.first.before (row * field_count ds + j) (omega (arith, less))) ∙ bad))
      by_order j lt bad (inr more) =
          let same : j ≡ column = omega (arith, lt, e, more) in
          subst (λ (k : ℕ). get_or places column 0 ≤ get_or places k 0) (sym same) (omega arith)

      none : (j : ℕ) → j < n → fits_in ds ks fs row j ≡ false
          → get_or places column 0 ≤ get_or places j 0
      none j lt bad = by_order j lt bad (cases_lt j column)

  -- a turn of a loop over columns
  pub leftmost_next : (n best now : ℕ) → n < field_count ds
      → IsLeftmostOf ds ks fs places row n best
      → (get_or places n 0 < get_or places best 0 → fits_in ds ks fs row n ≡ false → now ≡ n)
      → (get_or places best 0 ≤ get_or places n 0 → now ≡ best)
      → (fits_in ds ks fs row n ≡ true → now ≡ best)
      → IsLeftmostOf ds ks fs places row (n + 1) now
  leftmost_next n best now within so_far second before fits =
      by_fit (fits_in ds ks fs row n) refl
    where
      kept : now ≡ best
          → (fits_in ds ks fs row n ≡ false → get_or places best 0 ≤ get_or places n 0)
          → IsLeftmostOf ds ks fs places row (n + 1) now
      kept e h =
          subst (λ (k : ℕ). IsLeftmostOf ds ks fs places row (n + 1) k) (sym e)
          (record {
            below = so_far.below;
            misfit = so_far.misfit;
            leftmost = below_more _ _ so_far.leftmost h;
          })

      taken : get_or places n 0 < get_or places best 0 → fits_in ds ks fs row n ≡ false → now ≡ n
          → IsLeftmostOf ds ks fs places row (n + 1) now
      taken less bad e =
          subst (λ (k : ℕ). IsLeftmostOf ds ks fs places row (n + 1) k) (sym e)
          (record {
            below = within;
            misfit = bad;
            leftmost = below_more
                (λ (j : ℕ). fits_in ds ks fs row j ≡ false → get_or places n 0 ≤ get_or places j 0)
                n
                (λ j lt other. let most = so_far.leftmost j lt other in omega (arith, less, most))
                (λ other. omega arith);
          })

      by_order : (get_or places n 0 < get_or places best 0)
          ⊎ (get_or places best 0 ≤ get_or places n 0) → fits_in ds ks fs row n ≡ false
          → IsLeftmostOf ds ks fs places row (n + 1) now
      by_order (inl less) bad = taken less bad (second less bad)
      by_order (inr more) bad = kept (before more) (λ _. more)

      by_fit : (b : Bool) → fits_in ds ks fs row n ≡ b
          → IsLeftmostOf ds ks fs places row (n + 1) now
      by_fit true good = kept (fits good) (λ bad. absurd (cc (sym good ∙ bad)))
      by_fit false bad = by_order (cases_lt (get_or places n 0) (get_or places best 0)) bad

  -- of all columns
  pub is_leftmost : (column found n : ℕ) → length fs ≡ field_count ds * n
      → IsMisfit ds ks fs row column → IsLeftmostOf ds ks fs places row (field_count ds) found
      → IsLeftmost ds ks fs places row found
  is_leftmost column found n even m here =
      record {
        within = place_beside (field_count ds) n row column found (length fs) even m.first.below
            here.below;
        before = λ k lt. m.first.before k (omega (arith, lt));
        here = here;
      }
