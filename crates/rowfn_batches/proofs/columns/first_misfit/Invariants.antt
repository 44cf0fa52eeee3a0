use Rattle.std.proofs.Common.{◌≡◌, ◌<◌, ℕ, map, true}
use Rattle.vortex_types.specs.TypeOf.{struct_fields}
use Rattle.rowfn_batches.specs.Fields.{field_in}
use Rattle.rowfn_batches.specs.Batches.{fits_at}
use Rattle.rowfn_batches.proofs.columns.first_misfit.Given as goal

-- the fields so far fit
abbrev pub invariant-loop-place : goal.invariant-loop-place
invariant-loop-place l =
    (k : ℕ) → k < l.place
    → fits_at (struct_fields l.declared) l.kinds (map field_in l.fields) k ≡ true
