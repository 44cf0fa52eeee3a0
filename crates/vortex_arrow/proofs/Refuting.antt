-- What is told of buffers is wrong with them.
use Rattle.std.proofs.Common.{ℕ, ◌<◌, refl}
use Rattle.std.specs.Prelude.{◌≢◌}
use Rattle.vortex_arrow.specs.declared.column.ArrowColumn.{ArrowColumn}
use Rattle.vortex_arrow.specs.declared.error.ArrowError.{ArrowError}
use Rattle.vortex_arrow.specs.declared.error.ArrowError.TheVariants as arrow
use Rattle.vortex_arrow.specs.Columns.{IsWellFormed}
use Rattle.vortex_arrow.specs.Refusals.{TellsOf, IsFirstMisfit}

is_misfit : (n : ℕ) (P : ℕ → Type 0) (r : ℕ) → IsFirstMisfit n P r → ((i : ℕ) → i < n → P i) → ⊥
is_misfit n P r first all = first.misfit (all r first.within)

pub refutes : (c : ArrowColumn) (e : ArrowError) → TellsOf c e → e ≢ arrow.OutOfMemory
    → IsWellFormed c → ⊥
refutes c arrow.OutOfMemory h other w = other refl
refutes c arrow.ValidityTooShort h other w = h w.bits
refutes c arrow.ValuesTooShort h other w = h.2 w.items
refutes c arrow.OffsetsTooShort h other w = h.2 w.items
refutes c (arrow.UnexpectedNull r) h other w = is_misfit _ _ r h.1 w.nulls
refutes c (arrow.InvalidValue r f) h other w =
    is_misfit _ _ r h.2.0 (λ i lt. (w.values.lie i lt, w.values.texts i lt))
refutes c (arrow.NotUtf8 r) h other w =
    is_misfit _ _ r h.2.0 (λ i lt. (w.values.lie i lt, w.values.texts i lt))
refutes c arrow.TooLong h other w = h.2 w.values.room
