-- The words in which refusals of a caller's buffers are told.
use Rattle.std.specs.Prelude.{ℕ, List, ◌++◌, codes}
use Rattle.std.specs.Fmt.{decimal}
use Rattle.vortex_arrow.specs.declared.error.ArrowError.{ArrowError}
use Rattle.vortex_arrow.specs.declared.error.ArrowError.TheVariants as arrow
use Rattle.vortex_arrow.specs.declared.error.ValueFault.{ValueFault}
use Rattle.vortex_arrow.specs.declared.error.ValueFault.TheVariants as fault

abbrev pub fault_text : ValueFault → List ℕ
fault_text fault.OffsetsFall = codes "offsets fall"
fault_text fault.PastData = codes "an offset is past the end of the data"
fault_text fault.ViewOutOfRange = codes "a view is out of range"
fault_text fault.PrefixDiffers = codes "a view's prefix differs from its buffer"
fault_text fault.NotPadded = codes "a view is not padded with zeros"

abbrev pub arrow_text : ArrowError → List ℕ
arrow_text arrow.ValidityTooShort = codes "validity is too short"
arrow_text arrow.ValuesTooShort = codes "values are too short"
arrow_text arrow.OffsetsTooShort = codes "offsets are too short"
arrow_text (arrow.UnexpectedNull r) =
    codes "row " ++ decimal r ++ codes ": null in a column that is not nullable"
arrow_text (arrow.InvalidValue r f) = codes "row " ++ decimal r ++ codes ": " ++ fault_text f
arrow_text (arrow.NotUtf8 r) = codes "row " ++ decimal r ++ codes ": not UTF-8"
arrow_text arrow.TooLong = codes "texts are too long"
arrow_text arrow.OutOfMemory = codes "out of memory"
