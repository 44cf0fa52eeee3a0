-- The status of an index that is not used.
use Rattle.std.specs.Prelude.{ℕ}
use Rattle.rowfn_index.specs.declared.error.IndexError.{IndexError}
use Rattle.rowfn_index.specs.declared.error.IndexError.TheVariants.{OutOfMemory}

abbrev pub status_of : IndexError → ℕ
status_of OutOfMemory = 3
status_of e = 2
