-- How a stream begins.
use Rattle.std.proofs.Common.{◌≡◌, ℕ, List, Option}
use Rattle.std.specs.Io.KnownBytes.{Appends}
use Rattle.rowfn_batches.specs.declared.request.Request.{Request}
use Rattle.rowfn_batches.specs.declared.settings.Settings.{Settings}
use Rattle.rowfn_batches.specs.declared.stream.Stream.{Stream}
use Rattle.rowfn_batches.specs.Passing.{HasBegun, KeepsReading, IsCleared}
use Rattle.rowfn_batches.specs.Starts.{IsHeaded}

pub has_begun : {R : Type 0} (reader : R) (settings : Settings) (x : Request)
    (condition : Option Request) (before begun : Option (List ℕ)) (headed first : Stream R)
    → IsHeaded reader settings x condition headed
    → Appends before begun headed.output.bytes.items → KeepsReading headed first
    → IsCleared headed.output first.output → first.summary ≡ headed.summary
    → HasBegun reader settings x condition before begun first
has_begun reader settings x condition before begun headed first start wrote kept cleared same =
    record {
      headed = headed;
      start = start;
      header = wrote;
      kept = kept;
      cleared = cleared;
      summary = same;
    }
