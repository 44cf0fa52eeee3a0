-- A stream that is about to write its header.
use Rattle.std.proofs.Common.{◌≡◌, ◌∙◌, ◌++◌, [], ℕ, List, Bool, Option, ap₂}
use Rattle.csv.specs.Records.{fields_of}
use Rattle.rowfn_csv.specs.declared.format.Format.{Format}
use Rattle.rowfn_batches.specs.declared.request.Request.{Request}
use Rattle.rowfn_batches.specs.declared.output.Output.{Output}
use Rattle.rowfn_batches.specs.declared.settings.Settings.{Settings}
use Rattle.rowfn_batches.specs.declared.stream.Stream.{Stream}
use Rattle.rowfn_batches.specs.Starts.{HasReadHeader, IsLaidOut, HasCondition, PushesHeader, IsHeaded}
use Rattle.rowfn_batches.specs.Starts.{header_text}

pub headed : {R : Type 0} (reader : R) (settings : Settings) (x : Request)
    (condition : Option Request) (s : Stream R) (is_there : Bool) (empty : Output)
    → HasReadHeader reader settings is_there s.records → s.settings ≡ settings → s.asked ≡ x
    → IsLaidOut settings (fields_of s.records.last) x s.layout → s.width ≡ s.layout.width
    → HasCondition settings (fields_of s.records.last) condition s.condition
    → PushesHeader settings is_there s.records x.program.now.written.items empty s.output
    → (empty.bytes.items ≡ []) × (empty.format ≡ settings.format)
    → s.summary ≡ record { rows_read = 0; rows_written = 0 }
    → IsHeaded reader settings x condition s
headed reader settings x condition s is_there empty read set asked laid wide filter pushed new none =
    record {
      is_there = is_there;
      records = read;
      set_so = set;
      asked = asked;
      layout = laid;
      width = wide;
      filter = filter;
      form = pushed.text.1 ∙ new.1;
      text =
          pushed.text.0
          ∙ ap₂ (λ (bs : List ℕ) (f : Format). bs
          ++ header_text settings is_there s.records f x.program.now.written.items) new.0 new.1;
      apart = pushed.apart;
      none_read = none;
    }
