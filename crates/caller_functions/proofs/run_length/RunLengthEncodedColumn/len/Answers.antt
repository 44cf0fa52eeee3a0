use Rattle.std.proofs.Common.{sym}
use Rattle.caller_functions.proofs.RunRows.{run_count}
use Rattle.caller_functions.proofs.run_length.RunLengthEncodedColumn.len.Goals as goal

pub returns : goal.returns
returns c = let a = c.args.self.now in sym (run_count a.values.value a.starts.items a.len)
