use Rattle.rowfn_batches.proofs.Outputs.{name_added}
use Rattle.rowfn_batches.proofs.output.Output.push_name.Goals as goal

pub returns : goal.returns
returns c =
    name_added c.args.self.now c.begin_field.new.self c.push_text.new.self c.args.index
    c.args.name.now c.push_text.result c.in_ok-begin_field.ensures c.push_text.ensures
