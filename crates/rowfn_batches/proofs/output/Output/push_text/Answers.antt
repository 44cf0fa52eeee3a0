use Rattle.std.proofs.Common.{refl, ◌∙◌, ◌++◌, ap, List, ℕ}
use Rattle.rowfn_batches.proofs.Outputs.{text_added}
use Rattle.rowfn_batches.proofs.output.Output.push_text.Goals as goal

pub returns : goal.returns
returns c =
    let put = c.in_ok-extend_from_slice.ensures.items
    ∙ ap (λ (t : List ℕ). c.args.self.now.bytes.items ++ t) c.as_bytes.ensures.value in
    text_added c.args.self.now
    (record c.args.self.now { bytes = c.quote_from.new.bytes; spare = c.quote_from.new.spare })
    c.len-start.result c.extend_from_slice.new.self.items c.args.text.now c.quote_from.result
    (c.len-start.ensures ∙ c.args.self.now.bytes.ok.0) put c.quote_from.ensures refl
