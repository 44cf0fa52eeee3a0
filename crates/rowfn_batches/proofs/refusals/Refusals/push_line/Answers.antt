use Rattle.std.proofs.Common.{◌∙◌, ap}
use Rattle.std.specs.Prelude.{unwrap_or}
use Rattle.rowfn_batches.proofs.ReportedRows.{line_added}
use Rattle.rowfn_batches.proofs.refusals.Refusals.push_line.Goals as goal

pub returns-clause-line : goal.returns-clause-line
returns-clause-line g c =
    line_added c.args.self.now.has_header c.args.error.now c.args.self.now.lines.items _ _ _ _ _
    c.unwrap_or.result c.in_ok-report_header.ensures.lines c.in_ok-push_number.ensures.lines
    c.in_ok-push.ensures.items c.in_ok-extend_from_slice.ensures.items
    (c.unwrap_or.ensures ∙ ap (λ o. unwrap_or o 0) c.row.ensures)
