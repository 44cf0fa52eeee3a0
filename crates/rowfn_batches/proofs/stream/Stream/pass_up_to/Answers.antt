use Rattle.std.proofs.Common.{◌∙◌, Err, ap, arith, sym, option_map, rules}
use Rattle.std.proofs.lemmas.Grind.{common_steps}
use Rattle.std.proofs.lemmas.Result.{err_from_is_err_and}
use Rattle.rowfn_batches.specs.Passing.{unanswered, unwritten}
use Rattle.rowfn_batches.proofs.Passed.{have, within, passed, counted, kept_as_it_is}
use Rattle.rowfn_batches.proofs.stream.Stream.pass_up_to.Goals as goal

pub push_batch-requires-clause-rows : goal.push_batch-requires-clause-rows
push_batch-requires-clause-rows g c =
    let a = c.in_ok-answered in
    have c.args.self.now c.args.error _ a.answered.row_count _ c.deref.result.now _ a.ensures
    (cc c.deref.ensures.value)

pub push_batch-requires-clause-spans : goal.push_batch-requires-clause-spans
push_batch-requires-clause-spans g c = λ none.
    let a = c.in_ok-answered in
    within c.args.self.now c.args.error _ a.answered.row_count _ c.deref.result.now _ a.ensures
    (cc c.deref.ensures.value)
    (sym c.slice_of.ensures ∙ ap (λ o. option_map (λ r. r.now) o) none)

pub returns-in_err-answered-clause-passes : goal.returns-in_err-answered-clause-passes
returns-in_err-answered-clause-passes g c =
    let p = err_from_is_err_and c.from_residual.result c.from_residual.ensures.1 in
    unanswered c.in_err-answered.field-0.0 c.in_err-answered.ensures
    (kept_as_it_is (g.W.Write.contents c.args.writer.now)) (p.1 ∙ ap Err p.2)

pub returns-in_err-write-clause-passes : goal.returns-in_err-write-clause-passes
returns-in_err-write-clause-passes g c =
    let p = err_from_is_err_and c.from_residual-in_err-write.result
    c.from_residual-in_err-write.ensures.1 in
    unwritten c.in_err-write.field-0.0 c.in_err-write.ensures.refused (p.1 ∙ ap Err p.2)

pub returns-clause-passes : goal.returns-clause-passes
returns-clause-passes g c =
    let a = c.in_ok-answered in
    passed c.args.self.now c.args.error _ a.answered.row_count _ c.deref.result.now _ a.ensures
    (cc c.deref.ensures.value) _ c.slice_of.ensures
    c.push_batch.new.self _ _ c.in_ok-count.ensures.text c.in_ok-write.ensures.written

pub returns-clause-behind : goal.returns-clause-behind
returns-clause-behind g c =
    let a = c.in_ok-answered in
    record {
      kept = search rules;
      cleared = search rules;
      rows_read = search rules;
      rows_written =
          counted c.args.self.now c.args.error _ a.answered.row_count _ c.deref.result.now _
          a.ensures (cc c.deref.ensures.value) _ c.slice_of.ensures _ c.in_ok-count.count
          c.in_ok-count.ensures.count (grind (arith, common_steps));
    }
