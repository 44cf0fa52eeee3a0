use Rattle.std.proofs.Common.{List, subst}
use Rattle.vortex_errors.proofs.Answering.{UnlessMemory-weaker}
use Rattle.vortex_interface.specs.Eval.{IsFirstFault}
use Rattle.vortex_functions.specs.Executing.{HasRows}
use Rattle.vortex_standard.specs.Standard.{standard_meaning}
use Rattle.vortex_program.proofs.Answered.{answers_refusal}
use Rattle.vortex_program.proofs.Decided.{spine_last, spine_fits, spine_fault, left_rows}
use Rattle.vortex_program.specs.declared.deciding.Joined.{Joined}
use Rattle.vortex_program.specs.Deciding.{IsSpine}
use Rattle.vortex_program.proofs.deciding.execute_spine.Goals as goal

pub execute_fitting-requires : goal.execute_fitting-requires
execute_fitting-requires c =
    spine_fits c.args.columns.now c.args.row_count c.args.tree.now c.in_ok-above.innermost.now
    c.in_ok-above.above.items c.in_ok-above.ensures c.requires.fit

pub returns-in_err-column : goal.returns-in_err-column
returns-in_err-column c =
    let m = standard_meaning in
    let cs = c.args.columns.now in
    let n = c.args.row_count in
    let t = c.args.tree.now in
    let x = c.in_ok-above.innermost.now in
    answers_refusal (HasRows m cs n t) (IsFirstFault m cs n t)
    c.from_residual-in_err-column.result c.in_err-column.field-0.0
    c.from_residual-in_err-column.ensures.1
    (UnlessMemory-weaker (IsFirstFault m cs n x) (IsFirstFault m cs n t)
    (λ e h. spine_fault cs n t x c.in_ok-above.above.items e c.in_ok-above.ensures h)
    c.in_err-column.field-0.0 c.in_err-column.ensures.answer)

pub execute_joined-requires-clause-fit : goal.execute_joined-requires-clause-fit
execute_joined-requires-clause-fit c =
    let t = c.args.tree.now in
    let rest = c.pop.new.self.items in
    let j = c.in-Some.joined in
    let i = c.loop-joined.invariant in
    let s = spine_last t i.0 rest j
    (subst (λ (js : List Joined). IsSpine t js i.0) c.in-Some.ensures.items i.1) in
    spine_fits c.args.columns.now c.args.row_count t j.node.now rest s.0 c.requires.fit

pub execute_joined-requires-clause-left : goal.execute_joined-requires-clause-left
execute_joined-requires-clause-left c =
    let t = c.args.tree.now in
    let rest = c.pop.new.self.items in
    let j = c.in-Some.joined in
    let i = c.loop-joined.invariant in
    let s = spine_last t i.0 rest j
    (subst (λ (js : List Joined). IsSpine t js i.0) c.in-Some.ensures.items i.1) in
    left_rows c.args.columns.now c.args.row_count i.0 j c.loop-joined.column s.1 s.2 s.3 s.4 i.2

pub returns-in_err-execute_joined : goal.returns-in_err-execute_joined
returns-in_err-execute_joined c =
    let m = standard_meaning in
    let cs = c.args.columns.now in
    let n = c.args.row_count in
    let t = c.args.tree.now in
    let rest = c.pop.new.self.items in
    let j = c.in-Some.joined in
    let i = c.loop-joined.invariant in
    let s = spine_last t i.0 rest j
    (subst (λ (js : List Joined). IsSpine t js i.0) c.in-Some.ensures.items i.1) in
    answers_refusal (HasRows m cs n t) (IsFirstFault m cs n t)
    c.from_residual-in_err-execute_joined.result c.in_err-execute_joined.field-0.0
    c.from_residual-in_err-execute_joined.ensures.1
    (UnlessMemory-weaker (IsFirstFault m cs n j.node.now) (IsFirstFault m cs n t)
    (λ e h. spine_fault cs n t j.node.now rest e s.0 h)
    c.in_err-execute_joined.field-0.0 c.in_err-execute_joined.ensures)

pub loop-joined-preserved : goal.loop-joined-preserved
loop-joined-preserved c =
    let t = c.args.tree.now in
    let rest = c.pop.new.self.items in
    let j = c.in-Some.joined in
    let i = c.loop-joined.invariant in
    let s = spine_last t i.0 rest j
    (subst (λ (js : List Joined). IsSpine t js i.0) c.in-Some.ensures.items i.1) in
    (j.node.now, s.0, c.in_ok-execute_joined.ensures)
