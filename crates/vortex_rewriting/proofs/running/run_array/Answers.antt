use Rattle.std.proofs.Common.{◌≡◌, [], subst, sym}
use Rattle.std.proofs.lemmas.Result.{err_from_is_err_and}
use Rattle.std.specs.Cow.{cow_value}
use Rattle.vortex_errors.proofs.Answering.{Answers-weaker, UnlessMemory-weaker}
use Rattle.vortex_interface.specs.Eval.{IsFirstFault}
use Rattle.vortex_interface.specs.Running.{HasRowsAfter, IsFaultAfter}
use Rattle.vortex_functions.specs.Words.{type_of}
use Rattle.vortex_functions.specs.Words.{tree_in, rows_in}
use Rattle.vortex_rewriting.specs.Runs.{array_step}
use Rattle.vortex_rewriting.proofs.RunAnswers.{runs_to, array_rows_after, array_fault_after}
use Rattle.vortex_rewriting.proofs.running.run_array.Goals as goal

pub returns-in_err-column : goal.returns-in_err-column
returns-in_err-column g c =
    let m = g.C.ScalarFnVTable.meaning in
    let r = g.C.ScalarFnVTable.rules in
    let a = c.args.tree.now in
    let o = c.in_ok-optimized.optimized in
    let ended = runs_to (array_step m r) c.args.limit o.steps (tree_in a) (tree_in o.tree) o.done
    c.in_ok-optimized.ensures.run c.in_ok-optimized.ensures.limited c.in_ok-optimized.ensures.done
    c.in_ok-optimized.ensures.stopped in
    let p =
    err_from_is_err_and c.from_residual-in_err-column.result
    c.from_residual-in_err-column.ensures.1 in
    rw (p.1, p.2)
    (UnlessMemory-weaker (IsFirstFault m [] (rows_in o.tree) (tree_in o.tree))
    (IsFaultAfter m [] (rows_in a) (array_step m r) c.args.limit (tree_in a))
    (array_fault_after m g.met.C.ScalarFnVTable.lawful r g.met.C.ScalarFnRules.rules_lawful
    c.args.limit a o.tree (type_of c.dtype-typed.result.now) c.dtype-typed.ensures.dtype
    c.dtype-typed.ensures.typed c.in_ok-optimized.ensures.same_rows ended) _
    c.in_err-column.ensures.answer)

pub returns : goal.returns
returns g c =
    let m = g.C.ScalarFnVTable.meaning in
    let r = g.C.ScalarFnVTable.rules in
    let a = c.args.tree.now in
    let o = c.in_ok-optimized.optimized in
    let ended = runs_to (array_step m r) c.args.limit o.steps (tree_in a) (tree_in o.tree) o.done
    c.in_ok-optimized.ensures.run c.in_ok-optimized.ensures.limited c.in_ok-optimized.ensures.done
    c.in_ok-optimized.ensures.stopped in
    let rows =
    array_rows_after m g.met.C.ScalarFnVTable.lawful r g.met.C.ScalarFnRules.rules_lawful
    c.args.limit a o.tree (type_of c.dtype-typed.result.now) c.dtype-typed.ensures.dtype
    c.dtype-typed.ensures.typed c.in_ok-optimized.ensures.same_rows ended
    (cow_value c.in_ok-column.column) c.in_ok-column.ensures.answer in
    let After = HasRowsAfter m [] (rows_in a) (array_step m r) c.args.limit (tree_in a) in
    Answers-weaker c.own_column.result (λ own. own ≡ cow_value c.in_ok-column.column) After
    (λ e. ⊥) (IsFaultAfter m [] (rows_in a) (array_step m r) c.args.limit (tree_in a))
    (λ own is. subst After (sym is) rows) (λ e h. absurd h) c.own_column.ensures
