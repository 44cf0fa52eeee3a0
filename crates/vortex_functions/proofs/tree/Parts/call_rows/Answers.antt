use Rattle.std.proofs.Common.{rules, map}
use Rattle.vortex_types.specs.TypeOf.{type_of}
use Rattle.vortex_functions.specs.FunctionOf.{function_of}
use Rattle.vortex_functions.proofs.Execution.{AllHaveRows, accepted, counts_are, call_answers}
use Rattle.vortex_functions.proofs.Inputs.{beside}
use Rattle.vortex_functions.proofs.tree.Parts.call_rows.Goals as goal

pub new-args-requires : goal.new-args-requires
new-args-requires g c =
    let m = g.C.ScalarFnVTable.meaning in
    let p = c.requires.inputs in
    counts_are m p.0 c.args.row_count _ _ (beside m p.0 c.args.row_count _ _ p.1)

pub execute-requires-clause-arity : goal.execute-requires-clause-arity
execute-requires-clause-arity g c =
    let m = g.C.ScalarFnVTable.meaning in
    let parts = c.args.self.now in
    let ts = map g.L.Leaf.tree_of parts.children.items in
    let p = c.requires.inputs in
    let all : AllHaveRows m p.0 c.args.row_count ts c.new-args.result.columns =
    rw c.new-args.ensures.columns (beside m p.0 c.args.row_count ts _ p.1) in
    (accepted m p.0 c.args.row_count (function_of parts.function) ts _ (type_of parts.dtype) all
    c.requires.typed).0

pub execute-requires-clause-accepted : goal.execute-requires-clause-accepted
execute-requires-clause-accepted g c =
    let m = g.C.ScalarFnVTable.meaning in
    let parts = c.args.self.now in
    let ts = map g.L.Leaf.tree_of parts.children.items in
    let p = c.requires.inputs in
    let all : AllHaveRows m p.0 c.args.row_count ts c.new-args.result.columns =
    rw c.new-args.ensures.columns (beside m p.0 c.args.row_count ts _ p.1) in
    let here = accepted m p.0 c.args.row_count (function_of parts.function) ts _
    (type_of parts.dtype) all c.requires.typed in
    rw here.1 (search rules)

pub returns : goal.returns
returns g c cs h =
    let m = g.C.ScalarFnVTable.meaning in
    let parts = c.args.self.now in
    let n = c.args.row_count in
    let ts = map g.L.Leaf.tree_of parts.children.items in
    let all : AllHaveRows m cs n ts c.new-args.result.columns =
    rw c.new-args.ensures.columns (beside m cs n ts _ h) in
    call_answers m cs n (function_of parts.function) ts _ (type_of parts.dtype) c.execute.result all
    c.requires.typed (rw (← c.new-args.ensures.row_count) c.execute.ensures)
