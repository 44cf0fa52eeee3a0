use Rattle.std.proofs.Common.{◌≡◌, ◌<◌, ◌≤◌, ◌∙◌, ap, add-one, arith, length, map, refl, subst, sym}
use Rattle.std.proofs.Common.{take, take_all, get_or, ℕ, ◌+◌, ◌++◌, List, [], ◌∷◌, true}
use Rattle.std.specs.Prelude.{IsSome}
use Rattle.std.proofs.lemmas.List.{length-map}
use Rattle.vortex_columns.specs.ColumnView.{ColumnView}
use Rattle.vortex_interface.specs.Meaning.{fits}
use Rattle.vortex_interface.specs.Functions.{function_arity}
use Rattle.vortex_functions.specs.FunctionOf.{function_of}
use Rattle.vortex_functions.proofs.Execution.{AllHaveRows, constant_rows}
use Rattle.vortex_types.specs.TypeOf.{type_of}
use Rattle.vortex_interface.specs.Eval.{HasTreeRows}
use Rattle.vortex_interface.specs.Execution.{LeavesFit, AllLeavesFit}
use Rattle.vortex_interface.specs.Trees.{children_of, trees_of}
use Rattle.vortex_standard.specs.Standard.{standard_meaning}
use Rattle.yurkije_columns.specs.Batches.{batch_column}
use Rattle.yurkije_lent.specs.Operands.{operand_column, HasLeafRows}
use Rattle.yurkije_lent.proofs.CallRows.{fit_more, have_more, call_has, call_fits, call_accepted}
use Rattle.yurkije_lent.proofs.CallRows.{call_lengths, mapped_more}
use Rattle.yurkije_lent.proofs.Leaves.{fits_leaf, has_leaf, some_weaker, literal_is}
use Rattle.yurkije_lent.proofs.execute.+execute_part.Goals as goal

pub returns-in-Some : goal.returns-in-Some
returns-in-Some t c =
    let m = standard_meaning in
    let cs = map (batch_column c.args.rows) c.args.columns.now in
    let tree = c.args.part.tree.now in
    let ty = type_of c.dtype.result.now in
    let at = c.in-Some.ensures in
    let typed = c.dtype.ensures.dtype in
    some_weaker c.leaf_rows.result
    (λ o. HasLeafRows c.args.rows c.args.columns.now c.in-Some.place ty (operand_column o))
    (λ o. LeavesFit cs tree × HasTreeRows m cs c.args.rows tree (operand_column o))
    (λ o h. (
      fits_leaf cs m tree c.in-Some.place ty at typed (operand_column o, h.there, h.dtype),
      has_leaf cs m c.args.rows tree c.in-Some.place ty (operand_column o) at typed h.there h.dtype
          h.count,
    ))
    c.leaf_rows.ensures

pub returns-in-Some-as_literal : goal.returns-in-Some-as_literal
returns-in-Some-as_literal t c =
    let cs = map (batch_column c.args.rows) c.args.columns.now in
    let tree = c.args.part.tree.now in
    let s = c.in-Some-as_literal.scalar.now in
    let is = literal_is tree s (sym c.in-Some-as_literal.ensures) in (
      subst (λ u. LeavesFit cs u) (sym is) tt,
      constant_rows standard_meaning cs c.args.rows tree s c.in_ok-literal_rows.field-0 is
          c.in_ok-literal_rows.ensures,
    )

pub loop-child-preserved : goal.loop-child-preserved
loop-child-preserved t c =
    let m = standard_meaning in
    let kids = children_of c.args.part.tree.now in
    let cs = map (batch_column c.args.rows) c.args.columns.now in
    let k = c.loop-child.child-index in
    let same = c.children-child-items.ensures.children in
    let lt : k < length kids = omega (arith, c.loop-child-test.true, ap length same) in
    let child = c.child-item.result in
    let is = c.child-item.is ∙ ap (λ xs. get_or xs k child) same in
    let items = c.loop-child.inputs.items in
    let input = c.in_ok-input.input in
    let grown = ap (map operand_column) c.in-Ok.ensures.items ∙ mapped_more operand_column items input in (
      subst (λ (j : ℕ). AllLeavesFit cs (trees_of (take j kids))) (sym (add-one k))
          (fit_more m cs kids k child c.loop-child.invariant.0 lt is c.in_ok-input.ensures.0),
      subst (λ (ds : List ColumnView). AllHaveRows m cs c.args.rows (take (k + 1) kids) ds) (sym grown)
          (subst (λ (j : ℕ). AllHaveRows m cs c.args.rows (take j kids)
          (map operand_column items ++ operand_column input ∷ [])) (sym (add-one k))
          (have_more m cs c.args.rows kids (map operand_column items) k child (operand_column input)
          c.loop-child.invariant.1 lt is c.in_ok-input.ensures.1)),
    )

pub call_rows-requires-clause-arity : goal.call_rows-requires-clause-arity
call_rows-requires-clause-arity t c =
    let m = standard_meaning in
    let tree = c.args.part.tree.now in
    let cs = map (batch_column c.args.rows) c.args.columns.now in
    let kids = children_of tree in
    let k = c.loop-child.child-index in
    let all : length kids ≤ k =
    omega (arith, c.loop-child-test.false, ap length c.children-child-items.ensures.children) in
    let f = function_of c.in_ok-function.function.now in
    let ds = map operand_column c.loop-child.inputs.items in
    let ty = type_of c.dtype-typed.result.now in
    let is = c.in_ok-function.ensures in
    let typed = c.dtype-typed.ensures.dtype in
    let have = subst (λ ts. AllHaveRows m cs c.args.rows ts ds) (take_all k kids all) c.loop-child.invariant.1 in
    subst (λ (j : ℕ). fits (function_arity m f) j ≡ true) (length-map c.loop-child.inputs.items operand_column)
    (call_accepted m cs c.args.rows tree f ds ty is typed have).0

pub call_rows-requires-clause-accepted : goal.call_rows-requires-clause-accepted
call_rows-requires-clause-accepted t c =
    let m = standard_meaning in
    let tree = c.args.part.tree.now in
    let cs = map (batch_column c.args.rows) c.args.columns.now in
    let kids = children_of tree in
    let k = c.loop-child.child-index in
    let all : length kids ≤ k =
    omega (arith, c.loop-child-test.false, ap length c.children-child-items.ensures.children) in
    let f = function_of c.in_ok-function.function.now in
    let ds = map operand_column c.loop-child.inputs.items in
    let ty = type_of c.dtype-typed.result.now in
    let is = c.in_ok-function.ensures in
    let typed = c.dtype-typed.ensures.dtype in
    let have = subst (λ ts. AllHaveRows m cs c.args.rows ts ds) (take_all k kids all) c.loop-child.invariant.1 in
    subst IsSome (sym (call_accepted m cs c.args.rows tree f ds ty is typed have).1) refl

pub call_rows-requires-clause-lengths : goal.call_rows-requires-clause-lengths
call_rows-requires-clause-lengths t c =
    let m = standard_meaning in
    let tree = c.args.part.tree.now in
    let cs = map (batch_column c.args.rows) c.args.columns.now in
    let kids = children_of tree in
    let k = c.loop-child.child-index in
    let all : length kids ≤ k =
    omega (arith, c.loop-child-test.false, ap length c.children-child-items.ensures.children) in
    let f = function_of c.in_ok-function.function.now in
    let ds = map operand_column c.loop-child.inputs.items in
    let ty = type_of c.dtype-typed.result.now in
    let is = c.in_ok-function.ensures in
    let typed = c.dtype-typed.ensures.dtype in
    let have = subst (λ ts. AllHaveRows m cs c.args.rows ts ds) (take_all k kids all) c.loop-child.invariant.1 in
    call_lengths m cs c.args.rows tree f ds ty is typed have

pub returns : goal.returns
returns t c =
    let m = standard_meaning in
    let tree = c.args.part.tree.now in
    let cs = map (batch_column c.args.rows) c.args.columns.now in
    let kids = children_of tree in
    let k = c.loop-child.child-index in
    let all : length kids ≤ k =
    omega (arith, c.loop-child-test.false, ap length c.children-child-items.ensures.children) in
    let f = function_of c.in_ok-function.function.now in
    let ds = map operand_column c.loop-child.inputs.items in
    let ty = type_of c.dtype-typed.result.now in
    let is = c.in_ok-function.ensures in
    let typed = c.dtype-typed.ensures.dtype in
    let have = subst (λ ts. AllHaveRows m cs c.args.rows ts ds) (take_all k kids all) c.loop-child.invariant.1 in
    let fit = subst (λ ts. AllLeavesFit cs (trees_of ts)) (take_all k kids all) c.loop-child.invariant.0 in (
      call_fits m cs tree f is fit,
      call_has m cs c.args.rows tree f ds ty is typed have c.in_ok-call_rows.field-0
          c.in_ok-call_rows.ensures,
    )
