use Rattle.std.proofs.Common.{◌≡◌, ◌∙◌, ap, subst, sym, Option, length}
use Rattle.std.specs.Prelude.{IfSome}
use Rattle.std.specs.Cow.{cow_value}
use Rattle.vortex_errors.proofs.Answering.{Answers-weaker}
use Rattle.vortex_types.specs.ScalarView.{ScalarView}
use Rattle.vortex_types.specs.TypeOf.{type_of, allows_null}
use Rattle.vortex_columns.specs.ColumnView.{ColumnView, constant_column}
use Rattle.vortex_interface.specs.Eval.{HasTreeRows, IsFirstFault}
use Rattle.vortex_standard.specs.Standard.{standard_meaning}
use Rattle.vortex_standard.specs.StandardLaws.{standard_lawful}
use Rattle.vortex_expressions.specs.Items.{meaning}
use Rattle.vortex_program.specs.Coded.{HaveCodes}
use Rattle.vortex_program.specs.Deciding.{IsTruth, IsInfallible}
use Rattle.vortex_program.specs.declared.coded.CodedRows.{CodedRows}
use Rattle.vortex_program.proofs.Decided.{joins_right, right_fits, two_there, decided}
use Rattle.vortex_program.proofs.Decided.{infallible_settles}
use Rattle.vortex_program.proofs.deciding.execute_joined.Goals as goal

pub decider-truth-requires : goal.decider-truth-requires
decider-truth-requires c = c.requires.left.2.boolean

pub child-right-requires : goal.child-right-requires
child-right-requires c =
    let q = c.requires.left in
    two_there c.args.joined.operator c.args.joined.node.now q.0 q.1 q.2

pub returns-then-branch : goal.returns-then-branch
returns-then-branch c =
    let m = standard_meaning in
    let cs = c.args.columns.now in
    let n = c.args.row_count in
    let q = c.requires.left in
    let node = c.args.joined.node.now in
    let op = c.args.joined.operator in
    let right = c.child-right.result.now in
    let truth = c.decider-truth.result in
    let j = joins_right op node q.0 q.1 right q.2 c.child-right.ensures.tree in
    let fit = right_fits cs n op node q.0 right j c.requires.fit in
    let holds = c.in_ok-is_decided.ensures c.if-branch.true in
    let values = infallible_settles m standard_lawful cs n right _ c.dtype-typed.ensures.dtype
    c.dtype-typed.ensures.typed fit.0 fit.1 c.requires.typed holds.1 in
    let all = subst (λ (x : ColumnView). IsTruth truth x) c.deref.ensures holds.0 in
    Answers-weaker c.constant.result (λ d. d ≡ constant_column c.bool.result n)
    (HasTreeRows m cs n node) (λ e. ⊥) (IsFirstFault m cs n node)
    (λ d is. decided m cs n op node q.0 right j (cow_value c.args.left) q.3 truth d
    (type_of c.dtype.result.now) (allows_null c.nullability-nullability.result)
    c.decider-truth.ensures all values c.dtype.ensures.dtype
    c.nullability-nullability.ensures
    (is ∙ ap (λ (s : ScalarView). constant_column s n) c.bool.ensures))
    (λ e p. absurd p) c.constant.ensures

pub execute_coded-requires-clause-left : goal.execute_coded-requires-clause-left
execute_coded-requires-clause-left c =
    let cs = c.args.columns.now in
    let n = c.args.row_count in
    let q = c.requires.left in
    let node = c.args.joined.node.now in
    let op = c.args.joined.operator in
    let right = c.child-right.result.now in
    let truth = c.decider-truth.result in
    let rows = c.in-Some.rows in
    let column = c.deref-in-Some.result.now in
    let j = joins_right op node q.0 q.1 right q.2 c.child-right.ensures.tree in
    let fit = right_fits cs n op node q.0 right j c.requires.fit in
    let found =
    subst
    (λ (r : Option CodedRows).
    IfSome r
    (λ x. HaveCodes truth c.deref-2.result.now x.numbers.items x.codes.items
    (length c.deref-2.result.now.rows) × IsInfallible standard_meaning right))
    c.in-Some.is c.in_ok-rows.ensures in
    record {
      left = q.0;
      right = right;
      joins = j;
      has = subst (λ (x : ColumnView). HasTreeRows meaning cs n q.0 x) (sym c.deref-in-Some.ensures) q.3;
      truth = truth;
      decides = c.decider-truth.ensures;
      values = infallible_settles standard_meaning standard_lawful cs n right _ c.dtype-typed.ensures.dtype
          c.dtype-typed.ensures.typed fit.0 fit.1 c.requires.typed found.1;
      coded = subst
          (λ (x : ColumnView).
          HaveCodes truth x rows.numbers.items rows.codes.items (length x.rows))
          (c.deref-2.ensures ∙ sym c.deref-in-Some.ensures) found.0;
    }
