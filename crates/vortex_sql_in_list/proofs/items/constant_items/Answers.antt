use Rattle.std.proofs.Common.{arith, map, subst, drop}
use Rattle.std.proofs.lemmas.List.{take_all}
use Rattle.vortex_interface.specs.Outcomes.{values_at}
use Rattle.vortex_sql_in_list.specs.InLists.{AreListed}
use Rattle.vortex_sql_in_list.proofs.ListedItems.{next_listed}
use Rattle.vortex_sql_in_list.proofs.items.constant_items.Goals as goal

pub loop-k-preserved : goal.loop-k-preserved
loop-k-preserved g c = (
  omega arith,
  λ i lt.
      next_listed (g.A.ExecutionArgs.inputs c.args.args.now) c.loop-k.k c.in_ok-input.input.now
      c.loop-k.invariant.0 (omega (arith, c.num_inputs-k-end.ensures, c.loop-k-test.true))
      c.in_ok-input.ensures.input g.I.SetItem.value g.met.I.SetItem.never_null
      c.in-Some.item i _ _ _ _ c.in_ok-add.ensures
      (c.in-Some.ensures i (omega (arith, lt, c.in_ok-input.ensures.count)))
      (c.loop-k.invariant.1 i lt),
)

pub returns : goal.returns
returns g c = λ i lt.
    subst
    (λ xs. AreListed (map g.I.SetItem.value c.loop-k.items.values.items)
    c.loop-k.items.has_null (drop 1 (values_at xs i)))
    (take_all c.loop-k.k (g.A.ExecutionArgs.inputs c.args.args.now)
    (omega (arith, c.num_inputs-k-end.ensures, c.loop-k-test.false)))
    (c.loop-k.invariant.1 i lt)
