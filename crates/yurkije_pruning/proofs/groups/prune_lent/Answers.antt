use Rattle.std.proofs.Common.{◌∙◌, List, length, sym, subst, inr}
use Rattle.vortex_types.specs.TypeOf.{type_of, struct_fields}
use Rattle.vortex_pruning.specs.declared.groups.FieldStatistics.{FieldStatistics}
use Rattle.yurkije_pruning.specs.Lent.{AreFields}
use Rattle.yurkije_pruning.proofs.groups.prune_lent.Goals as goal

pub returns-in-Ok-prune_groups : goal.returns-in-Ok-prune_groups
returns-in-Ok-prune_groups g c = record {
  condition = record {
    dtype = type_of c.dtype.result.now;
    typed = c.dtype.ensures.dtype;
    truths = sym c.is_boolean.ensures ∙ c.if-not-is_boolean.false;
  };
  fields = c.deref.result.now;
  read = subst
      (λ (fs : List FieldStatistics).
      AreFields (struct_fields c.args.scope.now) c.args.kinds.now (length c.args.rows.now) c.args.lent.now fs)
      (sym c.deref.ensures.value) c.in-Ok.ensures;
  pruned = c.in-Ok-prune_groups.ensures;
}

pub returns : goal.returns
returns g c =
    inr (
      c.deref.result.now,
      subst
          (λ (fs : List FieldStatistics).
          AreFields (struct_fields c.args.scope.now) c.args.kinds.now (length c.args.rows.now) c.args.lent.now fs)
          (sym c.deref.ensures.value) c.in-Ok.ensures,
      c.in-Err-prune_groups.ensures,
    )
