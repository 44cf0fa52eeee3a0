use Rattle.std.proofs.Common.{◌∙◌, sym, subst, refl}
use Rattle.vortex_types.specs.TypeOf.{type_of}
use Rattle.vortex_ranges.specs.BoundViews.{range_of}
use Rattle.vortex_pruning.specs.Pruning.{Prunes, uncondition}
use Rattle.vortex_pruning.proofs.Verdicts.{tells_rows}
use Rattle.vortex_pruning.proofs.SharpVerdicts.{sharp}
use Rattle.vortex_pruning.proofs.trees.prune.Goals as goal

pub returns : goal.returns
returns g c =
    let m = g.C.ScalarFnVTable.meaning in
    let ss = c.args.statistics.now in
    let n = c.args.rows in
    let t = c.args.tree.now in
    let known = c.in_ok-range.ensures in
    subst (λ p. Prunes m n ss t p) (sym c.of_range.ensures)
    (record {
      told = known.told;
      dtype = type_of c.dtype.result.now;
      typed = c.dtype.ensures.dtype;
      condition = sym c.is_boolean.ensures ∙ c.if-not-is_boolean.false;
      tells = tells_rows m n ss t (range_of c.in_ok-range.range) known;
      sharp = λ once lt cs d.
          sharp m n ss cs d lt t (type_of c.dtype.result.now) (range_of c.in_ok-range.range)
          (sym c.is_boolean.ensures ∙ c.if-not-is_boolean.false)
          (known.exact once lt cs d (type_of c.dtype.result.now) c.dtype.ensures.dtype);
    })

pub returns-then-not-is_boolean : goal.returns-then-not-is_boolean
returns-then-not-is_boolean g c =
    uncondition (type_of c.dtype.result.now) c.in_ok-range.ensures.told c.dtype.ensures.dtype
    (sym c.is_boolean.ensures ∙ c.if-not-is_boolean.true) refl
