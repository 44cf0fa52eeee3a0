use Rattle.std.proofs.Common.{◌≡◌, ℕ, ap, sym, subst, ◌∙◌, length}
use Rattle.vortex_arrays.specs.Dictionary.{DictView}
use Rattle.vortex_arrays.specs.Kept.{AreKnown}
use Rattle.vortex_arrays.proofs.KeptCodes.{below_over}
use Rattle.vortex_arrays.proofs.dictionary.DictColumn.with_values.Goals as goal

pub invariant_of-result : goal.invariant_of-result
invariant_of-result c =
    let a = c.self.inside in
    let long : length c.args.values.rows ≡ length a.values.rows =
    c.requires ∙ ap (λ (d : DictView). length d.values.rows) (sym c.self.view_is) in
    record {
      rows = below_over _ _ _ _ long c.in_ok-try_clone.ensures.0 c.self.invariant.rows;
      known =
          c.in_ok-try_clone.ensures.1 _
          (subst (λ (n : ℕ). AreKnown n a.codes) (sym long) c.self.invariant.known);
    }
