use Rattle.std.proofs.Common.{ap, sym, ◌∙◌}
use Rattle.vortex_arrays.specs.Words.{codes_in}
use Rattle.vortex_arrays.proofs.KeptCodes.{coded_over}
use Rattle.vortex_arrays.proofs.dictionary.codes.Codes.share.Goals as goal

pub returns-in_ok-new-in-Owned : goal.returns-in_ok-new-in-Owned
returns-in_ok-new-in-Owned c =
    let same = ap (λ v. v.items) c.in_ok-new-in-Owned.ensures.ok in (
      same ∙ sym (ap codes_in c.in-Owned.is),
      coded_over _ c.args.count _ _ (same ∙ sym c.deref.ensures.value)
          c.in_ok-all_coded-in-Owned.ensures,
    )
