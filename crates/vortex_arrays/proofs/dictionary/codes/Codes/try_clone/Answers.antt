use Rattle.std.proofs.Common.{ap, sym, subst, ◌∙◌}
use Rattle.vortex_arrays.specs.Words.{AreKnown, codes_in}
use Rattle.vortex_arrays.proofs.KeptCodes.{coded_over}
use Rattle.vortex_arrays.proofs.dictionary.codes.Codes.try_clone.Goals as goal

pub returns-in_ok-clone-in-Shared : goal.returns-in_ok-clone-in-Shared
returns-in_ok-clone-in-Shared c =
    let same = ap (λ v. v.items) c.in_ok-clone-in-Shared.ensures.cases in (
      same ∙ sym (ap codes_in c.in-Shared.is),
      λ count known.
          coded_over _ count _ _ same (subst (AreKnown count) c.in-Shared.is known),
    )
