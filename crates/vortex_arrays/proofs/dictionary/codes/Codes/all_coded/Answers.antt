use Rattle.std.proofs.Common.{◌↔◌, List, ℕ, IsTrue, ap, sym, subst, ◌∙◌}
use Rattle.vortex_arrays.specs.Words.{AnswersUnlessMemory, AreCoded, AreKnown, codes_in}
use Rattle.vortex_arrays.proofs.KeptCodes.{coded_over}
use Rattle.vortex_arrays.proofs.dictionary.codes.Codes.all_coded.Goals as goal

pub returns-in-Owned : goal.returns-in-Owned
returns-in-Owned c =
    subst
    (λ (codes : List ℕ).
    AnswersUnlessMemory c.are_coded.result (λ b. IsTrue b ↔ AreCoded c.args.count codes))
    (c.deref.ensures.value ∙ sym (ap codes_in c.in-Owned.is)) c.are_coded.ensures

pub returns-in-Shared : goal.returns-in-Shared
returns-in-Shared c =
    coded_over _ c.args.count _ _ (ap codes_in c.in-Shared.is)
    (subst (AreKnown c.args.count) c.in-Shared.is c.requires.known)
