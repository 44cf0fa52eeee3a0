use Rattle.std.proofs.Common.{◌↔◌, ℕ, IsTrue, subst}
use Rattle.vortex_arrays.specs.Words.{AnswersUnlessMemory, AreCoded, AllCoded, codes_in}
use Rattle.vortex_arrays.specs.Dictionary.{DictView}
use Rattle.vortex_arrays.proofs.dictionary.DictColumn.all_coded.Goals as goal

pub returns : goal.returns
returns c =
    let kept = c.self.inside.codes in
    subst (λ (d : DictView). AnswersUnlessMemory c.all_coded.result (λ b. IsTrue b ↔ AllCoded d))
    c.self.view_is
    (subst
    (λ (count : ℕ).
    AnswersUnlessMemory c.all_coded.result (λ b. IsTrue b ↔ AreCoded count (codes_in kept)))
    c.len.ensures c.all_coded.ensures)
