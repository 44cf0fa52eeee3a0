use Rattle.std.proofs.Common.{◌≡◌, List, ℕ, ap, subst, ◌∙◌}
use Rattle.std.specs.Prelude.{◌↔◌, IsTrue}
use Rattle.std.proofs.lemmas.Bool.Decides.{same_from_decides}
use Rattle.std.proofs.lemmas.Slice.Eq.{bytes_eq-Decides}
use Rattle.vortex_like.specs.AsciiFolds.{folded}
use Rattle.vortex_like.specs.ByteTests.{folded_bytes, folds_alike}
use Rattle.vortex_like.proofs.folded_tests.FoldedText.equals.Goals as goal

pub returns : goal.returns
returns c =
    let literal = c.args.self.now in
    let bytes = c.args.bytes.now in
    let own : c.as_slice-2.result.now ≡ folded literal =
    c.as_slice-2.ensures.value ∙ c.self.invariant.0 ∙ ap folded c.self.view_is in
    same_from_decides c.fold_to.result (folds_alike literal bytes)
    (subst (λ (cs : List ℕ). IsTrue c.fold_to.result ↔ (folded_bytes bytes ≡ cs)) own
    c.fold_to.ensures)
    (bytes_eq-Decides (folded_bytes bytes) (folded literal))
