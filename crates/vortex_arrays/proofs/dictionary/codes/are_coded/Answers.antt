use Rattle.std.proofs.Common.{◌≡◌, ◌↔◌, List, Bool, true, IsTrue, subst}
use Rattle.std.specs.Prelude.{All}
use Rattle.vortex_arrays.proofs.Marks.{all_coded}
use Rattle.vortex_arrays.proofs.dictionary.codes.are_coded.Goals as goal

pub returns : goal.returns
returns c =
    let told =
    subst (λ (marks : List Bool). IsTrue c.are_set.result ↔ All (λ mark. mark ≡ true) marks)
    c.deref.ensures.value c.are_set.ensures in
    all_coded c.in_ok-marks.marks.items c.args.codes.now c.args.count c.are_set.result
    c.in_ok-marks.ensures.0 c.in_ok-marks.ensures.1 told
