use Rattle.std.proofs.Common.{ℕ, List, Some, None, subst}
use Rattle.std.proofs.lemmas.List.{take_rest}
use Rattle.memchr.specs.Find.{FindsNeedle}
use Rattle.vortex_like.proofs.Gathering.{next_some, next_none}
use Rattle.vortex_like.proofs.gathered.Search.next_place.Goals as goal

pub returns-in-Some : goal.returns-in-Some
returns-in-Some c =
    let bytes : List ℕ = c.args.self.now.bytes.now in
    let needle : List ℕ = c.args.self.now.test.now.finder in
    next_some bytes needle c.args.from c.in-Some.at c.requires
    (subst (λ (bs : List ℕ). FindsNeedle bs needle 0 (Some c.in-Some.at))
    (take_rest bytes c.args.from) c.in-Some.ensures)

pub returns-in-None : goal.returns-in-None
returns-in-None c =
    let bytes : List ℕ = c.args.self.now.bytes.now in
    let needle : List ℕ = c.args.self.now.test.now.finder in
    next_none bytes needle c.args.from c.requires
    (subst (λ (bs : List ℕ). FindsNeedle bs needle 0 None) (take_rest bytes c.args.from)
    c.in-None.ensures)
