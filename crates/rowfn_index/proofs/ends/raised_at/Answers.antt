use Rattle.std.proofs.Common.{◌≡◌, ◌++◌, ◌+◌, ℕ, List, string_bytes, refl, sym, ap, ◌∙◌, get_or}
use lib.Utf8.{encode}
use Rattle.rowfn_index.proofs.TextEnds.{raised_by}
use Rattle.rowfn_index.proofs.ends.raised_at.Goals as goal

pub returns : goal.returns
returns c =
    raised_by c.args.text.now c.args.place (get_or c.args.text.now c.args.place 0)
    c.in-Some.prefix.now (string_bytes c.push.new.self) c.requires.within refl c.requires.rises
    c.in-Some.ensures.cases.0
    (c.in_ok-push.ensures.bytes
    ∙ (ap (λ (xs : List ℕ). xs ++ encode c.from.result) c.in_ok-end.ensures.ok
    ∙ ap (λ (b : ℕ). c.in-Some.prefix.now ++ encode b)
    (c.from.ensures
    ∙ ap (λ (xs : List ℕ). get_or xs c.args.place 0 + 1) c.as_bytes.ensures.value)))
