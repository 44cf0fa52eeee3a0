use Rattle.std.proofs.Common.{◌≡◌, ◌++◌, sym, ◌∙◌, ap, List, ℕ}
use Rattle.std.specs.Prelude.{slice_range}
use Rattle.std.specs.Str.{chars}
use Rattle.std.specs.List.{list_any}
use Rattle.std.proofs.lemmas.Str.{chars-append}
use Rattle.vortex_like.specs.Cuts.{is_special}
use Rattle.vortex_like.proofs.Reading.{cut_seam}
use Rattle.vortex_like.proofs.cuts.cut_at_special.Goals as goal

pub range-front-requires-clause-end_boundary : goal.range-front-requires-clause-end_boundary
range-front-requires-clause-end_boundary c =
    let seam =
    cut_seam c.args.escape c.args.pattern.now c.from_special-rest.result.now
    c.from_special-rest.utf8
    c.from_special-rest.ensures.passed in
    rw seam.0 seam.1

pub returns : goal.returns
returns c =
    let passed = c.from_special-rest.ensures.passed in
    let rest = c.from_special-rest.result.now in
    let seam = cut_seam c.args.escape c.args.pattern.now rest c.from_special-rest.utf8 passed in
    let front : c.range-front.result.now ≡ passed.front =
    c.range-front.ensures.value
    ∙ ap (λ (n : ℕ). slice_range c.args.pattern.now 0 n) seam.0
    ∙ seam.2 in
    record {
      split =
          ap chars passed.split ∙ chars-append passed.front rest passed.utf8
          ∙ ap (λ (bs : List ℕ). chars bs ++ chars rest) (sym front);
      plain = ap (λ (bs : List ℕ). list_any (is_special c.args.escape) (chars bs)) front
          ∙ passed.plain;
      special = c.from_special-rest.ensures.special;
    }
