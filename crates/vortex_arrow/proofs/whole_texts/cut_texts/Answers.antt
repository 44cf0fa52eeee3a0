use Rattle.std.specs.Borrow.{Bor}
use Rattle.std.proofs.Common.{rules, ◌≡◌, ◌+◌, ◌++◌, ◌∷◌, [], ℕ, cond, List, map, ap, ◌∙◌}
use Rattle.std.proofs.Common.{pos, sym, arith}
use Rattle.std.specs.Prelude.{IsUtf8}
use Rattle.std.specs.List.{range_with_len}
use Rattle.std.proofs.lemmas.List.{map_push}
use Rattle.std.proofs.lemmas.List.FromFn.{map-range_with_len_more}
use Rattle.std.proofs.lemmas.Str.{IsCharBoundary-start}
use borrow.Author.Count.{below_more}
use Rattle.vortex_arrow.specs.Values.{offset_at, bytes_between, LieWithin}
use Rattle.vortex_arrow.proofs.Spanned.{part_is, part_lies, part_is_text}
use Rattle.vortex_arrow.proofs.whole_texts.cut_texts.Goals as goal

pub loop-i-init : goal.loop-i-init
loop-i-init g c =
    let os = map g.O.IndexType.number c.args.rows.now.offsets.now in
    let same : c.args.offset + 0 ≡ c.args.offset = omega arith in
    let begins : c.args.base ≡ c.args.base + 0 = omega arith in
    record {
      count = search rules;
      place = search rules;
      here = ap (offset_at os) same ∙ c.requires.begins ∙ ap pos begins;
      boundary = IsCharBoundary-start c.args.text.now c.requires.utf8;
      values = search rules;
      good = λ k lt. absurd (omega (arith, lt));
    }

pub loop-i-preserved : goal.loop-i-preserved
loop-i-preserved g c =
    let all = c.args.rows.now.data.now in
    let text = c.args.text.now in
    let os = map g.O.IndexType.number c.args.rows.now.offsets.now in
    let base = c.args.base in
    let i = c.loop-i.i in
    let from = c.loop-i.from in
    let to = c.in-Some.to in
    let p : ℕ = c.args.offset + i in
    let a = offset_at os p in
    let b = offset_at os (p + 1) in
    let item = λ (k : ℕ). bytes_between all (offset_at os (c.args.offset + k))
    (offset_at os (c.args.offset + k + 1)) in
    let ends = c.in-Some.ensures.0 in
    let order = c.in-Some.ensures.1 in
    let edge = c.in-Some.ensures.2 in
    let here = c.loop-i.invariant.here in
    let is =
    part_is all text base from to a b c.requires.text c.requires.fits order edge.0 here ends in
    let kept = c.is_kept.result in
    let row_is : c.cut.result.now ≡ cond (g.K.KeptRows.is_kept c.args.kept.now i) (item i) [] =
    c.cut.ensures
    ∙ (λ k. cond (c.is_kept.ensures k) (is k) []) in
    let next : c.args.offset + (i + 1) ≡ p + 1 = omega arith in
    record {
      count = omega (arith, c.push_reserved.ensures.len, c.loop-i.invariant.count);
      place = c.push_reserved.ensures.capacity ∙ c.loop-i.invariant.place;
      here = ap (offset_at os) next ∙ ends;
      boundary = edge;
      values = ap (map (λ (t : Bor (List ℕ)). t.now)) c.push_reserved.ensures.items
          ∙ map_push (λ (t : Bor (List ℕ)). t.now) c.loop-i.texts.items c.cut.result
          ∙ (λ j. c.loop-i.invariant.values j ++ row_is j ∷ [])
          ∙ sym (map-range_with_len_more
          (λ k. cond (g.K.KeptRows.is_kept c.args.kept.now k) (item k) []) 0 i i (omega arith));
      good = below_more
          (λ k. LieWithin all (offset_at os (c.args.offset + k))
          (offset_at os (c.args.offset + k + 1)) × IsUtf8 (item k)) i c.loop-i.invariant.good (
            part_lies all text base from to a b c.requires.text c.requires.fits order edge.0 here ends,
            part_is_text all text base from to a b c.requires.text c.requires.fits order edge.0 here
                ends c.requires.utf8 c.loop-i.invariant.boundary edge,
          );
    }

pub returns : goal.returns
returns g c =
    let bytes = c.args.rows.now.data.now in
    let os = map g.O.IndexType.number c.args.rows.now.offsets.now in
    let item = λ (k : ℕ). bytes_between bytes (offset_at os (c.args.offset + k))
    (offset_at os (c.args.offset + k + 1)) in
    let through : c.loop-i.i ≡ c.args.count = omega arith in (
      λ i lt. c.loop-i.invariant.good i (omega (arith, through, lt)),
      c.loop-i.invariant.values
          ∙ ap (λ n. map (λ k. cond (g.K.KeptRows.is_kept c.args.kept.now k) (item k) [])
          (range_with_len 0 n)) through,
    )
