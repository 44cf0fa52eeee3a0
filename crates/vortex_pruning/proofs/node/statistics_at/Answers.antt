use Rattle.std.proofs.Common.{◌≡◌, ◌∙◌, refl, sym, ap, true, false, Some}
use Rattle.std.specs.Prelude.{slice_get}
use Rattle.std.proofs.lemmas.Option.{slice_get_read}
use Rattle.vortex_types.specs.TypeOf.{type_of}
use Rattle.vortex_types.specs.TypeEquality.{type_eq, type_eq-decides}
use Rattle.vortex_statistics.specs.StatisticsView.{StatisticsView}
use Rattle.vortex_pruning.proofs.node.statistics_at.Goals as goal

same_of : (x y : StatisticsView) → Some x ≡ Some y → x ≡ y
same_of x y e = cc

pub returns-then-eq : goal.returns-then-eq
returns-then-eq c =
    let ss = c.args.statistics.now in
    let s = c.in_ok-found.found.now in
    let t = type_of c.args.dtype.now in (
      slice_get_read ss _ c.args.place s refl c.in_ok-found.ensures.lookup.3.0
          c.in_ok-found.ensures.lookup.1,
      (type_eq-decides s.dtype t).0
          (sym (c.eq.ensures ∙ ap (λ u. type_eq u t) c.dtype.ensures.dtype) ∙ c.if-eq.true),
      c.dtype.ensures.consistent,
    )

pub returns-else-eq : goal.returns-else-eq
returns-else-eq c = λ h.
    let ss = c.args.statistics.now in
    let s = c.in_ok-found.found.now in
    let t = type_of c.args.dtype.now in
    let found : slice_get ss c.args.place ≡ Some s =
    slice_get_read ss _ c.args.place s refl c.in_ok-found.ensures.lookup.3.0
    c.in_ok-found.ensures.lookup.1 in
    let same : s.dtype ≡ t =
    ap (λ (x : StatisticsView). x.dtype) (same_of s h.0 (sym found ∙ h.1)) ∙ h.2 in
    let is : c.eq.result ≡ true =
    c.eq.ensures ∙ ap (λ u. type_eq u t) c.dtype.ensures.dtype ∙ (type_eq-decides s.dtype t).1 same
    in
    let never : true ≡ false = sym is ∙ c.if-eq.false in
    cc
