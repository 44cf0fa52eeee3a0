use Rattle.std.proofs.Common.{◌≡◌, Bool, true, false, not, sym, subst, ◌∙◌, ap, refl}
use Rattle.vortex_types.specs.LogicalTypes.{LogicalType}
use Rattle.vortex_types.specs.TypeEquality.{type_eq, type_eq-decides}
use Rattle.vortex_statistics.specs.StatisticsView.{StatisticsView, AreConsistent}
use Rattle.vortex_statistics.specs.Joined.{joined, DescribesBoth}
use Rattle.vortex_statistics.specs.Parts.{parts_view}
use Rattle.vortex_statistics.proofs.JoinedParts.{joined_consistent}
use Rattle.vortex_statistics.proofs.JoinedRows.{joined_describes}
use Rattle.vortex_statistics.proofs.statistics.Statistics.joined.Goals as goal

unequal : (r b : Bool) → r ≡ not b → r ≡ true → b ≡ true → ⊥
unequal r true e h k = cc
unequal r false e h k = cc

equal : (r b : Bool) → r ≡ not b → r ≡ false → b ≡ true
equal r true e h = refl
equal r false e h = cc

differ : (x y : LogicalType) (r : Bool) → r ≡ not (type_eq x y) → r ≡ true → x ≡ y → ⊥
differ x y r e h s = unequal r (type_eq x y) e h ((type_eq-decides x y).1 s)

same : (x y : LogicalType) (r : Bool) → r ≡ not (type_eq x y) → r ≡ false → x ≡ y
same x y r e h = (type_eq-decides x y).0 (equal r (type_eq x y) e h)

record Joined (a b c d s : StatisticsView) : Type 0 where
  left : a ≡ c
  right : b ≡ d
  whole : s ≡ joined a b

all_joined : (a b c d s : StatisticsView) → Joined a b c d s → s ≡ joined c d
all_joined a b c d s j = j.whole ∙ (λ i. joined (j.left i) (j.right i))

all_described : (a b c d s : StatisticsView) → Joined a b c d s → c.dtype ≡ d.dtype
    → DescribesBoth c d s
all_described a b c d s j e =
    subst (DescribesBoth c d) (sym (all_joined a b c d s j)) (joined_describes c d e)

pub returns-then-ne-clause-parts : goal.returns-then-ne-clause-parts
returns-then-ne-clause-parts c = (
  λ e.
      differ _ _ c.ne.result c.ne.ensures c.if-ne.true
      (ap (λ s. s.dtype) c.self.view_is ∙ e ∙ sym (ap (λ s. s.dtype) c.other.view_is)),
  refl,
)

pub invariant_of-result : goal.invariant_of-result
invariant_of-result c =
    let a = parts_view c.self.inside.parts in
    let b = parts_view c.other.inside.parts in
    subst AreConsistent (sym c.in_ok-parts.ensures)
    (joined_consistent a b (same a.dtype b.dtype c.ne.result c.ne.ensures c.if-ne.false)
    c.self.invariant c.other.invariant)

pub returns-clause-parts : goal.returns-clause-parts
returns-clause-parts c =
    let a = parts_view c.self.inside.parts in
    let b = parts_view c.other.inside.parts in (
      sym (ap (λ s. s.dtype) c.self.view_is)
          ∙ same a.dtype b.dtype c.ne.result c.ne.ensures c.if-ne.false
          ∙ ap (λ s. s.dtype) c.other.view_is,
      all_joined a b c.args.self.now c.args.other.now _
          (record {
            left = c.self.view_is;
            right = c.other.view_is;
            whole = c.in_ok-parts.ensures;
          }),
    )

pub returns-clause-describes : goal.returns-clause-describes
returns-clause-describes c =
    let a = parts_view c.self.inside.parts in
    let b = parts_view c.other.inside.parts in
    all_described a b c.args.self.now c.args.other.now _
    (record {
      left = c.self.view_is;
      right = c.other.view_is;
      whole = c.in_ok-parts.ensures;
    })
    (sym (ap (λ s. s.dtype) c.self.view_is)
    ∙ same a.dtype b.dtype c.ne.result c.ne.ensures c.if-ne.false
    ∙ ap (λ s. s.dtype) c.other.view_is)
