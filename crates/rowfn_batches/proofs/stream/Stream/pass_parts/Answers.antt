use Rattle.std.proofs.Common.{◌≡◌, ◌∙◌, ◌+◌, ◌-◌, min, length, Err, ap, refl, arith}
use Rattle.std.proofs.lemmas.Result.{err_from_is_err_and}
use Rattle.rowfn_batches.specs.Skipping.{no_part, one_part, all_parts, ends_in_part}
use Rattle.rowfn_batches.proofs.Spent.{leads_on, spent_more, behind_more}
use Rattle.rowfn_batches.proofs.stream.Stream.pass_parts.Goals as goal

pub parts-init : goal.parts-init
parts-init g c = (
  0,
  no_part,
  record { some = omega arith; most = omega arith; left = λ below. omega arith },
  omega arith,
)

pub returns-in_err-refused : goal.returns-in_err-refused
returns-in_err-refused g c =
    let p = err_from_is_err_and c.from_residual.result c.from_residual.ensures.1 in
    ends_in_part c.parts.next c.min-tried.result c.parts.self _ _ _ c.in_err-refused.field-0.0
    c.parts.invariant.1 c.in_err-refused.ensures (p.1 ∙ ap Err p.2)

pub parts-preserved : goal.parts-preserved
parts-preserved g c =
    let len = length c.args.spans.now in
    let was = c.parts.invariant in
    let tried = c.min-tried.result in
    let place = c.in_ok-refused.refused in
    let most : tried ≡ min (len - c.parts.next) c.parts.count = c.min-tried.ensures in (
      was.0 + tried,
      rw c.next_row-next.ensures
          (one_part c.parts.next tried c.parts.self c.pass_part.new.self _ _ _ _ place was.0 was.1
          (omega arith) c.in_ok-refused.ensures),
      rw (c.next_row-next.ensures, c.next_count-count.ensures)
          (spent_more len c.args.first c.parts.next c.parts.count tried was.0 place was.3
          (omega arith)
          (omega arith) most was.2),
      rw c.next_row-next.ensures
          (behind_more len c.args.first c.parts.next tried place was.3 (omega arith) (omega arith)),
    )

pub parts-smaller : goal.parts-smaller
parts-smaller g c =
    rw c.next_row-next.ensures
    (leads_on (length c.args.spans.now) c.parts.next c.min-tried.result c.in_ok-refused.refused
    (omega arith) (omega arith) (omega (arith, c.parts.invariant.2.some, c.min-tried.ensures)))

pub returns : goal.returns
returns g c =
    all_parts c.parts.next c.parts.invariant.0 c.parts.invariant.1 (omega arith)
    (omega (arith, c.parts.invariant.2.most)) refl
