use Rattle.std.proofs.Common.{◌∙◌, ◌∷◌, [], ℕ, ap, sym, arith, ◌≡◌, map}
use Rattle.std.specs.List.{range_with_len}
use Rattle.std.proofs.lemmas.List.{map-append}
use Rattle.vortex_types.specs.LogicalTypes.{field_count}
use Rattle.vortex_types.specs.TypeOf.{struct_fields}
use Rattle.rowfn_batches.specs.Layouts.{declared_place}
use Rattle.rowfn_batches.proofs.Lines.{range_more}
use Rattle.rowfn_batches.proofs.header.declared_layout.Goals as goal

pub loop-i-preserved : goal.loop-i-preserved
loop-i-preserved c =
    let place = declared_place c.args.said.now in
    let i = c.loop-i.i in
    rw (c.in_ok-push.ensures.items, c.loop-i.invariant, c.unwrap_or.ensures, c.given_place.ensures)
    (sym (ap (map place) (range_more i) ∙ map-append place (range_with_len 0 i) (i ∷ [])))

pub returns-clause-places : goal.returns-clause-places
returns-clause-places c =
    c.loop-i.invariant
    ∙ ap (λ (n : ℕ). map (declared_place c.args.said.now) (range_with_len 0 n))
    (let all : c.loop-i.i ≡ field_count (struct_fields c.args.declared.now) =
    omega (arith, c.loop-i-test.false, c.len-i-end.ensures) in all)
