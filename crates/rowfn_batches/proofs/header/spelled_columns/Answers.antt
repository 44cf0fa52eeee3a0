use Rattle.std.proofs.Common.{◌∙◌, ◌∷◌, [], ℕ, ap, sym, arith, ◌≡◌, map}
use Rattle.std.specs.List.{range_with_len}
use Rattle.std.proofs.lemmas.List.{map-append}
use Rattle.vortex_types.specs.LogicalTypes.{field_count}
use Rattle.vortex_types.specs.TypeOf.{struct_fields}
use Rattle.rowfn_batches.specs.Spellings.{spelled_at}
use Rattle.rowfn_batches.proofs.Lines.{range_more}
use Rattle.rowfn_batches.proofs.header.spelled_columns.Goals as goal

pub loop-column-preserved : goal.loop-column-preserved
loop-column-preserved c =
    let spelled = spelled_at (struct_fields c.args.declared.now) c.args.places.now in
    let j = c.loop-column.column in
    rw (c.in_ok-push.ensures.items, c.loop-column.invariant, c.spelled_at.ensures)
    (sym (ap (map spelled) (range_more j) ∙ map-append spelled (range_with_len 0 j) (j ∷ [])))

pub returns : goal.returns
returns c =
    let spelled = spelled_at (struct_fields c.args.declared.now) c.args.places.now in
    c.loop-column.invariant
    ∙ ap (λ (n : ℕ). map spelled (range_with_len 0 n))
    (let all : c.loop-column.column ≡ field_count (struct_fields c.args.declared.now) =
    omega (arith, c.loop-column-test.false, c.len-column-end.ensures) in all)
