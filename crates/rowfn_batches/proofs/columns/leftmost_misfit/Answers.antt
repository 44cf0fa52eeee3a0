use Rattle.std.proofs.Common.{◌≡◌, map, refl, subst, arith, ℕ, length}
use Rattle.std.proofs.lemmas.List.{length-map}
use Rattle.vortex_types.specs.LogicalTypes.{field_count}
use Rattle.vortex_types.specs.TypeOf.{struct_fields}
use Rattle.rowfn_batches.specs.Fields.{field_in}
use Rattle.rowfn_batches.specs.Batches.{IsLeftmostOf}
use Rattle.rowfn_batches.proofs.FieldPlaces.{place_beside}
use Rattle.rowfn_batches.proofs.Leftmost.{leftmost_first, leftmost_next, is_leftmost}
use Rattle.rowfn_batches.proofs.columns.leftmost_misfit.Goals as goal

pub loop-other-init : goal.loop-other-init
loop-other-init c =
    leftmost_first (struct_fields c.args.declared.now) c.args.kinds.now (map field_in c.args.fields.now)
    c.args.places.now c.args.row c.args.column _ refl c.requires.misfit

pub nearer-leftmost-requires-clause-place : goal.nearer-leftmost-requires-clause-place
nearer-leftmost-requires-clause-place c =
    let fields = c.args.fields.now in
    let there =
    place_beside (field_count (struct_fields c.args.declared.now)) c.requires.even.0 c.args.row
    c.args.column c.loop-other.other (length (map field_in fields)) c.requires.even.1
    c.requires.misfit.first.below (omega (arith, c.loop-other-test.true, c.len-width.ensures)) in
    omega (arith, there, length-map fields field_in)

pub loop-other-preserved : goal.loop-other-preserved
loop-other-preserved c =
    let told = c.nearer-leftmost.ensures in
    leftmost_next (struct_fields c.args.declared.now) c.args.kinds.now (map field_in c.args.fields.now)
    c.args.places.now c.args.row c.loop-other.other c.loop-other.leftmost c.nearer-leftmost.result
    (omega (arith, c.loop-other-test.true, c.len-width.ensures)) c.loop-other.invariant told.second
    told.before told.fits

pub returns : goal.returns
returns c =
    let ds = struct_fields c.args.declared.now in
    let fs = map field_in c.args.fields.now in
    let all : c.loop-other.other ≡ field_count ds = omega (
      arith,
      c.loop-other-test.false,
      c.len-width.ensures,
      c.loop-other.auto.other-end,
      c.requires.misfit.below,
    ) in
    is_leftmost ds c.args.kinds.now fs c.args.places.now c.args.row c.args.column c.loop-other.leftmost
    c.requires.even.0 c.requires.even.1 c.requires.misfit
    (subst
    (λ (n : ℕ). IsLeftmostOf ds c.args.kinds.now fs c.args.places.now c.args.row n c.loop-other.leftmost) all
    c.loop-other.invariant)
