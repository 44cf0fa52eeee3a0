use Rattle.std.proofs.Common.{◌≡◌, ℕ, subst, arith}
use Rattle.std.proofs.lemmas.Result.{err_from_is_err_and}
use Rattle.csv.specs.Records.{fields_of}
use Rattle.vortex_types.specs.LogicalTypes.{field_count}
use Rattle.vortex_types.specs.TypeOf.{struct_fields}
use Rattle.rowfn_batches.specs.Layouts.{FirstStandAt, at_column}
use Rattle.rowfn_batches.proofs.Layouts.{no_columns, next_column}
use Rattle.rowfn_batches.proofs.header.places_of.Goals as goal

pub loop-k-init : goal.loop-k-init
loop-k-init c = no_columns _ _ c.args.said.now c.new-places.result.items c.new-places.ensures.items

pub loop-k-preserved : goal.loop-k-preserved
loop-k-preserved c =
    let fields = fields_of c.args.header.now in
    next_column fields (struct_fields c.args.declared.now) c.args.said.now c.loop-k.k
    c.loop-k.places.items c.push.new.self.items c.in_ok-place.place c.loop-k.invariant
    (rw (c.name.ensures, c.given_place.ensures) at c.in_ok-place.ensures) c.in_ok-push.ensures.items

pub returns-in_err-place : goal.returns-in_err-place
returns-in_err-place c =
    let p = err_from_is_err_and c.from_residual.result c.from_residual.ensures.1 in
    rw (p.1, p.2)
    (at_column c.loop-k.k c.loop-k.places.items
    (omega (arith, c.loop-k-test.true, c.len-k-end.ensures)) c.loop-k.invariant
    (rw (c.name.ensures, c.given_place.ensures) at c.in_err-place.ensures))

pub returns : goal.returns
returns c =
    let ds = struct_fields c.args.declared.now in
    let all : c.loop-k.k ≡ field_count ds = omega (
      arith,
      c.loop-k-test.false,
      c.len-k-end.ensures,
    ) in
    subst
    (λ (n : ℕ). FirstStandAt (fields_of c.args.header.now) ds c.args.said.now n
    c.loop-k.places.items)
    all c.loop-k.invariant
