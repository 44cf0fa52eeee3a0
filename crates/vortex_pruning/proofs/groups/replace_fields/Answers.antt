use Rattle.std.proofs.Common.{add-one, arith}
use Rattle.vortex_pruning.proofs.GroupsPruned.{field_refused}
use Rattle.vortex_pruning.proofs.GroupsReplaced.{none_replaced, all_replaced, replaced_counted, next_of_field}
use Rattle.vortex_pruning.proofs.GroupsReplaced.{replace_more}
use Rattle.vortex_pruning.proofs.groups.replace_fields.Goals as goal

pub loop-number-init : goal.loop-number-init
loop-number-init c =
    none_replaced c.args.group c.args.rows c.args.fields.now c.args.statistics.now.items c.requires

pub index_mut-requires : goal.index_mut-requires
index_mut-requires c =
    let counted =
    replaced_counted c.args.group c.args.rows c.loop-number.number c.args.fields.now
    c.loop-number.statistics.items c.loop-number.invariant in
    omega (arith, counted, c.loop-number-test.true)

pub replace_field-requires : goal.replace_field-requires
replace_field-requires c =
    next_of_field c.args.group c.args.rows c.loop-number.number c.args.fields.now
    c.loop-number.statistics.items c.index-fields-number.result c.index_mut.result.now
    c.loop-number.invariant c.loop-number-test.true c.index_mut.ensures.value
    c.index-fields-number.is

pub returns-in-Err : goal.returns-in-Err
returns-in-Err c =
    field_refused c.args.fields.now c.args.group c.args.rows c.loop-number.number
    c.index-fields-number.result c.in-Err.error c.loop-number-test.true c.index-fields-number.is
    c.in-Err.ensures

pub loop-number-preserved : goal.loop-number-preserved
loop-number-preserved c =
    replace_more c.args.group c.args.rows c.loop-number.number _ c.args.fields.now
    c.loop-number.statistics.items c.index-fields-number.result c.replace_field.new.statistics
    (add-one c.loop-number.number) c.loop-number.invariant c.loop-number-test.true
    c.index-fields-number.is c.in-Ok.ensures

pub returns : goal.returns
returns c =
    all_replaced c.args.group c.args.rows c.loop-number.number c.args.fields.now
    c.loop-number.statistics.items (omega (arith, c.loop-number-test.false)) c.loop-number.invariant
