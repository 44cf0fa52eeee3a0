use Rattle.std.proofs.Common.{List, refl, subst}
use Rattle.std.proofs.lemmas.Option.{slice_get_read}
use Rattle.vortex_logical.specs.declared.kind.Kind.{Kind}
use Rattle.vortex_expressions.specs.Items.{meaning}
use Rattle.yurkije_pruning.specs.Pruning.{PrunesLent, RefusesLent}
use Rattle.yurkije.specs.Views.{program_view}
use Rattle.yurkije.proofs.PrunedGroups.{tree_there, groups_told, groups_refused}
use Rattle.yurkije.proofs.pruning.prune.Goals as goal

pub returns-in-Ok : goal.returns-in-Ok
returns-in-Ok c =
    let p = program_view c.args.expression.now in
    let there =
    tree_there c.args.expression.now.program.optimized.items c.deref.result.now c.args.answer
    c.in-Some.condition.now c.deref.ensures.value
    (slice_get_read c.deref.result.now _ c.args.answer c.in-Some.condition.now refl
    c.in-Some.ensures.lookup.3.0 c.in-Some.ensures.lookup.1) in
    groups_told p c.args.answer c.in-Some.condition.now.tree c.args.statistics.now c.args.rows.now
    c.args.room.now c.tell_groups.new.room c.tell_groups.result c.args.error.now
    c.tell_groups.new.error there c.in-Ok.pruned.items c.deref-in-Ok.result.now
    (subst (λ (ks : List Kind). PrunesLent meaning p.scope ks c.args.statistics.now
    c.in-Some.condition.now.tree c.args.rows.now c.in-Ok.pruned.items) c.deref-2.ensures.value
    c.in-Ok.ensures)
    c.deref-in-Ok.ensures.value c.tell_groups.ensures

pub returns-in-Err : goal.returns-in-Err
returns-in-Err c =
    let p = program_view c.args.expression.now in
    let there =
    tree_there c.args.expression.now.program.optimized.items c.deref.result.now c.args.answer
    c.in-Some.condition.now c.deref.ensures.value
    (slice_get_read c.deref.result.now _ c.args.answer c.in-Some.condition.now refl
    c.in-Some.ensures.lookup.3.0 c.in-Some.ensures.lookup.1) in
    groups_refused p c.args.answer c.in-Some.condition.now.tree c.args.statistics.now
    c.args.rows.now c.args.room.now c.args.room.now c.report_text.result c.args.error.now
    c.report_text.new.self there c.in-Err.wrong c.prune_words-words.result c.numbers_of.result
    (subst (λ (ks : List Kind). RefusesLent meaning p.scope ks c.args.statistics.now
    c.in-Some.condition.now.tree c.args.rows.now c.in-Err.wrong) c.deref-2.ensures.value
    c.in-Err.ensures)
    c.numbers_of.ensures refl c.report_text.ensures.status
    c.report_text.ensures.told c.prune_words-words.ensures c.report_text.ensures.message
