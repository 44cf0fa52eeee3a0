use Rattle.std.proofs.Common.{◌≡◌, ◌==◌, true, false, refl, sym, ap, not, ◌∙◌, length}
use Rattle.std.specs.Option.{is_none}
use Rattle.std.specs.Cmp.{unsigned_Decides}
use Rattle.vortex_errors.specs.declared.error.VortexError.TheVariants.{OutOfMemory}
use Rattle.vortex_types.specs.LogicalTypes.{find_field, with_field}
use Rattle.vortex_types.specs.TypeOf.{type_of}
use Rattle.rowfn_lines.specs.Commands.{column}
use Rattle.rowfn_scripts.specs.Sessions.{StepsTo}
use Rattle.rowfn_scripts.proofs.SessionSteps.{row_count_of, fields_of, printed_of}
use Rattle.rowfn_scripts.proofs.SessionSteps.{name_twice, column_added, same_added, stops}
use Rattle.rowfn_scripts.proofs.Places.{place_or_not, no_place}
use Rattle.rowfn_scripts.specs.Stepping.{script_meaning, script_rules}
use Rattle.rowfn_scripts.proofs.session.Session.add_column.Goals as goal

pub add-requires : goal.add-requires
add-requires c =
    let here = place_or_not c.find.result _ c.is_some.result c.find.ensures c.is_some.ensures in
    no_place _ (here ∙ ap not c.if-is_some.false)

pub returns-then-is_some : goal.returns-then-is_some
returns-then-is_some c =
    let s = c.args.self.now in
    let name = c.args.name.now in
    let counted = sym (row_count_of c.self.view_is) ∙ c.in-Some.is in
    let here = place_or_not c.find.result _ c.is_some.result c.find.ensures c.is_some.ensures in
    let same = ap (λ fs. is_none (find_field name fs)) (sym (fields_of c.self.view_is)) in
    let old : is_none (find_field name s.fields) ≡ false = same ∙ here ∙ ap not c.if-is_some.true in
    (name_twice name c.args.added s c.in-Some.count counted old, refl)

pub returns-in_err-dtype : goal.returns-in_err-dtype
returns-in_err-dtype c =
    let s = c.args.self.now in
    stops (StepsTo script_meaning script_rules
    (column c.args.name.now c.args.added)) (λ e. ⊥) s s c.from_residual.result
    c.in_err-dtype.field-0.0 (λ d h. absurd h) c.from_residual.ensures.1 c.in_err-dtype.ensures refl

pub returns-in_err-push : goal.returns-in_err-push
returns-in_err-push c =
    stops (StepsTo script_meaning script_rules
    (column c.args.name.now c.args.added)) (λ e. ⊥) c.args.self.now _
    c.from_residual-in_err-push.result OutOfMemory (λ d h. absurd h)
    c.from_residual-in_err-push.ensures.1 tt (printed_of c.self.view_is)

pub returns-in_err-add : goal.returns-in_err-add
returns-in_err-add c =
    stops (StepsTo script_meaning script_rules
    (column c.args.name.now c.args.added)) (λ e. ⊥) c.args.self.now _
    c.from_residual-in_err-add.result c.in_err-add.field-0.0 (λ d h. absurd h)
    c.from_residual-in_err-add.ensures.1 c.in_err-add.ensures.added (printed_of c.self.view_is)

pub returns : goal.returns
returns c =
    let s = c.args.self.now in
    let name = c.args.name.now in
    let added = c.args.added in
    let count = c.in-Some.count in
    let counted = sym (row_count_of c.self.view_is) ∙ c.in-Some.is in
    let rows : (length added.rows == count) ≡ true =
    (unsigned_Decides (length added.rows) count).1 (sym c.len.ensures ∙ c.if-len-count.false) in
    let here = place_or_not c.find.result _ c.is_some.result c.find.ensures c.is_some.ensures in
    let same = ap (λ fs. is_none (find_field name fs)) (sym (fields_of c.self.view_is)) in
    let new : is_none (find_field name s.fields) ≡ true = same ∙ here ∙ ap not c.if-is_some.false in
    let dtype : type_of c.in_ok-dtype.dtype ≡ added.dtype =
    c.in_ok-dtype.ensures ∙ c.dtype.ensures.dtype in
    let fields = c.in_ok-add.ensures.added ∙ ap (with_field c.self.inside.fields name) dtype in
    same_added _ s name added _ _ c.self.view_is fields c.in_ok-push.ensures.items
    ∙ column_added name added s count counted rows new
