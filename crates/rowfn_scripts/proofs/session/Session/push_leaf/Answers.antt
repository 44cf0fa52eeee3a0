use Rattle.std.proofs.Common.{◌∙◌, refl, ap, sym}
use Rattle.vortex_types.specs.LogicalTypes.{find_field}
use Rattle.vortex_interface.specs.Trees.{leaf, place}
use Rattle.vortex_functions.proofs.FoundFields.{field_found}
use Rattle.rowfn_scripts.proofs.Places.{field_there, no_field}
use Rattle.rowfn_scripts.proofs.SessionSteps.{unsaid, fields_of, same_pushed}
use Rattle.rowfn_scripts.proofs.SessionSteps.{leaf_pushed, leaf_refused}
use Rattle.rowfn_scripts.proofs.session.Session.push_leaf.Goals as goal

pub column_at-requires : goal.column_at-requires
column_at-requires c =
    let there = field_there _ _ (sym c.in-Some.is ∙ c.find.ensures) in
    rw c.fields.ensures (field_found c.args.name.now c.self.inside.fields _ there.1).within

pub returns-in_default : goal.returns-in_default
returns-in_default c =
    let s = c.args.self.now in
    let name = c.args.name.now in
    let known = unsaid c.self.view_is c.is_none.ensures c.if-is_none.false in
    let none = no_field _ (sym c.find.ensures ∙ c.in_default.is) in
    let unknown = ap (find_field name) (sym (fields_of c.self.view_is)) ∙ none in
    (leaf_refused name s s.fields known unknown, refl)

pub returns : goal.returns
returns c =
    let s = c.args.self.now in
    let name = c.args.name.now in
    let known = unsaid c.self.view_is c.is_none.ensures c.if-is_none.false in
    let there = field_there _ _ (sym c.in-Some.is ∙ c.find.ensures) in
    let at = field_found name c.self.inside.fields _ there.1 in
    let found = ap (find_field name) (sym (fields_of c.self.view_is)) ∙ there.1 in
    let is = rw c.fields.ensures at c.in_ok-leaf.ensures in
    same_pushed _ s s c.in_ok-leaf.leaf _ s.stack s.stack refl
    (is ∙ (λ i. leaf (place c.in-Some.place (at.named i) (at.typed i)))) refl
    c.in_ok-push.ensures.pushed
    ∙ leaf_pushed name s s.fields (c.in-Some.place, there.0) known found
