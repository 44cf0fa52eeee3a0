use Rattle.std.proofs.Common.{◌≡◌, rules, ap, cond, None, nat_eq, ◌∙◌, string_bytes}
use Rattle.std.specs.Cmp.Lexicographic.{pointwise}
use Rattle.std.proofs.lemmas.Map.Text.{btree_map_updates_text}
use Rattle.vortex_types.specs.LogicalTypes.{with_field}
use Rattle.vortex_types.specs.TypeOf.{struct_fields, type_of}
use Rattle.rowfn_scripts.specs.Scopes.{place_of}
use Rattle.rowfn_scripts.proofs.Places.{place_added, place_removed}
use Rattle.rowfn_scripts.proofs.scope.Scope.add.Goals as goal

pub invariant_of-self-in-Err : goal.invariant_of-self-in-Err
invariant_of-self-in-Err c =
    let name = c.args.name.now in
    let key = string_bytes c.in_ok-key.key in
    let old = c.self.inside.places in
    let with = c.insert.new.self in
    let kept : struct_fields c.push.new.self ≡ struct_fields c.self.inside.fields = search rules in
    let new = ap (place_of name) c.self.view_is ∙ c.requires in
    λ other.
    btree_map_updates_text name with c.remove.new.self _ c.remove.ensures.updates other
    ∙ ap (cond (pointwise nat_eq name other) None)
    (btree_map_updates_text key old with _ c.in_ok-insert.ensures.updates other)
    ∙ place_removed name (type_of c.args.dtype) other key _ (struct_fields c.self.inside.fields) _ _
    c.in_ok-key.ensures.ok (c.self.invariant other) new kept

pub invariant_of-self-in_default : goal.invariant_of-self-in_default
invariant_of-self-in_default c =
    let name = c.args.name.now in
    let key = string_bytes c.in_ok-key.key in
    let fs = struct_fields c.self.inside.fields in
    let added : struct_fields c.push.new.self ≡ with_field fs name (type_of c.args.dtype) =
    search rules in
    let new = ap (place_of name) c.self.view_is ∙ c.requires in
    λ other.
    btree_map_updates_text key c.self.inside.places c.insert.new.self _
    c.in_ok-insert.ensures.updates other
    ∙ place_added name (type_of c.args.dtype) other key _ fs _ _ c.in_ok-key.ensures.ok
    c.len.ensures (c.self.invariant other) new added
