use Rattle.std.proofs.Common.{◌≡◌, ◌+◌, ◌*◌, ◌/◌, ◌++◌, ◌∙◌, ℕ, length, ap, subst, sym, arith}
use Rattle.vortex_columns.specs.ColumnView.{ColumnView}
use Rattle.vortex_arrow.specs.Layouts.{layout_type}
use Rattle.yurkije_columns.specs.Joining.{layout_joined}
use Rattle.yurkije_columns.proofs.JoinedRows.{rows_in, counted, joined_rows, plain_rows}
use Rattle.yurkije_columns.proofs.JoinedTypes.{allows, type_with, of_type}
use Rattle.yurkije_columns.proofs.joined.Joined.push.Goals as goal

pub push-requires-clause-whole : goal.push-requires-clause-whole
push-requires-clause-whole c =
    let a = c.self.inside in
    subst (λ (k : ℕ). 8 * (k / 8) ≡ k)
    (sym (ap (λ (x : ColumnView). length x.rows) c.self.view_is)
    ∙ counted a.nullable a.validity.items (layout_joined a.values) a.len)
    c.requires.whole

pub returns-clause-rows : goal.returns-clause-rows
returns-clause-rows c =
    let a = c.self.inside in
    let l = layout_joined a.values in
    let rows = c.args.column.now.rows in
    let t = c.args.column.now.dtype in
    let last : c.in-Some.end ≡ a.len + length rows =
    omega (arith, c.in-Some.ensures, c.len.ensures) in
    let typed : t ≡ layout_type l a.nullable =
    c.requires.dtype ∙ sym (ap (λ (x : ColumnView). x.dtype) c.self.view_is)
    ∙ ap (layout_type l) (allows a.nullable a.validity.items a.len) in
    let plain =
    plain_rows t rows a.nullable
    (type_with l a.nullable t typed (of_type a.values a.nullable t typed))
    c.dtype-typed.ensures.typed in
    ap (rows_in a.nullable c.push.new.validity.items (layout_joined c.push.new.self)) last
    ∙ joined_rows a.len rows a.validity.items l c.push.new.validity.items
    (layout_joined c.push.new.self) c.in_ok-push.ensures.joined a.nullable plain
    ∙ ap (λ (x : ColumnView). x.rows ++ rows) c.self.view_is
