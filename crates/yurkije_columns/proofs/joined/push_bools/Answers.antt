use Rattle.std.proofs.Common.{◌≡◌, ◌+◌, ◌/◌, ◌∙◌, ap, subst, sym, arith, List, ℕ, length, take, drop}
use Rattle.std.proofs.Common.{◌++◌}
use Rattle.std.proofs.lemmas.List.{take_at}
use Rattle.vortex_arrow.specs.Layouts.{bits}
use Rattle.vortex_arrow.specs.Written.{bytes_for}
use Rattle.yurkije_columns.specs.Joining.{Joins}
use Rattle.yurkije_columns.proofs.JoinedRows.{bools_join}
use Rattle.yurkije_columns.proofs.joined.push_bools.Goals as goal

pub returns-in-Ok-clause-joined : goal.returns-in-Ok-clause-joined
returns-in-Ok-clause-joined c =
    let n = c.args.len in
    let at = c.args.len / 8 in
    let end = c.in-Some.end in
    let rows = c.args.column.now.rows in
    let old = c.args.validity.now.items in
    let old_xs = c.args.values.now.items in
    let new = c.put_bools.new.validity in
    let new_xs = c.put_bools.new.values in
    let most : end ≡ at + bytes_for (length rows) =
    omega (arith, c.in-Some.ensures, c.bytes_for.ensures, ap bytes_for c.len.ensures) in
    let count : length new ≡ end =
    omega (arith, c.in_ok-resize.ensures.len, ap length c.deref_mut.ensures.value) in
    let count_xs : length new_xs ≡ end =
    omega (arith, c.in_ok-resize-2.ensures.len, ap length c.deref_mut-2.ensures.value) in
    let joins =
    bools_join n at end rows old c.resize.new.self.items new _ c.requires.whole most
    c.in_ok-resize.ensures.items
    (c.in-Ok.ensures.before.0 ∙ ap (take at) c.deref_mut.ensures.value) c.requires.room.bits
    old_xs c.resize-2.new.self.items new_xs _ c.in_ok-resize-2.ensures.items
    (c.in-Ok.ensures.before.1 ∙ ap (take at) c.deref_mut-2.ensures.value)
    (omega (arith, c.requires.room.items))
    c.in-Ok.ensures.copied count count_xs in
    let cut :
    take c.resize.new.self.len (new ++ drop (length new) c.resize.new.self.items) ≡ new =
    take_at new (drop (length new) c.resize.new.self.items) c.resize.new.self.len
    (omega (arith, count, c.in_ok-resize.ensures.len)) in
    let cut_xs :
    take c.resize-2.new.self.len (new_xs ++ drop (length new_xs) c.resize-2.new.self.items)
    ≡ new_xs =
    take_at new_xs (drop (length new_xs) c.resize-2.new.self.items) c.resize-2.new.self.len
    (omega (arith, count_xs, c.in_ok-resize-2.ensures.len)) in
    subst
    (λ (xs : List ℕ). Joins n rows old (bits old_xs) xs
    (bits
    (take c.resize-2.new.self.len (new_xs ++ drop (length new_xs) c.resize-2.new.self.items))))
    (sym cut)
    (subst (λ (xs : List ℕ). Joins n rows old (bits old_xs) new (bits xs)) (sym cut_xs) joins)
