use Rattle.std.proofs.Common.{◌≡◌, ◌≤◌, ◌+◌, ◌/◌, ◌∙◌, ap, subst, sym, arith, List, ℕ, length, map}
use Rattle.std.proofs.Common.{take, drop, ◌++◌}
use Rattle.std.proofs.lemmas.List.{take_at, length-map}
use Rattle.vortex_arrow.specs.Layouts.{numbers}
use Rattle.vortex_arrow.specs.Written.{bytes_for}
use Rattle.yurkije_columns.specs.Joining.{Joins}
use Rattle.yurkije_columns.proofs.JoinedRows.{integers_join}
use Rattle.yurkije_columns.proofs.joined.push_integers.Goals as goal

pub returns-in-Ok-clause-joined : goal.returns-in-Ok-clause-joined
returns-in-Ok-clause-joined g c =
    let p = g.T.NativePType.ptype in
    let f = g.T.NativePType.number in
    let n = c.args.len in
    let at = c.args.len / 8 in
    let bytes = c.in-Some-Some.bytes in
    let end = c.in-Some-Some.end in
    let rows = c.args.column.now.rows in
    let old = c.args.validity.now.items in
    let old_xs = c.args.values.now.items in
    let new = c.put_integers.new.validity in
    let new_xs = c.put_integers.new.values in
    let most : bytes ≡ at + bytes_for (length rows) =
    omega (
      arith,
      c.in-Some-Some.ensures,
      c.in-Some-Some.ensures',
      c.bytes_for.ensures,
      ap bytes_for c.len.ensures,
    ) in
    let most_xs : end ≡ n + length rows =
    omega (arith, c.in-Some-Some.ensures, c.in-Some-Some.ensures', c.len-2.ensures) in
    let count : length new ≡ bytes =
    omega (arith, c.in_ok-resize.ensures.len, ap length c.deref_mut.ensures.value) in
    let count_xs : length new_xs ≡ end =
    omega (arith, c.in_ok-resize-2.ensures.len, ap length c.deref_mut-2.ensures.value) in
    let within_xs : n ≤ length old_xs =
    omega (arith, c.requires.room.items, length-map old_xs f) in
    let joins =
    integers_join n at bytes rows old c.resize.new.self.items new _ c.requires.whole most
    c.in_ok-resize.ensures.items
    (c.in-Ok.ensures.before.0 ∙ ap (take at) c.deref_mut.ensures.value) c.requires.room.bits p f
    old_xs c.resize-2.new.self.items new_xs _ end c.in_ok-resize-2.ensures.items
    (c.in-Ok.ensures.before.1 ∙ ap (take n) c.deref_mut-2.ensures.value) within_xs most_xs
    c.in-Ok.ensures.copied count count_xs in
    let cut :
    take c.resize.new.self.len (new ++ drop (length new) c.resize.new.self.items) ≡ new =
    take_at new (drop (length new) c.resize.new.self.items) c.resize.new.self.len
    (omega (arith, count, c.in_ok-resize.ensures.len)) in
    let cut_xs :
    take c.resize-2.new.self.len (new_xs ++ drop (length new_xs) c.resize-2.new.self.items)
    ≡ new_xs =
    take_at new_xs (drop (length new_xs) c.resize-2.new.self.items) c.resize-2.new.self.len
    (omega (arith, count_xs, c.in_ok-resize-2.ensures.len)) in
    subst
    (λ (xs : List ℕ). Joins n rows old (numbers p (map f old_xs)) xs
    (numbers p (map f
    (take c.resize-2.new.self.len (new_xs ++ drop (length new_xs) c.resize-2.new.self.items)))))
    (sym cut)
    (subst (λ (xs : List _). Joins n rows old (numbers p (map f old_xs)) new (numbers p (map f xs)))
    (sym cut_xs) joins)
