use Rattle.std.proofs.Common.{◌≡◌, ℕ, ◌+◌, ◌-◌, List, length, take, drop, ◌++◌, sym, ap, ◌∙◌}
use Rattle.std.proofs.Common.{arith, append-nil}
use Rattle.std.proofs.lemmas.List.{take_all, drop_all}
use Rattle.rowfn_csv.proofs.Parts.{parts_kept, part_put}
use Rattle.rowfn_csv.proofs.batch.put_field.Goals as goal

whole : (n : ℕ) (xs ys : List ℕ) → length xs ≡ length ys → length ys ≡ n
    → take n (xs ++ drop (length xs) ys) ≡ xs
whole n xs ys same size =
    ap (λ (zs : List ℕ). take n (xs ++ zs)) (drop_all (length xs) ys (omega (arith, same)))
    ∙ ap (take n) (append-nil xs)
    ∙ take_all n xs (omega (arith, same, size))

pub returns-in_err-have_room-clause-kept : goal.returns-in_err-have_room-clause-kept
returns-in_err-have_room-clause-kept c =
    let filled = c.args.filled.now in
    parts_kept filled filled c.args.bytes.now.items c.have_room.new.bytes.items
    (omega arith) c.have_room.ensures.kept

pub returns-clause-kept : goal.returns-clause-kept
returns-clause-kept c =
    let filled = c.args.filled.now in
    let held = c.as_mut_slice.ensures in
    let written : take c.have_room.new.bytes.len
    (c.write_at.new.out ++ drop (length c.write_at.new.out) c.have_room.new.bytes.items)
    ≡ c.write_at.new.out =
    whole c.have_room.new.bytes.len c.write_at.new.out c.have_room.new.bytes.items
    (c.write_at.ensures.size ∙ ap length held.value) (sym (ap length held.value) ∙ held.len) in
    parts_kept filled (filled + length c.args.field.now) c.args.bytes.now.items _ (omega arith)
    (ap (take filled) written ∙ c.write_at.ensures.before ∙ ap (take filled) held.value
    ∙ c.have_room.ensures.kept)

pub returns-clause-put : goal.returns-clause-put
returns-clause-put c =
    let start = c.args.filled.now in
    let field = c.args.field.now in
    let held = c.as_mut_slice.ensures in
    let written : take c.have_room.new.bytes.len
    (c.write_at.new.out ++ drop (length c.write_at.new.out) c.have_room.new.bytes.items)
    ≡ c.write_at.new.out =
    whole c.have_room.new.bytes.len c.write_at.new.out c.have_room.new.bytes.items
    (c.write_at.ensures.size ∙ ap length held.value) (sym (ap length held.value) ∙ held.len) in
    let size : start + length field - start ≡ length field = omega arith in (
      part_put _ field (record { start = start; end = start + length field }) (omega arith)
          (ap (λ (bs : List ℕ). take (start + length field - start) (drop start bs)) written
          ∙ ap (λ (k : ℕ). take k (drop start c.write_at.new.out)) size ∙ c.write_at.ensures.here),
      omega arith,
    )
