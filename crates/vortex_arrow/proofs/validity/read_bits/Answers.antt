use Rattle.std.proofs.Common.{rules, ◌≡◌, ◌≤◌, ◌+◌, ◌-◌, ◌*◌, ◌/◌, ◌%◌, ◌∙◌, List, ℕ, length, take}
use Rattle.std.proofs.Common.{drop, ap, arith}
use Rattle.std.proofs.lemmas.List.{length-drop, take_rest}
use Rattle.vortex_bits.specs.Bits.{bits_from}
use Rattle.vortex_arrow.proofs.Rows.{bits_of_part}
use Rattle.vortex_arrow.proofs.validity.read_bits.Goals as goal

pub returns-in-Ok-new : goal.returns-in-Ok-new
returns-in-Ok-new c =
    let bytes = c.args.bytes.now in
    let from = c.args.from in
    let count = c.args.count in
    let whole = take_rest bytes (from / 8) in
    let part : c.in-Ok.copy.items
    ≡ take c.min.result (take (length bytes - from / 8) (drop (from / 8) bytes)) = search rules in
    let room : from % 8 + count ≤ 8 * c.min.result =
    omega (arith, c.min.ensures, ap length whole, length-drop (from / 8) bytes, c.requires) in
    c.in-Ok-new.ensures.1
    ∙ ap (λ (bs : List ℕ). bits_from bs (from % 8) count) (part ∙ ap (take c.min.result) whole)
    ∙ bits_of_part bytes from count c.min.result room
