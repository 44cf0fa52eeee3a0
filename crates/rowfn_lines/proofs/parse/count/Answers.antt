use Rattle.std.proofs.Common.{tests, ◌≡◌, ◌≤◌, ◌∙◌, true, Ok, length, sym, ap, arith, nat_lt}
use Rattle.std.proofs.Common.{nat_le, ◌&&◌, if◌then◌else◌}
use Rattle.std.specs.Prelude.{Some, None}
use Rattle.std.specs.Result.{result_ok}
use Rattle.std.proofs.lemmas.Str.Parse.{parse_gives, digits_value_short}
use Rattle.vortex_cells.specs.CellValues.{decimal_from}
use Rattle.vortex_cells.proofs.Numbers.{own, are_digits}
use Rattle.rowfn_lines.proofs.parse.count.Goals as goal

pub returns : goal.returns
returns c =
    let w = c.args.word.now in
    let digits = are_digits w (sym c.are_digits.ensures ∙ c.if-not-are_digits.false) in
    let few : length w ≤ 6 = c.if-word-gt6.false in
    let bound = digits_value_short own w 6 digits.all few in
    let parsed : c.parse.result ≡ Ok (decimal_from 0 w) =
    parse_gives own 64 w c.parse.result c.parse.ensures.value.0 digits.all digits.some
    (omega arith) in
    let not_empty : nat_lt 0 (length w) ≡ true = grind (arith, tests, digits.some) in
    let short : nat_le (length w) 6 ≡ true = grind (arith, tests) in
    c.ok.ensures.value ∙ ap result_ok parsed
    ∙ sym
    (λ i. if not_empty i && (short i && digits.all i) then Some (decimal_from 0 w) else None)
