use Rattle.std.proofs.Common.{◌≡◌, ◌≢◌, ◌∙◌, ◌<◌, ◌==◌, ℕ, Bool, true, false, List, length}
use Rattle.std.proofs.Common.{slice_index, ap, sym, get_or}
use Rattle.std.specs.List.{list_any}
use Rattle.std.proofs.lemmas.List.Folds.{list_any_at}
use Rattle.memchr.specs.Find.{is_byte}
use Rattle.rowfn_csv.specs.declared.raw.RecordPlace.TheVariants as at
use Rattle.rowfn_csv.specs.Records.{without_line_end}
use Rattle.rowfn_csv.proofs.Scanning.{marks_say, none_marked}
use Rattle.rowfn_csv.proofs.raw.Quotes.mark.Goals as goal

unquoted : (bytes : List ℕ) → list_any (λ b. b == 34) bytes ≡ false → (k : ℕ) → k < length bytes
    → is_byte 34 (slice_index bytes k) ≢ true
unquoted bytes none k lt quote = let any = list_any_at (λ b. b == 34) bytes k 0 lt quote in cc

pub returns-then-not-contains-clause-marks : goal.returns-then-not-contains-clause-marks
returns-then-not-contains-clause-marks c = λ closed said no_quote says i.
    let bytes = without_line_end c.args.line.now in
    let none : list_any (λ b. b == 34) bytes ≡ false =
    ap (list_any (λ b. b == 34)) (sym c.without_line_end-raw.ensures) ∙ sym c.contains.ensures.value
    ∙ c.if-not-contains.true in
    ap (λ (ms : List Bool). get_or ms i false) c.clear.ensures.items
    ∙ sym (none_marked c.args.delimiter at.Start bytes (unquoted bytes none) i)
    ∙ ap (λ (ms : List Bool). get_or ms i false)
    (marks_say c.args.delimiter no_quote closed bytes said says)
