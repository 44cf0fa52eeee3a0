use Rattle.std.proofs.Common.{◌≡◌, ◌∙◌, ◌++◌, ◌∷◌, [], Bool, true, false, List, ap, refl, sym}
use Rattle.std.proofs.Common.{arith, append-nil}
use Rattle.std.proofs.lemmas.List.{at_drop_all}
use denote.Enum.Bare.{sameb}
use Rattle.rowfn_csv.specs.contracts.raw.RecordPlace.{the_type}
use Rattle.rowfn_csv.specs.declared.raw.RecordPlace.{RecordPlace}
use Rattle.rowfn_csv.specs.declared.raw.RecordPlace.TheVariants as at
use Rattle.rowfn_csv.proofs.Scanning.{marks, marks_say, last_mark}
use Rattle.rowfn_csv.proofs.raw.mark_quoted.Goals as goal

at_start : (p : RecordPlace) → true ≡ sameb the_type p at.Start → false ∷ [] ≡ last_mark p
at_start at.Start e = refl
at_start at.Plain e = cc e
at_start at.Quoted e = cc e
at_start at.Closed e = cc e

elsewhere : (p : RecordPlace) → false ≡ sameb the_type p at.Start → [] ≡ last_mark p
elsewhere at.Start e = cc e
elsewhere at.Plain e = refl
elsewhere at.Quoted e = refl
elsewhere at.Closed e = refl

pub returns-in_ok-push-2 : goal.returns-in_ok-push-2
returns-in_ok-push-2 c = λ closed fields no_quote says.
    let place = c.loop-byte.place in
    c.in_ok-push-2.ensures.items
    ∙ ap (λ (t : List Bool). c.loop-byte.marks.items ++ t) (at_start place c.if-eq-2.ensures)
    ∙ sym (at_drop_all (λ t. c.loop-byte.marks.items ++ marks c.args.delimiter place t)
    c.args.raw.now c.loop-byte.byte-index (omega arith))
    ∙ c.loop-byte.invariant
    ∙ marks_say c.args.delimiter no_quote closed c.args.raw.now fields says

pub returns-else-eq-2 : goal.returns-else-eq-2
returns-else-eq-2 c = λ closed fields no_quote says.
    let place = c.loop-byte.place in
    sym (append-nil c.loop-byte.marks.items)
    ∙ ap (λ (t : List Bool). c.loop-byte.marks.items ++ t) (elsewhere place c.if-eq-2.ensures)
    ∙ sym (at_drop_all (λ t. c.loop-byte.marks.items ++ marks c.args.delimiter place t)
    c.args.raw.now c.loop-byte.byte-index (omega arith))
    ∙ c.loop-byte.invariant
    ∙ marks_say c.args.delimiter no_quote closed c.args.raw.now fields says
