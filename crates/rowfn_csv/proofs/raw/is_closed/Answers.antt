use Rattle.std.proofs.Common.{◌≡◌, ◌∙◌, not, refl, sym, arith}
use Rattle.std.proofs.lemmas.List.{at_drop_all}
use denote.Enum.Bare.{sameb}
use Rattle.rowfn_csv.specs.contracts.raw.RecordPlace.{the_type}
use Rattle.rowfn_csv.specs.declared.raw.RecordPlace.{RecordPlace}
use Rattle.rowfn_csv.specs.declared.raw.RecordPlace.TheVariants as at
use Rattle.rowfn_csv.proofs.Scanning.{closed_says, closed_at, ends_closed}
use Rattle.rowfn_csv.proofs.raw.is_closed.Goals as goal

closed_here : (p : RecordPlace) → not (sameb the_type p at.Quoted) ≡ closed_at p
closed_here at.Start = refl
closed_here at.Plain = refl
closed_here at.Quoted = refl
closed_here at.Closed = refl

pub returns : goal.returns
returns c = λ closed fields no_quote says.
    let place = c.loop-byte.place in
    c.ne.ensures
    ∙ closed_here place
    ∙ sym (at_drop_all (ends_closed c.args.delimiter place) c.args.raw.now c.loop-byte.byte-index
    (omega arith))
    ∙ c.loop-byte.invariant
    ∙ closed_says c.args.delimiter no_quote closed c.args.raw.now fields says
