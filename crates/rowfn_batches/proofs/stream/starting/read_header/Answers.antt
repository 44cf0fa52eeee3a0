use Rattle.std.proofs.Common.{◌∙◌, ap, refl, sym, Err}
use Rattle.rowfn_batches.specs.Endings.{read_ending}
use Rattle.rowfn_batches.specs.Starts.{not_asked, a_header, no_header, unread, too_long, open_quote}
use Rattle.rowfn_batches.proofs.stream.starting.read_header.Goals as goal

pub returns-then-not-settings : goal.returns-then-not-settings
returns-then-not-settings g c = not_asked c.if-not-settings.true refl refl

pub returns-in-End : goal.returns-in-End
returns-in-End g c = no_header c.if-not-settings.false c.in-End.ensures.reads refl

pub returns-in-Failed : goal.returns-in-Failed
returns-in-Failed g c =
    unread c.read_record.new.self c.if-not-settings.false c.in-Failed.ensures.reads
    (ap Err (c.from.ensures ∙ ap read_ending c.take_error.ensures.error))

pub returns-then-is_outgrown : goal.returns-then-is_outgrown
returns-then-is_outgrown g c =
    too_long c.if-not-settings.false c.in-Record.ensures.reads
    (sym c.is_outgrown.ensures ∙ c.if-is_outgrown.true) refl

pub returns-then-is_open : goal.returns-then-is_open
returns-then-is_open g c =
    open_quote c.if-not-settings.false c.in-Record.ensures.reads
    (sym c.is_outgrown.ensures ∙ c.if-is_outgrown.false)
    (λ closed said d s. sym c.if-is_open.true ∙ c.is_open.ensures closed said d s) refl

pub returns : goal.returns
returns g c =
    a_header c.if-not-settings.false c.in-Record.ensures.reads
    (sym c.is_outgrown.ensures ∙ c.if-is_outgrown.false)
    (λ closed said d s. sym c.if-is_open.false ∙ c.is_open.ensures closed said d s) refl
