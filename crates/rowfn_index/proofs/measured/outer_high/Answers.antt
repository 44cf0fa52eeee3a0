use Rattle.vortex_columns.specs.Words.{value_of}
use Rattle.std.proofs.Common.{sym}
use Rattle.rowfn_index.proofs.TextEnds.{value_at_most, same_at_most}
use Rattle.rowfn_index.proofs.measured.outer_high.Goals as goal

pub returns-in-Some : goal.returns-in-Some
returns-in-Some c =
    value_at_most c.args.value.now c.in-Utf8.text c.as_str.result.now c.in-Utf8.is
    c.as_str.ensures.value c.in_ok-end-in-Utf8.field-0 c.in-Some.end c.in-Some.is
    c.in_ok-end-in-Utf8.ensures

pub returns-in_ok-try_clone-in_default : goal.returns-in_ok-try_clone-in_default
returns-in_ok-try_clone-in_default c =
    same_at_most (value_of c.args.value.now) (value_of c.in_ok-try_clone-in_default.field-0)
    (sym c.in_ok-try_clone-in_default.ensures)
