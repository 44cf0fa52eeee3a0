use Rattle.vortex_columns.specs.Words.{value_of}
use Rattle.rowfn_index.proofs.TextEnds.{at_most_value, same_at_most}
use Rattle.rowfn_index.proofs.measured.outer_low.Goals as goal

pub returns-in_ok-from_str-in-Utf8 : goal.returns-in_ok-from_str-in-Utf8
returns-in_ok-from_str-in-Utf8 c =
    at_most_value c.args.value.now c.in-Utf8.text c.as_str.result.now c.in-Utf8.is
    c.as_str.ensures.value c.in_ok-from_str-in-Utf8.field-0 c.low_end.result.now
    c.in_ok-from_str-in-Utf8.ensures.ok c.low_end.ensures

pub returns-in_ok-try_clone-in_default : goal.returns-in_ok-try_clone-in_default
returns-in_ok-try_clone-in_default c =
    same_at_most (value_of c.in_ok-try_clone-in_default.field-0) (value_of c.args.value.now)
    c.in_ok-try_clone-in_default.ensures
