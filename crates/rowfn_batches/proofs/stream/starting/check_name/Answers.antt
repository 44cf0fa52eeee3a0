use Rattle.std.proofs.Common.{refl}
use Rattle.rowfn_batches.specs.Layouts.{is_taken}
use Rattle.rowfn_batches.proofs.stream.starting.check_name.Goals as goal

pub returns-in_ok-from_str-in-Some : goal.returns-in_ok-from_str-in-Some
returns-in_ok-from_str-in-Some c =
    is_taken c.in-Some.field-0 c.in_ok-from_str-in-Some.field-0 c.in-Some.ensures.2
    c.in_ok-from_str-in-Some.ensures.ok refl
