use Rattle.std.proofs.Common.{◌≡◌, false, rules}
use Rattle.vortex_columns.specs.ValidRows.{either_nullable}
use Rattle.vortex_columns.proofs.JointRows.{valid_everywhere}
use Rattle.vortex_columns.proofs.valid_rows.both_valid.Goals as goal

pub returns-in-NonNullable : goal.returns-in-NonNullable
returns-in-NonNullable c =
    let l = c.args.lhs.now in
    let r = c.args.rhs.now in
    let e : either_nullable l r ≡ false = search rules in
    valid_everywhere l r c.requires c.dtype.ensures.typed c.dtype-2.ensures.typed e
