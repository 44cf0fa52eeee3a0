use Rattle.std.proofs.Common.{◌≡◌, false, length}
use Rattle.vortex_sql_patterns.specs.RegexpReplace.{with_flags}
use Rattle.vortex_sql_patterns.proofs.replace.with_flags.Given as goal

-- the flags so far, before the rest
abbrev pub invariant-flags : goal.invariant-flags
invariant-flags l =
    with_flags (l.all, l.any_case) l.rest ≡ with_flags (false, false) l.flags

abbrev pub decreases-flags : goal.decreases-flags
decreases-flags l = length l.rest
