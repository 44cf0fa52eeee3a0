use Rattle.std.proofs.Common.{◌≡◌, ◌+◌, Bool, false, map, take, vec_len}
use Rattle.std.specs.Vec.{vec_capacity}
use Rattle.vortex_checked.specs.Exact.{quotient}
use Rattle.vortex_kernels.specs.Faults.{AreToldResults, pair_results}
use Rattle.vortex_kernels.proofs.quotients.guess_rows.Given as goal

-- earlier rows are unchanged, and their flag holds for the estimates too, unless one is wrong
abbrev pub invariant-loop-i : goal.invariant-loop-i
invariant-loop-i g l =
    let p = g.T.NativePType.ptype in
    let number = g.T.NativePType.number in
    let results = pair_results quotient (map number l.lefts) (map number l.rights) in
    (vec_capacity l.values ≡ vec_capacity l.fn.values)
    × (vec_len l.values ≡ l.start + l.i)
    × (take l.start l.values.items ≡ l.fn.values.items)
    × ((told : Bool) → AreToldResults p results l.start (map number l.fn.values.items) told
    → l.is_off ≡ false
    → AreToldResults p results (l.start + l.i) (map number l.values.items) told)
