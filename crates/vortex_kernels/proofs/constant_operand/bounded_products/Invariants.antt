use Rattle.std.proofs.Common.{◌≡◌, ◌*ℤ◌, ℤ, Some, map}
use Rattle.std.specs.Vec.{vec_capacity}
use Rattle.vortex_kernels.specs.Numeric.{results_by, AreResults, TellsFaults}
use Rattle.vortex_kernels.proofs.constant_operand.bounded_products.Given as goal

-- the products so far, the capacity for the rest, and the flag of the rows so far
abbrev pub invariant-loop-i : goal.invariant-loop-i
invariant-loop-i g l =
    (vec_capacity l.values ≡ l.len)
    × AreResults g.T.NativePType.ptype
    (results_by (λ (a b : ℤ). Some (a *ℤ b)) (map g.T.NativePType.number l.numbers)
    (g.T.NativePType.number l.factor))
    l.i (map g.T.NativePType.number l.values.items)
    × TellsFaults g.T.NativePType.ptype
    (results_by (λ (a b : ℤ). Some (a *ℤ b)) (map g.T.NativePType.number l.numbers)
    (g.T.NativePType.number l.factor))
    l.i l.fault
