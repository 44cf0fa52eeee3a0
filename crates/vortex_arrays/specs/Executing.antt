-- When executing an array fails. All its columns are in it.
use Rattle.std.specs.Prelude.{[]}
use Rattle.vortex_interface.specs.Meaning.{Meaning}
use Rattle.vortex_interface.specs.Weights.{OnlyShipped}
use Rattle.vortex_interface.specs.ArithmeticFaults.{FaultsExactly}
use Rattle.vortex_functions.specs.Arrays.{Array, tree_in, rows_in}

-- for an array tree of shipped functions: fails exactly where in some row arithmetic overflows
abbrev pub ArraysErrWhereArithmeticDoes : {V O : Type 0} → Meaning V O → Type 0
ArraysErrWhereArithmeticDoes {V} {O} m =
    (a : Array V O) → OnlyShipped (tree_in a) → FaultsExactly m [] (rows_in a) (tree_in a)
