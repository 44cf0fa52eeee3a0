-- What a script calls, by its words.
use Rattle.std.proofs.Common.{◌≡◌, ℕ, Option, Some, None, ap}
use Rattle.std.specs.Option.{option_map, option_and_then}
use Rattle.vortex_interface.specs.Shipped.{Shipped, escaped}
use Rattle.vortex_interface.specs.Functions.{Function, ours}
use Rattle.vortex_functions.specs.FunctionOf.{escaped_function}

module _ {V O : Type 0} where
  pub as_named : (x : Function V O) (o : Option Shipped) → Some x ≡ option_map ours o
      → Some x ≡ option_map ours (option_and_then (escaped None) o)
  as_named x None h = cc
  as_named x (Some f) h = h

  pub with_said : (x : Function V O) (o : Option Shipped) (escape : Option ℕ)
      → Some x ≡ option_map ours o
      → escaped_function escape x ≡ option_map ours (option_and_then (escaped (Some escape)) o)
  with_said x None escape h = cc
  with_said x (Some f) escape h = let same : x ≡ ours f = cc in ap (escaped_function escape) same
