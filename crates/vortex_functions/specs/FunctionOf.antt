-- The function of a `ScalarFnRef`.
use Rattle.std.specs.Prelude.{ℕ, Option, Some, None, Bool, true, false}
use Rattle.std.specs.Option.{option_map}
use Rattle.vortex_functions.specs.declared.erased.ScalarFnRef.{ScalarFnRef}
use Rattle.vortex_functions.specs.declared.erased.ScalarFnRef.TheVariants as ref
use Rattle.vortex_functions.specs.declared.typed.TypedScalarFnInstance.{TypedScalarFnInstance}
use Rattle.vortex_operators.specs.declared.operators.Operator.{Operator}
use Rattle.vortex_operators.specs.declared.between.BetweenOptions.{BetweenOptions}
use Rattle.vortex_like.specs.declared.options.LikeOptions.{LikeOptions}
use Rattle.vortex_interface.specs.Shipped.{escaped, Binary, Not, IsNull, IsNotNull, Cast, Between}
use Rattle.vortex_interface.specs.Shipped.{Like}
use Rattle.vortex_interface.specs.Functions.{Function, ours, custom}

module _ {V O : Type 0} where
  abbrev pub function_of : ScalarFnRef V O → Function V O
  function_of (ref.Binary o) = ours (Binary o)
  function_of ref.Not = ours Not
  function_of ref.IsNull = ours IsNull
  function_of ref.IsNotNull = ours IsNotNull
  function_of ref.Cast = ours Cast
  function_of (ref.Between o) = ours (Between o)
  function_of (ref.Like options) = ours (Like options)
  function_of (ref.Custom f) = custom f.vtable f.options

  abbrev pub operator_in : ScalarFnRef V O → Option Operator
  operator_in (ref.Binary o) = Some o
  operator_in f = None

  abbrev pub is_not : ScalarFnRef V O → Bool
  is_not ref.Not = true
  is_not f = false

  abbrev pub is_is_null : ScalarFnRef V O → Bool
  is_is_null ref.IsNull = true
  is_is_null f = false

  abbrev pub is_is_not_null : ScalarFnRef V O → Bool
  is_is_not_null ref.IsNotNull = true
  is_is_not_null f = false

  abbrev pub is_cast : ScalarFnRef V O → Bool
  is_cast ref.Cast = true
  is_cast f = false

  abbrev pub between_in : ScalarFnRef V O → Option BetweenOptions
  between_in (ref.Between o) = Some o
  between_in f = None

  abbrev pub like_in : ScalarFnRef V O → Option LikeOptions
  like_in (ref.Like options) = Some options
  like_in f = None

  -- the same function with that escape; only Like has one
  abbrev pub escaped_function : Option ℕ → Function V O → Option (Function V O)
  escaped_function escape (ours s) = option_map ours (escaped (Some escape) s)
  escaped_function escape (custom f o) = None

  abbrev pub instance_in : ScalarFnRef V O → Option (TypedScalarFnInstance V O)
  instance_in (ref.Custom f) = Some f
  instance_in f = None
