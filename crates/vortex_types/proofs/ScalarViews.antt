-- The value of a `ScalarValue`, level by level.
use Rattle.std.proofs.Common.{◌≡◌, List, [], ◌∷◌, map, Option, None, Some, Vec, Global, refl, ap}
use Rattle.std.proofs.Common.{◌∙◌, rules}
use Rattle.vortex_types.specs.Values.{Value, value, list, bytes, values_of}
use Rattle.vortex_types.specs.ValueOf.{or_null, value_of, values_or_null, scalar_step}
use Rattle.vortex_types.specs.declared.scalar_value.ScalarValue.{ScalarValue, Binary}
use Rattle.vortex_types.specs.declared.scalar_value.ScalarValue.{List as ListValue, the_lemmas}
use Rattle.vortex_types.specs.declared.scalar_value.ScalarValue.{fold-roll-ScalarValue}
use Rattle.vortex_types.specs.declared.scalar_value.ScalarValue.{roll-ScalarValue}
use denote.Hole.Carrier.{roll}
use Rattle.vortex_types.specs.declared.scalar_value.ScalarValue.TheOpen.{ScalarValue-F}

-- m sees the value inside, if there is one
cells : (m : Option ScalarValue → Option Value) → m None ≡ None
    → ((x : ScalarValue) → m (Some x) ≡ Some (value_of x)) → (vs : List (Option ScalarValue))
    → values_of (map or_null (map m vs)) ≡ values_or_null vs
cells m none some [] = refl
cells m none some (None ∷ vs) = λ i. value (or_null (none i)) (cells m none some vs i)
cells m none some (Some x ∷ vs) = λ i. value (or_null (some x i)) (cells m none some vs i)

pub view-List : (v : Vec (Option ScalarValue) Global)
    → value_of (ListValue v) ≡ list (values_or_null v.items)
unfolding roll-ScalarValue roll
view-List v =
    fold-roll-ScalarValue Value scalar_step (ScalarValue-F.List v)
    ∙ ap list (cells _ refl (λ x. refl) v.items)

pub view-Binary : (v : Vec _ Global) → value_of (Binary v) ≡ bytes v.items
view-Binary v = search (rules, the_lemmas)
