-- Kleene's tables give null only where a side allows null.
use Rattle.std.proofs.Common.{◌≡◌, Bool, true, false, Option, Some, None, refl}
use Rattle.std.specs.Prelude.{IsTrue, ◌||◌}
use Rattle.vortex_types.specs.LogicalTypes.{bool_type}
use Rattle.vortex_types.specs.Values.{Value, null, truth, number, text, bytes, list, truth_of}
use Rattle.vortex_types.specs.Typing.{HasType}
use Rattle.vortex_operators.specs.declared.operators.Operator.{Operator}
use Rattle.vortex_operators.specs.declared.operators.Operator.TheVariants.{And, Or}
use Rattle.vortex_operators.specs.Operators.{is_boolean}
use Rattle.vortex_operators.specs.Kleene.{kleene, kleene_and, kleene_or, kleene_not, Allows}

-- a value of Bool is null only where null is allowed
pub allowed : (n : Bool) (v : Value) → HasType (bool_type n) v → Allows n (truth_of v)
allowed n null h = h
allowed n (truth b) h = tt
allowed n (number z) h = absurd h
allowed n (text bs) h = absurd h
allowed n (bytes bs) h = absurd h
allowed n (list vs) h = absurd h

or_left : (n m : Bool) → IsTrue n → IsTrue (n || m)
or_left true m h = refl
or_left false m h = cc

or_right : (n m : Bool) → IsTrue m → IsTrue (n || m)
or_right true m h = refl
or_right false m h = h

and_allowed : (n m : Bool) (a b : Option Bool) → Allows n a → Allows m b
    → Allows (n || m) (kleene_and a b)
and_allowed n m (Some false) b h k = tt
and_allowed n m None (Some false) h k = tt
and_allowed n m (Some true) (Some false) h k = tt
and_allowed n m None None h k = or_left n m h
and_allowed n m None (Some true) h k = or_left n m h
and_allowed n m (Some true) None h k = or_right n m k
and_allowed n m (Some true) (Some true) h k = tt

or_allowed : (n m : Bool) (a b : Option Bool) → Allows n a → Allows m b
    → Allows (n || m) (kleene_or a b)
or_allowed n m (Some true) b h k = tt
or_allowed n m None (Some true) h k = tt
or_allowed n m (Some false) (Some true) h k = tt
or_allowed n m None None h k = or_left n m h
or_allowed n m None (Some false) h k = or_left n m h
or_allowed n m (Some false) None h k = or_right n m k
or_allowed n m (Some false) (Some false) h k = tt

-- the result is null only where a side allows null
pub kleene_allowed : (op : Operator) (n m : Bool) (a b : Option Bool) → is_boolean op ≡ true
    → Allows n a → Allows m b → Allows (n || m) (kleene op a b)
kleene_allowed And n m a b e h k = and_allowed n m a b h k
kleene_allowed Or n m a b e h k = or_allowed n m a b h k
kleene_allowed op n m a b e h k = cc

pub not_allowed : (n : Bool) (a : Option Bool) → Allows n a → Allows n (kleene_not a)
not_allowed n None h = h
not_allowed n (Some b) h = tt
