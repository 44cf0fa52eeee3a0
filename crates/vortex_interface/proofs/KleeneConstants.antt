-- And and Or of a truth value that decides, and of one that does not.
use Rattle.std.proofs.Common.{◌≡◌, Bool, true, false, Option, Some, refl, ap, ◌∙◌, arith}
use Rattle.vortex_types.specs.LogicalTypes.{bool_type}
use Rattle.vortex_types.specs.Values.{Value, null, truth, truth_of}
use Rattle.vortex_types.specs.Values.{truth_or_null}
use Rattle.vortex_types.specs.Typing.{HasType}
use Rattle.vortex_operators.specs.declared.operators.Operator.{Operator}
use Rattle.vortex_operators.specs.declared.operators.Operator.TheVariants.{And, Or}
use Rattle.vortex_operators.specs.Operators.{is_boolean}
use Rattle.vortex_operators.specs.Kleene.{kleene, decides}

-- a property of And and of Or holds for any operator of truth values
pub of_boolean : (P : Operator → Type 0) → P And → P Or → (op : Operator) → is_boolean op ≡ true
    → P op
of_boolean P a o And h = a
of_boolean P a o Or h = o
of_boolean P a o op h = cc

-- the order of the operands does not matter
kleene_turned : (op : Operator) (c : Bool) (a : Option Bool) → is_boolean op ≡ true
    → kleene op a (Some c) ≡ kleene op (Some c) a
kleene_turned And c a h = grind arith
kleene_turned Or c a h = grind arith
kleene_turned op c a h = cc

decides_boolean : (op : Operator) (b : Bool) → decides op b ≡ true → is_boolean op ≡ true
decides_boolean And b h = refl
decides_boolean Or b h = refl
decides_boolean op b h = cc

pub left_decides : (op : Operator) (b : Bool) (a : Option Bool) → decides op b ≡ true
    → kleene op (Some b) a ≡ Some b
left_decides And false a h = refl
left_decides Or true a h = refl
left_decides op b a h = cc

pub right_decides : (op : Operator) (b : Bool) (a : Option Bool) → decides op b ≡ true
    → kleene op a (Some b) ≡ Some b
right_decides op b a h = kleene_turned op b a (decides_boolean op b h) ∙ left_decides op b a h

pub left_leaves : (op : Operator) (b : Bool) (a : Option Bool) → is_boolean op ≡ true
    → decides op b ≡ false → kleene op (Some b) a ≡ a
left_leaves And true a o h = grind arith
left_leaves Or false a o h = grind arith
left_leaves op b a o h = cc

-- a value of Bool is its truth value, or null
pub truth_back : (n : Bool) (v : Value) → HasType (bool_type n) v → truth_or_null (truth_of v) ≡ v
truth_back n null h = refl
truth_back n (truth b) h = refl
truth_back n v h = absurd h

pub truth_is : (v : Value) (b : Bool) → truth_of v ≡ Some b → v ≡ truth b
truth_is (truth a) b h = let same : a ≡ b = cc in ap truth same
truth_is v b h = cc

-- a value of Bool without null
pub truth_in : (v : Value) → HasType (bool_type false) v → (c : Bool) × (v ≡ truth c)
truth_in null h = cc
truth_in (truth b) h = (b, refl)
truth_in v h = absurd h
