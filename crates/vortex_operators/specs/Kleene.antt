-- Kleene's strong three-valued logic, over a truth value or none, which is null.
use Rattle.std.specs.Prelude.{◌≡◌, Bool, true, false, not, Option, Some, None, IsTrue, refl}
use Rattle.vortex_operators.specs.declared.operators.Operator.{Operator}
use Rattle.vortex_operators.specs.declared.operators.Operator.TheVariants.{And, Or}

-- false if either side is false, else null if either is null, else true
abbrev pub kleene_and : Option Bool → Option Bool → Option Bool
kleene_and (Some false) b = Some false
kleene_and a (Some false) = Some false
kleene_and None b = None
kleene_and a None = None
kleene_and (Some true) (Some true) = Some true

-- true if either side is true, else null if either is null, else false
abbrev pub kleene_or : Option Bool → Option Bool → Option Bool
kleene_or (Some true) b = Some true
kleene_or a (Some true) = Some true
kleene_or None b = None
kleene_or a None = None
kleene_or (Some false) (Some false) = Some false

abbrev pub kleene_not : Option Bool → Option Bool
kleene_not None = None
kleene_not (Some b) = Some (not b)

-- the table of And or Or; other operators have none
abbrev pub kleene : Operator → Option Bool → Option Bool → Option Bool
kleene And a b = kleene_and a b
kleene Or a b = kleene_or a b
kleene o a b = None

-- false decides And, and true decides Or, whatever the other operand; no other operator is decided
-- by one operand
abbrev pub decides : Operator → Bool → Bool
decides And b = not b
decides Or b = b
decides op b = false

-- null only where null is allowed
abbrev pub Allows : Bool → Option Bool → Type 0
Allows n None = IsTrue n
Allows n (Some b) = Unit {0}

-- not (a op b) is (not a) dual (not b)
abbrev pub AreDual : Operator → Operator → Type 0
AreDual op dual = (a b : Option Bool)
    → kleene_not (kleene op a b) ≡ kleene dual (kleene_not a) (kleene_not b)

pub and-or : AreDual And Or
and-or None None = refl
and-or None (Some true) = refl
and-or None (Some false) = refl
and-or (Some true) None = refl
and-or (Some true) (Some true) = refl
and-or (Some true) (Some false) = refl
and-or (Some false) b = refl

pub or-and : AreDual Or And
or-and None None = refl
or-and None (Some true) = refl
or-and None (Some false) = refl
or-and (Some false) None = refl
or-and (Some false) (Some true) = refl
or-and (Some false) (Some false) = refl
or-and (Some true) b = refl
