-- Arithmetic of two integers as an outcome of a row: null, the exact result, or the fault of the
-- operator; and its laws.
use Rattle.std.specs.Prelude.{◌≡◌, ◌⊎◌, ◌||◌, ◌≤ℤ◌, ℤ, int_lt, List, [], ◌∷◌, Option, Some, None}
use Rattle.std.specs.Prelude.{Bool, true, false, map, Any, refl}
use Rattle.std.specs.Option.{option_map}
use Rattle.std.proofs.Common.{sym, ap, ◌∙◌, subst, cond, arith, inl, inr}
use Rattle.std.proofs.lemmas.Int.{ints}
use Rattle.vortex_checked.specs.Exact.{is_outside}
use Rattle.vortex_types.specs.declared.dtype.PType.{PType}
use Rattle.vortex_errors.specs.declared.error.NumericOperator.{NumericOperator}
use Rattle.vortex_types.specs.LogicalTypes.{LogicalType, integer_type, is_nullable}
use Rattle.vortex_types.specs.LogicalTypes.{without_nullability}
use Rattle.vortex_types.specs.TypeEquality.{ptype_eq, ptype_yes}
use Rattle.vortex_types.specs.Typing.{HasType, least_of, greatest_of}
use Rattle.vortex_types.specs.Values.{Value, null, number}
use Rattle.vortex_operators.specs.Arithmetic.{exact_result, held, arithmetic_value, integer_of_both}
use Rattle.vortex_interface.specs.Outcomes.{Outcome, gives, faults, Fault, arithmetic, GivesType}
use Rattle.vortex_interface.specs.Outcomes.{GivesNull}
use Rattle.vortex_interface.specs.Meaning.{HaveTypes, AreAlike}
use Rattle.vortex_interface.specs.Arguments.{two_there, either_of, or_either}

-- the integer type of two arguments that agree apart from nullability
abbrev pub integer_of : List LogicalType → Option PType
integer_of (t ∷ u ∷ []) = integer_of_both t u
integer_of ts = None

-- that type, nullable if either is
abbrev pub arithmetic_type : List LogicalType → Option LogicalType
arithmetic_type (t ∷ u ∷ []) =
    option_map (λ p. integer_type p (is_nullable t || is_nullable u)) (integer_of_both t u)
arithmetic_type ts = None

abbrev pub value_or_fault : NumericOperator → Option Value → Outcome
value_or_fault o None = faults (arithmetic o)
value_or_fault o (Some v) = gives v

abbrev pub arithmetic_of : NumericOperator → Option PType → Value → Value → Outcome
arithmetic_of o None v w = gives null
arithmetic_of o (Some p) v w = value_or_fault o (arithmetic_value o p v w)

-- null where either is null, the exact result where the type holds it, and else the operator's
-- fault
abbrev pub arithmetic_means : NumericOperator → List LogicalType → List Value → Outcome
arithmetic_means o ts (v ∷ w ∷ []) = arithmetic_of o (integer_of ts) v w
arithmetic_means o ts vs = gives null

within : (l g z : ℤ) → is_outside l g z ≡ false → (l ≤ℤ z) × (z ≤ℤ g)
within l g z e = by (int_lt z l) (int_lt g z) refl refl e
  where
    by : (p q : Bool) → int_lt z l ≡ p → int_lt g z ≡ q → (p || q) ≡ false → (l ≤ℤ z) × (z ≤ℤ g)
    by true q a b f = cc
    by false true a b f = cc
    by false false a b f = (omega (arith, ints, a), omega (arith, ints, b))

held_typed : (o : NumericOperator) (p : PType) (k : Bool) (r : Option ℤ)
    → GivesType (integer_type p k) (value_or_fault o (held p r))
held_typed o p k None = tt
held_typed o p k (Some z) = by (is_outside (least_of p) (greatest_of p) z) refl
  where
    by : (b : Bool) → is_outside (least_of p) (greatest_of p) z ≡ b
        → GivesType (integer_type p k) (value_or_fault o (cond b None (Some (number z))))
    by true e = tt
    by false e = within (least_of p) (greatest_of p) z e

pair_typed : (o : NumericOperator) (p : PType) (n m : Bool) (v w : Value)
    → HasType (integer_type p n) v → HasType (integer_type p m) w
    → GivesType (integer_type p (n || m)) (value_or_fault o (arithmetic_value o p v w))
pair_typed o p n m (number a) (number b) h k = held_typed o p (n || m) (exact_result o a b)
pair_typed o p n m (number a) null h k = or_either n m (inr k)
pair_typed o p n m (number a) w h k = absurd k
pair_typed o p n m null w h k = or_either n m (inl h)
pair_typed o p n m v w h k = absurd h

module _ (o : NumericOperator) where
  typed_by : (p : PType) (a : LogicalType) (n m : Bool) (v w : Value)
      → integer_type p (n || m) ≡ a → HasType (integer_type p n) v → HasType (integer_type p m) w
      → GivesType a (value_or_fault o (arithmetic_value o p v w))
  typed_by p a n m v w is h k =
      subst (λ (x : LogicalType). GivesType x (value_or_fault o (arithmetic_value o p v w))) is
      (pair_typed o p n m v w h k)

  of_integers : (p q : PType) (n m b : Bool) (a : LogicalType) (v w : Value) → ptype_eq p q ≡ b
      → option_map (λ r. integer_type r (n || m)) (cond b (Some p) None) ≡ Some a
      → HasType (integer_type p n) v → HasType (integer_type q m) w
      → GivesType a (arithmetic_of o (cond b (Some p) None) v w)
  of_integers p q n m false a v w same e h k = cc
  of_integers p q n m true a v w same e h k =
      let is : integer_type p (n || m) ≡ a = cc in
      let kept = subst (λ (r : PType). HasType (integer_type r m) w) (sym (ptype_yes p q same)) k in
      typed_by p a n m v w is h kept

  -- a result has the return type
  pub arithmetic_typed : (ts : List LogicalType) (t : LogicalType) (vs : List Value)
      → arithmetic_type ts ≡ Some t → HaveTypes ts vs → GivesType t (arithmetic_means o ts vs)
  arithmetic_typed (integer_type p n ∷ integer_type q m ∷ []) a vs e h =
      two_there (integer_type p n) (integer_type q m)
      (λ us. GivesType a (arithmetic_means o (integer_type p n ∷ integer_type q m ∷ []) us))
      (λ v w x y. of_integers p q n m (ptype_eq p q) a v w refl e x y) vs h
  arithmetic_typed (t ∷ u ∷ []) a vs e h = cc
  arithmetic_typed ts a vs e h = cc

integers_alike : (t u : LogicalType)
    → integer_of_both t u ≡ integer_of_both (without_nullability t) (without_nullability u)
integers_alike (integer_type p n) (integer_type q m) = refl
integers_alike t u = refl

list_alike : (ts : List LogicalType) → integer_of ts ≡ integer_of (map without_nullability ts)
list_alike (t ∷ u ∷ []) = integers_alike t u
list_alike ts = refl

means_alike : (o : NumericOperator) (ts us : List LogicalType) (vs : List Value)
    → integer_of ts ≡ integer_of us → arithmetic_means o ts vs ≡ arithmetic_means o us vs
means_alike o ts us (v ∷ w ∷ []) e = ap (λ (p : Option PType). arithmetic_of o p v w) e
means_alike o ts us vs e = refl

-- it is the same for argument types that differ only in nullability
pub arithmetic_alike : (o : NumericOperator) (ts us : List LogicalType) (vs : List Value)
    → AreAlike ts us → arithmetic_means o ts vs ≡ arithmetic_means o us vs
arithmetic_alike o ts us vs same =
    means_alike o ts us vs (list_alike ts ∙ ap integer_of same ∙ sym (list_alike us))

-- the type is nullable wherever an argument's is
pub arithmetic_nullable : (ts : List LogicalType) (t : LogicalType) → arithmetic_type ts ≡ Some t
    → Any (λ a. is_nullable a ≡ true) ts → is_nullable t ≡ true
arithmetic_nullable (t ∷ u ∷ []) a e h = by (integer_of_both t u) e
  where
    by : (o : Option PType)
        → option_map (λ p. integer_type p (is_nullable t || is_nullable u)) o ≡ Some a
        → is_nullable a ≡ true
    by None g = cc
    by (Some p) g =
        let is : integer_type p (is_nullable t || is_nullable u) ≡ a = cc in
        let one = either_of (λ x. is_nullable x ≡ true) t u h in
        ap is_nullable (sym is) ∙ or_either (is_nullable t) (is_nullable u) one
arithmetic_nullable ts a e h = cc

null_right : (o : NumericOperator) (p : PType) (v : Value) → arithmetic_value o p v null ≡ Some null
null_right o p null = refl
null_right o p v = refl

gives_null : (o : NumericOperator) (p : Option PType) (v w : Value) → (v ≡ null) ⊎ (w ≡ null)
    → GivesNull (arithmetic_of o p v w)
gives_null o None v w h = refl
gives_null o (Some p) v w (inl h) =
    subst (λ (x : Value). GivesNull (value_or_fault o (arithmetic_value o p x w))) (sym h) refl
gives_null o (Some p) v w (inr h) =
    subst (λ (x : Option Value). GivesNull (value_or_fault o x))
    (sym (ap (arithmetic_value o p v) h ∙ null_right o p v)) refl

-- null wherever a value is null
pub arithmetic_null : (o : NumericOperator) (ts : List LogicalType) (vs : List Value)
    → Any (λ v. v ≡ null) vs → GivesNull (arithmetic_means o ts vs)
arithmetic_null o ts (v ∷ w ∷ []) n = gives_null o (integer_of ts) v w
    (either_of (λ x. x ≡ null) v w n)
arithmetic_null o ts vs n = refl

own_fault : (o : NumericOperator) (r : Option Value) (x : Fault)
    → value_or_fault o r ≡ faults x → x ≡ arithmetic o
own_fault o None x e = cc
own_fault o (Some v) x e = cc

fault_of : (o : NumericOperator) (p : Option PType) (v w : Value) (x : Fault)
    → arithmetic_of o p v w ≡ faults x → x ≡ arithmetic o
fault_of o None v w x e = cc
fault_of o (Some p) v w x e = own_fault o (arithmetic_value o p v w) x e

-- a fault is that of the operator
pub arithmetic_fault : (o : NumericOperator) (ts : List LogicalType) (vs : List Value) (x : Fault)
    → arithmetic_means o ts vs ≡ faults x → x ≡ arithmetic o
arithmetic_fault o ts (v ∷ w ∷ []) x e = fault_of o (integer_of ts) v w x e
arithmetic_fault o ts vs x e = cc
