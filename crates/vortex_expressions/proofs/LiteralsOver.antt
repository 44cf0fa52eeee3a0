-- The texts and the literals of an expression, as they are bound.
use Rattle.std.specs.Prelude.{if◌then◌else◌}
use Rattle.std.proofs.Common.{◌≡◌, ℕ, Bool, true, false, List, Option, Some, None}
use Rattle.std.proofs.Common.{refl, ap, subst, option_map, ℤ}
use Rattle.std.specs.Prelude.{IsUtf8, ⊤}
use Rattle.std.specs.Option.{option_and_then}
use Rattle.std.specs.Str.{is_utf8}
use Rattle.std.proofs.lemmas.Str.{IsUtf8-from_is_utf8}
use Rattle.vortex_types.specs.declared.dtype.PType.{PType}
use Rattle.vortex_types.specs.LogicalTypes.{LogicalType, null_type, bool_type, integer_type}
use Rattle.vortex_types.specs.LogicalTypes.{text_type, bytes_type, struct_type, list_type}
use Rattle.vortex_types.specs.LogicalTypes.{fixed_size_list_type, map_type}
use Rattle.vortex_types.specs.LogicalTypes.{with_nullability}
use Rattle.vortex_types.specs.ScalarView.{ScalarView}
use Rattle.vortex_types.specs.Typing.{HasType}
use Rattle.vortex_types.specs.Values as value
use Rattle.vortex_types.specs.Values.{Value}
use Rattle.vortex_cells.specs.Ranges.{in_range}
use Rattle.vortex_cells.specs.CellValues.{integer_of, number_of, number_where}
use Rattle.vortex_cells.proofs.Numbers as numbers
use Rattle.vortex_expressions.specs.Literals as literal
use Rattle.vortex_expressions.specs.Literals.{Literal, value_at}
use Rattle.vortex_expressions.specs.Outcomes.{Outcome, answers, refuses, missing, and_then}
use Rattle.vortex_expressions.specs.Outcomes.{or_refuses}
use Rattle.vortex_expressions.specs.declared.refusal.Refusal.{Refusal}
use Rattle.vortex_expressions.specs.declared.refusal.Refusal.TheVariants.{NotUtf8}
use Rattle.vortex_expressions.specs.Calls.{text_of}

-- outcomes with a result
pub answers_is : {A : Type 0} (a b : A) → answers a ≡ answers b → a ≡ b
answers_is a b e = cc

pub record Then {A B : Type 0} (o : Outcome A) (f : A → Outcome B) (b : B) : Type 0 where
  pub a : A
  pub first : o ≡ answers a
  pub second : f a ≡ answers b

pub then_is : {A B : Type 0} (o : Outcome A) (f : A → Outcome B) (b : B) → and_then o f ≡ answers b
    → Then o f b
then_is (answers a) f b e = record { a = a; first = refl; second = e }
then_is (refuses r) f b e = absurd cc
then_is missing f b e = absurd cc

pub there_is : {A : Type 0} (r : Refusal) (o : Option A) (a : A) → or_refuses r o ≡ answers a
    → o ≡ Some a
there_is r None a e = absurd cc
there_is r (Some b) a e = ap (λ v. Some v) (answers_is b a e)

pub some_is : {A : Type 0} (a b : A) → Some a ≡ Some b → a ≡ b
some_is a b e = cc

-- texts
pub record IsRead (w v : List ℕ) : Type 0 where
  pub same : w ≡ v
  pub utf8 : IsUtf8 v

pub text_read : (w v : List ℕ) → text_of w ≡ answers v → IsRead w v
text_read w v e = by (is_utf8 w) refl e
  where
    by : (b : Bool) → is_utf8 w ≡ b → (if b then answers w else refuses NotUtf8) ≡ answers v
        → IsRead w v
    by true h g = let same = answers_is w v g in
        record { same = same; utf8 = subst IsUtf8 same (IsUtf8-from_is_utf8 w h) }
    by false h g = absurd cc

-- literals whose texts are texts
abbrev pub IsText : Literal → Type 0
IsText (literal.text bs) = IsUtf8 bs
IsText l = ⊤

pub null_typed : (t : LogicalType) → HasType (with_nullability t true) value.null
null_typed null_type = refl
null_typed (bool_type n) = refl
null_typed (integer_type p n) = refl
null_typed (text_type n) = refl
null_typed (bytes_type n) = refl
null_typed (struct_type fs n) = refl
null_typed (list_type t n) = refl
null_typed (fixed_size_list_type t k n) = refl
null_typed (map_type k v n) = refl

pub record Held (p : PType) (w : List ℕ) (v : Value) : Type 0 where
  pub z : ℤ
  pub is : value.number z ≡ v
  pub held : in_range p z ≡ true

pub number_held : (p : PType) (w : List ℕ) (v : Value) → number_of p w ≡ Some v → Held p w v
number_held p w v e = by (integer_of w) e
  where
    here : (z : ℤ) (b : Bool) → in_range p z ≡ b → number_where b z ≡ Some v → Held p w v
    here z true h g = record { z = z; is = some_is (value.number z) v g; held = h }
    here z false h g = absurd cc

    by : (o : Option ℤ) → option_and_then (λ z. number_where (in_range p z) z) o ≡ Some v
        → Held p w v
    by None g = absurd cc
    by (Some z) g = here z (in_range p z) refl g

pub number_typed : (p : PType) (n : Bool) (w : List ℕ) (s : ScalarView) (o : Option Value)
    → number_of p w ≡ o → option_map (λ v. record { dtype = integer_type p n; value = v }) o
    ≡ Some s
    → HasType s.dtype s.value
number_typed p n w s None h e = absurd cc
number_typed p n w s (Some v) h e =
    let k = number_held p w v h in
    let typed_here : HasType (integer_type p n) v =
    subst (λ (x : Value). HasType (integer_type p n) x) k.is (numbers.fits p k.z k.held) in
    subst (λ (x : ScalarView). HasType x.dtype x.value)
    (some_is (record { dtype = integer_type p n; value = v }) s e) typed_here

pub truth_typed : (n b : Bool) (s : ScalarView) → value_at (bool_type n) (literal.truth b) ≡ Some s
    → HasType s.dtype s.value
truth_typed n true s e =
    subst (λ (x : ScalarView). HasType x.dtype x.value)
    (some_is (record { dtype = bool_type n; value = value.truth true }) s e) tt
truth_typed n false s e =
    subst (λ (x : ScalarView). HasType x.dtype x.value)
    (some_is (record { dtype = bool_type n; value = value.truth false }) s e) tt

pub text_typed : (n : Bool) (bs : List ℕ) (s : ScalarView) → IsUtf8 bs
    → value_at (text_type n) (literal.text bs) ≡ Some s → HasType s.dtype s.value
text_typed n bs s u e =
    subst (λ (x : ScalarView). HasType x.dtype x.value)
    (some_is (record { dtype = text_type n; value = value.text bs }) s e) u

pub value_typed : (t : LogicalType) (l : Literal) (s : ScalarView) → IsText l → value_at t l ≡ Some s
    → HasType s.dtype s.value
value_typed t literal.null s u e =
    subst (λ (x : ScalarView). HasType x.dtype x.value)
    (some_is (record { dtype = with_nullability t true; value = value.null }) s e) (null_typed t)
value_typed (integer_type p n) (literal.number w) s u e =
    number_typed p n w s (number_of p w) refl e
value_typed t (literal.number w) s u e = absurd cc
value_typed (bool_type n) (literal.truth b) s u e = truth_typed n b s e
value_typed t (literal.truth b) s u e = absurd cc
value_typed (text_type n) (literal.text bs) s u e = text_typed n bs s u e
value_typed (integer_type p n) (literal.text bs) s u e =
    number_typed p n bs s (number_of p bs) refl e
value_typed t (literal.text bs) s u e = absurd cc
