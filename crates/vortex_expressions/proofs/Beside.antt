-- An item next to a literal leaves it its default type.
use Rattle.std.proofs.Common.{◌≡◌, Bool, true, false, ◌&&◌, ◌⊎◌, inl, inr, List, [], ◌∷◌, Option}
use Rattle.std.proofs.Common.{Some, None, refl, ap, sym, subst, ◌∙◌, option_map}
use Rattle.std.specs.Prelude.{map, ◌||◌, if◌then◌else◌, is_some}
use Rattle.std.specs.Option.{option_or}
use Rattle.std.proofs.lemmas.Bool.{false≢true}
use Rattle.vortex_types.specs.declared.dtype.PType.{PType}
use Rattle.vortex_types.specs.declared.dtype.PType.TheVariants.{I64}
use Rattle.vortex_types.specs.LogicalTypes.{LogicalType, null_type, bool_type, integer_type}
use Rattle.vortex_types.specs.LogicalTypes.{text_type, bytes_type, struct_type, list_type}
use Rattle.vortex_types.specs.LogicalTypes.{fixed_size_list_type, map_type, is_integer_type}
use Rattle.vortex_types.specs.LogicalTypes.{without_nullability}
use Rattle.vortex_types.specs.TypeEquality.{alike_types, type_eq-decides, ptype_yes, ptype_eq}
use Rattle.vortex_operators.specs.declared.operators.Operator.{Operator}
use Rattle.vortex_operators.specs.declared.operators.Operator.TheVariants as operator
use Rattle.vortex_interface.specs.Arithmetic.{arithmetic_type}
use Rattle.vortex_interface.specs.Shipped.BinaryFunction.{operator_type, compared_type}
use Rattle.vortex_interface.specs.Shipped.BetweenFunction.{bounded_type}
use Rattle.vortex_operators.specs.OperatorValues.{comparison_type}
use Rattle.vortex_operators.specs.Between.{between_type}
use Rattle.vortex_interface.specs.Eval.{tree_type}
use Rattle.vortex_interface.specs.Functions.{ours}
use Rattle.vortex_interface.specs.Shipped.{Binary}
use Rattle.vortex_expressions.specs.Literals as literal
use Rattle.vortex_expressions.specs.Literals.{Literal, own_type, number_type, type_beside}
use Rattle.vortex_expressions.specs.Literals.{text_type_beside}
use Rattle.vortex_expressions.specs.Outcomes.{answers, and_then, or_refuses}
use Rattle.vortex_expressions.specs.declared.refusal.Refusal.TheVariants.{UntypedNull}
use Rattle.vortex_expressions.specs.Items.{Item, literal, bound, kinded, Tree, meaning}
use Rattle.vortex_expressions.specs.Items.{fraction, interval}
use Rattle.vortex_expressions.specs.Items.{bound_type}
use Rattle.vortex_expressions.specs.Kinded.{is_kinded, stored_item}
use Rattle.vortex_expressions.specs.Items.{literal_type, common_type, constant_at}
use Rattle.vortex_expressions.specs.Items.{is_numeral, next_literal, literals_type}
use Rattle.vortex_expressions.specs.Items.{settled, widened, meeting}
use Rattle.vortex_expressions.specs.Meeting.{meeting_type}
use Rattle.vortex_expressions.specs.Calls.{truth_type, written_function, joined_type}
use Rattle.vortex_expressions.specs.Writing.{written_operator}
use Rattle.vortex_expressions.proofs.Options.{some_is}
use Rattle.vortex_expressions.proofs.LiteralsBack.{Stands}
use Rattle.vortex_expressions.proofs.MetTypes.{alike, AllAlike, IsAlike, meeting_alike, stays}

-- an item next to a literal leaves it its default type: a number and a text take another one next to
-- an integer alone
abbrev pub Beside : Option LogicalType → LogicalType → Type 0
Beside o t = (u : LogicalType) → o ≡ Some u → is_integer_type u ≡ true → alike u t

number_takes : (u : LogicalType) → (is_integer_type u ≡ true → alike u (integer_type I64 false))
    → number_type u ≡ integer_type I64 false
number_takes (integer_type p n) h = h refl
number_takes null_type h = refl
number_takes (bool_type n) h = refl
number_takes (text_type n) h = refl
number_takes (bytes_type n) h = refl
number_takes (struct_type fs n) h = refl
number_takes (list_type t n) h = refl
number_takes (fixed_size_list_type t k n) h = refl
number_takes (map_type k v n) h = refl

no_text : (p : PType) (n : Bool) → alike (integer_type p n) (text_type false) → ⊥
no_text p n e = cc

text_takes : (u : LogicalType) → (is_integer_type u ≡ true → alike u (text_type false))
    → text_type_beside u ≡ text_type false
text_takes (integer_type p n) h = absurd (no_text p n (h refl))
text_takes null_type h = refl
text_takes (bool_type n) h = refl
text_takes (text_type n) h = refl
text_takes (bytes_type n) h = refl
text_takes (struct_type fs n) h = refl
text_takes (list_type t n) h = refl
text_takes (fixed_size_list_type t k n) h = refl
text_takes (map_type k v n) h = refl

takes_own : (o : Option LogicalType) (l : Literal) (t : LogicalType) → own_type l ≡ Some t
    → Beside o t → type_beside o l ≡ Some t
takes_own None (literal.number w) t e h = e
takes_own None (literal.text bs) t e h = e
takes_own None (literal.truth b) t e h = e
takes_own None literal.null t e h = absurd cc
takes_own (Some u) (literal.number w) t e h =
    let is : integer_type I64 false ≡ t = some_is (integer_type I64 false) t e in
    ap (λ v. Some v)
    (number_takes u (λ i. subst (λ (v : LogicalType). alike u v) (sym is) (h u refl i)))
    ∙ e
takes_own (Some u) (literal.text bs) t e h =
    let is : text_type false ≡ t = some_is (text_type false) t e in
    ap (λ v. Some v)
    (text_takes u (λ i. subst (λ (v : LogicalType). alike u v) (sym is) (h u refl i)))
    ∙ e
takes_own (Some u) (literal.truth b) t e h = e
takes_own (Some u) literal.null t e h = absurd cc

stays_there : (o : Option LogicalType) (t : Tree) (ty : LogicalType) → Beside o ty
    → meeting o (Some ty) t ≡ answers t
stays_there None t ty h = refl
stays_there (Some u) t ty h = ap (λ p. widened p t) (stays u ty (λ i n. h u refl i))

pub settles : (o : Option LogicalType) (i : Item) (t : Tree) (ty : LogicalType) → Stands i t
    → tree_type meaning t ≡ Some ty → Beside o ty → settled o i ≡ answers t
settles o (bound u) t ty st e h =
    ap (λ v. meeting o (tree_type meaning v) v) st ∙ ap (λ p. meeting o p t) e
    ∙ stays_there o t ty h
settles o (kinded k u) t ty st e h = absurd st
settles o (fraction w) t ty st e h = absurd st
settles o (interval z) t ty st e h = absurd st
settles o (literal l) t ty st e h =
    let s = st.0 in
    let is : s.dtype ≡ ty = some_is s.dtype ty (ap (tree_type meaning) st.1 ∙ e) in
    let own_here : own_type l ≡ Some ty = st.2 ∙ ap (λ v. Some v) is in
    ap (λ v. and_then (or_refuses UntypedNull v) (constant_at l)) (takes_own o l ty own_here h)
    ∙ ap (constant_at l) (sym is) ∙ st.3 ∙ ap (λ v. answers v) st.1

-- it has no kind
pub stands_plain : (i : Item) (t : Tree) → Stands i t → is_kinded i ≡ false
stands_plain (bound u) t st = refl
stands_plain (literal l) t st = refl
stands_plain (kinded k u) t st = absurd st
stands_plain (fraction w) t st = absurd st
stands_plain (interval z) t st = absurd st

pub stands_stored : (i : Item) (t : Tree) → Stands i t → stored_item i ≡ i
stands_stored (bound u) t st = refl
stands_stored (literal l) t st = refl
stands_stored (kinded k u) t st = absurd st
stands_stored (fraction w) t st = absurd st
stands_stored (interval z) t st = absurd st

-- the type of an item, if it has one
pub bound_is : (i : Item) (t : Tree) (ty u : LogicalType) → Stands i t → tree_type meaning t ≡ Some ty
    → bound_type i ≡ Some u → u ≡ ty
bound_is (bound v) t ty u st e h = some_is u ty (sym h ∙ ap (tree_type meaning) st ∙ e)
bound_is (kinded k v) t ty u st e h = absurd st
bound_is (fraction w) t ty u st e h = absurd st
bound_is (interval z) t ty u st e h = absurd st
bound_is (literal l) t ty u st e h = absurd cc

pub literal_type_is : (i : Item) (t : Tree) (ty u : LogicalType) → Stands i t
    → tree_type meaning t ≡ Some ty → literal_type i ≡ Some u → u ≡ ty
literal_type_is (bound v) t ty u st e h = absurd cc
literal_type_is (kinded k v) t ty u st e h = absurd st
literal_type_is (fraction w) t ty u st e h = absurd st
literal_type_is (interval z) t ty u st e h = absurd st
literal_type_is (literal l) t ty u st e h =
    some_is u ty (sym h ∙ st.2 ∙ ap (tree_type meaning) st.1 ∙ e)

-- the type that literals take is that of one of the items
pub or_is : (x y : Option LogicalType) (u : LogicalType) → option_or x y ≡ Some u
    → (x ≡ Some u) ⊎ (y ≡ Some u)
or_is None y u h = inr h
or_is (Some t) y u h = inl h

pub no_option : {A : Type 0} (a : A) → None ≡ Some a → ⊥
no_option a e = cc

pub pick : {A B C : Type 0} → A ⊎ B → (A → C) → (B → C) → C
pick (inl a) f g = f a
pick (inr b) f g = g b

-- items, each of a tree of that type
abbrev pub IsOfType : Item → LogicalType → Type 0
IsOfType i u = (t : Tree) × Stands i t × (tree_type meaning t ≡ Some u)

abbrev pub AreOfTypes : List Item → List LogicalType → Type 0
AreOfTypes [] [] = Unit {0}
AreOfTypes (i ∷ is) (u ∷ us) = IsOfType i u × AreOfTypes is us
AreOfTypes is us = ⊥

-- types, each that one apart from nullability
abbrev pub EachAlike : LogicalType → List LogicalType → Type 0
EachAlike v [] = Unit {0}
EachAlike v (u ∷ us) = alike u v × EachAlike v us

pub along : (u t v : LogicalType) → u ≡ t → alike t v → alike u v
along u t v e h = ap without_nullability e ∙ h

numeral_type : (i : Item) → is_numeral i ≡ true → literal_type i ≡ Some (integer_type I64 false)
numeral_type (literal (literal.number w)) e = refl
numeral_type (literal (literal.text bs)) e = absurd (false≢true e)
numeral_type (literal (literal.truth b)) e = absurd (false≢true e)
numeral_type (literal literal.null) e = absurd (false≢true e)
numeral_type (bound t) e = absurd (false≢true e)
numeral_type (kinded k t) e = absurd (false≢true e)
numeral_type (fraction w) e = absurd (false≢true e)
numeral_type (interval z) e = absurd (false≢true e)

-- the common type of items is alike, where all of their types are
module _ (v : LogicalType) where
  bound_alike : (is : List Item) (us : List LogicalType) → AreOfTypes is us → EachAlike v us
      → AllAlike v (map bound_type is)
  bound_alike [] us h k = tt
  bound_alike (i ∷ is) [] h k = absurd h
  bound_alike (i ∷ is) (u ∷ us) h k =
      ((λ w b. along w u v (bound_is i h.0.0 u w h.0.1 h.0.2 b) k.0), bound_alike is us h.1 k.1)

  either_alike : (o p : Option LogicalType) → IsAlike v o → IsAlike v p → IsAlike v (option_or o p)
  either_alike None p f g = g
  either_alike (Some t) p f g = f

  next_alike : (o : Option LogicalType) (i : Item) → IsAlike v o → IsAlike v (literal_type i)
      → IsAlike v (next_literal o i)
  next_alike o i f g = by (is_numeral i) refl
    where
      by : (b : Bool) → is_numeral i ≡ b
          → IsAlike v (if b then Some (integer_type I64 false) else option_or o (literal_type i))
      by true e = λ w q. g w (numeral_type i e ∙ q)
      by false e = either_alike o (literal_type i) f g

  literals_alike : (o : Option LogicalType) (is : List Item) (us : List LogicalType)
      → AreOfTypes is us → EachAlike v us → IsAlike v o → IsAlike v (literals_type o is)
  literals_alike o [] us h k f = f
  literals_alike o (i ∷ is) [] h k f = absurd h
  literals_alike o (i ∷ is) (u ∷ us) h k f =
      literals_alike (next_literal o i) is us h.1 k.1
      (next_alike o i f (λ w b. along w u v (literal_type_is i h.0.0 u w h.0.1 h.0.2 b) k.0))

  pub common_alike : (w : LogicalType) (is : List Item) (us : List LogicalType) → AreOfTypes is us
      → EachAlike v us → common_type is ≡ Some w → alike w v
  common_alike w is us h k e =
      pick (or_is (meeting_type None (map bound_type is)) (literals_type None is) w e)
      (meeting_alike v (map bound_type is) (bound_alike is us h k) w)
      (literals_alike None is us h k (λ t q. absurd (no_option t q)) w)

-- an item with its tree, and that tree's type
pub record Operand (t : Tree) : Type 0 where
  pub item : Item
  pub stands : Stands item t
  pub dtype : LogicalType
  pub typed : tree_type meaning t ≡ Some dtype

of_type : {t : Tree} (x : Operand t) → IsOfType x.item x.dtype
of_type {t} x = (t, x.stands, x.typed)

two_beside : {s t : Tree} (x : Operand s) (y : Operand t) (v : LogicalType) → alike x.dtype v
    → alike y.dtype v → Beside (common_type (x.item ∷ y.item ∷ [])) v
two_beside x y v h k = λ u e i.
    common_alike v u (x.item ∷ y.item ∷ []) (x.dtype ∷ y.dtype ∷ [])
    (of_type x, (of_type y, tt)) (h, (k, tt)) e

pub three_beside : {s t r : Tree} (x : Operand s) (y : Operand t) (z : Operand r) (v : LogicalType)
    → alike x.dtype v → alike y.dtype v → alike z.dtype v
    → Beside (common_type (x.item ∷ y.item ∷ z.item ∷ [])) v
three_beside x y z v h k j = λ u e i.
    common_alike v u (x.item ∷ y.item ∷ z.item ∷ []) (x.dtype ∷ y.dtype ∷ z.dtype ∷ [])
    (of_type x, (of_type y, (of_type z, tt))) (h, (k, (j, tt))) e

pub none_beside : (v : LogicalType) → Beside None v
none_beside v = λ u e i. absurd cc

pub other_beside : (w v : LogicalType) → is_integer_type w ≡ false → Beside (Some w) v
other_beside w v h = λ u e i.
    absurd (false≢true (sym h ∙ ap is_integer_type (some_is w u e) ∙ i))

pub settled_operand : {t : Tree} (o : Option LogicalType) (x : Operand t) → Beside o x.dtype
    → settled o x.item ≡ answers t
settled_operand {t} o x h = settles o x.item t x.dtype x.stands x.typed h

-- operators and BETWEEN take types that agree
pub same_alike : (t u : LogicalType) → alike_types t u ≡ true → alike t u
same_alike t u h = (type_eq-decides (without_nullability t) (without_nullability u)).0 h

compared_alike : (t u : LogicalType) → is_some (compared_type (t ∷ u ∷ [])) ≡ true → alike t u
compared_alike t u h = by (alike_types t u) refl h
  where
    by : (b : Bool) → alike_types t u ≡ b → is_some (if b then Some (comparison_type t u) else None)
        ≡ true → alike t u
    by true e g = same_alike t u e
    by false e g = absurd (false≢true g)

integers_alike : (p q : PType) (n m : Bool)
    → is_some (option_map (λ r. integer_type r (n || m)) (if ptype_eq p q then Some p else None))
    ≡ true → alike (integer_type p n) (integer_type q m)
integers_alike p q n m h = by (ptype_eq p q) refl h
  where
    by : (b : Bool) → ptype_eq p q ≡ b
        → is_some (option_map (λ r. integer_type r (n || m)) (if b then Some p else None)) ≡ true
        → alike (integer_type p n) (integer_type q m)
    by true e g = ap (λ r. integer_type r false) (ptype_yes p q e)
    by false e g = absurd (false≢true g)

arithmetic_alike : (t u : LogicalType) → is_some (arithmetic_type (t ∷ u ∷ [])) ≡ true → alike t u
arithmetic_alike (integer_type p n) (integer_type q m) h = integers_alike p q n m h
arithmetic_alike (integer_type p n) u h = absurd (false≢true h)
arithmetic_alike t u h = absurd (false≢true h)

-- the items next to the operands of an operator
pub record Pair (o : Option LogicalType) (t u : LogicalType) : Type 0 where
  pub first : Beside o t
  pub second : Beside o u

truth_pair : (t u : LogicalType) → Pair truth_type t u
truth_pair t u =
    record {
      first = other_beside (bool_type false) t refl;
      second =
          other_beside (bool_type false) u refl;
    }

common_pair : {s t : Tree} (x : Operand s) (y : Operand t) → alike x.dtype y.dtype
    → Pair (common_type (x.item ∷ y.item ∷ [])) x.dtype y.dtype
common_pair x y h =
    record { first = two_beside x y x.dtype refl (sym h); second = two_beside x y y.dtype h refl }

pub operator_pair : {s t : Tree} (o : Operator) (x : Operand s) (y : Operand t)
    → is_some (operator_type o (x.dtype ∷ y.dtype ∷ [])) ≡ true
    → Pair (joined_type (written_operator o) (x.item ∷ y.item ∷ [])) x.dtype y.dtype
operator_pair operator.And x y h = truth_pair x.dtype y.dtype
operator_pair operator.Or x y h = truth_pair x.dtype y.dtype
operator_pair operator.Add x y h = common_pair x y (arithmetic_alike x.dtype y.dtype h)
operator_pair operator.Sub x y h = common_pair x y (arithmetic_alike x.dtype y.dtype h)
operator_pair operator.Mul x y h = common_pair x y (arithmetic_alike x.dtype y.dtype h)
operator_pair operator.Div x y h = common_pair x y (arithmetic_alike x.dtype y.dtype h)
operator_pair operator.Eq x y h = common_pair x y (compared_alike x.dtype y.dtype h)
operator_pair operator.NotEq x y h = common_pair x y (compared_alike x.dtype y.dtype h)
operator_pair operator.Lt x y h = common_pair x y (compared_alike x.dtype y.dtype h)
operator_pair operator.Lte x y h = common_pair x y (compared_alike x.dtype y.dtype h)
operator_pair operator.Gt x y h = common_pair x y (compared_alike x.dtype y.dtype h)
operator_pair operator.Gte x y h = common_pair x y (compared_alike x.dtype y.dtype h)

pub operator_back : (o : Operator) → written_function (written_operator o) ≡ ours (Binary o)
operator_back operator.And = refl
operator_back operator.Or = refl
operator_back operator.Add = refl
operator_back operator.Sub = refl
operator_back operator.Mul = refl
operator_back operator.Div = refl
operator_back operator.Eq = refl
operator_back operator.NotEq = refl
operator_back operator.Lt = refl
operator_back operator.Lte = refl
operator_back operator.Gt = refl
operator_back operator.Gte = refl

pub record Bounded (t u v : LogicalType) : Type 0 where
  pub lower : alike t u
  pub upper : alike t v

pub bounded_alike : (t u v : LogicalType) → is_some (bounded_type (t ∷ u ∷ v ∷ [])) ≡ true
    → Bounded t u v
bounded_alike t u v h = by (alike_types t u) (alike_types t v) refl refl h
  where
    by : (a b : Bool) → alike_types t u ≡ a → alike_types t v ≡ b
        → is_some (if a && b then Some (between_type t u v) else None) ≡ true → Bounded t u v
    by true true e g k = record { lower = same_alike t u e; upper = same_alike t v g }
    by true false e g k = absurd (false≢true k)
    by false b e g k = absurd (false≢true k)
