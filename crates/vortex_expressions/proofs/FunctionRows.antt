-- Calls of functions on values of kinds.
use Rattle.std.proofs.Common.{◌≡◌, ◌∙◌, Bool, true, false, cond, List, [], ◌∷◌, Option, Some, None}
use Rattle.std.proofs.Common.{ap, sym, subst, refl}
use Rattle.std.specs.Prelude.{⊤}
use Rattle.vortex_logical.specs.declared.kind.Kind.{Kind}
use Rattle.vortex_logical.specs.declared.operand.Operand.{Operand}
use Rattle.vortex_logical.specs.declared.operand.Operand.TheVariants.{Of}
use Rattle.vortex_logical.specs.CommonKinds.{common_operand}
use Rattle.vortex_sql_rows.specs.declared.types.Takes.{Takes}
use Rattle.vortex_sql_rows.specs.declared.types.Takes.TheVariants.{Alike, Each, Cases}
use Rattle.vortex_standard.specs.declared.standard.Standard.{Standard}
use Rattle.vortex_standard.specs.Standard.{row_of}
use Rattle.vortex_logical_calls.specs.Outcomes as calls
use Rattle.vortex_logical_calls.specs.Calls.{Lowered}
use Rattle.vortex_logical_calls.specs.Alignment.{meet_next, found_next, aligned}
use Rattle.vortex_logical_calls.specs.RowLaws.{IsWithin, ValuesAreAligned, KindsMeet}
use Rattle.vortex_expressions.specs.Outcomes.{Outcome, answers, and_then}
use Rattle.vortex_expressions.specs.Items.{Item, bound, Tree, as_item}
use Rattle.vortex_expressions.specs.Applied.{values_of, function_call}
use Rattle.vortex_expressions.specs.Kinded.{is_plain, item_operand, told}
use Rattle.vortex_expressions.specs.Functions.{call_kind, values_in, met_with, met_values}
use Rattle.vortex_expressions.specs.Functions.{aligned_item, aligned_items, aligned_cases}
use Rattle.vortex_expressions.specs.Functions.{aligned_arguments, result_item, call_in, kinded_call}
use Rattle.vortex_expressions.specs.Functions.{function_item}
use Rattle.vortex_expressions.specs.FunctionRows.{IsNext, IsStored, AreStored, CasesAreStored}
use Rattle.vortex_expressions.specs.FunctionRows.{ArgumentsAreStored, FunctionsCallInKind}
use Rattle.vortex_expressions.proofs.LiteralsOver.{Then, then_is, answers_is}

pub made_told : {A : Type 0} (o : calls.Outcome A) (a : A) → told o ≡ answers a → o ≡ calls.made a
made_told (calls.made b) a e = ap (λ x. calls.made x) (answers_is b a e)
made_told (calls.refused r) a e = absurd cc
made_told calls.untyped a e = absurd cc

pub record IsTold (o : Outcome Tree) (i : Item) : Type 0 where
  pub tree : Tree
  pub is : o ≡ answers tree
  pub same : bound tree ≡ i

pub item_told : (o : Outcome Tree) (i : Item) → as_item o ≡ answers i → IsTold o i
item_told o i e =
    let m = then_is o (λ t. answers (bound t)) i e in
    record { tree = m.a; is = m.first; same = answers_is (bound m.a) i m.second }

-- two operands that meet
meets : (a b c : Operand) → meet_next a b ≡ calls.made c → common_operand a b ≡ Some c
meets a b c e = by (common_operand a b) e
  where
    by : (o : Option Operand) → found_next a b o ≡ calls.made c → o ≡ Some c
    by None h = absurd cc
    by (Some d) h = let same : d ≡ c = cc in ap (λ x. Some x) same

-- the next value, and the kind in which it meets those before it
record IsMetWith (k : Kind) (a : Operand) (i : Item) (b : Operand) : Type 0 where
  x : Lowered
  next : IsNext k i x
  met : common_operand a x.operand ≡ Some b

met_next : (k : Kind) (a b : Operand) (i : Item) → met_with k a i ≡ answers b → IsMetWith k a i b
met_next k a b i e =
    let one = then_is (item_operand k i) (λ x. told (meet_next a x.operand)) b e in
    let met = made_told (meet_next a one.a.operand) b one.second in
    record { x = one.a; next = one.first; met = meets a one.a.operand b met }

-- the value meets the last kind in that kind
record IsMetIn (k : Kind) (c : Operand) (i : Item) : Type 0 where
  x : Lowered
  next : IsNext k i x
  within : IsWithin c x.operand

abbrev AreMetIn : Kind → Operand → List Item → Type 0
AreMetIn k c [] = ⊤
AreMetIn k c (i ∷ is) = IsMetIn k c i × AreMetIn k c is

module _ (law : ValuesAreAligned) (meet : KindsMeet) where
  stays : (k : Kind) (b c x : Operand) (is : List Item) → IsWithin b x
      → met_values k b is ≡ answers c → IsWithin c x
  stays k b c x [] w e = subst (λ z. IsWithin z x) (answers_is b c e) w
  stays k b c x (i ∷ is) w e =
      let one = then_is (met_with k b i) (λ d. met_values k d is) c e in
      let m = met_next k b one.a i one.first in
      stays k one.a c x is (meet.on x b one.a w (meet.left b m.x.operand one.a m.met)) one.second

  all_met : (k : Kind) (a c : Operand) (is : List Item) → met_values k a is ≡ answers c
      → AreMetIn k c is
  all_met k a c [] e = tt
  all_met k a c (i ∷ is) e =
      let one = then_is (met_with k a i) (λ d. met_values k d is) c e in
      let m = met_next k a one.a i one.first in
      let w = stays k one.a c m.x.operand is (meet.right a m.x.operand one.a m.met) one.second in (
        record { x = m.x; next = m.next; within = w },
        all_met k one.a c is one.second,
      )

  item_stored : (k : Kind) (c : Operand) (i j : Item) → IsMetIn k c i
      → aligned_item k c i ≡ answers j → IsStored k c i j
  item_stored k c i j h e =
      let one = then_is (item_operand k i) (λ x. as_item (told (aligned c x))) j e in
      let same : h.x ≡ one.a = answers_is h.x one.a (sym h.next ∙ one.first) in
      let m = item_told (told (aligned c one.a)) j one.second in
      record {
        x = one.a;
        t = m.tree;
        next = one.first;
        is = sym m.same;
        rows = λ s. law c one.a m.tree s (subst (λ y. IsWithin c y.operand) same h.within)
            (made_told (aligned c one.a) m.tree m.is);
      }

  items_stored : (k : Kind) (c : Operand) (is js : List Item) → AreMetIn k c is
      → aligned_items k c is ≡ answers js → AreStored k c is js
  items_stored k c [] js h e = subst (λ z. AreStored k c [] z) (answers_is [] js e) tt
  items_stored k c (i ∷ is) js h e =
      let one = then_is (aligned_item k c i) _ js e in
      let two = then_is (aligned_items k c is) (λ ks. answers (one.a ∷ ks)) js one.second in
      subst (λ z. AreStored k c (i ∷ is) z) (answers_is (one.a ∷ two.a) js two.second)
      (item_stored k c i one.a h.0 one.first, items_stored k c is two.a h.1 two.first)

  cases_stored : (k : Kind) (c : Operand) (is js : List Item) → AreMetIn k c (values_of is)
      → aligned_cases k c is ≡ answers js → CasesAreStored k c is js
  cases_stored k c [] js h e = subst (λ z. CasesAreStored k c [] z) (answers_is [] js e) tt
  cases_stored k c (v ∷ []) js h e =
      let one = then_is (aligned_item k c v) (λ j. answers (j ∷ [])) js e in
      subst (λ z. CasesAreStored k c (v ∷ []) z) (answers_is (one.a ∷ []) js one.second)
      (item_stored k c v one.a h.0 one.first)
  cases_stored k c (q ∷ v ∷ is) js h e =
      let one = then_is (aligned_item k c v) _ js e in
      let two = then_is (aligned_cases k c is) (λ ks. answers (q ∷ one.a ∷ ks)) js one.second in
      subst (λ z. CasesAreStored k c (q ∷ v ∷ is) z)
      (answers_is (q ∷ one.a ∷ two.a) js two.second)
      (refl, item_stored k c v one.a h.0 one.first, cases_stored k c is two.a h.1 two.first)

  arguments_stored : (s : Takes) (k : Kind) (c : Operand) (is js : List Item)
      → AreMetIn k c (values_in s is) → aligned_arguments s k c is ≡ answers js
      → ArgumentsAreStored k c s is js
  arguments_stored Cases k c is js h e = cases_stored k c is js h e
  arguments_stored (Alike x) k c is js h e = items_stored k c is js h e
  arguments_stored (Each x y z) k c is js h e = items_stored k c is js h e

  pub functions : FunctionsCallInKind
  functions f is r p e =
      let k = call_kind f is in
      let takes = (row_of f).types.takes in
      let kinded : kinded_call f k is ≡ answers r =
      ap (λ b. cond b (as_item (function_call f is)) (kinded_call f k is)) (sym p) ∙ e in
      let one = then_is (met_values k (Of k) (values_in takes is)) (λ a. call_in f k a is) r kinded in
      let two = then_is (aligned_arguments takes k one.a is) _ r one.second in
      let three = then_is (function_call f two.a) (λ t. answers (result_item f one.a t)) r two.second in
      record {
        common = one.a;
        js = two.a;
        t = three.a;
        stored = arguments_stored takes k one.a is two.a
            (all_met k (Of k) one.a (values_in takes is) one.first) two.first;
        call = three.first;
        result = sym (answers_is (result_item f one.a three.a) r three.second);
      }
