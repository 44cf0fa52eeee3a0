-- Bounds of trees with the digits that they lack mean what they should, row by row.
use Rattle.std.proofs.Common.{◌≡◌, ◌∙◌, ◌<◌, ◌≤◌, ℕ, Bool, true, false, refl, ap, sym, subst, arith}
use Rattle.std.specs.Prelude.{List, [], ◌∷◌, Option, Some, None, ◌&&◌, ◌||◌, max, is_some, option_and_then, if◌then◌else◌}
use Rattle.vortex_types.specs.declared.dtype.PType.{PType}
use Rattle.vortex_types.specs.declared.dtype.PType.TheVariants.{I64}
use Rattle.vortex_types.specs.LogicalTypes.{LogicalType, integer_type, bool_type}
use Rattle.vortex_types.specs.TypeEquality.{ptype_yes, ptype_refl}
use Rattle.vortex_types.specs.Values.{Value, truth_of, truth_or_null}
use Rattle.vortex_operators.specs.declared.between.BetweenOptions.{BetweenOptions}
use Rattle.vortex_operators.specs.declared.operators.Operator.TheVariants.{And}
use Rattle.vortex_operators.specs.Between.{bound_operator, between_value}
use Rattle.vortex_operators.specs.Kleene.{kleene}
use Rattle.vortex_operators.specs.OperatorValues.{boolean_value}
use Rattle.vortex_interface.specs.Meaning.{Meaning}
use Rattle.vortex_interface.specs.Outcomes.{Outcome, gives}
use Rattle.vortex_interface.specs.Shipped.{Between, shipped_means}
use Rattle.vortex_interface.specs.Shipped.BetweenFunction.{bounded_type}
use Rattle.vortex_interface.specs.Functions.{ours, call_type}
use Rattle.vortex_interface.specs.Trees.{Tree, trees_of, call}
use Rattle.vortex_interface.specs.Eval.{eval, tree_type, tree_types, all_give, with_first, then_means, with_type, types_or_none}
use Rattle.vortex_logical.specs.declared.kind.Kind.TheVariants.{Plain, Date, Timestamp, Decimal, F64, F32}
use Rattle.vortex_logical.specs.declared.operand.Operand.{Operand}
use Rattle.vortex_logical.specs.declared.operand.Operand.TheVariants.{Whole, Of}
use Rattle.vortex_logical.specs.Decimals.{RescalingOrders}
use Rattle.vortex_logical.specs.StandsFor.{StoredValuesAreOrdered}
use Rattle.vortex_lowering.specs.Operands.{are_shipped, operand_ptype, scale_of, bounds_scale, lacking, held_at}
use Rattle.vortex_lowering.specs.Rows.{Lowered, IsOfType, IsTyped}
use Rattle.vortex_lowering.specs.LoweredTrees.{tree_at_scale, bounded_tree}
use Rattle.vortex_lowering.specs.Bounding.{Bounds}
use Rattle.vortex_lowering.proofs.TreeTypes.{each_some, arguments_some}
use Rattle.vortex_lowering.proofs.LengthenedTrees.{some_same, scaled, scaled_typed}
use Rattle.vortex_lowering.proofs.LengthenedRows.{or_fault, row_outcome, truth_value}
use Rattle.vortex_lowering.proofs.RowComparisons.{same_ptype}

abbrev of_bounds : BetweenOptions → List LogicalType → Outcome → Outcome → Outcome → Outcome
of_bounds o ts x low high =
    then_means (shipped_means (Between o) ts) (with_first x (with_first low (with_first high (all_give []))))

bounded_rows : (o : BetweenOptions) (ts : List LogicalType) (b c d : Bool) (x low high : Value)
    → of_bounds o ts (or_fault b (gives x)) (or_fault c (gives low)) (or_fault d (gives high))
    ≡ or_fault (b && (c && d)) (gives (between_value o low x high))
bounded_rows o ts true true true x low high = refl
bounded_rows o ts true true false x low high = refl
bounded_rows o ts true false d x low high = refl
bounded_rows o ts false c d x low high = refl

truth_back : (p : Option Bool) → truth_of (truth_or_null p) ≡ p
truth_back None = refl
truth_back (Some b) = refl

first_in : (a b c : ℕ) → a ≤ max (max a b) c
first_in a b c = omega arith

second_in : (a b c : ℕ) → b ≤ max (max a b) c
second_in a b c = omega arith

third_in : (a b c : ℕ) → c ≤ max (max a b) c
third_in a b c = omega arith

-- three that are compared, of which one lacks digits, are stored in 64 bits
lacking_wide : (low a high : Operand) → are_shipped low a ≡ true → are_shipped a high ≡ true
    → 0 < max (max (scale_of low) (scale_of a)) (scale_of high) → operand_ptype a ≡ Some I64
lacking_wide low (Of (Decimal d)) high r s h = refl
lacking_wide (Of (Decimal d)) (Whole p) high r s h = ap (λ k. Some k) (ptype_yes p I64 r)
lacking_wide (Whole q) (Whole p) (Of (Decimal d)) r s h = ap (λ k. Some k) (ptype_yes p I64 s)
lacking_wide (Whole q) (Whole p) (Whole t) r s h = absurd (omega (arith, h))
lacking_wide (Of Date) (Of Date) (Of Date) r s h = absurd (omega (arith, h))
lacking_wide (Of Timestamp) (Of Timestamp) (Of Timestamp) r s h = absurd (omega (arith, h))
lacking_wide (Of Plain) (Of Plain) (Of Plain) r s h = absurd (omega (arith, h))
lacking_wide (Of F64) (Of F64) (Of F64) r s h = absurd (omega (arith, h))
lacking_wide (Of F32) (Of F32) (Of F32) r s h = absurd (omega (arith, h))
lacking_wide low a high r s h = cc

lacks_some : (u : ℕ) (a : Operand) → 0 < lacking u a → 0 < u
lacks_some u (Of (Decimal d)) h = omega (arith, h)
lacks_some u (Whole p) h = h
lacks_some u (Of Plain) h = absurd (omega (arith, h))
lacks_some u (Of Date) h = absurd (omega (arith, h))
lacks_some u (Of Timestamp) h = absurd (omega (arith, h))
lacks_some u (Of F64) h = absurd (omega (arith, h))
lacks_some u (Of F32) h = absurd (omega (arith, h))

-- bounds of one integer type
bounded_integers : (p : PType) (n k j : Bool)
    → bounded_type (integer_type p n ∷ integer_type p k ∷ integer_type p j ∷ []) ≡ Some (bool_type ((n || k) || j))
bounded_integers p n k j =
    λ i. if (ptype_refl p i && true) && (ptype_refl p i && true) then Some (bool_type ((n || k) || j)) else None

-- the tree of the definition, from its parts
pub bounded_made : {V O : Type 0} (o : BetweenOptions) (x low high : Lowered V O) (u : ℕ) (a b c : Tree V O)
    → u ≡ bounds_scale x.operand low.operand high.operand → a ≡ tree_at_scale u x → b ≡ tree_at_scale u low → c ≡ tree_at_scale u high
    → call (ours (Between o)) (trees_of (a ∷ b ∷ c ∷ [])) ≡ bounded_tree o x low high
bounded_made o x low high u a b c e f g h =
    (λ i. call (ours (Between o)) (trees_of (f i ∷ g i ∷ h i ∷ [])))
    ∙ (λ i. call (ours (Between o)) (trees_of (tree_at_scale (e i) x ∷ tree_at_scale (e i) low ∷ tree_at_scale (e i) high ∷ [])))

module _ {V O : Type 0} (m : Meaning V O) (o : BetweenOptions) (x low high : Lowered V O)
    (lower : are_shipped low.operand x.operand ≡ true) (upper : are_shipped x.operand high.operand ≡ true) where
  pub bounds : StoredValuesAreOrdered → RescalingOrders → (t : Tree V O) → t ≡ bounded_tree o x low high
      → is_some (tree_type m t) ≡ true → Bounds m o x low high t
  bounds ordered orders t is takes cs i v w z p q h g k e f =
      let u = bounds_scale x.operand low.operand high.operand in
      let a = tree_at_scale u x in
      let b = tree_at_scale u low in
      let c = tree_at_scale u high in
      let ts = types_or_none (tree_types m (trees_of (a ∷ b ∷ c ∷ []))) in
      let all = arguments_some m (ours (Between o)) (trees_of (a ∷ b ∷ c ∷ [])) (ap (λ s. is_some (tree_type m s)) (sym is) ∙ takes) in
      let first = each_some (tree_type m a) (tree_types m (trees_of (b ∷ c ∷ []))) all in
      let second = each_some (tree_type m b) (tree_types m (trees_of (c ∷ []))) first.1 in
      let third = each_some (tree_type m c) (Some []) second.1 in
      let one = row_outcome m u x a (scaled m u x first.0) cs i v h in
      let two = row_outcome m u low b (scaled m u low second.0) cs i w g in
      let three = row_outcome m u high c (scaled m u high third.0) cs i z k in
      let sl = scale_of low.operand in
      let sx = scale_of x.operand in
      let sh = scale_of high.operand in
      let left = truth_value ordered orders (bound_operator o.lower_strict) u low.operand x.operand lower
      (first_in sl sx sh) (second_in sl sx sh) w v p two.0 one.0 two.2 one.2 e in
      let right = truth_value ordered orders (bound_operator o.upper_strict) u x.operand high.operand upper
      (second_in sl sx sh) (third_in sl sx sh) v z q one.0 three.0 one.2 three.2 f in
      let held = held_at u x.operand v && (held_at u low.operand w && held_at u high.operand z) in
      ap (λ s. eval m cs s i) is
      ∙ (λ j. of_bounds o ts (one.1 j) (two.1 j) (three.1 j))
      ∙ bounded_rows o ts (held_at u x.operand v) (held_at u low.operand w) (held_at u high.operand z) one.0 two.0 three.0
      ∙ (λ j. or_fault held (gives (boolean_value And (left j) (right j))))
      ∙ (λ j. or_fault held (gives (truth_or_null (kleene And (truth_back p j) (truth_back q j)))))

  wide : (y : Operand) → 0 < lacking (bounds_scale x.operand low.operand high.operand) y → operand_ptype x.operand ≡ Some I64
  wide y h =
      lacking_wide low.operand x.operand high.operand lower upper
      (lacks_some (bounds_scale x.operand low.operand high.operand) y h)

  -- operands of their stored types are compared
  bounded_typed : IsTyped m x → IsTyped m low → IsTyped m high → is_some (tree_type m (bounded_tree o x low high)) ≡ true
  bounded_typed hx hl hh =
      let u = bounds_scale x.operand low.operand high.operand in
      let p = hx.0 in
      let below = same_ptype low.operand x.operand lower in
      let above = sym (same_ptype x.operand high.operand upper) in
      let low_same = some_same hl.0 p (sym hl.1 ∙ below ∙ hx.1) in
      let high_same = some_same hh.0 p (sym hh.1 ∙ above ∙ hx.1) in
      let i = (scaled_typed m u x (wide x.operand) hx).keeps p hx.2 in
      let j = (scaled_typed m u low (λ f. below ∙ wide low.operand f) hl).keeps p (subst (λ r. IsOfType m r low.tree) low_same hl.2) in
      let k = (scaled_typed m u high (λ f. above ∙ wide high.operand f) hh).keeps p (subst (λ r. IsOfType m r high.tree) high_same hh.2) in
      (λ s. is_some (option_and_then (call_type m (ours (Between o))) (with_type (i.1 s) (with_type (j.1 s) (with_type (k.1 s) (Some []))))))
      ∙ ap is_some (bounded_integers p i.0 j.0 k.0)

  -- so no type means that one is not of its stored type
  pub bounds_none : (t : Tree V O) → t ≡ bounded_tree o x low high → tree_type m t ≡ None
      → (tree_type m (bounded_tree o x low high) ≡ None) × ¬ (IsTyped m x × IsTyped m low × IsTyped m high)
  bounds_none t is e =
      let none : tree_type m (bounded_tree o x low high) ≡ None = ap (tree_type m) (sym is) ∙ e in (
        none,
        λ h. let some = bounded_typed h.0 h.1 h.2 in let no : is_some (tree_type m (bounded_tree o x low high)) ≡ false = ap is_some none in cc,
      )
