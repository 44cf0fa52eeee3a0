-- Scalars are partially ordered: by their values, where their types agree apart from nullability.
use Rattle.std.specs.Prelude.{◌≡◌, Bool, true, false, Option, Some, None, refl, if◌then◌else◌}
use Rattle.std.specs.Prelude.{option_map}
use Rattle.std.proofs.Common.{ap, ◌∙◌}
use Rattle.std.specs.declared.cmp.Ordering.{Ordering}
use Rattle.std.specs.declared.cmp.Ordering.TheVariants.{Less, Equal, Greater}
use Rattle.std.specs.Ordering.{is_eq, is_some_and, ordering_reverse}
use Rattle.std.specs.Bool.{Decides}
use Rattle.std.specs.Cmp.{IsPartialEquivalence, IsPartialOrder, IsEquivalence, on_equiv, decided}
use Rattle.std.specs.Cmp.{Equal-is}
use Rattle.vortex_types.specs.LogicalTypes.{without_nullability}
use Rattle.vortex_types.specs.TypeEquality.{type_eq, type_eq-decides, alike_types}
use Rattle.vortex_types.specs.Order.{compare_values}
use Rattle.vortex_types.specs.OrderLaws.{compare_values_total}
use Rattle.vortex_types.specs.ScalarView.{ScalarView, compare_scalars, scalar_eq}

-- types that agree apart from nullability are an equivalence
pub alike_types-laws : IsEquivalence alike_types
alike_types-laws = on_equiv without_nullability (decided type_eq type_eq-decides)

abbrev pub ordered_where : Bool → Ordering → Option Ordering
ordered_where b r = if b then Some r else None

reversed : (b : Bool) (r s : Ordering) → r ≡ ordering_reverse s
    → ordered_where b r ≡ option_map ordering_reverse (ordered_where b s)
reversed true r s e = ap Some e
reversed false r s e = refl

equal_decides : (b : Bool) (r : Ordering)
    → Decides (is_some_and is_eq (ordered_where b r)) (ordered_where b r ≡ Some Equal)
equal_decides true r = (λ h. ap Some ((Equal-is r).0 h), λ e. ap (is_some_and is_eq) e)
equal_decides false r = (λ h. cc, λ e. cc)

equal_parts : (b : Bool) (r : Ordering) → is_some_and is_eq (ordered_where b r) ≡ true
    → (b ≡ true) × (r ≡ Equal)
equal_parts true r h = (refl, (Equal-is r).0 h)
equal_parts false r h = cc

less_parts : (b : Bool) (r : Ordering) → ordered_where b r ≡ Some Less → (b ≡ true) × (r ≡ Less)
less_parts true r h = (refl, cc)
less_parts false r h = cc

pub compare_scalars-laws : IsPartialOrder scalar_eq compare_scalars
compare_scalars-laws = record {
  antisymm =
      λ x y.
      ap (λ b. ordered_where b (compare_values x.value y.value))
      (alike_types-laws.symm x.dtype y.dtype)
      ∙ reversed (alike_types y.dtype x.dtype) _ _
      (compare_values_total.antisymm x.value y.value);
  trans = λ x y z d e.
      let p = less_parts (alike_types x.dtype y.dtype) (compare_values x.value y.value) d in
      let q = less_parts (alike_types y.dtype z.dtype) (compare_values y.value z.value) e in
      (λ i.
      ordered_where ((alike_types-laws.congr x.dtype y.dtype z.dtype p.0 ∙ q.0) i)
      (compare_values_total.trans x.value y.value z.value p.1 q.1 i));
  matches_eq = λ x y. equal_decides (alike_types x.dtype y.dtype) (compare_values x.value y.value);
  congr = λ x y z h.
      let p = equal_parts (alike_types x.dtype y.dtype) (compare_values x.value y.value) h in
      (λ i.
      ordered_where (alike_types-laws.congr x.dtype y.dtype z.dtype p.0 i)
      (compare_values_total.congr x.value y.value z.value p.1 i));
}

-- where x equals y, both compare alike with every z
equal_alike : (x y z : ScalarView) → scalar_eq x y ≡ true → scalar_eq x z ≡ scalar_eq y z
equal_alike x y z h = ap (is_some_and is_eq) (compare_scalars-laws.congr x y z h)

equal_flip : (r : Ordering) → is_eq (ordering_reverse r) ≡ is_eq r
equal_flip Less = refl
equal_flip Equal = refl
equal_flip Greater = refl

equal_flipped : (o : Option Ordering)
    → is_some_and is_eq (option_map ordering_reverse o) ≡ is_some_and is_eq o
equal_flipped None = refl
equal_flipped (Some r) = equal_flip r

equal_symm : (x y : ScalarView) → scalar_eq x y ≡ scalar_eq y x
equal_symm x y =
    ap (is_some_and is_eq) (compare_scalars-laws.antisymm x y) ∙ equal_flipped (compare_scalars y x)

pub scalar_eq-laws : IsPartialEquivalence scalar_eq
scalar_eq-laws = record {
  symm = equal_symm;
  trans = λ x y z h k. equal_alike x y z h ∙ k;
}
