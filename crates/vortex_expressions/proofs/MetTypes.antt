-- Types that are alike meet in their own type, and no tree is cast there.
use Rattle.std.proofs.Common.{◌≡◌, Bool, true, false, ◌&&◌, List, [], ◌∷◌, Option, Some, None, refl}
use Rattle.std.proofs.Common.{ap, sym, ◌∙◌}
use Rattle.std.specs.Prelude.{not, if◌then◌else◌}
use Rattle.vortex_types.specs.declared.dtype.PType.{PType}
use Rattle.vortex_types.specs.declared.dtype.PType.TheVariants.{I8, I16, I32, I64, U8, U16, U32}
use Rattle.vortex_types.specs.declared.dtype.PType.TheVariants.{U64}
use Rattle.vortex_types.specs.LogicalTypes.{LogicalType, null_type, bool_type, integer_type}
use Rattle.vortex_types.specs.LogicalTypes.{text_type, bytes_type, struct_type, list_type}
use Rattle.vortex_types.specs.LogicalTypes.{fixed_size_list_type, map_type, is_integer_type}
use Rattle.vortex_types.specs.LogicalTypes.{without_nullability}
use Rattle.vortex_sql_rows.specs.Types.{has_all_of}
use Rattle.vortex_expressions.specs.Meeting.{wider, met, met_next, meeting_type, widened_to}
use Rattle.vortex_expressions.proofs.Options.{some_is}

abbrev pub alike : LogicalType → LogicalType → Type 0
alike t u = without_nullability t ≡ without_nullability u

same_wider : (p : PType) → wider p p ≡ p
same_wider I8 = refl
same_wider I16 = refl
same_wider I32 = refl
same_wider I64 = refl
same_wider U8 = refl
same_wider U16 = refl
same_wider U32 = refl
same_wider U64 = refl

ptype_is : (p q : PType) → integer_type p false ≡ integer_type q false → p ≡ q
ptype_is p q e = cc

wider_is : (p q : PType) → p ≡ q → wider p q ≡ p
wider_is p q e = ap (wider p) (sym e) ∙ same_wider p

met_is : (t u : LogicalType) → alike t u → alike (met t u) t
met_is (integer_type p n) (integer_type q m) e =
    ap (λ r. integer_type r false) (wider_is p q (ptype_is p q e))
met_is (integer_type p n) null_type e = refl
met_is (integer_type p n) (bool_type m) e = refl
met_is (integer_type p n) (text_type m) e = refl
met_is (integer_type p n) (bytes_type m) e = refl
met_is (integer_type p n) (struct_type fs m) e = refl
met_is (integer_type p n) (list_type t m) e = refl
met_is (integer_type p n) (fixed_size_list_type t k m) e = refl
met_is (integer_type p n) (map_type k v m) e = refl
met_is null_type u e = refl
met_is (bool_type n) u e = refl
met_is (text_type n) u e = refl
met_is (bytes_type n) u e = refl
met_is (struct_type fs n) u e = refl
met_is (list_type t n) u e = refl
met_is (fixed_size_list_type t k n) u e = refl
met_is (map_type k v n) u e = refl

-- several types, of which each is alike
module _ (v : LogicalType) where
  abbrev pub IsAlike : Option LogicalType → Type 0
  IsAlike o = (w : LogicalType) → o ≡ Some w → alike w v

  abbrev pub AllAlike : List (Option LogicalType) → Type 0
  AllAlike [] = Unit {0}
  AllAlike (o ∷ os) = IsAlike o × AllAlike os

  next_alike : (o p : Option LogicalType) → IsAlike o → IsAlike p → IsAlike (met_next o p)
  next_alike None p f g = g
  next_alike (Some t) None f g = f
  next_alike (Some t) (Some u) f g = λ w e.
      ap without_nullability (sym (some_is (met t u) w e)) ∙ met_is t u (f t refl ∙ sym (g u refl))
      ∙ f t refl

  meeting_from : (o : Option LogicalType) (ps : List (Option LogicalType)) → IsAlike o → AllAlike ps
      → IsAlike (meeting_type o ps)
  meeting_from o [] f h = f
  meeting_from o (p ∷ ps) f h = meeting_from (met_next o p) ps (next_alike o p f h.0) h.1

  none_alike : IsAlike None
  none_alike = λ w e. absurd cc

  pub meeting_alike : (ps : List (Option LogicalType)) → AllAlike ps → IsAlike (meeting_type None ps)
  meeting_alike ps h = meeting_from None ps none_alike h

-- no type has more numbers than itself
not_more : (b : Bool) → (b && not b) ≡ false
not_more true = refl
not_more false = refl

stays_integer : (p q : PType) (n m : Bool) → p ≡ q
    → widened_to (integer_type p n) (integer_type q m) ≡ None
stays_integer p q n m e =
    ap (λ r. if has_all_of p r && not (has_all_of r p) then Some p else None) (sym e)
    ∙ ap (λ b. if b then Some p else None) (not_more (has_all_of p p))

pub stays : (t u : LogicalType)
    → (is_integer_type t ≡ true → is_integer_type u ≡ true → alike t u)
    → widened_to t u ≡ None
stays (integer_type p n) (integer_type q m) f = stays_integer p q n m (ptype_is p q (f refl refl))
stays (integer_type p n) null_type f = refl
stays (integer_type p n) (bool_type m) f = refl
stays (integer_type p n) (text_type m) f = refl
stays (integer_type p n) (bytes_type m) f = refl
stays (integer_type p n) (struct_type fs m) f = refl
stays (integer_type p n) (list_type t m) f = refl
stays (integer_type p n) (fixed_size_list_type t k m) f = refl
stays (integer_type p n) (map_type k v m) f = refl
stays null_type u f = refl
stays (bool_type n) u f = refl
stays (text_type n) u f = refl
stays (bytes_type n) u f = refl
stays (struct_type fs n) u f = refl
stays (list_type t n) u f = refl
stays (fixed_size_list_type t k n) u f = refl
stays (map_type k v n) u f = refl
