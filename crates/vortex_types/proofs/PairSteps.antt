-- The pairs left to compare as pairs are added and removed, and the result of a step over a pair.
use Rattle.std.proofs.Common.{◌≡◌, ℕ, zero, suc, ◌<◌, Bool, true, false, ◌&&◌, List, []}
use Rattle.std.proofs.Common.{◌∷◌, ◌++◌, String, Global, Box, Option, Some, None, length, get_or}
use Rattle.std.proofs.Common.{refl, sym, ap, ◌∙◌, arith}
use Rattle.std.specs.Prelude.{nat_eq}
use Rattle.vortex_types.specs.Agreement.{nulls_agree, types_agree, fields_agree}
use Rattle.vortex_types.specs.TypeOf.{type_of, struct_fields, allows_null}
use Rattle.vortex_types.specs.TypeParts.{type_weight, type_weights}
use Rattle.vortex_types.specs.TypePairs.{all_agree, pair_agrees, with_first}
use Rattle.vortex_types.specs.declared.dtype.DType.{DType, Struct, FixedSizeList, Map}
use Rattle.vortex_types.specs.declared.dtype.DType as dt
use Rattle.vortex_types.specs.declared.dtype.StructFields.{StructFields}
use Rattle.vortex_types.specs.declared.dtype.Nullability.{Nullability}
use Rattle.vortex_types.specs.declared.dtype.pairs.Pair.{Pair}
use Rattle.vortex_types.proofs.TypeViews.{type_of-Struct, type_of-FixedSizeList, type_of-Map}
use Rattle.vortex_types.proofs.CopySteps.{type_of-List}

pub and_true : (a : Bool) → (a && true) ≡ a
and_true true = refl
and_true false = refl

swap : (a b c : Bool) → (a && (b && c)) ≡ (b && (a && c))
swap true true c = refl
swap true false c = refl
swap false true c = refl
swap false false c = refl

pub all_push : (e : Bool) (ps : List Pair) (p : Pair)
    → all_agree e (ps ++ p ∷ []) ≡ (pair_agrees e p && all_agree e ps)
all_push e [] p = refl
all_push e (q ∷ ps) p =
    ap (λ b. pair_agrees e q && b) (all_push e ps p)
    ∙ swap (pair_agrees e q) (pair_agrees e p) (all_agree e ps)

-- the same after the first as after none
behind : (f : Option Pair) (ps : List Pair) (p : Pair)
    → with_first f (ps ++ p ∷ []) ≡ with_first f ps ++ p ∷ []
behind None ps p = refl
behind (Some q) ps p = refl

pub all_put : (e : Bool) (f : Option Pair) (ps new : List Pair) (p : Pair) → new ≡ ps ++ p ∷ []
    → all_agree e (with_first f new) ≡ (pair_agrees e p && all_agree e (with_first f ps))
all_put e f ps new p h =
    ap (λ rs. all_agree e (with_first f rs)) h ∙ ap (all_agree e) (behind f ps p)
    ∙ all_push e (with_first f ps) p

pub field_weighs_less : (fs : List (String Global × DType)) (k : ℕ) (d : String Global × DType)
    → k < length fs → type_weight (get_or fs k d).1 < type_weights fs
field_weighs_less [] k d h = absurd (omega arith)
field_weighs_less (f ∷ fs) zero d h = omega arith
field_weighs_less (f ∷ fs) (suc k) d h = omega (arith, field_weighs_less fs k d (omega arith))

-- whether two types agree, by their parts and nullability
module _ (e : Bool) (t u : DType) (n m : Nullability) where
  pub struct_pair : (fs gs : StructFields) → t ≡ Struct fs n → u ≡ Struct gs m
      → types_agree e (type_of t) (type_of u)
      ≡ (fields_agree e (struct_fields fs) (struct_fields gs)
      && nulls_agree e (allows_null n) (allows_null m))
  struct_pair fs gs h l =
      let a = ap type_of h ∙ type_of-Struct fs n in
      let b = ap type_of l ∙ type_of-Struct gs m in λ i. types_agree e (a i) (b i)

  pub list_pair : (x y : Box DType Global) (a b : DType) → t ≡ dt.List x n → u ≡ dt.List y m
      → a ≡ x.value → b ≡ y.value
      → types_agree e (type_of t) (type_of u)
      ≡ (types_agree e (type_of a) (type_of b)
      && nulls_agree e (allows_null n) (allows_null m))
  list_pair x y a b h l f g =
      let p = ap type_of h ∙ type_of-List x n in
      let q = ap type_of l ∙ type_of-List y m in
      (λ i. types_agree e (p i) (q i))
      ∙ (λ i. types_agree e (type_of (sym f i)) (type_of (sym g i))
      && nulls_agree e (allows_null n) (allows_null m))

  pub fixed_pair : (x y : Box DType Global) (s r : ℕ) (a b : DType) → t ≡ FixedSizeList x s n
      → u ≡ FixedSizeList y r m → a ≡ x.value → b ≡ y.value
      → types_agree e (type_of t) (type_of u)
      ≡ (types_agree e (type_of a) (type_of b)
      && (nat_eq s r && nulls_agree e (allows_null n) (allows_null m)))
  fixed_pair x y s r a b h l f g =
      let p = ap type_of h ∙ type_of-FixedSizeList x s n in
      let q = ap type_of l ∙ type_of-FixedSizeList y r m in
      (λ i. types_agree e (p i) (q i))
      ∙ (λ i. types_agree e (type_of (sym f i)) (type_of (sym g i))
      && (nat_eq s r && nulls_agree e (allows_null n) (allows_null m)))

  pub map_pair : (k v x y : Box DType Global) (a b p q : DType) → t ≡ Map k v n → u ≡ Map x y m
      → a ≡ k.value → b ≡ v.value → p ≡ x.value → q ≡ y.value
      → types_agree e (type_of t) (type_of u)
      ≡ (types_agree e (type_of a) (type_of p)
      && (types_agree e (type_of b) (type_of q)
      && nulls_agree e (allows_null n) (allows_null m)))
  map_pair k v x y a b p q h l f g r s =
      let one = ap type_of h ∙ type_of-Map k v n in
      let other = ap type_of l ∙ type_of-Map x y m in
      (λ i. types_agree e (one i) (other i))
      ∙ (λ i. types_agree e (type_of (sym f i)) (type_of (sym r i))
      && (types_agree e (type_of (sym g i)) (type_of (sym s i))
      && nulls_agree e (allows_null n) (allows_null m)))

-- a: the parts agree; n: nullability does; x: the others do
pub inside_alike : (a n x y : Bool) → y ≡ (a && x) → true ≡ n → y ≡ ((a && n) && x)
inside_alike a n x y h l = h ∙ ap (λ b. b && x) (sym (and_true a) ∙ ap (λ b. a && b) l)

pub inside_differs : (a n x r : Bool) → r ≡ n → false ≡ n → (r && x) ≡ ((a && n) && x)
inside_differs true n x r h l = ap (λ b. b && x) h
inside_differs false n x r h l = ap (λ b. b && x) (h ∙ sym l)
