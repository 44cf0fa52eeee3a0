-- A low end of the floats that are no NaN is one of all floats.
use Rattle.std.specs.Prelude.{◌≡◌, ◌⊎◌, ℕ, ◌<◌, List, length, Bool, true, false, Option, Some, None}
use Rattle.std.specs.Prelude.{slice_index_or, IfSome, All, T, refl}
use Rattle.std.specs.Option.{option_map}
use Rattle.std.proofs.Common.{ap, sym, subst, ◌∙◌, cond, inl, inr}
use Rattle.std.specs.declared.cmp.Ordering.TheVariants.{Less, Equal, Greater}
use Rattle.std.specs.Float.{Float, Format}
use Rattle.std.specs.Float.Ieee.{is_nan, lt}
use Rattle.std.specs.Ordering.{is_le, nan_last_cmp, int_cmp}
use Rattle.vortex_types.specs.Values.{Value, null, number}
use Rattle.vortex_statistics.specs.StatisticsView.{EndView, StatisticsView, is_at_most}
use Rattle.vortex_statistics.specs.Describes.{Describes, IsBehind, IsLowEnd, is_bounded}
use Rattle.vortex_logical.specs.FloatKeys.{key_of_float, KeysAreOrdered}
use Rattle.yurkije_pruning.specs.Floats.{IsFloat, AreFloats, IsLowOfNumbers, outer, low_alone}
use Rattle.yurkije_pruning.specs.Floats.{DescribesNumbers, LowEndsHoldOfNan}

-- no float is above a NaN
nan_is_last : (x y : Float) → is_nan y ≡ true → is_le (nan_last_cmp x y) ≡ true
nan_is_last x y e =
    (λ i. is_le (cond (is_nan x) (cond (e i) Equal Greater)
    (cond (e i) Less (cond (lt x y) Less (cond (lt y x) Greater Equal)))))
    ∙ by (is_nan x)
  where
    by : (b : Bool) → is_le (cond b Equal Less) ≡ true
    by true = refl
    by false = refl

module _ (ordered : KeysAreOrdered) (f : Format) (low : Value) (end : IsFloat f low) where
  under_nan : (v : Value) → (x : IsFloat f v) → is_nan x.float ≡ true → is_at_most low v ≡ true
  under_nan v x e =
      subst (λ w. is_at_most w v ≡ true) (sym end.stored)
      (subst (λ w. is_at_most (number (key_of_float f end.float)) w ≡ true) (sym x.stored)
      (ap is_le (ordered f end.float x.float end.fitting x.fitting)
      ∙ nan_is_last end.float x.float e))

  under_each : (v : Value) → (v ≡ null) ⊎ IsFloat f v
      → ((x : IsFloat f v) → is_nan x.float ≡ false → is_at_most low v ≡ true)
      → (skips : Bool) → IsBehind is_at_most skips low v
  under_each v (inl e) h skips = λ g.
      let never : true ≡ false = sym g ∙ ap (is_bounded skips) e in cc
  under_each v (inr x) h skips = λ g. by (is_nan x.float) refl
    where
      by : (b : Bool) → is_nan x.float ≡ b → is_at_most low v ≡ true
      by true e = under_nan v x e
      by false e = h x e

low_end : (ordered : KeysAreOrdered) (f : Format) (vs : List Value) (skips : Bool) (e : EndView) → AreFloats f vs
    → IsLowOfNumbers f vs e → IsLowEnd skips vs (outer e)
low_end ordered f vs skips e floats low =
    record {
      outermost = λ k d lt.
          under_each ordered f e.value low.end (slice_index_or vs k d) (floats k d lt) (low.lowest k d lt)
          skips;
      found = λ h. cc;
    }

low_ends : (ordered : KeysAreOrdered) (f : Format) (vs : List Value) (skips : Bool) (o : Option EndView) → AreFloats f vs
    → IfSome o (IsLowOfNumbers f vs) → IfSome (option_map outer o) (IsLowEnd skips vs)
low_ends ordered f vs skips None floats low = tt
low_ends ordered f vs skips (Some e) floats low = low_end ordered f vs skips e floats low

pub low_ends_hold : KeysAreOrdered → LowEndsHoldOfNan
low_ends_hold ordered f s vs h =
    record {
      typed = h.others.typed;
      rows = h.others.rows;
      nulls = h.others.nulls;
      low = low_ends ordered f vs s.skips_nan s.low h.floats h.low;
      high = tt;
    }
