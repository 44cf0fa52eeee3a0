-- Facts of tests.
use Rattle.std.specs.Prelude.{◌≡◌, ◌&&◌, ◌||◌, Bool, true, false, not, refl}

pub both : (a b : Bool) → a ≡ true → b ≡ true → (a && b) ≡ true
both true b d e = e
both false b d e = cc

pub first : (a b : Bool) → (a && b) ≡ true → a ≡ true
first true b e = refl
first false b e = cc

pub second : (a b : Bool) → (a && b) ≡ true → b ≡ true
second true b e = e
second false b e = cc

pub on_left : (a b : Bool) → a ≡ true → (a || b) ≡ true
on_left true b e = refl
on_left false b e = cc

pub on_right : (a b : Bool) → b ≡ true → (a || b) ≡ true
on_right true b e = refl
on_right false b e = e

pub negated : (a : Bool) → a ≡ false → not a ≡ true
negated true e = cc
negated false e = refl

pub refuted : (a : Bool) → not a ≡ true → a ≡ false
refuted true e = cc
refuted false e = refl

pub either_way : {P : Type 0} (a : Bool) → (a ≡ true → P) → (a ≡ false → P) → P
either_way true f g = f refl
either_way false f g = g refl
