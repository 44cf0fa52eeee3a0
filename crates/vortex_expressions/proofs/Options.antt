-- The parts of options that are present.
use Rattle.std.proofs.Common.{◌≡◌, Bool, true, false, Option, Some, None, refl, option_map}
use Rattle.std.specs.Prelude.{if◌then◌else◌}
use Rattle.vortex_expressions.specs.Writing.{both, all_three}

pub record Both {A B : Type 0} (f : A → A → B) (x y : Option A) (c : B) : Type 0 where
  pub a : A
  pub b : A
  pub first : x ≡ Some a
  pub second : y ≡ Some b
  pub made : f a b ≡ c

pub some_is : {A : Type 0} (a b : A) → Some a ≡ Some b → a ≡ b
some_is a b e = cc

pub both_is : {A B : Type 0} (f : A → A → B) (x y : Option A) (c : B) → both f x y ≡ Some c
    → Both f x y c
both_is f None y c e = absurd cc
both_is f (Some a) None c e = absurd cc
both_is f (Some a) (Some b) c e =
    record { a = a; b = b; first = refl; second = refl; made = some_is (f a b) c e }

pub record Three {A B : Type 0} (f : A → A → A → B) (x y z : Option A) (d : B) : Type 0 where
  pub a : A
  pub b : A
  pub c : A
  pub first : x ≡ Some a
  pub second : y ≡ Some b
  pub third : z ≡ Some c
  pub made : f a b c ≡ d

pub three_is : {A B : Type 0} (f : A → A → A → B) (x y z : Option A) (d : B)
    → all_three f x y z ≡ Some d → Three f x y z d
three_is f None y z d e = absurd cc
three_is f (Some a) None z d e = absurd cc
three_is f (Some a) (Some b) None d e = absurd cc
three_is f (Some a) (Some b) (Some c) d e =
    record {
      a = a;
      b = b;
      c = c;
      first = refl;
      second = refl;
      third = refl;
      made =
          some_is (f a b c) d e;
    }

pub record Mapped {A B : Type 0} (f : A → B) (x : Option A) (c : B) : Type 0 where
  pub a : A
  pub there : x ≡ Some a
  pub made : f a ≡ c

pub mapped_is : {A B : Type 0} (f : A → B) (x : Option A) (c : B) → option_map f x ≡ Some c
    → Mapped f x c
mapped_is f None c e = absurd cc
mapped_is f (Some a) c e = record { a = a; there = refl; made = some_is (f a) c e }

pub record Where {A : Type 0} (b : Bool) (x : Option A) (c : A) : Type 0 where
  pub so : b ≡ true
  pub there : x ≡ Some c

pub where_is : {A : Type 0} (b : Bool) (x : Option A) (c : A) → (if b then x else None) ≡ Some c
    → Where b x c
where_is true x c e = record { so = refl; there = e }
where_is false x c e = absurd cc
