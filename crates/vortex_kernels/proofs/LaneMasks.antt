-- The processor's comparison of 64 lanes, for the integers in them.
use Rattle.std.proofs.Common.{◌≡◌, ℕ, ◌-◌, ◌^◌, ◌%◌, ◌<◌, ◌≤◌, Bool, true, false, cond, nat_eq, eqb}
use Rattle.std.proofs.Common.{ltb, refl, sym, map, ap, ◌∙◌, subst, arith, get_or, List, length, take}
use Rattle.std.proofs.Common.{replicate, ℤ, pos, FitsSigned, eq-eqb, eqb-true, zero, suc, ◌≤ℤ◌}
use Rattle.std.proofs.Common.{[], ◌∷◌}
use lib.IntN.{negsuc}
use lib.Lanes.{Each1, mask_l, zip2, top}
use mir.Syntax.{Width, w8, w64}
use mir.Val.{bits, hbits, to_z, of_z}
use Rattle.std.specs.Prelude.{int_lt, All}
use Rattle.std.specs.Ordering.{int_cmp, is_eq, is_lt, is_gt}
use Rattle.std.specs.declared.cmp.Ordering.{Ordering}
use Rattle.std.proofs.lemmas.Int.{to_z-of_z, ints}
use Rattle.std.proofs.lemmas.List.{get_or-map, length-map, get_or_default, get_or-replicate, take_all}
use Rattle.std.proofs.lemmas.Simd.{tops_compared, mask_l-mod, bit_mask_l, length-zip2, get_or-zip2}
use Rattle.std.proofs.lemmas.Simd.{length-replicate}
use Rattle.vortex_bits.specs.Bits.{bit}
use Rattle.vortex_kernels.specs.PairOrders.{int_orders, int_orders_with}

bool_clash : true ≡ false → ⊥
bool_clash h = cc

one_is : (b : Bool) → nat_eq (cond b 1 0) 1 ≡ b
one_is true = refl
one_is false = refl

-- the bits of a word of a test of each two lanes
abbrev pub Reads : {X : Type 0} → (X → X → Bool) → (List X → List X → ℕ) → Type 0
Reads {X} t word =
    (xs ys : List X) → length xs ≡ 64 → length ys ≡ 64
    → word xs ys ≡ mask_l (zip2 t xs ys) % 2 ^ 64

-- the top bits of lanes that are all ones where the test is true
pub masked : {X : Type 0} (w : Width) (t : X → X → Bool)
    → Reads t
    (λ xs ys.
    mask_l (map (top (hbits w)) (zip2 (λ a b. cond (t a b) (2 ^ bits w - 1) 0) xs ys)) % 2 ^ 64)
masked w t xs ys e f = ap (λ m. mask_l m % 2 ^ 64) (tops_compared w t xs ys)

-- lanes of 64 bits that are narrowed to bytes first
abbrev negative : ℕ → ℕ → ℕ
negative m z = cond (int_lt (to_z w64 m) (to_z w64 z)) (2 ^ 64 - 1) 0

abbrev byte_lane : ℕ → ℕ
byte_lane m = of_z w8 (to_z w64 m)

byte_top : (b : Bool) → top 7 (byte_lane (negative (cond b (2 ^ 64 - 1) 0) 0)) ≡ b
byte_top true = refl
byte_top false = refl

bytes_compared : {X : Type 0} (t : X → X → Bool) (xs ys : List X) (n : ℕ) → length xs ≡ n
    → map (top 7)
    (map byte_lane
    (zip2 negative (zip2 (λ a b. cond (t a b) (2 ^ 64 - 1) 0) xs ys) (replicate n 0)))
    ≡ zip2 t xs ys
bytes_compared t [] ys n e = refl
bytes_compared t (x ∷ xs) [] n e = refl
bytes_compared t (x ∷ xs) (y ∷ ys) zero e = absurd (omega (arith, e))
bytes_compared t (x ∷ xs) (y ∷ ys) (suc n) e =
    λ i. byte_top (t x y) i ∷ bytes_compared t xs ys n (omega (arith, e)) i

pub narrowed : {X : Type 0} (t : X → X → Bool)
    → Reads t
    (λ xs ys.
    mask_l
    (map (top 7)
    (map byte_lane
    (zip2 negative (zip2 (λ a b. cond (t a b) (2 ^ 64 - 1) 0) xs ys) (replicate 64 0))))
    % 2 ^ 64)
narrowed t xs ys e f = ap (λ m. mask_l m % 2 ^ 64) (bytes_compared t xs ys 64 e)

-- such lanes fit bytes
lane_fits : (b : Bool) → FitsSigned w8 (to_z w64 (cond b (2 ^ 64 - 1) 0))
lane_fits true = record { sfits = omega arith }
lane_fits false = record { sfits = omega arith }

pub lanes_fit : (t : ℕ → ℕ → Bool) (xs ys : List ℕ)
    → Each1 (λ a. FitsSigned w8 (to_z w64 a)) (zip2 (λ a b. cond (t a b) (2 ^ 64 - 1) 0) xs ys)
lanes_fit t [] ys = tt
lanes_fit t (x ∷ xs) [] = tt
lanes_fit t (x ∷ xs) (y ∷ ys) = (lane_fits (t x y), lanes_fit t xs ys)

-- the vectors swapped
zip2_turned : {X : Type 0} (t : X → X → Bool) (xs ys : List X)
    → zip2 t ys xs ≡ zip2 (λ a b. t b a) xs ys
zip2_turned t [] [] = refl
zip2_turned t [] (y ∷ ys) = refl
zip2_turned t (x ∷ xs) [] = refl
zip2_turned t (x ∷ xs) (y ∷ ys) = ap (λ zs. t y x ∷ zs) (zip2_turned t xs ys)

pub turned : {X : Type 0} (t : X → X → Bool) {word : List X → List X → ℕ} → Reads t word
    → Reads (λ a b. t b a) (λ xs ys. word ys xs)
turned t reads xs ys e f =
    reads ys xs f e ∙ ap (λ m. mask_l m % 2 ^ 64) (zip2_turned t xs ys)

compared : {X : Type 0} (t : X → X → Bool) (word : List X → List X → ℕ) → Reads t word → (d : X)
    (xs ys : List X) → length xs ≡ 64 → length ys ≡ 64 → (j : ℕ) → j < 64
    → bit (word xs ys) j ≡ t (get_or xs j d) (get_or ys j d)
compared t word reads d xs ys e f j lt =
    ap (λ m. bit m j) (reads xs ys e f)
    ∙ ap (λ m. bit m j)
    (mask_l-mod (zip2 t xs ys) 64 (omega (arith, length-zip2 t xs ys (e ∙ sym f), e)))
    ∙ ap (λ m. nat_eq m 1) (bit_mask_l (zip2 t xs ys) j)
    ∙ one_is _
    ∙ get_or-zip2 t xs ys j d d false (omega (arith, e)) (omega (arith, f))

-- the order of two numbers decides which is less, and whether they are equal
pub less_is : (a b : ℤ) → int_lt a b ≡ is_lt (int_cmp a b)
less_is a b = grind (arith, ints)

pub greater_is : (a b : ℤ) → int_lt b a ≡ is_gt (int_cmp a b)
greater_is a b = grind (arith, ints)

equal_is : (a b : ℤ) → a ≡ b → true ≡ is_eq (int_cmp a b)
equal_is a b h = grind (arith, ints)

unequal_is : (a b : ℤ) → ¬ (a ≡ b) → false ≡ is_eq (int_cmp a b)
unequal_is a b h = grind (arith, ints)

pub less_unsigned : (a b : ℕ) → ltb a b ≡ is_lt (int_cmp (pos a) (pos b))
less_unsigned a b = less_is (pos a) (pos b)

pub greater_unsigned : (a b : ℕ) → ltb b a ≡ is_gt (int_cmp (pos a) (pos b))
greater_unsigned a b = greater_is (pos a) (pos b)

pub equal_unsigned : (a b : ℕ) → eqb a b ≡ is_eq (int_cmp (pos a) (pos b))
equal_unsigned a b = grind (arith, ints)

-- for unsigned rows
pub unsigned_rows : (t : ℕ → ℕ → Bool) (says : Ordering → Bool)
    → ((a b : ℕ) → t a b ≡ says (int_cmp (pos a) (pos b))) → {word : List ℕ → List ℕ → ℕ}
    → Reads t word → (xs ys : List ℕ) → length xs ≡ 64 → length ys ≡ 64 → (j : ℕ) → j < 64
    → bit (word (take 64 xs) (take 64 ys)) j ≡ says (int_orders (map pos xs) (map pos ys) j)
unsigned_rows t says tells {word} reads xs ys e f j lt =
    (λ i.
    bit (word (take_all 64 xs (omega (arith, e)) i) (take_all 64 ys (omega (arith, f)) i)) j)
    ∙ compared t word reads 0 xs ys e f j lt
    ∙ tells (get_or xs j 0) (get_or ys j 0)
    ∙ sym
    (λ i.
    says
    (int_cmp (get_or-map pos xs j 0 (pos 0) (omega (arith, e)) i)
    (get_or-map pos ys j 0 (pos 0) (omega (arith, f)) i)))

pub unsigned_rows_with : (t : ℕ → ℕ → Bool) (says : Ordering → Bool)
    → ((a b : ℕ) → t a b ≡ says (int_cmp (pos a) (pos b))) → {word : List ℕ → List ℕ → ℕ}
    → Reads t word → (xs : List ℕ) (y : ℕ) → length xs ≡ 64 → (j : ℕ) → j < 64
    → bit (word (take 64 xs) (replicate 64 y)) j
    ≡ says (int_orders_with (map pos xs) (pos y) j)
unsigned_rows_with t says tells {word} reads xs y e j lt =
    (λ i. bit (word (take_all 64 xs (omega (arith, e)) i) (replicate 64 y)) j)
    ∙ compared t word reads 0 xs (replicate 64 y) e (length-replicate 64 y) j lt
    ∙ ap (t (get_or xs j 0)) (get_or-replicate 64 j y 0 lt)
    ∙ tells (get_or xs j 0) y
    ∙ sym (ap (λ z. says (int_cmp z (pos y))) (get_or-map pos xs j 0 (pos 0) (omega (arith, e))))

-- signed numbers within the range known from reading
abbrev pub Within : ℕ → List ℤ → Type 0
Within m xs = All (λ z. (negsuc m ≤ℤ z) × (z ≤ℤ pos m)) (map (λ z. z) xs)

fits_within : (w : Width) (m : ℕ) → suc m ≡ 2 ^ hbits w → (z : ℤ)
    → (negsuc m ≤ℤ z) × (z ≤ℤ pos m) → FitsSigned w z
fits_within w m e (pos n) h = record { sfits = omega (arith, ints, e, h.1) }
fits_within w m e (negsuc n) h = record { sfits = omega (arith, ints, e, h.0) }

fits_at : (w : Width) (m : ℕ) → suc m ≡ 2 ^ hbits w → (xs : List ℤ) → Within m xs → (j : ℕ)
    → j < length xs → FitsSigned w (get_or xs j (pos 0))
fits_at w m e xs h j lt =
    fits_within w m e (get_or xs j (pos 0))
    (subst (λ z. (negsuc m ≤ℤ z) × (z ≤ℤ pos m)) (get_or-map (λ z. z) xs j (pos 0) (pos 0) lt)
    (h j (pos 0) (subst (λ n. j < n) (sym (length-map xs (λ z. z))) lt)))

-- a test of the bits of two signed numbers
abbrev pub SaysOf : Width → (ℕ → ℕ → Bool) → (Ordering → Bool) → Type 0
SaysOf w t says =
    (a b : ℤ) → FitsSigned w a → FitsSigned w b → t (of_z w a) (of_z w b) ≡ says (int_cmp a b)

pub less_signed : (w : Width) → SaysOf w (λ a b. int_lt (to_z w a) (to_z w b)) is_lt
less_signed w a b f g = (λ i. int_lt (to_z-of_z w a f i) (to_z-of_z w b g i)) ∙ less_is a b

pub greater_signed : (w : Width) → SaysOf w (λ a b. int_lt (to_z w b) (to_z w a)) is_gt
greater_signed w a b f g =
    (λ i. int_lt (to_z-of_z w b g i) (to_z-of_z w a f i)) ∙ greater_is a b

pub equal_signed : (w : Width) → SaysOf w eqb is_eq
equal_signed w a b f g = by (eqb (of_z w a) (of_z w b)) refl
  where
    by : (x : Bool) → eqb (of_z w a) (of_z w b) ≡ x
        → eqb (of_z w a) (of_z w b) ≡ is_eq (int_cmp a b)
    by true e =
        e
        ∙ equal_is a b
        (sym (to_z-of_z w a f) ∙ ap (to_z w) (eqb-true _ _ e) ∙ to_z-of_z w b g)
    by false e =
        e
        ∙ unequal_is a b (λ h. absurd (bool_clash (sym (eq-eqb _ _ (ap (of_z w) h)) ∙ e)))

pub signed_rows : (w : Width) (m : ℕ) → suc m ≡ 2 ^ hbits w → (t : ℕ → ℕ → Bool)
    (says : Ordering → Bool) → SaysOf w t says → {word : List ℕ → List ℕ → ℕ} → Reads t word
    → (xs ys : List ℤ) → length xs ≡ 64 → length ys ≡ 64 → Within m xs → Within m ys → (j : ℕ)
    → j < 64
    → bit (word (map (of_z w) (take 64 xs)) (map (of_z w) (take 64 ys))) j
    ≡ says (int_orders (map (λ z. z) xs) (map (λ z. z) ys) j)
signed_rows w m room t says tells {word} reads xs ys e f fx fy j lt =
    let p : j < length xs = omega (arith, e) in
    let q : j < length ys = omega (arith, f) in
    (λ i.
    bit
    (word (map (of_z w) (take_all 64 xs (omega (arith, e)) i))
    (map (of_z w) (take_all 64 ys (omega (arith, f)) i)))
    j)
    ∙ compared t word reads 0 (map (of_z w) xs) (map (of_z w) ys) (length-map xs (of_z w) ∙ e)
    (length-map ys (of_z w) ∙ f) j lt
    ∙ (λ i. t (get_or-map (of_z w) xs j (pos 0) 0 p i) (get_or-map (of_z w) ys j (pos 0) 0 q i))
    ∙ tells (get_or xs j (pos 0)) (get_or ys j (pos 0)) (fits_at w m room xs fx j p)
    (fits_at w m room ys fy j q)
    ∙ sym
    (λ i.
    says
    (int_cmp (get_or-map (λ z. z) xs j (pos 0) (pos 0) p i)
    (get_or-map (λ z. z) ys j (pos 0) (pos 0) q i)))

pub signed_rows_with : (w : Width) (m : ℕ) → suc m ≡ 2 ^ hbits w → (t : ℕ → ℕ → Bool)
    (says : Ordering → Bool) → SaysOf w t says → {word : List ℕ → List ℕ → ℕ} → Reads t word
    → (xs : List ℤ) (y : ℤ) → length xs ≡ 64 → Within m xs → FitsSigned w y → (j : ℕ) → j < 64
    → bit (word (map (of_z w) (take 64 xs)) (replicate 64 (of_z w y))) j
    ≡ says (int_orders_with (map (λ z. z) xs) y j)
signed_rows_with w m room t says tells {word} reads xs y e fx fy j lt =
    let p : j < length xs = omega (arith, e) in
    (λ i.
    bit (word (map (of_z w) (take_all 64 xs (omega (arith, e)) i)) (replicate 64 (of_z w y))) j)
    ∙ compared t word reads 0 (map (of_z w) xs) (replicate 64 (of_z w y))
    (length-map xs (of_z w) ∙ e) (length-replicate 64 (of_z w y)) j lt
    ∙ (λ i. t (get_or-map (of_z w) xs j (pos 0) 0 p i) (get_or-replicate 64 j (of_z w y) 0 lt i))
    ∙ tells (get_or xs j (pos 0)) y (fits_at w m room xs fx j p) fy
    ∙ sym (ap (λ z. says (int_cmp z y)) (get_or-map (λ z. z) xs j (pos 0) (pos 0) p))
