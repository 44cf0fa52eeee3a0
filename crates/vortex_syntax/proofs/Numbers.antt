-- Numbers: digits, a point and digits, and an exponent.
use Rattle.std.proofs.Common.{◌≡◌, ℕ, ◌-◌, ◌<◌, Bool, true, false, cond, ◌==◌, ◌||◌, List, [], ◌∷◌}
use Rattle.std.proofs.Common.{◌++◌, length, take, refl, ap, sym, ◌∙◌, append_assoc, arith}
use Rattle.std.proofs.Common.{length-append}
use Rattle.std.specs.Char.{is_ascii_digit}
use Rattle.std.proofs.Math.Seq.{take-append_seam}
use Rattle.std.proofs.lemmas.List.{append-nil}
use Rattle.std.proofs.lemmas.Bool.{and_parts, false≢true}
use Rattle.std.proofs.lemmas.Bool.Decides.{nat_tests}
use Rattle.vortex_syntax.specs.declared.pieces.Run.TheVariants.{Digits}
use Rattle.vortex_syntax.specs.Pieces.{is_in, front, behind, begins_word, behind_fraction}
use Rattle.vortex_syntax.specs.Pieces.{behind_sign, begins_digits, begins_exponent, behind_exponent}
use Rattle.vortex_syntax.specs.Pieces.{begins_number, behind_number, front_number}
use Rattle.vortex_syntax.specs.Writing.{IsNumber}
use Rattle.vortex_syntax.proofs.Runs.{EndsRun, front_is, behind_all, run_joined}

-- what no number continues with
abbrev pub NoPoint : List ℕ → Type 0
NoPoint [] = Unit {0}
NoPoint (c ∷ cs) = (c == 46) ≡ false

abbrev is_mark : ℕ → Bool
is_mark b = (b == 69) || (b == 101)

abbrev pub NoMark : List ℕ → Type 0
NoMark [] = Unit {0}
NoMark (c ∷ cs) = is_mark c ≡ false

-- bytes by their order
point_no_digit : (b : ℕ) → (b == 46) ≡ true → is_ascii_digit b ≡ false
point_no_digit b h = grind (arith, nat_tests)

point_no_mark : (b : ℕ) → (b == 46) ≡ true → is_mark b ≡ false
point_no_mark b h = grind (arith, nat_tests)

mark_no_digit : (b : ℕ) → is_mark b ≡ true → is_ascii_digit b ≡ false
mark_no_digit b h = grind (arith, nat_tests)

mark_no_point : (b : ℕ) → is_mark b ≡ true → (b == 46) ≡ false
mark_no_point b h = grind (arith, nat_tests)

digit_no_point : (b : ℕ) → is_ascii_digit b ≡ true → (b == 46) ≡ false
digit_no_point b h = grind (arith, nat_tests)

digit_no_sign : (b : ℕ) → is_ascii_digit b ≡ true → ((b == 43) || (b == 45)) ≡ false
digit_no_sign b h = grind (arith, nat_tests)

pub digit_high : (b : ℕ) → is_ascii_digit b ≡ true → 45 < b
digit_high b h = grind (arith, nat_tests)

point_high : (b : ℕ) → (b == 46) ≡ true → 45 < b
point_high b h = grind (arith, nat_tests)

digit_no_word : (b : ℕ) → is_ascii_digit b ≡ true → begins_word b ≡ false
digit_no_word b h = grind (arith, nat_tests)

point_no_word : (b : ℕ) → (b == 46) ≡ true → begins_word b ≡ false
point_no_word b h = grind (arith, nat_tests)

pub digit_no_slash : (b : ℕ) → is_ascii_digit b ≡ true → (b == 47) ≡ false
digit_no_slash b h = grind (arith, nat_tests)

pub point_no_slash : (b : ℕ) → (b == 46) ≡ true → (b == 47) ≡ false
point_no_slash b h = grind (arith, nat_tests)

-- the front of a fraction, of a sign, and of an exponent
abbrev front_fraction : List ℕ → List ℕ
front_fraction [] = []
front_fraction (b ∷ bs) = cond (b == 46) (b ∷ front Digits bs) []

abbrev front_sign : List ℕ → List ℕ
front_sign [] = []
front_sign (b ∷ bs) = cond ((b == 43) || (b == 45)) (b ∷ []) []

abbrev front_exponent : List ℕ → List ℕ
front_exponent [] = []
front_exponent (b ∷ bs) =
    cond (begins_exponent b bs) (b ∷ (front_sign bs ++ front Digits (behind_sign bs))) []

fraction_joined_if : (b : ℕ) (bs : List ℕ) (v : Bool)
    → cond v (b ∷ front Digits bs) [] ++ cond v (behind Digits bs) (b ∷ bs) ≡ b ∷ bs
fraction_joined_if b bs true = ap (λ ys. b ∷ ys) (run_joined Digits bs)
fraction_joined_if b bs false = refl

fraction_joined : (xs : List ℕ) → front_fraction xs ++ behind_fraction xs ≡ xs
fraction_joined [] = refl
fraction_joined (b ∷ bs) = fraction_joined_if b bs (b == 46)

sign_joined_if : (b : ℕ) (bs : List ℕ) (v : Bool)
    → cond v (b ∷ []) [] ++ cond v bs (b ∷ bs) ≡ b ∷ bs
sign_joined_if b bs true = refl
sign_joined_if b bs false = refl

sign_joined : (xs : List ℕ) → front_sign xs ++ behind_sign xs ≡ xs
sign_joined [] = refl
sign_joined (b ∷ bs) = sign_joined_if b bs ((b == 43) || (b == 45))

exponent_joined_if : (b : ℕ) (bs : List ℕ) (v : Bool)
    → cond v (b ∷ (front_sign bs ++ front Digits (behind_sign bs))) []
    ++ cond v (behind Digits (behind_sign bs)) (b ∷ bs) ≡ b ∷ bs
exponent_joined_if b bs true =
    ap (λ ys. b ∷ ys)
    (append_assoc (front_sign bs) (front Digits (behind_sign bs)) (behind Digits (behind_sign bs))
    ∙ ap (λ ys. front_sign bs ++ ys) (run_joined Digits (behind_sign bs)) ∙ sign_joined bs)
exponent_joined_if b bs false = refl

exponent_joined : (xs : List ℕ) → front_exponent xs ++ behind_exponent xs ≡ xs
exponent_joined [] = refl
exponent_joined (b ∷ bs) = exponent_joined_if b bs (begins_exponent b bs)

-- the parts of a number
abbrev whole_part : List ℕ → List ℕ
whole_part xs = front Digits xs

abbrev fraction_part : List ℕ → List ℕ
fraction_part xs = front_fraction (behind Digits xs)

abbrev exponent_part : List ℕ → List ℕ
exponent_part xs = front_exponent (behind_fraction (behind Digits xs))

abbrev number_part : List ℕ → List ℕ
number_part xs = whole_part xs ++ (fraction_part xs ++ exponent_part xs)

parts_joined : (xs : List ℕ) → xs ≡ number_part xs ++ behind_number xs
parts_joined xs =
    sym (append_assoc (whole_part xs) (fraction_part xs ++ exponent_part xs) (behind_number xs)
    ∙ ap (λ ys. whole_part xs ++ ys)
    (append_assoc (fraction_part xs) (exponent_part xs) (behind_number xs)
    ∙ ap (λ ys. fraction_part xs ++ ys) (exponent_joined (behind_fraction (behind Digits xs)))
    ∙ fraction_joined (behind Digits xs))
    ∙ run_joined Digits xs)

take_front : (w rest xs : List ℕ) → xs ≡ w ++ rest → take (length xs - length rest) xs ≡ w
take_front w rest xs e =
    let n : length xs - length rest ≡ length w =
    omega (arith, ap length e, length-append w rest) in
    ap (λ k. take k xs) n ∙ ap (take (length w)) e ∙ take-append_seam w rest

front_part : (xs : List ℕ) → front_number xs ≡ number_part xs
front_part xs = take_front (number_part xs) (behind_number xs) xs (parts_joined xs)

-- what follows the parts
no_fraction : (rest : List ℕ) → NoPoint rest → behind_fraction rest ≡ rest
no_fraction [] p = refl
no_fraction (c ∷ cs) p = let other : (c == 46) ≡ false = p in rw other refl

fraction_if : (b : ℕ) (bs rest : List ℕ) (v : Bool) → (b == 46) ≡ v → EndsRun Digits rest
    → NoPoint rest → behind_fraction (cond v (b ∷ front Digits bs) [] ++ rest) ≡ rest
fraction_if b bs rest true h e p = rw h (behind_all Digits (front Digits bs) rest
    (front_is Digits bs) e)
fraction_if b bs rest false h e p = no_fraction rest p

fraction_behind : (xs rest : List ℕ) → EndsRun Digits rest → NoPoint rest
    → behind_fraction (front_fraction xs ++ rest) ≡ rest
fraction_behind [] rest e p = no_fraction rest p
fraction_behind (b ∷ bs) rest e p = fraction_if b bs rest (b == 46) refl e p

no_sign : (ys : List ℕ) → begins_digits ys ≡ true → behind_sign ys ≡ ys
no_sign [] h = refl
no_sign (y ∷ ys) h = let other = digit_no_sign y h in rw other refl

sign_if : (b : ℕ) (ys : List ℕ) (v : Bool) → ((b == 43) || (b == 45)) ≡ v
    → begins_digits ys ≡ true → behind_sign (cond v (b ∷ []) [] ++ ys) ≡ ys
sign_if b ys true h k = rw h refl
sign_if b ys false h k = no_sign ys k

sign_behind : (bs ys : List ℕ) → begins_digits ys ≡ true → behind_sign (front_sign bs ++ ys) ≡ ys
sign_behind [] ys k = no_sign ys k
sign_behind (b ∷ bs) ys k = sign_if b ys ((b == 43) || (b == 45)) refl k

pub digits_begin : (ys rest : List ℕ) → begins_digits ys ≡ true
    → begins_digits (front Digits ys ++ rest) ≡ true
digits_begin [] rest h = absurd (false≢true h)
digits_begin (y ∷ ys) rest h = let here : is_in Digits y ≡ true = h in rw here h

no_exponent : (rest : List ℕ) → NoMark rest → behind_exponent rest ≡ rest
no_exponent [] m = refl
no_exponent (c ∷ cs) m = let other : is_mark c ≡ false = m in rw other refl

exponent_if : (b : ℕ) (bs rest : List ℕ) (v : Bool) → begins_exponent b bs ≡ v
    → EndsRun Digits rest → NoMark rest
    → behind_exponent (cond v (b ∷ (front_sign bs ++ front Digits (behind_sign bs))) [] ++ rest)
    ≡ rest
exponent_if b bs rest true h e m =
    let p = and_parts (is_mark b) (begins_digits (behind_sign bs)) h in
    let digits = front Digits (behind_sign bs) in
    let regrouped : (front_sign bs ++ digits) ++ rest ≡ front_sign bs ++ (digits ++ rest) =
    append_assoc (front_sign bs) digits rest in
    let begun = digits_begin (behind_sign bs) rest p.1 in
    let unsigned : behind_sign ((front_sign bs ++ digits) ++ rest) ≡ digits ++ rest =
    ap behind_sign regrouped ∙ sign_behind bs (digits ++ rest) begun in
    rw (p.0, unsigned, begun)
    (behind_all Digits digits rest (front_is Digits (behind_sign bs)) e)
exponent_if b bs rest false h e m = no_exponent rest m

exponent_behind : (xs rest : List ℕ) → EndsRun Digits rest → NoMark rest
    → behind_exponent (front_exponent xs ++ rest) ≡ rest
exponent_behind [] rest e m = no_exponent rest m
exponent_behind (b ∷ bs) rest e m =
    exponent_if b bs rest (begins_exponent b bs) refl e m

-- no digit and no point begins an exponent, and no digit a fraction
exponent_ends_if : (b : ℕ) (bs rest : List ℕ) (v : Bool) → begins_exponent b bs ≡ v
    → EndsRun Digits rest
    → EndsRun Digits (cond v (b ∷ (front_sign bs ++ front Digits (behind_sign bs))) [] ++ rest)
exponent_ends_if b bs rest true h e =
    mark_no_digit b (and_parts (is_mark b) (begins_digits (behind_sign bs)) h).0
exponent_ends_if b bs rest false h e = e

exponent_ends : (xs rest : List ℕ) → EndsRun Digits rest
    → EndsRun Digits (front_exponent xs ++ rest)
exponent_ends [] rest e = e
exponent_ends (b ∷ bs) rest e = exponent_ends_if b bs rest (begins_exponent b bs) refl e

exponent_no_point_if : (b : ℕ) (bs rest : List ℕ) (v : Bool) → begins_exponent b bs ≡ v
    → NoPoint rest
    → NoPoint (cond v (b ∷ (front_sign bs ++ front Digits (behind_sign bs))) [] ++ rest)
exponent_no_point_if b bs rest true h p =
    mark_no_point b (and_parts (is_mark b) (begins_digits (behind_sign bs)) h).0
exponent_no_point_if b bs rest false h p = p

exponent_no_point : (xs rest : List ℕ) → NoPoint rest → NoPoint (front_exponent xs ++ rest)
exponent_no_point [] rest p = p
exponent_no_point (b ∷ bs) rest p =
    exponent_no_point_if b bs rest (begins_exponent b bs) refl p

fraction_ends_if : (b : ℕ) (bs rest : List ℕ) (v : Bool) → (b == 46) ≡ v → EndsRun Digits rest
    → EndsRun Digits (cond v (b ∷ front Digits bs) [] ++ rest)
fraction_ends_if b bs rest true h e = point_no_digit b h
fraction_ends_if b bs rest false h e = e

fraction_ends : (xs rest : List ℕ) → EndsRun Digits rest
    → EndsRun Digits (front_fraction xs ++ rest)
fraction_ends [] rest e = e
fraction_ends (b ∷ bs) rest e = fraction_ends_if b bs rest (b == 46) refl e

-- a number is read up to what no number continues with
parts_behind : (xs rest : List ℕ) → EndsRun Digits rest → NoPoint rest → NoMark rest
    → behind_number (number_part xs ++ rest) ≡ rest
parts_behind xs rest e p m =
    let middle = fraction_part xs in
    let last = exponent_part xs in
    let tail = behind_fraction (behind Digits xs) in
    let ends = exponent_ends tail rest e in
    ap behind_number
    (append_assoc (whole_part xs) (middle ++ last) rest
    ∙ ap (λ ys. whole_part xs ++ ys) (append_assoc middle last rest))
    ∙ ap (λ ys. behind_exponent (behind_fraction ys))
    (behind_all Digits (whole_part xs) (middle ++ (last ++ rest)) (front_is Digits xs)
    (fraction_ends (behind Digits xs) (last ++ rest) ends))
    ∙ ap behind_exponent
    (fraction_behind (behind Digits xs) (last ++ rest) ends (exponent_no_point tail rest p))
    ∙ exponent_behind tail rest e m

pub number_behind : (w rest : List ℕ) → behind_number w ≡ [] → EndsRun Digits rest → NoPoint rest
    → NoMark rest → behind_number (w ++ rest) ≡ rest
number_behind w rest h e p m =
    ap (λ ys. behind_number (ys ++ rest))
    (parts_joined w ∙ ap (λ ys. number_part w ++ ys) h ∙ append-nil (number_part w))
    ∙ parts_behind w rest e p m

pub number_front : (w rest : List ℕ) → behind_number (w ++ rest) ≡ rest
    → front_number (w ++ rest) ≡ w
number_front w rest h =
    ap (λ ys. take (length (w ++ rest) - length ys) (w ++ rest)) h
    ∙ take_front w rest (w ++ rest) refl

-- how a number begins
more_begins : (w rest : List ℕ) → begins_digits w ≡ true → begins_digits (w ++ rest) ≡ true
more_begins [] rest h = absurd (false≢true h)
more_begins (b ∷ bs) rest h = h

begun_if : (b : ℕ) (bs rest : List ℕ) (v : Bool)
    → cond v (begins_digits bs) (is_ascii_digit b) ≡ true
    → cond v (begins_digits (bs ++ rest)) (is_ascii_digit b) ≡ true
begun_if b bs rest true h = more_begins bs rest h
begun_if b bs rest false h = h

pub number_begun : (w rest : List ℕ) → begins_number w ≡ true → begins_number (w ++ rest) ≡ true
number_begun [] rest h = absurd (false≢true h)
number_begun (b ∷ bs) rest h = begun_if b bs rest (b == 46) h

pub record Begins (b : ℕ) : Type 0 where
  pub high : 45 < b
  pub no_word : begins_word b ≡ false
  pub no_slash : (b == 47) ≡ false

first_if : (b : ℕ) (bs : List ℕ) (v : Bool) → (b == 46) ≡ v
    → cond v (begins_digits bs) (is_ascii_digit b) ≡ true → Begins b
first_if b bs true h k =
    record { high = point_high b h; no_word = point_no_word b h; no_slash = point_no_slash b h }
first_if b bs false h k =
    record { high = digit_high b k; no_word = digit_no_word b k; no_slash = digit_no_slash b k }

pub first_byte : (b : ℕ) (bs : List ℕ) → begins_number (b ∷ bs) ≡ true → Begins b
first_byte b bs h = first_if b bs (b == 46) refl h

-- the number at the start of a text is one
part_if : (b : ℕ) (bs : List ℕ) (v : Bool) → (b == 46) ≡ v
    → cond v (begins_digits bs) (is_ascii_digit b) ≡ true
    → begins_number (number_part (b ∷ bs)) ≡ true
part_if b bs true h k =
    let other : is_in Digits b ≡ false = point_no_digit b h in
    rw (other, h) (rw h (digits_begin bs (front_exponent (behind Digits bs)) k))
part_if b bs false h k =
    let here : is_in Digits b ≡ true = k in
    let other : (b == 46) ≡ false = h in
    rw (here, other) k

part_begins : (xs : List ℕ) → begins_number xs ≡ true → begins_number (number_part xs) ≡ true
part_begins [] h = absurd (false≢true h)
part_begins (b ∷ bs) h = part_if b bs (b == 46) refl h

is_number_as : (v w : List ℕ) → v ≡ w → IsNumber w → IsNumber v
is_number_as v w e h = (ap begins_number e ∙ h.0, ap behind_number e ∙ h.1)

pub front_is_number : (xs : List ℕ) → begins_number xs ≡ true → IsNumber (front_number xs)
front_is_number xs h =
    is_number_as (front_number xs) (number_part xs) (front_part xs) (
      part_begins xs h,
      ap behind_number (sym (append-nil (number_part xs))) ∙ parts_behind xs [] tt tt tt,
    )

-- it has at least one byte
part_some : (w : List ℕ) → begins_number w ≡ true → 0 < length w
part_some [] h = absurd (false≢true h)
part_some (b ∷ bs) h = omega arith

pub number_shorter : (xs : List ℕ) → begins_number xs ≡ true
    → length (behind_number xs) < length xs
number_shorter xs h =
    omega (
      arith,
      part_some (number_part xs) (part_begins xs h),
      ap length (parts_joined xs),
      length-append (number_part xs) (behind_number xs),
    )
