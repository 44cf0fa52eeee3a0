-- What fills a text.
use Rattle.std.proofs.Common.{◌≡◌, ◌≤◌, ◌<◌, ◌+◌, ◌*◌, ◌-◌, ◌/◌, ◌%◌, ℕ, zero, suc, List, [], ◌∷◌, ◌++◌}
use Rattle.std.proofs.Common.{arith, refl, ap, sym, ◌∙◌, length, length-append, take}
use Rattle.std.specs.Prelude.{IsUtf8, chars, encode_utf8_all}
use Rattle.std.specs.List.{repeat}
use Rattle.std.proofs.lemmas.List.{append-nil, take_all}
use Rattle.std.proofs.lemmas.Str.{chars-nil, encodes-chars}
use Rattle.vortex_sql_texts.specs.Characters.{first_chars}
use Rattle.vortex_sql_pads.specs.Pads.{filled_by, filler, padded}
use Rattle.vortex_sql_pads.specs.declared.pads.Pad.{Pad}
use Rattle.vortex_sql_pads.specs.declared.pads.Pad.TheVariants.{Left, Right}

pub repeated_size : (n : ℕ) (bs : List ℕ) → length (repeat n bs) ≡ n * length bs
repeated_size zero bs = omega arith
repeated_size (suc n) bs =
    let step : length bs + n * length bs ≡ suc n * length bs = omega arith in
    length-append bs (repeat n bs) ∙ ap (λ m. length bs + m) (repeated_size n bs) ∙ step

pub whole_fills : (n : ℕ) (ds : List ℕ) (k : ℕ) → 0 < k
    → repeat (n / k) ds ++ first_chars (n % k) ds ≡ filled_by n ds k
whole_fills n ds zero h = absurd (omega (arith, h))
whole_fills n ds (suc k) h = refl

pub none_filled : (n : ℕ) (ds : List ℕ) (k : ℕ) → k ≡ 0 → [] ≡ filled_by n ds k
none_filled n ds zero h = refl
none_filled n ds (suc k) h = absurd (omega (arith, h))

nothing : (n : ℕ) (ds : List ℕ) (k : ℕ) → n ≡ 0 → filled_by n ds k ≡ []
nothing n ds zero h = refl
nothing n ds (suc k) h =
    let times : n / suc k ≡ 0 = omega (arith, h) in
    let rest : n % suc k ≡ 0 = omega (arith, h) in
    ap (λ m. repeat m ds ++ first_chars (n % suc k) ds) times
    ∙ ap (λ m. first_chars m ds) rest

-- a text of enough characters is cut
pub cut : (p : Pad) (n : ℕ) (bs ds : List ℕ) → n ≤ length (chars bs)
    → first_chars n bs ≡ padded p n bs ds
cut Left n bs ds h =
    let none : n - length (chars bs) ≡ 0 = omega (arith, h) in
    sym (ap (λ xs. xs ++ first_chars n bs)
    (nothing (n - length (chars bs)) ds (length (chars ds)) none))
cut Right n bs ds h =
    let none : n - length (chars bs) ≡ 0 = omega (arith, h) in
    sym (ap (λ xs. first_chars n bs ++ xs)
    (nothing (n - length (chars bs)) ds (length (chars ds)) none)
    ∙ append-nil (first_chars n bs))

-- a shorter one is whole
pub whole : (n : ℕ) (bs : List ℕ) → IsUtf8 bs → length (chars bs) ≤ n → first_chars n bs ≡ bs
whole n bs u h =
    ap encode_utf8_all (take_all n (chars bs) h) ∙ encodes-chars bs u

pub longer : (p : Pad) (n m : ℕ) (bs ds : List ℕ) → m ≡ n - length (chars bs)
    → length (filler m ds) ≤ length (padded p n bs ds)
longer Left n m bs ds e =
    let size = length-append (filler (n - length (chars bs)) ds) (first_chars n bs) in
    let same = ap (λ k. length (filler k ds)) e in
    omega (arith, size, same)
longer Right n m bs ds e =
    let size = length-append (first_chars n bs) (filler (n - length (chars bs)) ds) in
    let same = ap (λ k. length (filler k ds)) e in
    omega (arith, size, same)

pub fill_size : (n k t : ℕ) (ds : List ℕ) → 0 < k → t ≡ n / k
    → t * length ds ≤ length (filled_by n ds k)
fill_size n zero t ds h e = absurd (omega (arith, h))
fill_size n (suc k) t ds h e =
    let size = length-append (repeat (n / suc k) ds) (first_chars (n % suc k) ds) in
    let times = repeated_size t ds in
    let same = ap (λ m. length (repeat m ds)) e in
    omega (arith, size, times, same)

more_bytes : (n m : ℕ) → 0 < m → n ≤ n * m
more_bytes zero m h = omega arith
more_bytes (suc n) m h =
    let step : m + n * m ≡ suc n * m = omega arith in
    let less = more_bytes n m h in
    omega (arith, step, less, h)

some_bytes : (ds : List ℕ) → 0 < length (chars ds) → 0 < length ds
some_bytes [] h = let none = ap length chars-nil in absurd (omega (arith, h, none))
some_bytes (d ∷ ds) h = omega arith

-- as many bytes as the whole fills have, or one for each
pub too_long : (n k t : ℕ) (ds : List ℕ) → k ≡ length (chars ds) → 0 < k → t ≡ n / k
    → 4294967295 < t * length ds → 4294967295 < length (filler n ds)
too_long n k t ds e some is many =
    let size = fill_size n k t ds some is in
    let same = ap (λ m. length (filled_by n ds m)) e in
    omega (arith, size, same, many)

pub too_many : (n k t : ℕ) (ds : List ℕ) → k ≡ length (chars ds) → 0 < k → t ≡ n / k
    → 4294967295 < t → 4294967295 < length (filler n ds)
too_many n k t ds e some is many =
    let bytes = some_bytes ds (omega (arith, e, some)) in
    let more = more_bytes t (length ds) bytes in
    too_long n k t ds e some is (omega (arith, more, many))

-- a text that is filled at its start, and one at its end
pub filled_left : (p : Pad) (n w : ℕ) (bs ds made out : List ℕ) → IsUtf8 bs → p ≡ Left
    → w ≡ length (chars bs) → w < n → made ≡ filler (n - w) ds → out ≡ made ++ bs
    → out ≡ padded p n bs ds
filled_left p n w bs ds made out u is e lt k h =
    h ∙ ap (λ xs. xs ++ bs) k ∙ ap (λ m. filler (n - m) ds ++ bs) e
    ∙ ap (λ ys. filler (n - length (chars bs)) ds ++ ys)
    (sym (whole n bs u (omega (arith, e, lt))))
    ∙ ap (λ q. padded q n bs ds) (sym is)

pub filled_right : (p : Pad) (n w : ℕ) (bs ds made text out : List ℕ) → IsUtf8 bs → p ≡ Right
    → w ≡ length (chars bs) → w < n → made ≡ filler (n - w) ds → text ≡ bs → out ≡ text ++ made
    → out ≡ padded p n bs ds
filled_right p n w bs ds made text out u is e lt k j h =
    h ∙ ap (λ xs. xs ++ made) j ∙ ap (λ ys. bs ++ ys) k ∙ ap (λ m. bs ++ filler (n - m) ds) e
    ∙ ap (λ xs. xs ++ filler (n - length (chars bs)) ds)
    (sym (whole n bs u (omega (arith, e, lt))))
    ∙ ap (λ q. padded q n bs ds) (sym is)
