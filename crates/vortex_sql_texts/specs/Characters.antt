-- Parts of texts, counted in characters.
use Rattle.std.specs.Prelude.{ℕ, ℤ, pos, negsuc, List, chars, drop, take, encode_utf8_all}

-- the text without its first n characters
abbrev pub after_chars : ℕ → List ℕ → List ℕ
after_chars n bs = encode_utf8_all (drop n (chars bs))

-- its first n characters
abbrev pub first_chars : ℕ → List ℕ → List ℕ
first_chars n bs = encode_utf8_all (take n (chars bs))

abbrev pub at_least_zero : ℤ → ℕ
at_least_zero (pos n) = n
at_least_zero (negsuc n) = 0
