-- How a call is printed by the texts of its arguments, in the bytes of UTF-8.
use Rattle.std.specs.Prelude.{◌==◌, ℕ, zero, suc, List, [], ◌∷◌, ◌++◌, codes, length}
use Rattle.std.specs.Prelude.{if◌then◌else◌}
pub use Rattle.vortex_types.specs.Texts.{joined, separator_before, comma, Appends}

-- the text of that number; none past the last
abbrev pub text_at : ℕ → List (List ℕ) → List ℕ
text_at k [] = []
text_at zero (text ∷ texts) = text
text_at (suc k) (text ∷ texts) = text_at k texts

-- that many of a call's parts from the k-th on: what comes before the argument that is printed
-- k-th, and the text of that argument
abbrev pub told : (ℕ → List ℕ) → (ℕ → ℕ) → ℕ → ℕ → List (List ℕ) → List ℕ
told before printed k zero texts = []
told before printed k (suc left) texts =
    before k ++ text_at (printed k) texts ++ told before printed (suc k) left texts

-- the text of a call: a part for each argument, and a last part without argument
abbrev pub text_told : (ℕ → List ℕ) → (ℕ → ℕ) → List (List ℕ) → List ℕ
text_told before printed texts = told before printed 0 (suc (length texts)) texts

-- what comes before the only argument of a call: its name, and what ends it
abbrev pub unary_before : List ℕ → List ℕ → ℕ → List ℕ
unary_before name end zero = name ++ codes "("
unary_before name end (suc k) = end

-- a function's options after its arguments, if they have a text, and what ends the call
abbrev pub options_text : List ℕ → List ℕ
options_text [] = []
options_text options = codes ", opts=" ++ options

abbrev pub call_end : List ℕ → List ℕ
call_end options = options_text options ++ codes ")"

-- the identity before the first part of a call, except for the functions that have their own text
abbrev pub opening : List ℕ → ℕ → List ℕ
opening id zero = id ++ codes "("
opening id (suc k) = []

-- what comes before an argument, by their number: a comma after the first, and the text of the
-- options at the end
abbrev pub default_before : List ℕ → List ℕ → ℕ → ℕ → List ℕ
default_before id options count k =
    opening id k ++ (if k == count then call_end options else separator_before comma k)
