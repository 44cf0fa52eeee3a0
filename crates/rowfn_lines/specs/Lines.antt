-- A script as lines, and a line as words.
use Rattle.std.specs.Prelude.{◌≡◌, ◌==◌, ◌≢◌, ◌<◌, ℕ, List, [], ◌∷◌, ◌++◌, length, get_or, ◌↔◌}
use Rattle.std.specs.Prelude.{Option, Some, None, if◌then◌else◌}
use Rattle.std.specs.List.{slice_split}
use Rattle.rowfn_lines.specs.declared.text.Word as word
use Rattle.rowfn_lines.specs.declared.text.Word.TheVariants as variant

-- A line ends at a newline or with the script. If a newline ends the script, a last line without
-- words follows it.
abbrev pub lines_of : List ℕ → List (List ℕ)
lines_of = slice_split (λ b. b == 10)

-- a word, or the text in quotes
pub data Word : Type 0 where
  plain : List ℕ → Word
  quoted : List ℕ → Word

abbrev pub after_spaces : List ℕ → List ℕ
after_spaces [] = []
after_spaces (b ∷ bs) = if b == 32 then after_spaces bs else b ∷ bs

abbrev pub with_word : Word → Option (List Word) → Option (List Word)
with_word w None = None
with_word w (Some ws) = Some (w ∷ ws)

-- the text begins with a word, and with one without quotes
abbrev pub BeginsWord : List ℕ → Type 0
BeginsWord [] = ⊥
BeginsWord (b ∷ bs) = b ≢ 32

abbrev pub BeginsPlain : List ℕ → Type 0
BeginsPlain [] = ⊥
BeginsPlain (b ∷ bs) = (b ≢ 32) × (b ≢ 34)

-- no byte is that one
abbrev pub Lacks : ℕ → List ℕ → Type 0
Lacks c xs = (i : ℕ) → i < length xs → get_or xs i 0 ≢ c

abbrev pub AreSpaces : List ℕ → Type 0
AreSpaces [] = Unit {0}
AreSpaces (b ∷ bs) = (b ≡ 32) × AreSpaces bs

-- a word as written in a line: at least one byte, without a space, the first no quote; or, in
-- quotes, bytes without a quote
abbrev pub Spells : Word → List ℕ → Type 0
Spells (plain w) bs = (bs ≡ w) × BeginsPlain w × Lacks 32 w
Spells (quoted w) bs = (bs ≡ 34 ∷ w ++ 34 ∷ []) × Lacks 34 w

-- nothing, or text that begins with a space
abbrev pub FollowsWord : List ℕ → Type 0
FollowsWord [] = Unit {0}
FollowsWord (b ∷ bs) = b ≡ 32

-- The words of a line: spaces, the first word as written, and a rest, after a space, with the other
-- words. A line without words is spaces.
abbrev pub SaysWords : List ℕ → List Word → Type 0
SaysWords line [] = AreSpaces line
SaysWords line (w ∷ ws) =
    (before spelling rest : List ℕ) × (line ≡ before ++ (spelling ++ rest)) × AreSpaces before
    × Spells w spelling × FollowsWord rest × SaysWords rest ws

-- The words of a line, byte by byte; none if it is malformed.
abbrev mutual
  pub words_of : List ℕ → Option (List Word)
  words_of [] = Some []
  words_of (b ∷ bs) =
      if b == 32 then words_of bs else (if b == 34 then in_quotes [] bs else in_word (b ∷ []) bs)

  pub in_word : List ℕ → List ℕ → Option (List Word)
  in_word w [] = Some (plain w ∷ [])
  in_word w (b ∷ bs) =
      if b == 32 then with_word (plain w) (words_of bs) else in_word (w ++ b ∷ []) bs

  pub in_quotes : List ℕ → List ℕ → Option (List Word)
  in_quotes w [] = None
  in_quotes w (b ∷ bs) = if b == 34 then after_quotes w bs else in_quotes (w ++ b ∷ []) bs

  pub after_quotes : List ℕ → List ℕ → Option (List Word)
  after_quotes w [] = Some (quoted w ∷ [])
  after_quotes w (b ∷ bs) = if b == 32 then with_word (quoted w) (words_of bs) else None

-- the word that was read
abbrev pub word_in : word.Word → Word
word_in (variant.Plain w) = plain w.now
word_in (variant.Quoted w) = quoted w.now

-- the words of a line are these, and no others
abbrev pub AreWordsSaid : Type 0
AreWordsSaid = (line : List ℕ) (ws : List Word) → (words_of line ≡ Some ws) ↔ SaysWords line ws
