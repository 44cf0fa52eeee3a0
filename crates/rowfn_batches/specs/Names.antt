-- The names of answers, of which no two are one.
use Rattle.std.specs.Prelude.{◌≡◌, ◌≢◌, ◌<◌, ℕ, List, [], map, length, get_or, string_bytes}
use Rattle.vortex_program.specs.declared.answer.Answer.{Answer}
use Rattle.rowfn_batches.specs.declared.errors.StreamError.{StreamError}
use Rattle.rowfn_batches.specs.declared.errors.StreamError.TheVariants as end

abbrev pub names_of : List Answer → List (List ℕ)
names_of answers = map (λ a. string_bytes a.name) answers

-- the name of that place stands at a place behind it, or at none
abbrev pub RepeatsLater : List (List ℕ) → ℕ → Type 0
RepeatsLater names p =
    (q : ℕ) × (p < q) × (q < length names) × (get_or names p [] ≡ get_or names q [])

abbrev pub StandsLast : List (List ℕ) → ℕ → Type 0
StandsLast names p = (q : ℕ) → p < q → q < length names → get_or names p [] ≢ get_or names q []

-- no two names are one
abbrev pub AreApart : List (List ℕ) → Type 0
AreApart names = (p : ℕ) → p < length names → StandsLast names p

-- that name is told to stand twice
abbrev pub TellsTwice : List ℕ → StreamError → Type 0
TellsTwice name (end.AnswerTwice told) = string_bytes told ≡ name
TellsTwice name e = ⊥

-- a name that stands twice is told; or memory ran out
pub data RefusesNames (names : List (List ℕ)) (e : StreamError) : Type 0 where
  stands_twice : (p : ℕ) → RepeatsLater names p → TellsTwice (get_or names p []) e
      → RefusesNames names e
  without_memory : e ≡ end.OutOfMemory → RefusesNames names e
