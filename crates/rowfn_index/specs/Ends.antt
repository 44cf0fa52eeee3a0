-- Texts that are cut off.
use Rattle.std.specs.Prelude.{◌≡◌, ◌⊎◌, ◌++◌, ◌∷◌, ◌+◌, ℕ, [], List}

-- bytes begin so
pub record BeginsWith (bytes prefix : List ℕ) : Type 0 where
  pub rest : List ℕ
  pub is : bytes ≡ prefix ++ rest

-- bytes up to one, which is raised, in the place of all from there on
pub record IsRaised (bytes raised : List ℕ) : Type 0 where
  pub before : List ℕ
  pub byte : ℕ
  pub rest : List ℕ
  pub is : bytes ≡ before ++ (byte ∷ rest)
  pub raised_is : raised ≡ before ++ ((byte + 1) ∷ [])

-- the same bytes, or raised ones
abbrev pub IsTextAbove : List ℕ → List ℕ → Type 0
IsTextAbove bytes end = (end ≡ bytes) ⊎ IsRaised bytes end
