-- The texts of the stored values of a kind.
use Rattle.std.specs.Prelude.{◌≡◌, ◌<◌, ℕ, ℤ, List, [], Bool, true, false, length, slice_index_or}
use Rattle.std.specs.Prelude.{FitsSigned, IsUtf8, Result}
use Rattle.std.specs.Int.{w64}
use Rattle.vortex_errors.specs.declared.error.VortexError.{VortexError}
use Rattle.vortex_errors.specs.declared.error.VortexError.TheVariants.{InvalidColumn}
use Rattle.vortex_errors.specs.Answers.{Answers}
use Rattle.vortex_types.specs.LogicalTypes.{text_type}
use Rattle.vortex_types.specs.Values.{Value, null, number, text}
use Rattle.vortex_views.specs.Collected.{HaveRoom}
use Rattle.vortex_columns.specs.ColumnView.{ColumnView, row}
use Rattle.vortex_logical.specs.declared.kind.Kind.{Kind}
use Rattle.vortex_logical.specs.Cells.{IsStored, IsCellText}
use Rattle.vortex_logical_cells.specs.declared.texts.KindTexts.{KindTexts}
use Rattle.vortex_logical_cells.specs.declared.texts.KindTexts.TheVariants.{Texts, NoText}

-- the texts of rows that are valid are UTF-8
abbrev pub AreUtf8 : List (List ℕ) → List Bool → Type 0
AreUtf8 texts valid =
    (i : ℕ) → i < length texts → slice_index_or valid i false ≡ true
    → IsUtf8 (slice_index_or texts i [])

module _ (k : Kind) where
  -- the integer is stored in 64 bits, and stands for a value of the kind
  abbrev pub IsStoredValue : ℤ → Type 0
  IsStoredValue z = FitsSigned w64 z × IsStored k z

  -- null, or such an integer
  abbrev pub HasText : Value → Type 0
  HasText null = Unit {0}
  HasText (number z) = IsStoredValue z
  HasText v = ⊥

  -- the text of the value, or null
  abbrev pub IsTextOf : Value → Value → Type 0
  IsTextOf null shown = shown ≡ null
  IsTextOf (number z) shown =
      (bs : List ℕ) × IsStoredValue z × IsCellText k z bs × (shown ≡ text bs)
  IsTextOf v shown = ⊥

  -- the bytes of the text, and whether there is one: none of null
  abbrev pub IsWritten : Value → List ℕ → Bool → Type 0
  IsWritten null bs valid = (bs ≡ []) × (valid ≡ false)
  IsWritten (number z) bs valid = IsStoredValue z × IsCellText k z bs × (valid ≡ true)
  IsWritten v bs valid = ⊥

  module _ (rows : List Value) where
    -- a text for each of the first n rows
    pub record AreTextsOf (n : ℕ) (c : ColumnView) : Type 0 where
      pub dtype : c.dtype ≡ text_type true
      pub count : length c.rows ≡ n
      pub each : (i : ℕ) → i < n → IsTextOf (row rows i) (row c.rows i)

    -- the first row whose value has no text
    pub record IsFirstWithout (n i : ℕ) : Type 0 where
      pub below : i < n
      pub here : ¬ HasText (row rows i)
      pub before : (j : ℕ) → j < i → HasText (row rows j)

    -- the bytes of the texts of first rows
    pub record AreWritten (texts : List (List ℕ)) (valid : List Bool) : Type 0 where
      pub count : length valid ≡ length texts
      pub each : (i : ℕ) → i < length texts
          → IsWritten (row rows i) (slice_index_or texts i []) (slice_index_or valid i false)

    abbrev pub IsTextsOrRow : ℕ → KindTexts → Type 0
    IsTextsOrRow n (Texts c) = AreTextsOf n c
    IsTextsOrRow n (NoText i) = IsFirstWithout n i

    -- texts of first rows are not those of a column: one is too long or no UTF-8, or they take too
    -- many buffers
    pub record MakeNoColumn (e : VortexError) : Type 0 where
      pub texts : List (List ℕ)
      pub valid : List Bool
      pub written : AreWritten texts valid
      pub unfit : ¬ (HaveRoom texts × AreUtf8 texts valid)
      pub refusal : e ≡ InvalidColumn

    abbrev pub MakesTexts : ℕ → Result KindTexts VortexError → Type 0
    MakesTexts n result = Answers result (IsTextsOrRow n) MakeNoColumn
