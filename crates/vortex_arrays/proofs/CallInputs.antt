-- The arguments of a call, all but one constant.
use Rattle.std.proofs.Common.{◌≡◌, ℕ, suc, ◌+◌, ◌<◌, List, [], ◌∷◌, ◌++◌, length, map, take}
use Rattle.std.proofs.Common.{drop, true, refl, sym, ap, ◌∙◌, subst, arith, get_or}
use Rattle.std.specs.Prelude.{All, Option, Some, None}
use Rattle.std.proofs.lemmas.List.{map-append, map_more, append_assoc}
use Rattle.std.proofs.lemmas.List.Elements.{All-nil, All-cons, All-append, All-take, All-drop}
use Rattle.std.proofs.lemmas.List.FromFn.{get_or-map-range_with_len, length-map-range_with_len}
use Rattle.vortex_errors.specs.declared.error.MismatchPlace.{MismatchPlace}
use Rattle.vortex_errors.specs.declared.error.VortexError.{VortexError}
use Rattle.vortex_errors.specs.Answers.{UnlessMemory}
use Rattle.vortex_errors.proofs.Answering.{UnlessMemory-weaker}
use Rattle.vortex_types.specs.LogicalTypes.{LogicalType}
use Rattle.vortex_types.specs.ScalarView.{ScalarView}
use Rattle.vortex_types.specs.Typing.{HasType}
use Rattle.vortex_types.specs.Values.{Value, null}
use Rattle.vortex_columns.specs.ColumnView.{ColumnView, row, constant_column, AreTyped}
use Rattle.vortex_interface.specs.Meaning.{Meaning, fits, HaveTypes}
use Rattle.vortex_interface.specs.Outcomes.{types_in, values_at}
use Rattle.vortex_interface.specs.Functions.{Function, ours, custom, function_arity, function_type}
use Rattle.vortex_interface.specs.Functions.{IsMismatchOf, IsMismatchAt, RefusesTypes}
use Rattle.vortex_interface.specs.Shipped.{shipped_place}
use Rattle.vortex_interface.specs.Args.{AreOfLength}
use Rattle.vortex_arrays.specs.PushDown.{constants, inputs_of, RefusesInputs, types}

-- one more constant after the others
pub constants_more : (before made : List ColumnView) (n : ℕ) (ss : List ScalarView) (i : ℕ)
    (s : ScalarView) (c : ColumnView)
    → made ≡ before ++ constants n (take i ss) → i < length ss → s ≡ get_or ss i s
    → c ≡ constant_column s n → made ++ c ∷ [] ≡ before ++ constants n (take (i + 1) ss)
constants_more before made n ss i s c is lt at e =
    (λ j. is j ++ (e ∙ ap (λ (x : ScalarView). constant_column x n) at) j ∷ [])
    ∙ append_assoc before (constants n (take i ss)) (constant_column (get_or ss i s) n ∷ [])
    ∙ ap (λ cs. before ++ cs) (sym (map_more (λ (x : ScalarView). constant_column x n) ss i s lt))

-- each argument has the rows of the column
constants_length : (n : ℕ) (ss : List ScalarView) → AreOfLength n (constants n ss)
constants_length n [] = All-nil (λ (c : ColumnView). length c.rows ≡ n)
constants_length n (s ∷ ss) =
    All-cons (λ (c : ColumnView). length c.rows ≡ n) (constant_column s n) (constants n ss)
    (length-map-range_with_len (λ i. s.value) 0 n) (constants_length n ss)

pub inputs_length : (k : ℕ) (c : ColumnView) (others : List ScalarView)
    → AreOfLength (length c.rows) (inputs_of k c others)
inputs_length k c others =
    let P : ColumnView → Type 0 = λ d. length d.rows ≡ length c.rows in
    All-append P (constants (length c.rows) (take k others))
    (c ∷ constants (length c.rows) (drop k others))
    (constants_length (length c.rows) (take k others))
    (All-cons P c (constants (length c.rows) (drop k others)) refl
    (constants_length (length c.rows) (drop k others)))

abbrev pub dtype_in : ScalarView → LogicalType
dtype_in s = s.dtype

abbrev pub value_in : ScalarView → Value
value_in s = s.value

-- their types, and the values that are in one row
constants_types : (n : ℕ) (ss : List ScalarView) → types_in (constants n ss) ≡ map dtype_in ss
constants_types n [] = refl
constants_types n (s ∷ ss) = ap (λ ts. s.dtype ∷ ts) (constants_types n ss)

constants_at : (n : ℕ) (ss : List ScalarView) (i : ℕ) → i < n
    → values_at (constants n ss) i ≡ map value_in ss
constants_at n [] i lt = refl
constants_at n (s ∷ ss) i lt =
    λ j. get_or-map-range_with_len (λ k. s.value) 0 n i i null lt (omega arith) j
    ∷ constants_at n ss i lt j

pub inputs_types : (k : ℕ) (c : ColumnView) (others : List ScalarView)
    → types_in (inputs_of k c others)
    ≡ map dtype_in (take k others) ++ c.dtype ∷ map dtype_in (drop k others)
inputs_types k c others =
    let n = length c.rows in
    map-append (λ (d : ColumnView). d.dtype) (constants n (take k others))
    (c ∷ constants n (drop k others))
    ∙ (λ j. constants_types n (take k others) j ++ c.dtype ∷ constants_types n (drop k others) j)

pub inputs_at : (k : ℕ) (c : ColumnView) (others : List ScalarView) (i : ℕ) → i < length c.rows
    → values_at (inputs_of k c others) i
    ≡ map value_in (take k others) ++ row c.rows i ∷ map value_in (drop k others)
inputs_at k c others i lt =
    let n = length c.rows in
    map-append (λ (d : ColumnView). row d.rows i) (constants n (take k others))
    (c ∷ constants n (drop k others))
    ∙ (λ j.
    constants_at n (take k others) i lt j ++ row c.rows i ∷ constants_at n (drop k others) i lt j)

-- the values have the types
abbrev pub AreScalars : List ScalarView → Type 0
AreScalars ss = All (λ (s : ScalarView). HasType s.dtype s.value) ss

scalars_typed : (ss : List ScalarView) → AreScalars ss
    → HaveTypes (map dtype_in ss) (map value_in ss)
scalars_typed [] h = tt
scalars_typed (s ∷ ss) h =
    (h 0 s (omega arith), scalars_typed ss (λ k d lt. h (suc k) d (omega (arith, lt))))

typed_append : (ts us : List LogicalType) (vs ws : List Value) → HaveTypes ts vs → HaveTypes us ws
    → HaveTypes (ts ++ us) (vs ++ ws)
typed_append [] us [] ws h g = g
typed_append [] us (v ∷ vs) ws h g = absurd h
typed_append (t ∷ ts) us [] ws h g = absurd h
typed_append (t ∷ ts) us (v ∷ vs) ws h g = (h.0, typed_append ts us vs ws h.1 g)

pub inputs_typed : (k : ℕ) (c : ColumnView) (others : List ScalarView) (i : ℕ)
    → AreTyped c.dtype c.rows → AreScalars others → i < length c.rows
    → HaveTypes (types_in (inputs_of k c others)) (values_at (inputs_of k c others) i)
inputs_typed k c others i typed scalars lt =
    let P : ScalarView → Type 0 = λ s. HasType s.dtype s.value in
    let ts = map dtype_in (take k others) in
    let us = c.dtype ∷ map dtype_in (drop k others) in
    let vs = map value_in (take k others) in
    let ws = row c.rows i ∷ map value_in (drop k others) in
    let here : HaveTypes (ts ++ us) (vs ++ ws) =
    typed_append ts us vs ws
    (scalars_typed (take k others) (All-take P k others scalars))
    (typed i null lt, scalars_typed (drop k others) (All-drop P k others scalars)) in
    subst (λ (xs : List LogicalType). HaveTypes xs (values_at (inputs_of k c others) i))
    (sym (inputs_types k c others))
    (subst (HaveTypes (ts ++ us)) (sym (inputs_at k c others i lt)) here)

-- one more type
pub types_more : (ts : List LogicalType) (cs : List ColumnView) (i : ℕ) (c : ColumnView)
    (t : LogicalType)
    → ts ≡ types_in (take i cs) → i < length cs → c ≡ get_or cs i c → t ≡ c.dtype
    → ts ++ t ∷ [] ≡ types_in (take (i + 1) cs)
types_more ts cs i c t is lt at e =
    (λ j. is j ++ (e ∙ ap (λ (d : ColumnView). d.dtype) at) j ∷ [])
    ∙ sym (map_more (λ (d : ColumnView). d.dtype) cs i c lt)

-- an error for the types is one for the arguments
module _ {V O : Type 0} (m : Meaning V O) where
  abbrev Mismatch : Function V O → List LogicalType → VortexError → Type 0
  Mismatch f ts e = (function_type m f ts ≡ None) × IsMismatchOf f ts e

  mismatch : (f : Function V O) (ts : List LogicalType) (e : VortexError) → RefusesTypes m f ts e
      → UnlessMemory (Mismatch f ts) e
  mismatch (ours s) ts e h = placed (shipped_place s ts) h.1
    where
      placed : (p : Option MismatchPlace) → IsMismatchAt p e
          → UnlessMemory (λ d. (function_type m (ours s) ts ≡ None) × IsMismatchAt p d) e
      placed None k = absurd k
      placed (Some p) k =
          subst (UnlessMemory (λ d. (function_type m (ours s) ts ≡ None) × IsMismatchAt (Some p) d))
          (sym k) (h.0, refl)
  mismatch (custom f o) ts e h = h

  pub types_refused : (f : Function V O) (inputs : List ColumnView) (ts : List LogicalType)
      (e : VortexError)
      → ts ≡ types_in inputs → fits (function_arity m f) (length inputs) ≡ true
      → RefusesTypes m f ts e → UnlessMemory (RefusesInputs m f inputs) e
  types_refused f inputs ts e same arity h =
      UnlessMemory-weaker (Mismatch f (types_in inputs)) (RefusesInputs m f inputs)
      (λ d p. types arity p.0 p.1) e
      (mismatch f (types_in inputs) e (subst (λ (us : List LogicalType). RefusesTypes m f us e) same
      h))

pub args_length : (k : ℕ) (c : ColumnView) (others : List ScalarView) (n : ℕ)
    (inputs : List ColumnView)
    → inputs ≡ inputs_of k c others → n ≡ length c.rows → AreOfLength n inputs
args_length k c others n inputs made long =
    subst (λ (cs : List ColumnView). AreOfLength n cs) (sym made)
    (subst (λ (m : ℕ). AreOfLength m (inputs_of k c others)) (sym long) (inputs_length k c others))
