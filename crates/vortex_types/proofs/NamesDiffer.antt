-- Names that are distinct, one more at a time.
use Rattle.std.proofs.Common.{◌≡◌, ◌≢◌, ℕ, ◌+◌, ◌<◌, ◌⊎◌, inl, inr, List, length, take, get_or, sym}
use Rattle.std.proofs.Common.{ap, ◌∙◌, arith}
use Rattle.std.specs.Prelude.{All, String, string_bytes}
use Rattle.std.specs.declared.alloc.Global.{Global}
use Rattle.std.proofs.lemmas.List.{get_or_default, get_or-take, length-take-le}
use Rattle.vortex_types.specs.TypeOf.{AllDiffer}

-- the first names are distinct
abbrev pub FirstDiffer : ℕ → List (String Global) → Type 0
FirstDiffer n names = (i j : ℕ) (d : String Global) → i < j → j < n
    → string_bytes (get_or names i d) ≢ string_bytes (get_or names j d)

last_or_before : (j n : ℕ) → j < n + 1 → (j < n) ⊎ (j ≡ n)
last_or_before j n h = grind arith

pub one_more : (n : ℕ) (names : List (String Global)) (name : String Global) → n < length names
    → name ≡ get_or names n name → FirstDiffer n names
    → All (λ m. string_bytes m ≢ string_bytes name) (take n names) → FirstDiffer (n + 1) names
one_more n names name within is differ new i j d below above = by (last_or_before j n above)
  where
    by : (j < n) ⊎ (j ≡ n) → string_bytes (get_or names i d) ≢ string_bytes (get_or names j d)
    by (inl h) = differ i j d below h
    by (inr e) =
        let i_in : i < n = omega (arith, e) in
        let here : get_or names j d ≡ name =
        ap (λ k. get_or names k d) e ∙ get_or_default names n d name within ∙ sym is in
        λ same.
        new i d (omega (arith, length-take-le n names (omega arith)))
        (ap string_bytes (get_or-take n names i d i_in) ∙ same ∙ ap string_bytes here)

-- an earlier equal name refutes that all are distinct
pub differs_from_before : (n : ℕ) (names : List (String Global)) (name : String Global)
    → n < length names → name ≡ get_or names n name → AllDiffer names
    → All (λ m. string_bytes m ≢ string_bytes name) (take n names)
differs_from_before n names name within is differ i d h =
    let i_in : i < n = omega (arith, length-take-le n names (omega arith)) in
    let here : get_or names n d ≡ name = get_or_default names n d name within ∙ sym is in
    λ same.
    differ i n d i_in within
    (ap string_bytes (sym (get_or-take n names i d i_in)) ∙ same ∙ ap string_bytes (sym here))
