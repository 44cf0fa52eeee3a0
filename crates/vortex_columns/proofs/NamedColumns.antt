-- The fields that named columns make.
use Rattle.std.proofs.Common.{◌≡◌, ℕ, List, [], ◌∷◌, String, Global, length, map, refl, sym, ap}
use Rattle.std.proofs.Common.{◌∙◌, arith}
use Rattle.std.specs.Prelude.{All}
use Rattle.std.proofs.lemmas.List.Elements.{All-head, All-tail}
use Rattle.std.proofs.lemmas.List.{length-map}
use Rattle.vortex_types.specs.LogicalTypes.{LogicalType}
use Rattle.vortex_types.specs.TypeOf.{type_of, named_types}
use Rattle.vortex_types.specs.declared.dtype.DType.{DType}
use Rattle.vortex_columns.specs.ColumnView.{ColumnView, AreTyped, named_columns}
use Rattle.vortex_columns.specs.Stored.{AreFields}

abbrev tail_of : List LogicalType → List LogicalType
tail_of [] = []
tail_of (t ∷ ts) = ts

-- names paired with the columns' types are named columns
pub named_types_of : (ns : List (String Global)) (ts : List DType) (cs : List ColumnView)
    → map type_of ts ≡ map (λ c. c.dtype) cs → named_types ns ts ≡ named_columns ns cs
named_types_of [] ts cs h = refl
named_types_of (n ∷ ns) [] [] h = refl
named_types_of (n ∷ ns) (t ∷ ts) (c ∷ cs) h =
    let rest = named_types_of ns ts cs (ap tail_of h) in
    cc
named_types_of (n ∷ ns) [] (c ∷ cs) h = cc
named_types_of (n ∷ ns) (t ∷ ts) [] h = cc

pub same_count : (ns : List (String Global)) (ts : List DType) (cs : List ColumnView)
    → length ns ≡ length ts → map type_of ts ≡ map (λ c. c.dtype) cs → length ns ≡ length cs
same_count ns ts cs e h =
    e ∙ sym (length-map ts type_of) ∙ ap length h ∙ length-map cs (λ c. c.dtype)

pub are_fields : (len : ℕ) (ns : List (String Global)) (cs : List ColumnView)
    → length ns ≡ length cs → All (λ c. length c.rows ≡ len) cs
    → All (λ c. AreTyped c.dtype c.rows) cs → AreFields len (named_columns ns cs) cs
are_fields len [] [] h all typed = tt
are_fields len (n ∷ ns) (c ∷ cs) h all typed = (
  refl,
  All-head (λ d. length d.rows ≡ len) c cs all,
  All-head (λ d. AreTyped d.dtype d.rows) c cs typed,
  are_fields len ns cs (omega arith) (All-tail (λ d. length d.rows ≡ len) c cs all)
      (All-tail (λ d. AreTyped d.dtype d.rows) c cs typed),
)
are_fields len [] (c ∷ cs) h all typed = absurd (omega arith)
are_fields len (n ∷ ns) [] h all typed = absurd (omega arith)
