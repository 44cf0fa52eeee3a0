-- How a dictionary column is stored.
use Rattle.std.specs.Prelude.{ℕ, List, ◌↔◌, IsTrue, length, ⊤}
use Rattle.vortex_arrays.specs.declared.dictionary.codes.Codes.{Codes}
use Rattle.vortex_arrays.specs.declared.dictionary.codes.Codes.TheVariants.{Owned, Shared}
use Rattle.vortex_arrays.specs.declared.dictionary.DictColumn.TheInside.{Inside}
use Rattle.vortex_arrays.specs.Dictionary.{DictView, AreCoded}
use Rattle.vortex_columns.specs.Taken.{AreRowsOf}

abbrev pub codes_in : Codes → List ℕ
codes_in (Owned codes) = codes.items
codes_in (Shared codes all_coded) = codes.value.items

-- for shared codes it is stored whether each of that many values has one
abbrev pub AreKnown : ℕ → Codes → Type 0
AreKnown count (Owned codes) = ⊤
AreKnown count (Shared codes all_coded) = IsTrue all_coded ↔ AreCoded count codes.value.items

abbrev pub dict_view : Inside → DictView
dict_view a = record { values = a.values; codes = codes_in a.codes }

-- each code refers to a value
pub record IsDict (a : Inside) : Type 0 where
  pub rows : AreRowsOf a.values (codes_in a.codes)
  pub known : AreKnown (length a.values.rows) a.codes
