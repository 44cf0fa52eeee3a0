-- What functions on values of kinds are of: in each row each value is the integer that stores in the
-- kind in which all of them meet what the value means.
use Rattle.std.specs.Prelude.{◌≡◌, List, [], ◌∷◌, ⊤, true, false}
use Rattle.vortex_logical.specs.declared.kind.Kind.{Kind}
use Rattle.vortex_logical.specs.declared.operand.Operand.{Operand}
use Rattle.vortex_sql_rows.specs.declared.types.Takes.{Takes}
use Rattle.vortex_sql_rows.specs.declared.types.Takes.TheVariants.{Cases}
use Rattle.vortex_standard.specs.declared.standard.Standard.{Standard}
use Rattle.vortex_standard.specs.Standard.{row_of}
use Rattle.vortex_logical_calls.specs.Calls.{Lowered}
use Rattle.vortex_logical_calls.specs.RowLaws.{AlignedRows, has_scale}
use Rattle.vortex_expressions.specs.Outcomes.{Outcome, answers, and_then}
use Rattle.vortex_expressions.specs.Items.{Item, bound, Tree}
use Rattle.vortex_expressions.specs.Applied.{function_call}
use Rattle.vortex_expressions.specs.Kinded.{is_plain, item_operand}
use Rattle.vortex_expressions.specs.Functions.{call_kind, result_item, function_item}

-- x is what the item is next to values, of which the first with a kind has that one
abbrev pub IsNext : Kind → Item → Lowered → Type 0
IsNext k i x = item_operand k i ≡ answers x

-- the second item is a tree that means in the common kind what the first one means
pub record IsStored (k : Kind) (common : Operand) (i j : Item) : Type 0 where
  pub x : Lowered
  pub t : Tree
  pub next : IsNext k i x
  pub is : j ≡ bound t
  pub rows : has_scale x.operand ≡ true → AlignedRows common x t

module _ (k : Kind) (common : Operand) where
  -- each of several
  abbrev pub AreStored : List Item → List Item → Type 0
  AreStored [] [] = ⊤
  AreStored (i ∷ is) (j ∷ js) = IsStored k common i j × AreStored is js
  AreStored is js = ⊥

  -- of cases the values; the conditions stay
  abbrev pub CasesAreStored : List Item → List Item → Type 0
  CasesAreStored [] [] = ⊤
  CasesAreStored (v ∷ []) (j ∷ []) = IsStored k common v j
  CasesAreStored (c ∷ v ∷ is) (d ∷ j ∷ js) =
      (d ≡ c) × IsStored k common v j × CasesAreStored is js
  CasesAreStored is js = ⊥

  abbrev pub ArgumentsAreStored : Takes → List Item → List Item → Type 0
  ArgumentsAreStored Cases is js = CasesAreStored is js
  ArgumentsAreStored s is js = AreStored is js

-- the call of a function on values of which one has a kind: that on what stores them in the kind in
-- which they meet, and a choice has that kind
pub record CallsInKind (f : Standard) (is : List Item) (r : Item) : Type 0 where
  pub common : Operand
  pub js : List Item
  pub t : Tree
  pub stored : ArgumentsAreStored (call_kind f is) common (row_of f).types.takes is js
  pub call : function_call f js ≡ answers t
  pub result : r ≡ result_item f common t

abbrev pub FunctionsCallInKind : Type 0
FunctionsCallInKind =
    (f : Standard) (is : List Item) (r : Item) → is_plain (call_kind f is) ≡ false
    → function_item f is ≡ answers r → CallsInKind f is r

-- a part of a text is the call of the function, and what is made of that
pub record IsCall (f : Standard) (is : List Item) (p : Item → Outcome Item) (r : Item) : Type 0 where
  pub called : Item
  pub calls : is_plain (call_kind f is) ≡ false → CallsInKind f is called
  pub made : p called ≡ answers r
