-- The value of a well-typed tree has the tree's type, in each row in which the leaves have values
-- of their types.
use Rattle.std.proofs.Common.{◌≡◌, ℕ, List, [], ◌∷◌, Some, subst, true, false}
use Rattle.std.specs.Prelude.{Any}
use Rattle.vortex_types.specs.LogicalTypes.{LogicalType, is_nullable}
use Rattle.vortex_types.specs.Values.{Value, null, is_null}
use Rattle.vortex_types.specs.Typing.{HasType}
use Rattle.vortex_types.proofs.NullValues.{not_null}
use Rattle.vortex_columns.specs.ColumnView.{ColumnView}
use Rattle.vortex_interface.specs.Outcomes.{Outcome, gives, GivesType, GivesNull}
use Rattle.vortex_interface.specs.Meaning.{Meaning, Lawful, HaveTypes, AreAlike}
use Rattle.vortex_interface.specs.Shipped.{row_lawful}
use Rattle.vortex_interface.specs.Functions.{Function, ours, custom, function_type, function_means}
use Rattle.vortex_interface.specs.Functions.{function_strict}
use Rattle.vortex_interface.specs.Trees.{Leaf, place, held, Tree, leaf, constant, call, Trees}
use Rattle.vortex_interface.specs.Trees.{no_trees, tree}
use Rattle.vortex_interface.specs.Eval.{all_give, leaf_type, leaf_value, tree_type, tree_types, eval}
use Rattle.vortex_interface.specs.Eval.{eval_all}
use Rattle.vortex_interface.specs.Rewrites.{HasRow, AllHaveRow, LeafHasRow}
use Rattle.vortex_interface.proofs.TypedCalls.{types_parts, values_parts, typed_call, call_value}

-- the laws of a caller's function are those of a shipped one
module _ {V O : Type 0} (m : Meaning V O) (lawful : Lawful m) where
  pub function_typed : (f : Function V O) (ts : List LogicalType) (t : LogicalType)
      (vs : List Value) → function_type m f ts ≡ Some t → HaveTypes ts vs
      → GivesType t (function_means m f ts vs)
  function_typed (ours s) ts t vs e h = (row_lawful s).typed ts t vs e h
  function_typed (custom f o) ts t vs e h = lawful.typed f o ts t vs e h

  pub function_alike : (f : Function V O) (ts us : List LogicalType) (t u : LogicalType)
      (vs : List Value) → function_type m f ts ≡ Some t → function_type m f us ≡ Some u
      → AreAlike ts us → HaveTypes ts vs → HaveTypes us vs
      → function_means m f ts vs ≡ function_means m f us vs
  function_alike (ours s) ts us t u vs e g a h k = (row_lawful s).alike ts us t u vs e g a h k
  function_alike (custom f o) ts us t u vs e g a h k = lawful.alike f o ts us t u vs e g a h k

  pub function_null : (f : Function V O) (ts : List LogicalType) (t : LogicalType) (vs : List Value)
      → function_strict m f ≡ true → function_type m f ts ≡ Some t → HaveTypes ts vs
      → Any (λ v. v ≡ null) vs → GivesNull (function_means m f ts vs)
  function_null (ours s) ts t vs p e h a = (row_lawful s).strict_value ts t vs p e h a
  function_null (custom f o) ts t vs p e h a = lawful.strict_value f o ts t vs p e h a

  typed_outcome : (t : LogicalType) (r : Outcome) (w : Value) → GivesType t r → r ≡ gives w
      → HasType t w
  typed_outcome t r w h e = subst (GivesType t) e h

  leaf_typed : (cs : List ColumnView) (i : ℕ) (l : Leaf) → LeafHasRow cs i l
      → HasType (leaf_type l) (leaf_value cs l i)
  leaf_typed cs i (place p name t) h = h
  leaf_typed cs i (held c) h = h.typed

  has_type : (t u : LogicalType) (v w : Value) → t ≡ u → v ≡ w → HasType t v → HasType u w
  has_type t u v w p q h = subst (λ (a : LogicalType). HasType a w) p (subst (HasType t) q h)

  mutual
    pub value_typed : (cs : List ColumnView) (i : ℕ) (x : Tree V O) (t : LogicalType) (w : Value)
        → tree_type m x ≡ Some t → HasRow cs i x → eval m cs x i ≡ gives w → HasType t w
    value_typed cs i (leaf l) t w h p e =
        let a : leaf_type l ≡ t = cc in
        let b : leaf_value cs l i ≡ w = cc in
        has_type (leaf_type l) t (leaf_value cs l i) w a b (leaf_typed cs i l p)
    value_typed cs i (constant s) t w h p e =
        let a : s.dtype ≡ t = cc in
        let b : s.value ≡ w = cc in
        has_type s.dtype t s.value w a b p
    value_typed cs i (call f xs) t w h p e =
        let c = typed_call m f xs t h in
        let a = call_value m cs i f xs c.types w c.children e in
        let have = values_typed cs i xs c.types a.values c.children p a.children in
        typed_outcome t (function_means m f c.types a.values) w
        (function_typed f c.types t a.values c.returns have) a.means

    pub values_typed : (cs : List ColumnView) (i : ℕ) (xs : Trees V O) (ts : List LogicalType)
        (vs : List Value)
        → tree_types m xs ≡ Some ts → AllHaveRow cs i xs → eval_all m cs xs i ≡ all_give vs
        → HaveTypes ts vs
    values_typed cs i no_trees ts vs h p e =
        let a : [] ≡ ts = cc in
        let b : [] ≡ vs = cc in
        subst (λ (us : List LogicalType). HaveTypes us vs) a (subst (HaveTypes []) b tt)
    values_typed cs i (tree x xs) ts vs h p e =
        let a = types_parts (tree_type m x) (tree_types m xs) ts h in
        let b = values_parts (eval m cs x i) (eval_all m cs xs i) vs e in
        let one = value_typed cs i x a.0 b.0 a.2 p.0 b.2 in
        let others = values_typed cs i xs a.1 b.1 a.3 p.1 b.3 in
        subst (λ (us : List LogicalType). HaveTypes us vs) a.4
        (subst (HaveTypes (a.0 ∷ a.1)) b.4 (one, others))

  -- a tree whose type has no null is null in no row
  pub never_null : (cs : List ColumnView) (i : ℕ) (x : Tree V O) (t : LogicalType) (w : Value)
      → tree_type m x ≡ Some t → is_nullable t ≡ false → HasRow cs i x → eval m cs x i ≡ gives w
      → is_null w ≡ false
  never_null cs i x t w h n p e = not_null t w (value_typed cs i x t w h p e) n
