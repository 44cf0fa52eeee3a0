-- From the children's columns to a call's column or error.
use Rattle.std.proofs.Common.{◌≡◌, ℕ, zero, suc, ◌<◌, refl, sym, ap, subst, ◌∙◌, List, [], ◌∷◌}
use Rattle.std.proofs.Common.{◌++◌, length, get_or, take, inr, Bool, true, false, Option, Some}
use Rattle.std.proofs.Common.{None, arith}
use Rattle.std.specs.Prelude.{slice_get, if◌then◌else◌, ⊤, Result}
use Rattle.std.specs.Option.{option_and_then}
use Rattle.std.proofs.lemmas.Option.{get_or_from_slice_get}
use Rattle.std.proofs.lemmas.List.{length-map}
use Rattle.std.proofs.lemmas.List.FromFn.{get_or-map-range_with_len, length-map-range_with_len}
use Rattle.vortex_errors.specs.declared.error.VortexError.{VortexError}
use Rattle.vortex_types.specs.LogicalTypes.{LogicalType}
use Rattle.vortex_types.specs.Values.{null}
use Rattle.vortex_columns.specs.ColumnView.{ColumnView, row, constant_column}
use Rattle.vortex_types.specs.ScalarView.{ScalarView}
use Rattle.vortex_errors.specs.Answers.{Answers}
use Rattle.vortex_errors.proofs.Answering.{Answers-weaker}
use Rattle.vortex_interface.specs.Outcomes.{gives, GivesValue, HasCallRows, IsCallFault, call_row}
use Rattle.vortex_interface.specs.Outcomes.{types_in, values_at}
use Rattle.vortex_interface.specs.Meaning.{Meaning, fits}
use Rattle.vortex_interface.specs.Functions.{Function, function_arity, function_type, function_means}
use Rattle.vortex_interface.specs.Functions.{call_type}
use Rattle.vortex_interface.specs.Trees.{place, Tree, leaf, constant, call, trees_of}
use Rattle.vortex_interface.specs.Eval.{tree_type, tree_types, with_type, types_or_none, eval}
use Rattle.vortex_interface.specs.Eval.{eval_all, then_means, all_give, Settled, AllSettled}
use Rattle.vortex_interface.specs.Eval.{IsFirstFault, HasTreeRows}
use Rattle.vortex_interface.specs.Execution.{LeavesFit, other_length}
use Rattle.vortex_interface.proofs.RewrittenRows.{same_length}

-- each tree's rows are in the column at its position
abbrev pub AllHaveRows : {V O : Type 0} → Meaning V O → List ColumnView → ℕ → List (Tree V O)
    → List ColumnView → Type 0
AllHaveRows m cs n [] [] = ⊤
AllHaveRows m cs n (t ∷ ts) (d ∷ ds) = HasTreeRows m cs n t d × AllHaveRows m cs n ts ds
AllHaveRows m cs n [] (d ∷ ds) = ⊥
AllHaveRows m cs n (t ∷ ts) [] = ⊥

where_true : (b : Bool) (o : Option LogicalType) (t : LogicalType)
    → (if b then o else None) ≡ Some t → (b ≡ true) × (o ≡ Some t)
where_true true o t e = (refl, e)
where_true false o t e = cc

module _ {V O : Type 0} where
  module _ (m : Meaning V O) where
    pub types_more : (ts : List (Tree V O)) (ks : List LogicalType) (i : ℕ) (t : Tree V O)
        (k : LogicalType)
        → tree_types m (trees_of (take i ts)) ≡ Some ks → i < length ts → t ≡ get_or ts i t
        → tree_type m t ≡ Some k → tree_types m (trees_of (take (suc i) ts)) ≡ Some (ks ++ k ∷ [])
    types_more ts ks i t k h lt e q = go ts ks i h lt e
      where
        one : (x : Tree V O) (o : Option (List LogicalType)) → tree_type m x ≡ Some k
            → o ≡ Some [] → with_type (tree_type m x) o ≡ Some (k ∷ [])
        one x o p r = λ j. with_type (p j) (r j)

        parts : (a : Option LogicalType) (o : Option (List LogicalType)) (js : List LogicalType)
            → with_type a o ≡ Some js
            → (j : LogicalType) × (rest : List LogicalType) × (a ≡ Some j) × (o ≡ Some rest) ×
            (js ≡ j ∷ rest)
        parts None o js p = cc
        parts (Some a) None js p = cc
        parts (Some a) (Some rest) js p = (a, rest, refl, refl, cc)

        go : (xs : List (Tree V O)) (js : List LogicalType) (l : ℕ)
            → tree_types m (trees_of (take l xs)) ≡ Some js → l < length xs → t ≡ get_or xs l t
            → tree_types m (trees_of (take (suc l) xs)) ≡ Some (js ++ k ∷ [])
        go [] js l p r s = absurd (omega arith)
        go (x ∷ xs) js zero p r s =
            let none : js ≡ [] = cc in
            one x (Some []) (ap (tree_type m) (sym s) ∙ q) refl
            ∙ ap (λ (ys : List LogicalType). Some (ys ++ k ∷ [])) (sym none)
        go (x ∷ xs) js (suc l) p r s =
            let w = parts (tree_type m x) (tree_types m (trees_of (take l xs))) js p in
            (λ j. with_type (w.2 j) (go xs w.1 l w.3 (omega arith) s j))
            ∙ ap (λ (ys : List LogicalType). Some (ys ++ k ∷ [])) (sym w.4)

    module _ (cs : List ColumnView) (n : ℕ) where
      pub settled : (t : Tree V O) (d : ColumnView) → HasTreeRows m cs n t d → Settled m cs n t
      settled t d h i lt = subst GivesValue (sym (h.each i lt)) tt

      pub types_are : (ts : List (Tree V O)) (ds : List ColumnView) → AllHaveRows m cs n ts ds
          → tree_types m (trees_of ts) ≡ Some (types_in ds)
      types_are [] [] h = refl
      types_are [] (d ∷ ds) h = absurd h
      types_are (t ∷ ts) [] h = absurd h
      types_are (t ∷ ts) (d ∷ ds) h = λ j. with_type (h.0.dtype j) (types_are ts ds h.1 j)

      pub counts_are : (ts : List (Tree V O)) (ds : List ColumnView) → AllHaveRows m cs n ts ds
          → (k : ℕ) (d : ColumnView) → k < length ds → length (get_or ds k d).rows ≡ n
      counts_are [] [] h k d lt = absurd (omega arith)
      counts_are [] (x ∷ ds) h k d lt = absurd h
      counts_are (t ∷ ts) [] h k d lt = absurd h
      counts_are (t ∷ ts) (x ∷ ds) h zero d lt = h.0.count
      counts_are (t ∷ ts) (x ∷ ds) h (suc k) d lt = counts_are ts ds h.1 k d (omega arith)

      inputs_are : (ts : List (Tree V O)) (ds : List ColumnView) → AllHaveRows m cs n ts ds
          → (i : ℕ) → i < n → eval_all m cs (trees_of ts) i ≡ all_give (values_at ds i)
      inputs_are [] [] h i lt = refl
      inputs_are [] (d ∷ ds) h i lt = absurd h
      inputs_are (t ∷ ts) [] h i lt = absurd h
      inputs_are (t ∷ ts) (d ∷ ds) h i lt = rw (h.0.each i lt, inputs_are ts ds h.1 i lt) refl

      all_settled : (ts : List (Tree V O)) (ds : List ColumnView) → AllHaveRows m cs n ts ds
          → AllSettled m cs n (trees_of ts)
      all_settled [] [] h = tt
      all_settled [] (d ∷ ds) h = absurd h
      all_settled (t ∷ ts) [] h = absurd h
      all_settled (t ∷ ts) (d ∷ ds) h = (settled t d h.0, all_settled ts ds h.1)

      -- a call's row over its children's columns is the tree's row
      row_is : (f : Function V O) (ts : List (Tree V O)) (ds : List ColumnView)
          → AllHaveRows m cs n ts ds → (i : ℕ) → i < n
          → eval m cs (call f (trees_of ts)) i ≡ call_row (function_means m f) ds i
      row_is f ts ds h i lt =
          λ j. then_means (function_means m f (types_or_none (types_are ts ds h j)))
          (inputs_are ts ds h i lt j)

      -- the conditions of a well-typed call over such columns
      pub accepted : (f : Function V O) (ts : List (Tree V O)) (ds : List ColumnView)
          (k : LogicalType)
          → AllHaveRows m cs n ts ds → tree_type m (call f (trees_of ts)) ≡ Some k
          → (fits (function_arity m f) (length ds) ≡ true) ×
          (function_type m f (types_in ds) ≡ Some k)
      accepted f ts ds k h e =
          let typed : call_type m f (types_in ds) ≡ Some k =
          ap (option_and_then (call_type m f)) (sym (types_are ts ds h)) ∙ e in
          let p =
          where_true (fits (function_arity m f) (length (types_in ds)))
          (function_type m f (types_in ds)) k typed in (
            ap (λ c. fits (function_arity m f) c)
                (sym (length-map ds (λ (d : ColumnView). d.dtype)))
                ∙ p.0,
            p.1,
          )

      call_rows : (f : Function V O) (ts : List (Tree V O)) (ds : List ColumnView)
          (c : ColumnView) (k : LogicalType)
          → AllHaveRows m cs n ts ds → tree_type m (call f (trees_of ts)) ≡ Some k
          → HasCallRows (function_type m f) (function_means m f) ds n c
          → HasTreeRows m cs n (call f (trees_of ts)) c
      call_rows f ts ds c k h e r = record {
        dtype = e ∙ sym ((accepted f ts ds k h e).1) ∙ r.dtype;
        count = r.count;
        each = λ i lt. row_is f ts ds h i lt ∙ r.each i lt;
      }

      call_faults : (f : Function V O) (ts : List (Tree V O)) (ds : List ColumnView)
          (e : VortexError)
          → AllHaveRows m cs n ts ds → IsCallFault (function_means m f) ds n e
          → IsFirstFault m cs n (call f (trees_of ts)) e
      call_faults f ts ds e h r =
          inr (
            all_settled ts ds h,
            record {
              at = r.at;
              below = r.below;
              fault = r.fault;
              here = row_is f ts ds h r.at r.below ∙ r.here;
              told = r.told;
            },
          )

      -- the function's result over its arguments' rows is the call's
      pub call_answers : (f : Function V O) (ts : List (Tree V O)) (ds : List ColumnView)
          (k : LogicalType) (r : Result ColumnView VortexError)
          → AllHaveRows m cs n ts ds → tree_type m (call f (trees_of ts)) ≡ Some k
          → Answers r (HasCallRows (function_type m f) (function_means m f) ds n)
          (IsCallFault (function_means m f) ds n)
          → Answers r (HasTreeRows m cs n (call f (trees_of ts)))
          (IsFirstFault m cs n (call f (trees_of ts)))
      call_answers f ts ds k r h e a =
          Answers-weaker r (HasCallRows (function_type m f) (function_means m f) ds n)
          (HasTreeRows m cs n (call f (trees_of ts))) (IsCallFault (function_means m f) ds n)
          (IsFirstFault m cs n (call f (trees_of ts))) (λ c p. call_rows f ts ds c k h e p)
          (λ d p. call_faults f ts ds d h p) a

-- a column leaf's column
pub leaf_rows : {V O : Type 0} (m : Meaning V O) (cs : List ColumnView) (n : ℕ) (self : Tree V O)
    (p : ℕ) (name : List ℕ) (k : LogicalType) (c : ColumnView)
    → self ≡ leaf (place p name k) → LeavesFit cs self → other_length n cs ≡ None
    → c ≡ get_or cs p c
    → HasTreeRows m cs n self c
leaf_rows {V} {O} m cs n self p name k c is fit lengths e =
    let h : LeavesFit {V = V} {O = O} cs (leaf (place p name k)) =
    subst (λ (t : Tree V O). LeavesFit cs t) is fit in
    let q : h.0 ≡ c = sym (get_or_from_slice_get cs p h.0 c h.1) ∙ sym e in
    let found : slice_get cs p ≡ Some c = h.1 ∙ ap Some q in
    subst (λ (t : Tree V O). HasTreeRows m cs n t c) (sym is) (record {
      dtype = ap Some (sym h.2 ∙ ap (λ (x : ColumnView). x.dtype) q);
      count = same_length n cs p c lengths found;
      each = λ i lt. rw found refl;
    })

-- a literal's column
pub constant_rows : {V O : Type 0} (m : Meaning V O) (cs : List ColumnView) (n : ℕ)
    (self : Tree V O) (s : ScalarView) (c : ColumnView)
    → self ≡ constant s → c ≡ constant_column s n → HasTreeRows m cs n self c
constant_rows {V} {O} m cs n self s c is e =
    subst (λ (t : Tree V O). HasTreeRows m cs n t c) (sym is) (record {
      dtype = ap (λ (d : ColumnView). Some d.dtype) (sym e);
      count =
          ap (λ (d : ColumnView). length d.rows) e ∙ length-map-range_with_len (λ i. s.value) 0 n;
      each = λ i lt.
          ap gives
          (sym
          (ap (λ (d : ColumnView). row d.rows i) e
          ∙ get_or-map-range_with_len (λ k. s.value) 0 n i i null lt (omega arith)));
    })
