-- Trees that join operands by And or Or: what decides them, and from operands to the whole.
use Rattle.std.proofs.Common.{◌≡◌, ℕ, ◌<◌, Bool, true, List, [], ◌∷◌, ◌++◌, length, Some, refl, sym}
use Rattle.std.proofs.Common.{ap, subst, ◌∙◌, inl, inr, arith}
use Rattle.std.specs.Prelude.{All, None, Result, slice_get}
use Rattle.std.specs.declared.borrow.Cow.{Cow}
use Rattle.std.proofs.lemmas.List.FromFn.{get_or-map-range_with_len, length-map-range_with_len}
use Rattle.vortex_errors.specs.Answers.{Answers}
use Rattle.vortex_errors.specs.declared.error.VortexError.{VortexError}
use Rattle.vortex_types.specs.LogicalTypes.{LogicalType, bool_type, is_nullable}
use Rattle.vortex_types.specs.Values.{Value, null, truth, truth_of, truth_or_null}
use Rattle.vortex_columns.specs.ColumnView.{ColumnView, row, AreTyped, constant_column}
use Rattle.vortex_operators.specs.declared.operators.Operator.{Operator}
use Rattle.vortex_operators.specs.Kleene.{decides}
use Rattle.vortex_interface.specs.Outcomes.{gives, GivesValue, HasCallRows, IsCallFault}
use Rattle.vortex_interface.specs.Outcomes.{types_in}
use Rattle.vortex_interface.specs.Meaning.{Meaning, Lawful, HaveTypes, fits}
use Rattle.vortex_interface.specs.Args.{AreOfLength}
use Rattle.vortex_interface.specs.Shipped.{Binary, row_lawful}
use Rattle.vortex_interface.specs.Functions.{Function, ours, custom, function_type, function_means}
use Rattle.vortex_interface.specs.Functions.{function_infallible, function_arity}
use Rattle.vortex_interface.specs.Trees as trees
use Rattle.vortex_interface.specs.Trees.{leaf, constant, call, Trees, no_trees, tree}
use Rattle.vortex_interface.specs.Trees.{children_of, node_count}
use Rattle.vortex_interface.specs.ComparisonTrees.{operated}
use Rattle.vortex_interface.specs.Eval.{eval, eval_all, all_give, with_first, then_means, tree_type}
use Rattle.vortex_interface.specs.Eval.{tree_types, types_or_none, Settled, IsFirstFault}
use Rattle.vortex_interface.specs.Eval.{HasTreeRows}
use Rattle.vortex_interface.specs.Execution.{LeavesFit, other_length}
use Rattle.vortex_interface.specs.Rewrites.{HasRow, AllHaveRow}
use Rattle.vortex_interface.specs.Bound.{IsBound}
use Rattle.vortex_interface.proofs.AfterRun.{bound_made}
use Rattle.vortex_interface.proofs.BooleanCalls.{bool_call, eval_bool}
use Rattle.vortex_interface.proofs.FaultyRows.{value_in}
use Rattle.vortex_interface.proofs.KleeneConstants.{left_decides}
use Rattle.vortex_interface.proofs.RewrittenRows.{fitting_row}
use Rattle.vortex_interface.proofs.TypedCalls.{types_parts, typed_call}
use Rattle.vortex_interface.proofs.TypedValues.{values_typed}
use Rattle.vortex_functions.specs.Executing.{Fits, HasRows}
use Rattle.vortex_functions.proofs.Execution.{AllHaveRows, settled, counts_are, accepted}
use Rattle.vortex_functions.proofs.Execution.{call_answers}
use Rattle.vortex_expressions.specs.Items.{Tree, meaning}
use Rattle.vortex_program.specs.Deciding.{Joins, IsSpine, IsInfallible, AllInfallible, IsTruth}
use Rattle.vortex_program.specs.Deciding.{HasLeftRows}
use Rattle.vortex_program.specs.declared.deciding.Joined.{Joined}

same_tree : {V O : Type 0} (x y : trees.Tree V O) → Some x ≡ Some y → x ≡ y
same_tree x y e = cc

same_type : (k l : LogicalType) → Some k ≡ Some l → k ≡ l
same_type k l e = cc

module _ {V O : Type 0} (m : Meaning V O) where
  -- calls of functions that fault for no values have values where their leaves have
  module _ (lawful : Lawful m) where
    never_faults : (f : Function V O) (ts : List LogicalType) (t : LogicalType) (vs : List Value)
        → function_infallible m f ≡ true → function_type m f ts ≡ Some t → HaveTypes ts vs
        → GivesValue (function_means m f ts vs)
    never_faults (ours s) ts t vs free e h = (row_lawful s).never_faults ts t vs free e h
    never_faults (custom f o) ts t vs free e h = lawful.never_faults f o ts t vs free e h

    module _ (cs : List ColumnView) (i : ℕ) where
      mutual
        gives_value : (t : trees.Tree V O) (k : LogicalType) → tree_type m t ≡ Some k
            → HasRow cs i t → IsInfallible m t → GivesValue (eval m cs t i)
        gives_value (leaf l) k h there free = tt
        gives_value (constant s) k h there free = tt
        gives_value (call f ts) k h there free =
            let c = typed_call m f ts k h in
            let all = give_values ts c.types c.children there free.1 in
            let have = values_typed m lawful cs i ts c.types all.0 c.children there all.1 in
            let is : eval m cs (call f ts) i ≡ function_means m f c.types all.0 =
            λ j. then_means (function_means m f (types_or_none (c.children j))) (all.1 j) in
            subst GivesValue (sym is) (never_faults f c.types k all.0 free.0 c.returns have)

        give_values : (ts : Trees V O) (ks : List LogicalType) → tree_types m ts ≡ Some ks
            → AllHaveRow cs i ts → AllInfallible m ts
            → (vs : List Value) × (eval_all m cs ts i ≡ all_give vs)
        give_values no_trees ks h there free = ([], refl)
        give_values (tree t ts) ks h there free =
            let a = types_parts (tree_type m t) (tree_types m ts) ks h in
            let v = value_in (eval m cs t i) (gives_value t a.0 a.2 there.0 free.0) in
            let vs = give_values ts a.1 a.3 there.1 free.1 in
            (v.0 ∷ vs.0, λ j. with_first (v.1 j) (vs.1 j))

    pub infallible_settles : (cs : List ColumnView) (n : ℕ) (t : trees.Tree V O) (k : LogicalType)
        → tree_type m t ≡ Some k → IsBound t → LeavesFit cs t → other_length n cs ≡ None
        → All (λ c. AreTyped c.dtype c.rows) cs → IsInfallible m t → Settled m cs n t
    infallible_settles cs n t k h bound fit lengths typed free i lt =
        gives_value cs i t k h (fitting_row cs n lengths typed t i lt fit (bound_made n t bound))
        free

  module _ (cs : List ColumnView) (n : ℕ) (op : Operator) (t left right : trees.Tree V O)
      (j : Joins op t left right) where
    type_is : (k : LogicalType) → tree_type m t ≡ Some k
        → tree_type m (operated op left right) ≡ Some k
    type_is k h = ap (tree_type m) (sym j.is) ∙ h

    -- the left operand's fault, and the right one's, are the whole's
    pub left_fault : (e : VortexError) → IsFirstFault m cs n left e → IsFirstFault m cs n t e
    left_fault e h =
        subst (λ (x : trees.Tree V O). IsFirstFault m cs n x e) (sym j.is) (inl (inl h))

    module _ (c : ColumnView) (h : HasTreeRows m cs n left c) where
      pub right_fault : (e : VortexError) → IsFirstFault m cs n right e
          → IsFirstFault m cs n t e
      right_fault e fault =
          subst (λ (x : trees.Tree V O). IsFirstFault m cs n x e) (sym j.is)
          (inl (inr (settled m cs n left c h, inl fault)))

      -- what And or Or answers over both operands' rows is the whole's
      module _ (d : ColumnView) (ds : List ColumnView) (g : HasTreeRows m cs n right d)
          (is : ds ≡ c ∷ d ∷ []) where
        pub both_have : AllHaveRows m cs n (left ∷ right ∷ []) ds
        both_have =
            subst (λ (xs : List ColumnView). AllHaveRows m cs n (left ∷ right ∷ []) xs) (sym is)
            (h, (g, tt))

        pub both_counted : AreOfLength n ds
        both_counted = counts_are m cs n (left ∷ right ∷ []) ds both_have

        pub both_accepted : (k : LogicalType) → tree_type m t ≡ Some k
            → (fits (function_arity m (ours (Binary op))) (length ds) ≡ true)
            × (function_type m (ours (Binary op)) (types_in ds) ≡ Some k)
        both_accepted k typed =
            accepted m cs n (ours (Binary op)) (left ∷ right ∷ []) ds k both_have
            (type_is k typed)

        pub both_answer : (k : LogicalType) (r : Result ColumnView VortexError)
            → tree_type m t ≡ Some k
            → Answers r (HasCallRows (function_type m (ours (Binary op)))
            (function_means m (ours (Binary op))) ds n)
            (IsCallFault (function_means m (ours (Binary op))) ds n)
            → Answers r (HasTreeRows m cs n t) (IsFirstFault m cs n t)
        both_answer k r typed a =
            subst
            (λ (x : trees.Tree V O). Answers r (HasTreeRows m cs n x) (IsFirstFault m cs n x))
            (sym j.is)
            (call_answers m cs n (ours (Binary op)) (left ∷ right ∷ []) ds k r both_have
            (type_is k typed) a)

      -- the whole has a value where the left operand has one and the right one too
      pub value_at : (k : LogicalType) → Settled m cs n right → tree_type m t ≡ Some k → (i : ℕ)
          → i < n → GivesValue (eval m cs t i)
      value_at k values typed i lt =
          let v = value_in (eval m cs right i) (values i lt) in
          let is =
          eval_bool m cs i op left right (row c.rows i) v.0 j.boolean (h.each i lt) v.1 in
          subst (λ (x : trees.Tree V O). GivesValue (eval m cs x i)) (sym j.is)
          (subst GivesValue (sym is) tt)

      -- a row in which the left operand decides
      pub decided_at : (b : Bool) (k : LogicalType) → decides op b ≡ true → Settled m cs n right
          → tree_type m t ≡ Some k → (i : ℕ) → i < n → row c.rows i ≡ truth b
          → eval m cs t i ≡ gives (truth b)
      decided_at b k decides_all values typed i lt is =
          let v = value_in (eval m cs right i) (values i lt) in
          let here = h.each i lt ∙ ap gives is in
          subst (λ (x : trees.Tree V O). eval m cs x i ≡ gives (truth b)) (sym j.is)
          (eval_bool m cs i op left right (truth b) v.0 j.boolean here v.1
          ∙ ap gives (ap truth_or_null (left_decides op b (truth_of v.0) decides_all)))

      -- where each row of the left operand decides and the right one has a value, whichever
      pub decided : (b : Bool) (d : ColumnView) (k : LogicalType) (nullable : Bool)
          → decides op b ≡ true → IsTruth b c → Settled m cs n right → tree_type m t ≡ Some k
          → nullable ≡ is_nullable k
          → d ≡ constant_column (record { dtype = bool_type nullable; value = truth b }) n
          → HasTreeRows m cs n t d
      decided b d k nullable decides_all all values typed null_is is =
          let node = bool_call m op left right k j.boolean (type_is k typed) in
          let same = same_type k _ (sym (type_is k typed) ∙ node.node) in
          subst (λ (x : trees.Tree V O). HasTreeRows m cs n x d) (sym j.is) (record {
            dtype = node.node
                ∙ ap Some (sym (ap (λ (x : ColumnView). x.dtype) is ∙ ap bool_type null_is
                ∙ ap (λ (x : LogicalType). bool_type (is_nullable x)) same));
            count = ap (λ (x : ColumnView). length x.rows) is
                ∙ length-map-range_with_len (λ (k : ℕ). truth b) 0 n;
            each = λ i lt.
                let v = value_in (eval m cs right i) (values i lt) in
                let within : i < length c.rows = omega (arith, lt, h.count) in
                let here = h.each i lt ∙ ap gives (all i within) in
                eval_bool m cs i op left right (truth b) v.0 j.boolean here v.1
                ∙ ap gives (ap truth_or_null (left_decides op b (truth_of v.0) decides_all)
                ∙ sym (ap (λ (x : ColumnView). row x.rows i) is
                ∙ get_or-map-range_with_len (λ (k : ℕ). truth b) 0 n i i null lt (omega arith)));
          })

-- an operand, by its place among the children
module _ {V O : Type 0} (op : Operator) (t left right x : trees.Tree V O)
    (j : Joins op t left right) where
  pub left_at : slice_get (children_of t) 0 ≡ Some x → x ≡ left
  left_at e =
      same_tree x left
      (sym e ∙ ap (λ (u : trees.Tree V O). slice_get (children_of u) 0) j.is)

  pub right_at : slice_get (children_of t) 1 ≡ Some x → x ≡ right
  right_at e =
      same_tree x right
      (sym e ∙ ap (λ (u : trees.Tree V O). slice_get (children_of u) 1) j.is)

  pub joins_left : slice_get (children_of t) 0 ≡ Some x → Joins op t x right
  joins_left e = subst (λ (l : trees.Tree V O). Joins op t l right) (sym (left_at e)) j

  pub joins_right : slice_get (children_of t) 1 ≡ Some x → Joins op t left x
  joins_right e = subst (λ (r : trees.Tree V O). Joins op t left r) (sym (right_at e)) j

-- the operands fit where the whole does
pub left_fits : (cs : List ColumnView) (n : ℕ) (op : Operator) (t left right : Tree)
    → Joins op t left right → Fits cs n t → Fits cs n left
left_fits cs n op t left right j fit =
    let whole = subst (λ (u : Tree). Fits cs n u) j.is fit in (whole.0.0, whole.1)

pub right_fits : (cs : List ColumnView) (n : ℕ) (op : Operator) (t left right : Tree)
    → Joins op t left right → Fits cs n t → Fits cs n right
right_fits cs n op t left right j fit =
    let whole = subst (λ (u : Tree). Fits cs n u) j.is fit in (whole.0.1.0, whole.1)

-- two operands
pub two_there : {V O : Type 0} (op : Operator) (t left right : trees.Tree V O)
    → Joins op t left right → 1 < length (children_of t)
two_there {V} {O} op t left right j =
    let two = ap (λ (u : trees.Tree V O). length (children_of u)) j.is in omega (arith, two)

pub left_smaller : {V O : Type 0} (op : Operator) (t left right : trees.Tree V O)
    → Joins op t left right → node_count left < node_count t
left_smaller {V} {O} op t left right j =
    let count = ap (λ (u : trees.Tree V O). node_count u) j.is in omega (arith, count)

-- from a tree down to its innermost left operand
pub spine_more : (root left right : Tree) (js : List Joined) (j : Joined)
    → IsSpine root js j.node.now → Joins j.operator j.node.now left right
    → IsSpine root (js ++ j ∷ []) left
spine_more root left right [] j is x = (is, left, right, x, refl)
spine_more root left right (i ∷ js) j h x =
    (h.0, h.1, h.2, h.3, spine_more h.1 left right js j h.4 x)

pub spine_last : (root x : Tree) (js : List Joined) (j : Joined) → IsSpine root (js ++ j ∷ []) x
    → IsSpine root js j.node.now × (left : Tree) × (right : Tree)
    × Joins j.operator j.node.now left right × (x ≡ left)
spine_last root x [] j h = h
spine_last root x (i ∷ js) j h =
    let r = spine_last h.1 x js j h.4 in
    ((h.0, h.1, h.2, h.3, r.0), r.1, r.2, r.3, r.4)

pub spine_fits : (cs : List ColumnView) (n : ℕ) (root x : Tree) (js : List Joined)
    → IsSpine root js x → Fits cs n root → Fits cs n x
spine_fits cs n root x [] is fit = subst (λ (t : Tree). Fits cs n t) (sym is) fit
spine_fits cs n root x (j ∷ js) h fit =
    let node = subst (λ (t : Tree). Fits cs n t) (sym h.0) fit in
    let left = left_fits cs n j.operator j.node.now h.1 h.2 h.3 node in
    spine_fits cs n h.1 x js h.4 left

pub spine_fault : (cs : List ColumnView) (n : ℕ) (root x : Tree) (js : List Joined)
    (e : VortexError) → IsSpine root js x → IsFirstFault meaning cs n x e
    → IsFirstFault meaning cs n root e
spine_fault cs n root x [] e is fault =
    subst (λ (t : Tree). IsFirstFault meaning cs n t e) is fault
spine_fault cs n root x (j ∷ js) e h fault =
    let left = spine_fault cs n h.1 x js e h.4 fault in
    subst (λ (t : Tree). IsFirstFault meaning cs n t e) h.0
    (left_fault meaning cs n j.operator j.node.now h.1 h.2 h.3 e left)

-- the rows of the tree below a node are those of its left operand
pub left_rows : (cs : List ColumnView) (n : ℕ) (x : Tree) (j : Joined) (column : Cow ColumnView)
    (left right : Tree) → Joins j.operator j.node.now left right → x ≡ left
    → HasRows meaning cs n x column → HasLeftRows cs n j column
left_rows cs n x j column left right joins same rows =
    (left, right, joins, subst (λ (t : Tree). HasRows meaning cs n t column) same rows)
