-- Well-typed calls: their operands, their types, and that the calls succeed.
use Rattle.std.proofs.Common.{◌≡◌, ℕ, suc, Bool, true, false, List, [], ◌∷◌, length, Option, Some}
use Rattle.std.proofs.Common.{None, refl, ap, sym, ◌∙◌, arith}
use Rattle.std.specs.Prelude.{nat_eq, if◌then◌else◌, is_some}
use Rattle.std.specs.Option.{option_and_then}
use Rattle.std.proofs.lemmas.Bool.{eqb-true, false≢true}
use Rattle.vortex_types.specs.LogicalTypes.{LogicalType}
use Rattle.vortex_interface.specs.Meaning.{fits}
use Rattle.vortex_interface.specs.Functions.{function_arity, function_type, call_type}
use Rattle.vortex_interface.specs.Eval.{tree_type, tree_types, with_type}
use Rattle.vortex_interface.specs.Trees as trees
use Rattle.vortex_interface.specs.Trees.{call, no_trees, trees_of, list_of}
use Rattle.vortex_interface.specs.declared.options.EmptyOptions.{EmptyOptions}
use Rattle.vortex_standard.specs.declared.standard.Standard.{Standard}
use Rattle.vortex_expressions.specs.Outcomes.{answers, and_then}
use Rattle.vortex_expressions.specs.Items.{Item, Tree, Callable, meaning, settled, call_of, called}
use Rattle.vortex_expressions.proofs.Options.{some_is}

abbrev Trees : Type 0
Trees = trees.Trees Standard EmptyOptions

-- a call that is well typed: its operands' types, and that their count fits
is_there : {A : Type 0} (o : Option A) (x : A) → o ≡ Some x → is_some o ≡ true
is_there o x e = ap is_some e

pub record Accepted (f : Callable) (us : List LogicalType) : Type 0 where
  pub fitting : fits (function_arity meaning f) (length us) ≡ true
  pub taken : is_some (function_type meaning f us) ≡ true

accepted : (f : Callable) (us : List LogicalType) → is_some (call_type meaning f us) ≡ true
    → Accepted f us
accepted f us h = by (fits (function_arity meaning f) (length us)) refl h
  where
    by : (b : Bool) → fits (function_arity meaning f) (length us) ≡ b
        → is_some (if b then function_type meaning f us else None) ≡ true → Accepted f us
    by true e g = record { fitting = e; taken = g }
    by false e g = absurd (false≢true g)

pub record Typed (f : Callable) (ts : Trees) : Type 0 where
  pub types : List LogicalType
  pub typed : tree_types meaning ts ≡ Some types
  pub taken : Accepted f types

pub typed_call : (f : Callable) (ts : Trees) → is_some (tree_type meaning (call f ts)) ≡ true
    → Typed f ts
typed_call f ts h = by (tree_types meaning ts) refl h
  where
    by : (o : Option (List LogicalType)) → tree_types meaning ts ≡ o
        → is_some (option_and_then (call_type meaning f) o) ≡ true → Typed f ts
    by None e g = absurd (false≢true g)
    by (Some us) e g = record { types = us; typed = e; taken = accepted f us g }

pub record Head (o : Option LogicalType) (os : Option (List LogicalType))
    (us : List LogicalType) : Type 0 where
  pub first : LogicalType
  pub rest : List LogicalType
  pub here : o ≡ Some first
  pub others : os ≡ Some rest
  pub all : us ≡ first ∷ rest

pub head_is : (o : Option LogicalType) (os : Option (List LogicalType)) (us : List LogicalType)
    → with_type o os ≡ Some us → Head o os us
head_is None os us e = absurd cc
head_is (Some t) None us e = absurd cc
head_is (Some t) (Some ts) us e =
    record { first = t; rest = ts; here = refl; others = refl; all = sym (some_is (t ∷ ts) us e) }

count_is : (ts : Trees) (us : List LogicalType) → tree_types meaning ts ≡ Some us
    → length us ≡ length (list_of ts)
count_is no_trees us e = ap length (sym (some_is [] us e))
count_is (trees.tree t ts) us e =
    let h = head_is (tree_type meaning t) (tree_types meaning ts) us e in
    ap length h.all ∙ ap suc (count_is ts h.rest h.others)

pub arity_is : (f : Callable) (ts : Trees) → is_some (tree_type meaning (call f ts)) ≡ true
    → fits (function_arity meaning f) (length (list_of ts)) ≡ true
arity_is f ts h =
    let t = typed_call f ts h in
    ap (fits (function_arity meaning f)) (sym (count_is ts t.types t.typed)) ∙ t.taken.fitting

pub not_one : (n : ℕ) → nat_eq (suc (suc n)) 1 ≡ true → ⊥
not_one n h = let k : suc (suc n) ≡ 1 = eqb-true (suc (suc n)) 1 h in
    let j : ⊥ = omega (arith, k) in j

pub not_two : (n : ℕ) → nat_eq (suc (suc (suc n))) 2 ≡ true → ⊥
not_two n h = let k : suc (suc (suc n)) ≡ 2 = eqb-true (suc (suc (suc n))) 2 h in
    let j : ⊥ = omega (arith, k) in j

pub not_three : (n : ℕ) → nat_eq (suc (suc (suc (suc n)))) 3 ≡ true → ⊥
not_three n h = let k : suc (suc (suc (suc n))) ≡ 3 = eqb-true (suc (suc (suc (suc n)))) 3 h in
    let j : ⊥ = omega (arith, k) in j

-- calls of operands with types
call_is_made : (f : Callable) (xs : List Tree) → fits (function_arity meaning f) (length xs) ≡ true
    → is_some (tree_type meaning (call f (trees_of xs))) ≡ true
    → call_of f xs ≡ answers (call f (trees_of xs))
call_is_made f xs fit h = rw (fit, h) refl

pub one_called : (f : Callable) (o : Option LogicalType) (i : Item) (x : Tree)
    → settled o i ≡ answers x
    → is_some (tree_type meaning (call f (trees.tree x no_trees))) ≡ true
    → called f o (i ∷ []) ≡ answers (call f (trees.tree x no_trees))
one_called f o i x s h =
    ap (λ v. and_then (and_then v (λ t. answers (t ∷ []))) (call_of f)) s
    ∙ call_is_made f (x ∷ []) (arity_is f (trees.tree x no_trees) h) h

pub two_called : (f : Callable) (o : Option LogicalType) (i j : Item) (x y : Tree)
    → settled o i ≡ answers x → settled o j ≡ answers y
    → is_some (tree_type meaning (call f (trees.tree x (trees.tree y no_trees)))) ≡ true
    → called f o (i ∷ j ∷ []) ≡ answers (call f (trees.tree x (trees.tree y no_trees)))
two_called f o i j x y s r h =
    ap (λ v. and_then
    (and_then v (λ t. and_then (and_then (settled o j) (λ u. answers (u ∷ [])))
    (λ ts. answers (t ∷ ts)))) (call_of f)) s
    ∙ ap (λ v. and_then (and_then (and_then v (λ u. answers (u ∷ []))) (λ ts. answers (x ∷ ts)))
    (call_of f)) r
    ∙ call_is_made f (x ∷ y ∷ []) (arity_is f (trees.tree x (trees.tree y no_trees)) h) h

pub three_called : (f : Callable) (o : Option LogicalType) (i j k : Item) (x y z : Tree)
    → settled o i ≡ answers x → settled o j ≡ answers y → settled o k ≡ answers z
    → is_some (tree_type meaning (call f (trees.tree x (trees.tree y (trees.tree z no_trees)))))
    ≡ true
    → called f o (i ∷ j ∷ k ∷ [])
    ≡ answers (call f (trees.tree x (trees.tree y (trees.tree z no_trees))))
three_called f o i j k x y z s r q h =
    ap (λ v. and_then
    (and_then v (λ t. and_then
    (and_then (settled o j)
    (λ u. and_then (and_then (settled o k) (λ w. answers (w ∷ []))) (λ us. answers (u ∷ us))))
    (λ ts. answers (t ∷ ts))))
    (call_of f)) s
    ∙ ap (λ v. and_then
    (and_then (and_then v
    (λ u. and_then (and_then (settled o k) (λ w. answers (w ∷ []))) (λ us. answers (u ∷ us))))
    (λ ts. answers (x ∷ ts))) (call_of f)) r
    ∙ ap (λ v. and_then
    (and_then (and_then (and_then v (λ w. answers (w ∷ []))) (λ us. answers (y ∷ us)))
    (λ ts. answers (x ∷ ts))) (call_of f)) q
    ∙ call_is_made f (x ∷ y ∷ z ∷ [])
    (arity_is f (trees.tree x (trees.tree y (trees.tree z no_trees))) h) h

-- the types of one operand, of two, and of three
pub record TypedOne (f : Callable) (x : Tree) : Type 0 where
  pub first : LogicalType
  pub first_typed : tree_type meaning x ≡ Some first
  pub taken : is_some (function_type meaning f (first ∷ [])) ≡ true

pub record TypedTwo (f : Callable) (x y : Tree) : Type 0 where
  pub first : LogicalType
  pub first_typed : tree_type meaning x ≡ Some first
  pub second : LogicalType
  pub second_typed : tree_type meaning y ≡ Some second
  pub taken : is_some (function_type meaning f (first ∷ second ∷ [])) ≡ true

pub record TypedThree (f : Callable) (x y z : Tree) : Type 0 where
  pub first : LogicalType
  pub first_typed : tree_type meaning x ≡ Some first
  pub second : LogicalType
  pub second_typed : tree_type meaning y ≡ Some second
  pub third : LogicalType
  pub third_typed : tree_type meaning z ≡ Some third
  pub taken : is_some (function_type meaning f (first ∷ second ∷ third ∷ [])) ≡ true

pub typed_one : (f : Callable) (x : Tree)
    → is_some (tree_type meaning (call f (trees.tree x no_trees))) ≡ true → TypedOne f x
typed_one f x h =
    let t = typed_call f (trees.tree x no_trees) h in
    let a = head_is (tree_type meaning x) (Some []) t.types t.typed in
    let e : t.types ≡ a.first ∷ [] = a.all
    ∙ ap (λ us. a.first ∷ us) (sym (some_is [] a.rest a.others)) in
    record {
      first = a.first;
      first_typed = a.here;
      taken =
          ap (λ us. is_some (function_type meaning f us)) (sym e) ∙ t.taken.taken;
    }

pub typed_two : (f : Callable) (x y : Tree)
    → is_some (tree_type meaning (call f (trees.tree x (trees.tree y no_trees)))) ≡ true
    → TypedTwo f x y
typed_two f x y h =
    let t = typed_call f (trees.tree x (trees.tree y no_trees)) h in
    let a = head_is (tree_type meaning x)
    (tree_types meaning (trees.tree y no_trees)) t.types t.typed in
    let b = head_is (tree_type meaning y) (Some []) a.rest a.others in
    let e : t.types ≡ a.first ∷ b.first ∷ [] = a.all
    ∙ ap (λ us. a.first ∷ us)
    (b.all ∙ ap (λ us. b.first ∷ us) (sym (some_is [] b.rest b.others))) in
    record {
      first = a.first;
      first_typed = a.here;
      second = b.first;
      second_typed = b.here;
      taken =
          ap (λ us. is_some (function_type meaning f us)) (sym e) ∙ t.taken.taken;
    }

pub typed_three : (f : Callable) (x y z : Tree)
    → is_some (tree_type meaning (call f (trees.tree x (trees.tree y (trees.tree z no_trees)))))
    ≡ true → TypedThree f x y z
typed_three f x y z h =
    let t = typed_call f (trees.tree x (trees.tree y (trees.tree z no_trees))) h in
    let a = head_is (tree_type meaning x)
    (tree_types meaning (trees.tree y (trees.tree z no_trees))) t.types t.typed in
    let b = head_is (tree_type meaning y)
    (tree_types meaning (trees.tree z no_trees)) a.rest a.others in
    let c = head_is (tree_type meaning z) (Some []) b.rest b.others in
    let e : t.types ≡ a.first ∷ b.first ∷ c.first ∷ [] =
    a.all ∙ ap (λ us. a.first ∷ us)
    (b.all ∙ ap (λ us. b.first ∷ us)
    (c.all ∙ ap (λ us. c.first ∷ us) (sym (some_is [] c.rest c.others)))) in
    record {
      first = a.first;
      first_typed = a.here;
      second = b.first;
      second_typed = b.here;
      third = c.first;
      third_typed = c.here;
      taken = ap (λ us. is_some (function_type meaning f us)) (sym e) ∙ t.taken.taken;
    }
