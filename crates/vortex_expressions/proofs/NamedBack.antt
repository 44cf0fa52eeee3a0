-- A call by its name is read back: its arguments are bound in their order, its literals keep their
-- types, and the name means its function.
use Rattle.std.proofs.Common.{◌≡◌, true, false, ◌&&◌, List, [], ◌∷◌, ◌++◌, ℕ}
use Rattle.std.proofs.Common.{Option, Some, None, refl, ap, sym, subst, ◌∙◌, append_assoc, reverse}
use Rattle.std.proofs.Common.{length, option_map}
use Rattle.std.specs.Prelude.{is_some, if◌then◌else◌}
use Rattle.std.proofs.lemmas.Bool.{and_parts}
use Rattle.std.proofs.lemmas.List.{reverse-append}
use Rattle.vortex_types.specs.LogicalTypes.{LogicalType, Fields, is_integer_type}
use Rattle.vortex_types.specs.TypeEquality.{alike_types}
use Rattle.vortex_interface.specs.Meaning.{fits}
use Rattle.vortex_interface.specs.Functions.{custom}
use Rattle.vortex_interface.specs.Eval.{tree_type, tree_types}
use Rattle.vortex_interface.specs.Trees as trees
use Rattle.vortex_interface.specs.Trees.{call, no_trees, trees_of, list_of}
use Rattle.vortex_interface.specs.declared.options.EmptyOptions.{EmptyOptions}
use Rattle.vortex_interface.proofs.StepPlaces.{same_trees}
use Rattle.vortex_standard.specs.declared.standard.Standard.{Standard}
use Rattle.vortex_sql_rows.specs.declared.types.Kind.{Kind}
use Rattle.vortex_sql_rows.specs.declared.types.Kind.TheVariants as kind
use Rattle.vortex_sql_rows.specs.declared.types.Takes.{Takes}
use Rattle.vortex_sql_rows.specs.declared.types.Takes.TheVariants.{Alike, Each, Cases}
use Rattle.vortex_sql_rows.specs.Types.{is_kind, all_alike, are_cases, are_taken}
use Rattle.vortex_sql_rows.specs.AcceptedTypes.{accepted}
use Rattle.vortex_sql_rows.specs.Row.{row_type}
use Rattle.vortex_standard.specs.Standard.{row_of}
use Rattle.vortex_standard.specs.Names.{name_of}
use Rattle.vortex_standard.specs.NameLaws.{named_back}
use Rattle.vortex_syntax.specs.Syntax.{Syntax, Arguments, no_arguments, argument}
use Rattle.vortex_expressions.specs.declared.refusal.Refusal.TheVariants.{NoFunction}
use Rattle.vortex_expressions.specs.Outcomes.{answers, and_then, or_refuses}
use Rattle.vortex_expressions.specs.Items.{Item, Tree, meaning, callable, common_type, truth_type}
use Rattle.vortex_expressions.specs.Items.{settled, all_settled, call_of, as_item}
use Rattle.vortex_expressions.specs.Applied.{values_of, cases_settled, arguments_settled}
use Rattle.vortex_expressions.specs.Applied.{function_call}
use Rattle.vortex_expressions.specs.Arguments.{type_of_null, is_null, settled_at, each_settled}
use Rattle.vortex_expressions.specs.Arguments.{alike_type}
use Rattle.std.specs.List.{list_all}
use Rattle.vortex_expressions.specs.Literals as literals
use Rattle.vortex_expressions.specs.Items.{literal, bound, kinded, fraction, interval}
use Rattle.vortex_expressions.specs.Functions.{function_item, applied_item}
use Rattle.vortex_expressions.proofs.PlainItems.{AllPlain, function_plain, applied_plain}
use Rattle.vortex_expressions.specs.Binding.{with_item, of_items, item_of, items_of}
use Rattle.vortex_expressions.specs.Writing.{syntax_of, syntaxes_of, all_present, applied_from}
use Rattle.vortex_expressions.specs.Writing.{named_syntax}
use Rattle.vortex_expressions.proofs.Options.{some_is, mapped_is}
use Rattle.vortex_expressions.proofs.LiteralsBack.{Stands, Standing, tree_standing}
use Rattle.vortex_expressions.proofs.MetTypes.{alike}
use Rattle.vortex_expressions.proofs.Beside.{Beside, AreOfTypes, EachAlike, common_alike, settles}
use Rattle.vortex_expressions.proofs.Beside.{stands_plain}
use Rattle.vortex_expressions.proofs.Beside.{none_beside, same_alike}
use Rattle.vortex_expressions.proofs.TruthsBack.{truth_settles, condition_takes}
use Rattle.vortex_expressions.proofs.TypedCalls.{typed_call, head_is, arity_is}

abbrev Trees : Type 0
Trees = trees.Trees Standard EmptyOptions

-- each literal has its default type next to the others
abbrev EachBeside : Option LogicalType → List LogicalType → Type 0
EachBeside o [] = Unit {0}
EachBeside o (u ∷ us) = Beside o u × EachBeside o us

none_each : (us : List LogicalType) → EachBeside None us
none_each [] = tt
none_each (u ∷ us) = (none_beside u, none_each us)

alike_each : (v : LogicalType) (o : Option LogicalType) (us : List LogicalType)
    → ((w : LogicalType) → o ≡ Some w → alike w v) → EachAlike v us → EachBeside o us
alike_each v o [] f h = tt
alike_each v o (u ∷ us) f h = ((λ w e i. f w e ∙ sym h.0), alike_each v o us f h.1)

all_alike_each : (v : LogicalType) (us : List LogicalType) → all_alike v us ≡ true → EachAlike v us
all_alike_each v [] e = tt
all_alike_each v (u ∷ us) e =
    let p = and_parts (alike_types v u) (all_alike v us) e in
    (sym (same_alike v u p.0), all_alike_each v us p.1)

-- cases: values are alike
case_values : (v : LogicalType) (us : List LogicalType) → are_cases v us ≡ true
    → EachAlike v (values_of us)
case_values v [] e = tt
case_values v (u ∷ []) e = (sym (same_alike v u e), tt)
case_values v (c ∷ u ∷ us) e =
    let p = and_parts (is_kind kind.Truth c) (alike_types v u && are_cases v us) e in
    let q = and_parts (alike_types v u) (are_cases v us) p.1 in
    (sym (same_alike v u q.0), case_values v us q.1)

values_typed : (is : List Item) (us : List LogicalType) → AreOfTypes is us
    → AreOfTypes (values_of is) (values_of us)
values_typed [] [] h = tt
values_typed (i ∷ []) (u ∷ []) h = h
values_typed (i ∷ j ∷ is) (u ∷ t ∷ us) h = (h.1.0, values_typed is us h.1.1)
values_typed [] (u ∷ us) h = absurd h
values_typed (i ∷ is) [] h = absurd h
values_typed (i ∷ []) (u ∷ t ∷ us) h = absurd h.1
values_typed (i ∷ j ∷ is) (u ∷ []) h = absurd h.1

-- arguments that bind to items of trees
abbrev EachStands : List Item → Trees → Type 0
EachStands [] no_trees = Unit {0}
EachStands (i ∷ is) (trees.tree t ts) = Stands i t × EachStands is ts
EachStands is ts = ⊥

types_there : (is : List Item) (ts : Trees) (us : List LogicalType) → EachStands is ts
    → tree_types meaning ts ≡ Some us → AreOfTypes is us
types_there [] no_trees [] h e = tt
types_there [] no_trees (u ∷ us) h e = absurd cc
types_there (i ∷ is) (trees.tree t ts) [] h e =
    let a = head_is (tree_type meaning t) (tree_types meaning ts) [] e in absurd cc
types_there (i ∷ is) (trees.tree t ts) (u ∷ us) h e =
    let a = head_is (tree_type meaning t) (tree_types meaning ts) (u ∷ us) e in
    let p : (u ≡ a.first) × (us ≡ a.rest) = heads u a.first us a.rest a.all in (
      (t, h.0, a.here ∙ ap (λ v. Some v) (sym p.0)),
      types_there is ts us h.1 (a.others ∙ ap (λ v. Some v) (sym p.1)),
    )
  where
    heads : (x y : LogicalType) (xs ys : List LogicalType) → x ∷ xs ≡ y ∷ ys → (x ≡ y) × (xs ≡ ys)
    heads x y xs ys e = (cc, cc)
types_there [] (trees.tree t ts) us h e = absurd h
types_there (i ∷ is) no_trees us h e = absurd h

settled_each : (o : Option LogicalType) (is : List Item) (ts : Trees) (us : List LogicalType)
    → EachStands is ts → tree_types meaning ts ≡ Some us → EachBeside o us
    → all_settled o is ≡ answers (list_of ts)
settled_each o [] no_trees us h e k = refl
settled_each o (i ∷ is) (trees.tree t ts) us h e k =
    let a = head_is (tree_type meaning t) (tree_types meaning ts) us e in
    let b = first_beside a.first a.rest us a.all k in
    ap (λ v. and_then v (λ t. and_then (all_settled o is) (λ ts. answers (t ∷ ts))))
    (settles o i t a.first h.0 a.here b.0)
    ∙ ap (λ v. and_then v (λ ts. answers (t ∷ ts))) (settled_each o is ts a.rest h.1 a.others b.1)
  where
    first_beside : (u : LogicalType) (us vs : List LogicalType) → vs ≡ u ∷ us → EachBeside o vs
        → Beside o u × EachBeside o us
    first_beside u us vs e k = subst (EachBeside o) e k
settled_each o [] (trees.tree t ts) us h e k = absurd h
settled_each o (i ∷ is) no_trees us h e k = absurd h

-- conditions are truth values, each before its value
abbrev Conditions : List LogicalType → Type 0
Conditions [] = Unit {0}
Conditions (v ∷ []) = Unit {0}
Conditions (c ∷ v ∷ us) = (is_integer_type c ≡ false) × Conditions us

cases_each : (o : Option LogicalType) (is : List Item) (ts : Trees) (us : List LogicalType)
    → EachStands is ts → tree_types meaning ts ≡ Some us → EachBeside o (values_of us)
    → Conditions us → cases_settled o is ≡ answers (list_of ts)
cases_each o [] no_trees us h e k q = refl
cases_each o (i ∷ []) (trees.tree t no_trees) us h e k q =
    let a = head_is (tree_type meaning t) (Some []) us e in
    let one : us ≡ a.first ∷ [] = a.all ∙ ap (λ vs. a.first ∷ vs) (sym (some_is [] a.rest a.others)) in
    let b : EachBeside o (a.first ∷ []) = subst (λ (vs : List LogicalType). EachBeside o (values_of vs)) one k in
    settled_each o (i ∷ []) (trees.tree t no_trees) (a.first ∷ []) h (e ∙ ap (λ v. Some v) one) b
cases_each o (i ∷ j ∷ is) (trees.tree s (trees.tree t ts)) us h e k q =
    let a = head_is (tree_type meaning s) (tree_types meaning (trees.tree t ts)) us e in
    let b = head_is (tree_type meaning t) (tree_types meaning ts) a.rest a.others in
    let c : Beside o b.first × EachBeside o (values_of b.rest) =
    subst (λ (vs : List LogicalType). EachBeside o (values_of vs)) (a.all ∙ ap (λ vs. a.first ∷ vs) b.all) k in
    let d : (is_integer_type a.first ≡ false) × Conditions b.rest =
    subst Conditions (a.all ∙ ap (λ vs. a.first ∷ vs) b.all) q in
    ap (λ v. and_then v (λ x. and_then (settled o j)
    (λ y. and_then (cases_settled o is) (λ xs. answers (x ∷ y ∷ xs)))))
    (truth_settles i s a.first h.0 a.here d.0)
    ∙ ap (λ v. and_then v (λ y. and_then (cases_settled o is) (λ xs. answers (s ∷ y ∷ xs))))
    (settles o j t b.first h.1.0 b.here c.0)
    ∙ ap (λ v. and_then v (λ xs. answers (s ∷ t ∷ xs)))
    (cases_each o is ts b.rest h.1.1 b.others c.1 d.1)
cases_each o [] (trees.tree t ts) us h e k q = absurd h
cases_each o (i ∷ is) no_trees us h e k q = absurd h
cases_each o (i ∷ []) (trees.tree t (trees.tree s ts)) us h e k q = absurd h.1
cases_each o (i ∷ j ∷ is) (trees.tree t no_trees) us h e k q = absurd h.1

case_conditions : (v : LogicalType) (us : List LogicalType) → are_cases v us ≡ true
    → Conditions us
case_conditions v [] h = tt
case_conditions v (u ∷ []) h = tt
case_conditions v (c ∷ u ∷ us) h =
    let p = and_parts (is_kind kind.Truth c) (alike_types v u && are_cases v us) h in
    let q = and_parts (alike_types v u) (are_cases v us) p.1 in
    (condition_takes c p.0, case_conditions v us q.1)

-- nulls among arguments have types, as all literals that stand for trees have
stands_typed : (i : Item) (t : Tree) → Stands i t → is_null i ≡ false
stands_typed (bound u) t st = refl
stands_typed (kinded k u) t st = refl
stands_typed (fraction w) t st = refl
stands_typed (interval z) t st = refl
stands_typed (literal (literals.number w)) t st = refl
stands_typed (literal (literals.text bs)) t st = refl
stands_typed (literal (literals.truth b)) t st = refl
stands_typed (literal literals.null) t st = absurd (let e = st.2 in cc)

settles_at : (k : Kind) (i : Item) (t : Tree) (ty : LogicalType) → Stands i t
    → tree_type meaning t ≡ Some ty → settled_at k i ≡ answers t
settles_at k i t ty st e =
    ap (λ b. settled (if b then type_of_null k else None) i) (stands_typed i t st)
    ∙ settles None i t ty st e (none_beside ty)

each_back : (a b c : Kind) (is : List Item) (ts : Trees) (us : List LogicalType)
    → EachStands is ts → tree_types meaning ts ≡ Some us
    → each_settled a b c is ≡ answers (list_of ts)
each_back a b c [] no_trees us h e = refl
each_back a b c (i ∷ is) (trees.tree t ts) us h e =
    let p = head_is (tree_type meaning t) (tree_types meaning ts) us e in
    ap (λ v. and_then v (λ t. and_then (each_settled b c c is) (λ ts. answers (t ∷ ts))))
    (settles_at a i t p.first h.0 p.here)
    ∙ ap (λ v. and_then v (λ ts. answers (t ∷ ts))) (each_back b c c is ts p.rest h.1 p.others)
each_back a b c [] (trees.tree t ts) us h e = absurd h
each_back a b c (i ∷ is) no_trees us h e = absurd h

alike_back : (k : Kind) (is : List Item) (ts : Trees) (v : LogicalType) (us : List LogicalType)
    → EachStands is ts → tree_types meaning ts ≡ Some (v ∷ us)
    → alike_type k is ≡ common_type is
alike_back k [] no_trees v us h e = absurd cc
alike_back k (i ∷ is) (trees.tree t ts) v us h e =
    ap (λ b. if b && list_all is_null is then type_of_null k else common_type (i ∷ is))
    (stands_typed i t h.0)
alike_back k [] (trees.tree t ts) v us h e = absurd h
alike_back k (i ∷ is) no_trees v us h e = absurd h

arguments_back : (s : Takes) (is : List Item) (ts : Trees) (us : List LogicalType)
    → EachStands is ts → tree_types meaning ts ≡ Some us → are_taken s us ≡ true
    → arguments_settled s is ≡ answers (list_of ts)
arguments_back (Each a b c) is ts us h e g = each_back a b c is ts us h e
arguments_back (Alike k) is ts (v ∷ us) h e g =
    let p = and_parts (is_kind k v) (all_alike v us) g in
    let each : EachAlike v (v ∷ us) = (refl, all_alike_each v us p.1) in
    let typed = types_there is ts (v ∷ us) h e in
    ap (λ o. all_settled o is) (alike_back k is ts v us h e)
    ∙ settled_each (common_type is) is ts (v ∷ us) h e
    (alike_each v (common_type is) (v ∷ us) (λ w. common_alike v w is (v ∷ us) typed each) each)
arguments_back (Alike k) is ts [] h e g = absurd cc
arguments_back Cases is ts (c ∷ v ∷ us) h e g =
    let p = and_parts (is_kind kind.Truth c) (is_kind kind.Any v && are_cases v us) g in
    let q = and_parts (is_kind kind.Any v) (are_cases v us) p.1 in
    let each : EachAlike v (v ∷ values_of us) = (refl, case_values v us q.1) in
    let typed = values_typed is (c ∷ v ∷ us) (types_there is ts (c ∷ v ∷ us) h e) in
    let o = common_type (values_of is) in
    cases_each o is ts (c ∷ v ∷ us) h e
    (alike_each v o (v ∷ values_of us)
    (λ w. common_alike v w (values_of is) (v ∷ values_of us) typed each) each)
    (condition_takes c p.0, case_conditions v us q.1)
arguments_back Cases is ts (c ∷ []) h e g = absurd cc
arguments_back Cases is ts [] h e g = absurd cc

-- the call of such items
applied_made : (f : Standard) (ts : Trees)
    → is_some (tree_type meaning (call (callable f) ts)) ≡ true
    → call_of (callable f) (list_of ts) ≡ answers (call (callable f) ts)
applied_made f ts h =
    let fit : fits (row_of f).arity (length (list_of ts)) ≡ true = arity_is (callable f) ts h in
    let typed_here : is_some (tree_type meaning (call (callable f) (trees_of (list_of ts)))) ≡ true =
    ap (λ xs. is_some (tree_type meaning (call (callable f) xs))) (same_trees ts) ∙ h in
    rw (fit, typed_here) (ap (λ xs. answers (call (callable f) xs)) (same_trees ts))

there_is : {A : Type 0} (o : Option A) → is_some o ≡ true → (a : A) × (o ≡ Some a)
there_is None h = absurd cc
there_is (Some a) h = (a, refl)

called_back : (f : Standard) (is : List Item) (ts : Trees) → EachStands is ts
    → is_some (tree_type meaning (call (callable f) ts)) ≡ true
    → function_call f is ≡ answers (call (callable f) ts)
called_back f is ts s h =
    let t = typed_call (callable f) ts h in
    let r = there_is (row_type (row_of f) t.types) t.taken.taken in
    let taken = (accepted (row_of f) t.types r.0 r.1).taken in
    ap (λ v. and_then v (call_of (callable f)))
    (arguments_back (row_of f).types.takes is ts t.types s t.typed taken)
    ∙ applied_made f ts h

-- they have no kinds
all_plain : (is : List Item) (ts : Trees) → EachStands is ts → AllPlain is
all_plain [] ts s = tt
all_plain (i ∷ is) (trees.tree t ts) s = (stands_plain i t s.0, all_plain is ts s.1)
all_plain (i ∷ is) no_trees s = absurd s

module _ (scope : Fields) where
  abbrev EachItem : List Syntax → List Item → Type 0
  EachItem [] [] = Unit {0}
  EachItem (a ∷ bs) (i ∷ is) = (item_of scope a ≡ answers i) × EachItem bs is
  EachItem bs is = ⊥

  with_is : (args : Arguments) (a : Syntax) (js : List Item) (i : Item)
      → items_of scope args ≡ answers js → item_of scope a ≡ answers i
      → with_item (items_of scope args) (item_of scope a) ≡ answers (i ∷ js)
  with_is args a js i h k = ap (λ o. with_item o (item_of scope a)) h ∙ ap (with_item (answers js)) k

  -- arguments, from one on
  from_item : (w : List ℕ) (args : Arguments) (a : Syntax) (bs : List Syntax) (js : List Item)
      (i : Item) (is : List Item) → items_of scope args ≡ answers js → item_of scope a ≡ answers i
      → EachItem bs is
      → item_of scope (applied_from w args a bs) ≡ applied_item w (reverse js ++ (i ∷ is))
  from_item w args a [] js i [] h k e =
      ap (of_items (applied_item w)) (with_is args a js i h k)
      ∙ ap (applied_item w) (reverse-append (i ∷ []) js)
  from_item w args a (b ∷ bs) js i (j ∷ is) h k e =
      from_item w (argument args a) b bs (i ∷ js) j is (with_is args a js i h k) e.0 e.1
      ∙ ap (applied_item w)
      (ap (λ xs. xs ++ (j ∷ is)) (reverse-append (i ∷ []) js) ∙ append_assoc (reverse js) (i ∷ []) (j ∷ is))
  from_item w args a [] js i (j ∷ is) h k e = absurd e
  from_item w args a (b ∷ bs) js i [] h k e = absurd e

  named_item : (w : List ℕ) (bs : List Syntax) (is : List Item) → EachItem bs is
      → item_of scope (named_syntax w bs) ≡ applied_item w is
  named_item w [] [] e = refl
  named_item w (a ∷ bs) (i ∷ is) e = from_item w no_arguments a bs [] i is refl e.0 e.1
  named_item w [] (i ∷ is) e = absurd e
  named_item w (a ∷ bs) [] e = absurd e

  abbrev pub Stood : Tree → Type 0
  Stood t = (a : Syntax) → syntax_of t ≡ Some a → Standing scope a t

  abbrev pub EachStood : Trees → Type 0
  EachStood no_trees = Unit {0}
  EachStood (trees.tree t ts) = Stood t × EachStood ts

  -- the items of arguments that stand for trees
  record Bound (bs : List Syntax) (ts : Trees) : Type 0 where
    items : List Item
    bound : EachItem bs items
    stands : EachStands items ts

  bound_there : (ts : Trees) (bs : List Syntax) → EachStood ts
      → all_present (syntaxes_of ts) ≡ Some bs → Bound bs ts
  bound_there no_trees bs h e =
      subst (λ (xs : List Syntax). Bound xs no_trees) (some_is [] bs e)
      (record { items = []; bound = tt; stands = tt })
  bound_there (trees.tree t ts) bs h e =
      by (λ cs. bound_there ts cs h.1) (syntax_of t) refl e
    where
      by : ((cs : List Syntax) → all_present (syntaxes_of ts) ≡ Some cs → Bound cs ts)
          → (o : Option Syntax) → syntax_of t ≡ o → all_present (o ∷ syntaxes_of ts) ≡ Some bs
          → Bound bs (trees.tree t ts)
      by rest None k g = absurd cc
      by rest (Some a) k g =
          let m = mapped_is (λ xs. a ∷ xs) (all_present (syntaxes_of ts)) bs g in
          let s = h.0 a k in
          let r = rest m.a m.there in
          subst (λ (xs : List Syntax). Bound xs (trees.tree t ts)) m.made (record {
            items = s.item ∷ r.items;
            bound = (s.is, r.bound);
            stands = (s.stands, r.stands);
          })

  pub named_stands : (f : Standard) (c : EmptyOptions) (ts : Trees) (a : Syntax)
      → is_some (tree_type meaning (call (custom f c) ts)) ≡ true → EachStood ts
      → option_map (named_syntax (name_of f)) (all_present (syntaxes_of ts)) ≡ Some a
      → Standing scope a (call (custom f c) ts)
  named_stands f c ts a h k e =
      let m = mapped_is (named_syntax (name_of f)) (all_present (syntaxes_of ts)) a e in
      let b = bound_there ts m.a k m.there in
      tree_standing scope a (call (custom f c) ts)
      (ap (item_of scope) (sym m.made) ∙ named_item (name_of f) m.a b.items b.bound
      ∙ applied_plain (name_of f) b.items (all_plain b.items ts b.stands)
      ∙ ap (λ o. and_then (or_refuses NoFunction o) (λ f. function_item f b.items))
      (named_back f)
      ∙ function_plain f b.items (all_plain b.items ts b.stands)
      ∙ ap as_item (called_back f b.items ts b.stands h))
