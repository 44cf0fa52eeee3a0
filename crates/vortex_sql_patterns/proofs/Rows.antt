-- The rows of a call.
use Rattle.std.proofs.Common.{◌≡◌, ◌<◌, ℕ, ℤ, Bool, true, false, List, [], ◌∷◌, Option, Some, None}
use Rattle.std.specs.Prelude.{option_map}
use Rattle.std.proofs.Common.{refl, ap, sym, ◌∙◌, cond, nat_eq, subst, Result, Ok, Err, IsErr, IsErrAnd}
use Rattle.std.specs.List.{list_any}
use Rattle.std.proofs.lemmas.Option.{same_Some}
use Rattle.std.specs.Cmp.Lexicographic.{bytes_decides, pointwise}
use Rattle.vortex_errors.specs.Answers.{Answers, UnlessMemory}
use Rattle.vortex_errors.specs.declared.error.VortexError.{VortexError}
use Rattle.vortex_errors.specs.declared.error.VortexError.TheVariants.{Custom}
use Rattle.vortex_types.specs.Values.{Value, null, number, text, is_null}
use Rattle.vortex_columns.specs.ColumnView.{ColumnView}
use Rattle.vortex_interface.specs.Outcomes.{Outcome, gives, custom, values_at, IsCallFault}
use Rattle.vortex_sql_calls.proofs.MadeRows.{made_fault}
use Rattle.vortex_sql_calls.proofs.Rows.{fault_at}
use Rattle.vortex_sql_rows.specs.declared.faults.RowFault.TheVariants.{NoPattern}
use Rattle.vortex_sql_rows.specs.Faults.{fault_number}
use Rattle.vortex_sql_rows.specs.Row.{RefusesRow}
use Rattle.vortex_sql_rows.specs.Shapes.{both_texts, on_one}
use Rattle.vortex_sql_patterns.specs.Patterns.{pattern_in}
use Rattle.vortex_sql_patterns.specs.PatternFunctions.{answered, answer_to, first_group, outcome_of}
use Rattle.vortex_sql_patterns.specs.PatternFunctions.{read_by}
use Rattle.vortex_sql_patterns.specs.RegexpExtract.{extract, extract_asks, extract_of}
use Rattle.vortex_sql_patterns.specs.Lookups.{answer_for, function_of, group_for, lookup_in, lookup_of}
use Rattle.vortex_sql_patterns.specs.declared.functions.PatternFunction.{PatternFunction}
use Rattle.vortex_sql_patterns.specs.declared.lookups.Lookup.{Lookup}
use Rattle.vortex_sql_patterns.specs.declared.lookups.Lookup.TheVariants.{Function, Group}

either : (b : Bool) → cond b (gives null) (gives null) ≡ gives null
either true = refl
either false = refl

none_of_map : {A B : Type 0} (g : A → B) (o : Option A) → option_map g o ≡ None → o ≡ None
none_of_map g None e = refl
none_of_map g (Some a) e = cc

-- a row of a text and a pattern, and one of a text, a pattern and a number
pub of_asked : (w : Lookup) (vs : List Value) (bs ps : List ℕ) (n : ℤ)
    → lookup_in w vs ≡ Some (bs, ps, n) → lookup_of w vs ≡ answer_for w bs ps n
of_asked (Function f) (text bs ∷ text ps ∷ []) cs qs n e =
    ap (λ (x : List ℕ × List ℕ × ℤ). answer_to f x.0 x.1) (same_Some _ _ e)
of_asked (Function f) (text bs ∷ w ∷ []) cs qs n e = cc
of_asked (Function f) (v ∷ w ∷ []) cs qs n e = cc
of_asked (Function f) (v ∷ w ∷ x ∷ vs) cs qs n e = cc
of_asked (Function f) (v ∷ []) cs qs n e = cc
of_asked (Function f) [] cs qs n e = cc
of_asked Group (text bs ∷ text ps ∷ number z ∷ []) cs qs n e =
    ap (λ (x : List ℕ × List ℕ × ℤ). extract x.0 x.1 x.2) (same_Some _ _ e)
of_asked Group (text bs ∷ text ps ∷ x ∷ []) cs qs n e = cc
of_asked Group (text bs ∷ w ∷ x ∷ []) cs qs n e = cc
of_asked Group (v ∷ w ∷ x ∷ []) cs qs n e = cc
of_asked Group (v ∷ w ∷ x ∷ y ∷ vs) cs qs n e = cc
of_asked Group (v ∷ w ∷ []) cs qs n e = cc
of_asked Group (v ∷ []) cs qs n e = cc
of_asked Group [] cs qs n e = cc

-- any other row
pub of_null : (w : Lookup) (vs : List Value) → lookup_in w vs ≡ None → lookup_of w vs ≡ gives null
of_null (Function f) vs e =
    ap (λ (o : Option (List ℕ × List ℕ)).
    cond (list_any is_null vs) (gives null) (on_one (λ x. answer_to f x.0 x.1) o))
    (none_of_map _ (both_texts vs) e)
    ∙ either (list_any is_null vs)
of_null Group vs e =
    ap (λ (o : Option (List ℕ × List ℕ × ℤ)).
    cond (list_any is_null vs) (gives null) (on_one (λ x. extract x.0 x.1 x.2) o)) e
    ∙ either (list_any is_null vs)

module _ (w : Lookup) where
  -- a text that is no pattern is a fault of its row
  pub no_pattern_at : (cs : List ColumnView) (n i : ℕ) (bs ps : List ℕ) (k : ℤ) (e : VortexError)
      → i < n → lookup_in w (values_at cs i) ≡ Some (bs, ps, k)
      → UnlessMemory (λ x. (pattern_in (read_by (function_of w) ps) ≡ None)
      × (x ≡ Custom (fault_number NoPattern))) e
      → UnlessMemory (IsCallFault (λ ts. lookup_of w) cs n) e
  no_pattern_at cs n i bs ps k e lt row h =
      made_fault (λ x. (pattern_in (read_by (function_of w) ps) ≡ None)
      × (x ≡ Custom (fault_number NoPattern)))
      (IsCallFault (λ ts. lookup_of w) cs n)
      (λ x no.
      fault_at (lookup_of w) cs n i x lt (
        custom (fault_number NoPattern),
        of_asked w (values_at cs i) bs ps k row
            ∙ ap (answered (function_of w)
            (group_for w (first_group (function_of w) ps) k) bs) no.0,
        no.1,
      ))
      e h

  -- a fault of a row is one of the call
  pub refused_at : (cs : List ColumnView) (n i : ℕ) (o : Outcome) (e : VortexError) → i < n
      → lookup_of w (values_at cs i) ≡ o → RefusesRow o e
      → UnlessMemory (IsCallFault (λ ts. lookup_of w) cs n) e
  refused_at cs n i o e lt same h =
      fault_at (lookup_of w) cs n i e lt (subst (λ x. RefusesRow x e) (sym same) h)

-- two texts with the same bytes
pub same_bytes : (xs ys : List ℕ) (b : Bool) → b ≡ pointwise nat_eq xs ys → b ≡ true → xs ≡ ys
same_bytes xs ys b e t = (bytes_decides xs ys).0 (sym e ∙ t)

-- an error that is passed on
pub passed_on : {A : Type 0} (r : Result A VortexError) (P : A → Type 0)
    (Q : VortexError → Type 0) (e : VortexError) → IsErr r → IsErrAnd r (λ x. x ≡ e)
    → UnlessMemory Q e → Answers r P Q
passed_on (Ok a) P Q e err is h = cc
passed_on (Err x) P Q e err is h = subst (UnlessMemory Q) (sym is) h

-- one of a call that fails only where memory runs out
pub memory_alone : (Q : VortexError → Type 0) (e : VortexError) → UnlessMemory (λ x. ⊥) e
    → UnlessMemory Q e
memory_alone Q e h = made_fault (λ y. ⊥) Q (λ y p. absurd p) e h
