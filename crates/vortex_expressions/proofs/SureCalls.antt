-- Calls of functions on items of trees with a type are trees with a type, or are refused.
use Rattle.std.proofs.Common.{◌≡◌, ℕ, Bool, true, false, cond, List, [], ◌∷◌, length, Option}
use Rattle.std.proofs.Common.{Some, None, refl, ap, ◌∙◌, arith}
use Rattle.std.specs.Prelude.{is_some}
use Rattle.std.specs.Str.{is_utf8}
use Rattle.vortex_errors.specs.declared.error.MismatchPlace.{MismatchPlace}
use Rattle.vortex_errors.specs.declared.error.MismatchPlace.TheVariants.{Scalars}
use Rattle.vortex_types.specs.declared.dtype.PType.{PType}
use Rattle.vortex_types.specs.LogicalTypes.{LogicalType, Fields, find_field}
use Rattle.vortex_logical.specs.declared.kind.Kind.{Kind}
use Rattle.vortex_interface.specs.Meaning.{fits}
use Rattle.vortex_interface.specs.Shipped.{Shipped, NullTest}
use Rattle.vortex_interface.specs.Shipped.{shipped_place}
use Rattle.vortex_interface.specs.Functions.{ours, function_arity}
use Rattle.vortex_interface.specs.Trees.{call, trees_of}
use Rattle.vortex_interface.specs.Eval.{tree_type, tree_types, types_or_none}
use Rattle.vortex_standard.specs.declared.standard.Standard.{Standard}
use Rattle.vortex_standard.specs.declared.standard.Standard.TheVariants as standard
use Rattle.vortex_standard.specs.Standard.{row_of}
use Rattle.vortex_expressions.specs.TypeNames.{named_type}
use Rattle.vortex_expressions.specs.declared.refusal.Refusal.{Refusal}
use Rattle.vortex_expressions.specs.Literals.{Literal, value_at, type_beside}
use Rattle.vortex_expressions.specs.Outcomes.{Outcome, answers, refuses, missing, and_then}
use Rattle.vortex_expressions.specs.Outcomes.{or_refuses}
use Rattle.vortex_expressions.specs.declared.item.Timespan.{Timespan}
use Rattle.vortex_expressions.specs.declared.item.Timespan.TheVariants.{Given, Elapsed}
use Rattle.vortex_expressions.specs.Items.{Tree, Item, literal, bound, kinded, meaning}
use Rattle.vortex_expressions.specs.Items.{fraction, interval}
use Rattle.vortex_expressions.specs.Items.{settled, all_settled}
use Rattle.vortex_expressions.specs.Items.{callable, constant_at, refused_at, call_of, called}
use Rattle.vortex_expressions.specs.Items.{widened, meeting}
use Rattle.vortex_expressions.specs.Meeting.{widened_to}
use Rattle.vortex_expressions.specs.Calls as calls

-- there is a result with P, or an error
abbrev pub Sure : {A : Type 0} → (A → Type 0) → Outcome A → Type 0
Sure P (answers a) = P a
Sure P (refuses r) = Unit {0}
Sure P missing = ⊥

pub sure_then : {A B : Type 0} (P : A → Type 0) (Q : B → Type 0) (o : Outcome A)
    (f : A → Outcome B) → Sure P o → ((a : A) → P a → Sure Q (f a)) → Sure Q (and_then o f)
sure_then P Q (answers a) f h k = k a h
sure_then P Q (refuses r) f h k = tt
sure_then P Q missing f h k = h

pub sure_less : {A : Type 0} (P Q : A → Type 0) (o : Outcome A) → ((a : A) → P a → Q a) → Sure P o
    → Sure Q o
sure_less P Q (answers a) f h = f a h
sure_less P Q (refuses r) f h = tt
sure_less P Q missing f h = h

pub sure_or : {A : Type 0} (r : Refusal) (o : Option A) → Sure (λ a. Unit {0}) (or_refuses r o)
sure_or r None = tt
sure_or r (Some a) = tt

pub sure_if : {A : Type 0} (P : A → Type 0) (b : Bool) (o u : Outcome A) → Sure P o → Sure P u
    → Sure P (cond b o u)
sure_if P true o u h k = h
sure_if P false o u h k = k

-- trees with a type, and items of such trees
abbrev pub IsTyped : Tree → Type 0
IsTyped t = is_some (tree_type meaning t) ≡ true

abbrev pub IsSpan : Timespan → Type 0
IsSpan (Given z) = Unit {0}
IsSpan (Elapsed t) = IsTyped t

abbrev pub IsItem : Item → Type 0
IsItem (literal l) = Unit {0}
IsItem (bound t) = IsTyped t
IsItem (kinded k t) = IsTyped t
IsItem (fraction w) = Unit {0}
IsItem (interval z) = IsSpan z

abbrev pub AllTyped : List Tree → Type 0
AllTyped [] = Unit {0}
AllTyped (t ∷ ts) = IsTyped t × AllTyped ts

abbrev pub AllItems : List Item → Type 0
AllItems [] = Unit {0}
AllItems (i ∷ is) = IsItem i × AllItems is

pub sure_constant : (l : Literal) (t : LogicalType) → Sure IsTyped (constant_at l t)
sure_constant l t = sure_then (λ s. Unit {0}) IsTyped _ _ (sure_or _ (value_at t l)) (λ s k. refl)

-- calls that take the types, or do not
pub sure_refused : (o : Option MismatchPlace) → is_some o ≡ true → Sure IsTyped (refused_at o)
sure_refused None h = absurd cc
sure_refused (Some p) h = tt

pub sure_type : (b : Bool) (t : Tree) (o : Option MismatchPlace) → is_some (tree_type meaning t) ≡ b
    → is_some o ≡ true → Sure IsTyped (cond b (answers t) (refused_at o))
sure_type true t o k h = k
sure_type false t o k h = sure_refused o h

-- calls of SQL's functions, among them the cast to a wider type
pub sure_named_call : (f : Standard) (ts : List Tree) → Sure IsTyped (call_of (callable f) ts)
sure_named_call f ts =
    sure_if IsTyped (fits (row_of f).arity (length ts)) _ _
    (sure_type _ (call (callable f) (trees_of ts)) (Some Scalars) refl refl) tt

sure_widened : (o : Option PType) (t : Tree) → IsTyped t → Sure IsTyped (widened o t)
sure_widened None t h = h
sure_widened (Some p) t h = sure_named_call (standard.Widen (record { ptype = p })) (t ∷ [])

sure_meeting : (o p : Option LogicalType) (t : Tree) → IsTyped t → Sure IsTyped (meeting o p t)
sure_meeting None p t h = h
sure_meeting (Some k) None t h = h
sure_meeting (Some k) (Some l) t h = sure_widened (widened_to k l) t h

pub sure_settled : (o : Option LogicalType) (i : Item) → IsItem i → Sure IsTyped (settled o i)
sure_settled o (bound t) h = sure_meeting o (tree_type meaning t) t h
sure_settled o (kinded k t) h = tt
sure_settled o (fraction w) h = tt
sure_settled o (interval z) h = tt
sure_settled o (literal l) h =
    sure_then (λ t. Unit {0}) IsTyped _ _ (sure_or _ (type_beside o l)) (λ t k. sure_constant l t)

pub sure_all : (o : Option LogicalType) (is : List Item) → AllItems is
    → Sure (λ ts. AllTyped ts × (length ts ≡ length is)) (all_settled o is)
sure_all o [] h = (tt, refl)
sure_all o (i ∷ is) h =
    sure_then IsTyped _ (settled o i) _ (sure_settled o i h.0)
    (λ t k. sure_then (λ ts. AllTyped ts × (length ts ≡ length is)) _ (all_settled o is) _
    (sure_all o is h.1) (λ ts j. ((k, j.0), omega (arith, j.1))))

-- shipped functions that have a place for each type that they do not accept
pub sure_call : (s : Shipped) (ts : List Tree) → fits (function_arity meaning (ours s)) (length ts) ≡ true
    → is_some (shipped_place s (types_or_none (tree_types meaning (trees_of ts)))) ≡ true
    → Sure IsTyped (call_of (ours s) ts)
sure_call s ts h k = rw h (sure_type _ (call (ours s) (trees_of ts)) _ refl k)

-- the tests for null accept all types
pub null_typed : (n : Bool) (t : Tree) (o : Option LogicalType) → tree_type meaning t ≡ o
    → is_some o ≡ true → IsTyped (call (ours (NullTest n)) (trees_of (t ∷ [])))
null_typed n t None e h = absurd cc
null_typed n t (Some k) e h = rw e refl

pub sure_typed_call : (b : Bool) (t : Tree) (o : Option MismatchPlace)
    → is_some (tree_type meaning t) ≡ b → b ≡ true → Sure IsTyped (cond b (answers t) (refused_at o))
sure_typed_call true t o k h = k
sure_typed_call false t o k h = absurd cc

pub sure_null : (n : Bool) (ts : List Tree) → AllTyped ts → length ts ≡ 1
    → Sure IsTyped (call_of (ours (NullTest n)) ts)
sure_null n [] h e = absurd (let k : ⊥ = omega (arith, e) in k)
sure_null n (t ∷ []) h e =
    sure_typed_call _ (call (ours (NullTest n)) (trees_of (t ∷ []))) None refl
    (null_typed n t (tree_type meaning t) refl h.0)
sure_null n (t ∷ u ∷ ts) h e = absurd (let k : ⊥ = omega (arith, e) in k)

pub sure_called : (s : Shipped) (o : Option LogicalType) (is : List Item)
    → fits (function_arity meaning (ours s)) (length is) ≡ true
    → ((ks : List LogicalType) → is_some (shipped_place s ks) ≡ true) → AllItems is
    → Sure IsTyped (called (ours s) o is)
sure_called s o is h k items =
    sure_then _ IsTyped (all_settled o is) (call_of (ours s)) (sure_all o is items)
    (λ ts j. sure_call s ts (ap (fits (function_arity meaning (ours s))) j.1 ∙ h) (k _))

pub sure_item : (o : Outcome Tree) → Sure IsTyped o → Sure IsItem (calls.as_item o)
sure_item o h = sure_then IsTyped IsItem o _ h (λ t k. k)

-- texts and names
pub sure_text : (bs : List ℕ) → Sure (λ w. Unit {0}) (calls.text_of bs)
sure_text bs = sure_if _ (is_utf8 bs) _ _ tt tt

pub sure_quoted : (q : ℕ) (bs : List ℕ) → Sure (λ w. Unit {0}) (calls.between_quotes q bs)
sure_quoted q bs = sure_text (calls.unquoted q bs)

-- columns
sure_field : (ks : List Kind) (w : List ℕ) (o : Option (ℕ × LogicalType))
    → Sure IsItem (calls.field_found ks w o)
sure_field ks w None = tt
sure_field ks w (Some p) =
    let k = calls.kind_at ks p.0 in
    sure_if IsItem (calls.is_plain k) _ _ refl
    (sure_if IsItem (calls.stores k (Some p.1)) _ _ refl tt)

pub sure_column : (scope : Fields) (ks : List Kind) (w : List ℕ)
    → Sure IsItem (calls.column_in scope ks w)
sure_column scope ks w = sure_field ks w (find_field w scope)

pub sure_named : (w : List ℕ) (n : Bool) → Sure (λ t. Unit {0}) (calls.type_of_name w n)
sure_named w n = sure_then _ _ (calls.text_of w) _ (sure_text w) (λ v k. sure_or _ (named_type n v))
