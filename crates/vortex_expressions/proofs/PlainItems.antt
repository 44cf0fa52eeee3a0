-- Items without kinds are joined as trees are, and functions take them as trees.
use Rattle.std.proofs.Common.{◌≡◌, ◌||◌, Bool, true, false, refl, ap, List, [], ◌∷◌, ℕ}
use Rattle.std.specs.Prelude.{if◌then◌else◌}
use Rattle.vortex_logical.specs.declared.kind.Kind.TheVariants.{Plain}
use Rattle.vortex_sql_rows.specs.declared.types.Takes.{Takes}
use Rattle.vortex_sql_rows.specs.declared.types.Takes.TheVariants.{Alike, Each, Cases}
use Rattle.vortex_standard.specs.declared.standard.Standard.{Standard}
use Rattle.vortex_standard.specs.Standard.{row_of}
use Rattle.vortex_syntax.specs.declared.step.WrittenOperator as written
use Rattle.vortex_expressions.specs.Items.{Item, literal, bound, kinded, as_item}
use Rattle.vortex_expressions.specs.Items.{fraction, interval}
use Rattle.vortex_expressions.specs.Applied.{values_of, function_call}
use Rattle.vortex_expressions.specs.Kinded.{first_kind, is_plain}
use Rattle.vortex_expressions.specs.Functions.{is_choice, is_test, values_in, call_kind, kinded_call}
use Rattle.vortex_expressions.specs.Functions.{function_item, standard_item, meant_item}
use Rattle.vortex_expressions.specs.Functions.{applied_item}
use Rattle.vortex_expressions.specs.KindWords.{kind_word}
use Rattle.vortex_expressions.specs.Calls.{is_kinded, joined_item, plain_joined, between_three}
use Rattle.vortex_expressions.specs.Calls.{is_concat}
use Rattle.vortex_expressions.specs.Calls.{between_all}

pub joined_plain : (o : written.WrittenOperator) (a b : Item) → is_concat o ≡ false
    → is_kinded a ≡ false → is_kinded b ≡ false → joined_item o a b ≡ plain_joined o a b
joined_plain o a b c h k = rw (c, h, k) refl

pub between_plain : (a b c : Item) → is_kinded a ≡ false → is_kinded b ≡ false
    → is_kinded c ≡ false → between_three a b c ≡ between_all (a ∷ b ∷ c ∷ [])
between_plain a b c h k j = rw (h, k, j) refl

abbrev pub AllPlain : List Item → Type 0
AllPlain [] = Unit {0}
AllPlain (i ∷ is) = (is_kinded i ≡ false) × AllPlain is

first_plain : (is : List Item) → AllPlain is → first_kind is ≡ Plain
first_plain [] h = refl
first_plain (literal l ∷ is) h = first_plain is h.1
first_plain (bound t ∷ is) h = first_plain is h.1
first_plain (kinded k t ∷ is) h = let e : true ≡ false = h.0 in cc
first_plain (fraction w ∷ is) h = let e : true ≡ false = h.0 in cc
first_plain (interval z ∷ is) h = let e : true ≡ false = h.0 in cc

values_plain : (is : List Item) → AllPlain is → AllPlain (values_of is)
values_plain [] h = tt
values_plain (v ∷ []) h = h
values_plain (c ∷ v ∷ is) h = (h.1.0, values_plain is h.1.1)

taken_plain : (s : Takes) (is : List Item) → AllPlain is → AllPlain (values_in s is)
taken_plain (Alike k) is h = h
taken_plain (Each a b c) is h = h
taken_plain Cases is h = values_plain is h

call_plain : (f : Standard) (is : List Item) → AllPlain is → call_kind f is ≡ Plain
call_plain f is h = by (is_choice f || is_test f)
  where
    by : (b : Bool)
        → (if b then first_kind (values_in (row_of f).types.takes is) else Plain) ≡ Plain
    by true = first_plain _ (taken_plain (row_of f).types.takes is h)
    by false = refl

pub function_plain : (f : Standard) (is : List Item) → AllPlain is
    → function_item f is ≡ as_item (function_call f is)
function_plain f is h =
    ap (λ k. if is_plain k then as_item (function_call f is) else kinded_call f k is)
    (call_plain f is h)

pub applied_plain : (w : List ℕ) (is : List Item) → AllPlain is
    → applied_item w is ≡ standard_item w is
applied_plain w is h =
    ap (λ k. if is_plain k then standard_item w is else meant_item (kind_word w) w is)
    (first_plain is h)
