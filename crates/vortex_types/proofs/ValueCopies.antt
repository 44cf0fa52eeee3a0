-- The values around those being copied, and how much work is left.
use Rattle.std.proofs.Common.{◌≡◌, ℕ, suc, ◌+◌, ◌*◌, List, [], ◌∷◌, ◌++◌, map, Option, Some, Vec}
use Rattle.std.proofs.Common.{Global, refl, sym, ap, ◌∙◌, arith}
use Rattle.std.proofs.lemmas.List.{append-nil, append_assoc, map-append}
use Rattle.vortex_types.specs.Values.{Value, Values, list, values_of}
use Rattle.vortex_types.specs.ValueOf.{value_or_null, values_or_null}
use Rattle.vortex_types.specs.ValueParts.{value_weights}
use Rattle.vortex_types.specs.declared.scalar_value.ScalarValue.{ScalarValue}
use Rattle.vortex_types.specs.declared.scalar_value.ScalarValue.{List as ListValue}
use Rattle.vortex_types.specs.declared.scalar_value.copying.Copying.{Copying}
use Rattle.vortex_types.proofs.ScalarViews.{view-List}

-- the values of a list, with that one at the index being copied
abbrev pub around : Copying → Value → Values
around f v = values_of (map value_or_null f.copies.items ++ v ∷ map value_or_null f.rest.now)

-- the values of the root, with those of the innermost list
abbrev pub plug : List Copying → Values → Values
plug [] vs = vs
plug (f ∷ fs) vs = around f (list (plug fs vs))

plug_push : (fs : List Copying) (f : Copying) (vs : Values)
    → plug (fs ++ f ∷ []) vs ≡ plug fs (around f (list vs))
plug_push [] f vs = refl
plug_push (g ∷ fs) f vs = ap (λ ws. around g (list ws)) (plug_push fs f vs)

-- the first of the remaining values
first_left : (copies ys rest : List (Option ScalarValue)) (x : Option ScalarValue) → ys ≡ x ∷ rest
    → values_or_null (copies ++ ys)
    ≡ values_of (map value_or_null copies ++ value_or_null x ∷ map value_or_null rest)
first_left copies ys rest x e =
    ap (λ zs. values_or_null (copies ++ zs)) e
    ∙ ap values_of (map-append value_or_null copies (x ∷ rest))

-- it is a list, whose values are to be copied
pub entered : (fs : List Copying) (f : Copying) (ys : List (Option ScalarValue))
    (x : Option ScalarValue) (vs : Values) → ys ≡ x ∷ f.rest.now → list vs ≡ value_or_null x
    → plug (fs ++ f ∷ []) vs ≡ plug fs (values_or_null (f.copies.items ++ ys))
entered fs f ys x vs left e =
    plug_push fs f vs ∙ ap (λ v. plug fs (around f v)) e
    ∙ sym (ap (plug fs) (first_left f.copies.items ys f.rest.now x left))

-- all of them are copied
pub left : (fs : List Copying) (f : Copying) (new rest : List (Option ScalarValue))
    (copies : Vec (Option ScalarValue) Global)
    → new ≡ f.copies.items ++ Some (ListValue copies) ∷ [] → rest ≡ []
    → plug fs (values_or_null (new ++ f.rest.now))
    ≡ plug (fs ++ f ∷ []) (values_or_null (copies.items ++ rest))
left fs f new rest copies pushed none =
    let whole = Some (ListValue copies) in
    ap (λ xs. plug fs (values_or_null (xs ++ f.rest.now))) pushed
    ∙ ap (λ xs. plug fs (values_or_null xs)) (append_assoc f.copies.items (whole ∷ []) f.rest.now)
    ∙ ap (plug fs) (first_left f.copies.items (whole ∷ f.rest.now) f.rest.now whole refl)
    ∙ ap (λ v. plug fs (around f v)) (view-List copies)
    ∙ sym (plug_push fs f (values_or_null copies.items))
    ∙ sym
    (ap (λ xs. plug (fs ++ f ∷ []) (values_or_null xs))
    (ap (λ ys. copies.items ++ ys) none ∙ append-nil copies.items))

-- the work left after the lists that are being copied
abbrev pub left_above : List Copying → ℕ
left_above [] = 0
left_above (f ∷ fs) = suc (2 * value_weights f.rest.now) + left_above fs

pub left_push : (fs : List Copying) (f : Copying)
    → left_above (fs ++ f ∷ []) ≡ left_above fs + suc (2 * value_weights f.rest.now)
left_push [] f = omega arith
left_push (g ∷ fs) f = omega (arith, left_push fs f)
