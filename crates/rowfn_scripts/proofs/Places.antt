-- The index of a name after a field of another name, or of it, is appended.
use Rattle.std.proofs.Common.{◌≡◌, ℕ, suc, Bool, true, false, cond, List, Option, Some, None}
use Rattle.std.proofs.Common.{option_map, refl, sym, ap, ◌∙◌}
use Rattle.std.specs.Prelude.{nat_eq, is_some, is_none, not}
use Rattle.std.specs.Cmp.Lexicographic.{pointwise, bytes_decides}
use Rattle.vortex_types.specs.LogicalTypes.{LogicalType, Fields, no_fields, field, field_count}
use Rattle.vortex_types.specs.LogicalTypes.{with_field, find_field, after_one}
use Rattle.rowfn_scripts.specs.Scopes.{place_of}

some_not_none : {k : ℕ} → Some k ≡ None → ⊥
some_not_none e = cc

one_later : (o : Option (ℕ × LogicalType))
    → option_map (λ (p : ℕ × LogicalType). p.0) (after_one o)
    ≡ option_map suc (option_map (λ (p : ℕ × LogicalType). p.0) o)
one_later None = refl
one_later (Some p) = refl

none_later : (o : Option (ℕ × LogicalType))
    → option_map (λ (p : ℕ × LogicalType). p.0) (after_one o) ≡ None
    → option_map (λ (p : ℕ × LogicalType). p.0) o ≡ None
none_later None e = refl
none_later (Some p) e = cc

-- whether there is an index
pub place_or_not : (r : Option ℕ) (o : Option (ℕ × LogicalType)) (b : Bool)
    → r ≡ option_map (λ p. p.0) o → b ≡ is_some r → is_none o ≡ not b
place_or_not r None b h e = sym (ap not (e ∙ ap is_some h))
place_or_not r (Some p) b h e = sym (ap not (e ∙ ap is_some h))

pub no_place : (o : Option (ℕ × LogicalType)) → is_none o ≡ true
    → option_map (λ (p : ℕ × LogicalType). p.0) o ≡ None
no_place None e = refl
no_place (Some p) e = cc

pub no_field : (o : Option (ℕ × LogicalType))
    → option_map (λ (p : ℕ × LogicalType). p.0) o ≡ None → o ≡ None
no_field None e = refl
no_field (Some p) e = absurd (some_not_none e)

-- the field with that index
pub field_there : (o : Option (ℕ × LogicalType)) (k : ℕ)
    → Some k ≡ option_map (λ (p : ℕ × LogicalType). p.0) o
    → (t : LogicalType) × (o ≡ Some (k, t))
field_there None k e = cc
field_there (Some p) k e =
    let is : p.0 ≡ k = cc in
    (p.1, ap (λ j. Some (j, p.1)) is)

module _ (name : List ℕ) (t : LogicalType) where
  -- the index of another name after the field is appended
  abbrev behind : List ℕ → Fields → Option ℕ
  behind other fs =
      cond (pointwise nat_eq name other) (Some (field_count fs)) (place_of other fs)

  alone : (b : Bool)
      → option_map (λ (p : ℕ × LogicalType). p.0) (cond b (Some (0, t)) None) ≡ cond b (Some 0) None
  alone true = refl
  alone false = refl

  first_stays : (other n : List ℕ) (u : LogicalType) (fs : Fields) (b : Bool)
      → pointwise nat_eq name other ≡ b → pointwise nat_eq n other ≡ true
      → place_of name (field n u fs) ≡ None → Some 0 ≡ cond b (Some (suc (field_count fs))) (Some 0)
  first_stays other n u fs false e same new = refl
  first_stays other n u fs true e same new =
      let is : name ≡ other = (bytes_decides name other).0 e in
      let here : pointwise nat_eq n name ≡ true = ap (pointwise nat_eq n) is ∙ same in
      let found : Some 0 ≡ place_of name (field n u fs) =
      ap (λ b. option_map (λ (p : ℕ × LogicalType). p.0)
      (cond b (Some (0, u)) (after_one (find_field name fs))))
      (sym here) in
      absurd (some_not_none (found ∙ new))

  later : (b : Bool) (k : ℕ) (o : Option (ℕ × LogicalType))
      → option_map suc (cond b (Some k) (option_map (λ (p : ℕ × LogicalType). p.0) o))
      ≡ cond b (Some (suc k)) (option_map (λ (p : ℕ × LogicalType). p.0) (after_one o))
  later true k o = refl
  later false k o = sym (one_later o)

  new_behind : (n : List ℕ) (u : LogicalType) (fs : Fields) (b : Bool)
      → pointwise nat_eq n name ≡ b → place_of name (field n u fs) ≡ None → place_of name fs ≡ None
  new_behind n u fs true e new =
      let found : Some 0 ≡ place_of name (field n u fs) =
      ap (λ b. option_map (λ (p : ℕ × LogicalType). p.0)
      (cond b (Some (0, u)) (after_one (find_field name fs))))
      (sym e) in
      absurd (some_not_none (found ∙ new))
  new_behind n u fs false e new =
      none_later (find_field name fs)
      (ap (λ b. option_map (λ (p : ℕ × LogicalType). p.0)
      (cond b (Some (0, u)) (after_one (find_field name fs))))
      (sym e) ∙ new)

  module _ (other : List ℕ) where
    abbrev place_in : LogicalType → Bool → Fields → Option ℕ
    place_in u b fs =
        option_map (λ (p : ℕ × LogicalType). p.0)
        (cond b (Some (0, u)) (after_one (find_field other fs)))

    abbrev behind_first : Option ℕ → Fields → Option ℕ
    behind_first o fs = cond (pointwise nat_eq name other) (Some (suc (field_count fs))) o

    by_first : (n : List ℕ) (u : LogicalType) (fs : Fields) (b : Bool)
        → pointwise nat_eq n other ≡ b
        → place_of name (field n u fs) ≡ None
        → place_of other (with_field fs name t) ≡ behind other fs
        → place_in u b (with_field fs name t) ≡ behind_first (place_in u b fs) fs
    by_first n u fs true e new rest =
        first_stays other n u fs (pointwise nat_eq name other) refl e new
    by_first n u fs false e new rest =
        one_later (find_field other (with_field fs name t))
        ∙ ap (option_map suc) rest
        ∙ later (pointwise nat_eq name other) (field_count fs) (find_field other fs)

    -- a new name gets the index after all others, and each other name keeps its index
    pub place_behind : (fs : Fields) → place_of name fs ≡ None
        → place_of other (with_field fs name t) ≡ behind other fs
    place_behind no_fields new = alone (pointwise nat_eq name other)
    place_behind (field n u fs) new =
        by_first n u fs (pointwise nat_eq n other) refl new
        (place_behind fs (new_behind n u fs (pointwise nat_eq n name) refl new))

    -- the same for a map that has an index for one more name
    pub place_added : (key : List ℕ) (k : ℕ) (fs gs : Fields) (old : Option ℕ)
        → key ≡ name → k ≡ field_count fs → old ≡ place_of other fs → place_of name fs ≡ None
        → gs ≡ with_field fs name t
        → cond (pointwise nat_eq key other) (Some k) old ≡ place_of other gs
    place_added key k fs gs old is counted so_far new added =
        (λ i. cond (pointwise nat_eq (is i) other) (Some (counted i)) (so_far i))
        ∙ sym (place_behind fs new)
        ∙ ap (place_of other) (sym added)

    -- and for a map that has none for it
    pub place_removed : (key : List ℕ) (k : ℕ) (fs gs : Fields) (old : Option ℕ)
        → key ≡ name → old ≡ place_of other fs → place_of name fs ≡ None → gs ≡ fs
        → cond (pointwise nat_eq name other) None (cond (pointwise nat_eq key other) (Some k) old)
        ≡ place_of other gs
    place_removed key k fs gs old is so_far new kept =
        ap (λ w. cond same None (cond (pointwise nat_eq w other) (Some k) old)) is
        ∙ by_same same refl
        ∙ ap (place_of other) (sym kept)
      where
        same : Bool
        same = pointwise nat_eq name other

        by_same : (b : Bool) → pointwise nat_eq name other ≡ b
            → cond b None (cond b (Some k) old) ≡ place_of other fs
        by_same true e = sym new ∙ ap (λ w. place_of w fs) ((bytes_decides name other).0 e)
        by_same false e = so_far
