-- A search for a field by its name, one field at a time.
use Rattle.std.proofs.Common.{◌≡◌, ℕ, zero, suc, ◌+◌, ◌<◌, ◌≤◌, Bool, true, false, List, [], ◌∷◌}
use Rattle.std.proofs.Common.{Option, Some, None, drop, length, get_or, refl, sym, ap, ◌∙◌, arith}
use Rattle.std.proofs.Common.{cond}
use Rattle.std.specs.Prelude.{String, string_bytes, nat_eq}
use Rattle.std.specs.Cmp.Lexicographic.{pointwise}
use Rattle.std.specs.declared.alloc.Global.{Global}
use Rattle.std.proofs.Math.Seq.{drop-cons}
use Rattle.vortex_types.specs.declared.dtype.DType.{DType}
use Rattle.vortex_types.specs.LogicalTypes.{LogicalType, find_field, after_one}
use Rattle.vortex_types.specs.TypeOf.{type_of, fields_view}

abbrev pub Field : Type 0
Field = String Global × DType

-- what is found after that many fields
abbrev pub after_some : ℕ → Option (ℕ × LogicalType) → Option (ℕ × LogicalType)
after_some n None = None
after_some n (Some p) = Some (n + p.0, p.1)

one_earlier : (n : ℕ) (o : Option (ℕ × LogicalType))
    → after_some n (after_one o) ≡ after_some (n + 1) o
one_earlier n None = refl
one_earlier n (Some p) = ap (λ k. Some (k, p.1)) (omega arith)

none_before : (o : Option (ℕ × LogicalType)) → o ≡ after_some 0 o
none_before None = refl
none_before (Some p) = ap (λ k. Some (k, p.1)) (omega arith)

pub searched_none : (name : List ℕ) (fs : List Field)
    → find_field name (fields_view fs) ≡ after_some 0 (find_field name (fields_view (drop 0 fs)))
searched_none name fs = none_before (find_field name (fields_view fs))

module _ (name : List ℕ) where
  drop_next : (fs : List Field) (i : ℕ) (f : Field) → i < length fs → f ≡ get_or fs i f
      → drop i fs ≡ f ∷ drop (i + 1) fs
  drop_next fs i f h e =
      let here : get_or fs i f ≡ f = sym e in
      let next : suc i ≡ i + 1 = omega arith in
      drop-cons fs i f h ∙ (λ k. here k ∷ drop (next k) fs)

  at_next : (b : Bool) (t : LogicalType) (rest : Option (ℕ × LogicalType)) → b ≡ false
      → cond b (Some (0, t)) (after_one rest) ≡ after_one rest
  at_next b t rest e = ap (λ c. cond c (Some (0, t)) (after_one rest)) e

  -- a field of another name is passed over
  pub passed : (all : Option (ℕ × LogicalType)) (fs : List Field) (i : ℕ) (f : Field)
      → i < length fs → f ≡ get_or fs i f → pointwise nat_eq (string_bytes f.0) name ≡ false
      → all ≡ after_some i (find_field name (fields_view (drop i fs)))
      → all ≡ after_some (i + 1) (find_field name (fields_view (drop (i + 1) fs)))
  passed all fs i f h e other so_far =
      so_far
      ∙ ap (λ gs. after_some i (find_field name (fields_view gs))) (drop_next fs i f h e)
      ∙ ap (after_some i)
      (at_next (pointwise nat_eq (string_bytes f.0) name) (type_of f.1)
      (find_field name (fields_view (drop (i + 1) fs))) other)
      ∙ one_earlier i (find_field name (fields_view (drop (i + 1) fs)))

  -- a field of that name is found
  pub found : (all : Option (ℕ × LogicalType)) (fs : List Field) (i : ℕ) (f : Field) → i < length fs
      → f ≡ get_or fs i f → pointwise nat_eq (string_bytes f.0) name ≡ true
      → all ≡ after_some i (find_field name (fields_view (drop i fs))) → all ≡ Some (i, type_of f.1)
  found all fs i f h e same so_far =
      so_far
      ∙ ap (λ gs. after_some i (find_field name (fields_view gs))) (drop_next fs i f h e)
      ∙ ap
      (λ c.
      after_some i
      (cond c (Some (0, type_of f.1))
      (after_one (find_field name (fields_view (drop (i + 1) fs))))))
      same
      ∙ ap (λ k. Some (k, type_of f.1)) (omega arith)

  -- nothing is left
  pub not_found : (all : Option (ℕ × LogicalType)) (fs : List Field) (i : ℕ) → length fs ≤ i
      → all ≡ after_some i (find_field name (fields_view (drop i fs))) → all ≡ None
  not_found all fs i h so_far =
      so_far ∙ ap (λ gs. after_some i (find_field name (fields_view gs))) (dropped fs i h)
    where
      dropped : (gs : List Field) (k : ℕ) → length gs ≤ k → drop k gs ≡ []
      dropped [] zero h = refl
      dropped [] (suc k) h = refl
      dropped (x ∷ xs) zero h = absurd (omega arith)
      dropped (x ∷ xs) (suc k) h = dropped xs k (omega arith)
