-- The index of the first field with a name.
use Rattle.std.proofs.Common.{◌≡◌, ℕ, suc, ◌<◌, Bool, true, false, cond, List, Option, Some}
use Rattle.std.proofs.Common.{Result, None, refl, ◌∙◌, subst, arith}
use Rattle.std.specs.Prelude.{nat_eq}
use Rattle.std.specs.Cmp.Lexicographic.{pointwise, bytes_decides}
use Rattle.vortex_types.specs.LogicalTypes.{LogicalType, Fields, no_fields, field, field_count}
use Rattle.vortex_types.specs.LogicalTypes.{field_type, find_field, after_one}
use Rattle.vortex_types.specs.FieldNames.{field_name}
use Rattle.vortex_errors.specs.Answers.{AnswersUnlessMemory}
use Rattle.vortex_errors.specs.declared.error.VortexError.{VortexError}
use Rattle.vortex_errors.specs.declared.error.VortexError.TheVariants.{ScopeMismatch}
use Rattle.vortex_errors.proofs.Answering.{Answers-weaker}
use Rattle.vortex_interface.specs.Trees.{place, Tree, leaf}
use Rattle.vortex_functions.specs.Binding.{IsColumnLeaf, AnswersLeaf, field_leaf}

-- the index is that of a field with that name and that type
pub record IsFieldAt (name : List ℕ) (fs : Fields) (p : ℕ × LogicalType) : Type 0 where
  pub within : p.0 < field_count fs
  pub named : field_name p.0 fs ≡ name
  pub typed : field_type p.0 fs ≡ p.1

module _ (name : List ℕ) where
  at_first : (n : List ℕ) (t : LogicalType) (fs : Fields) (p : ℕ × LogicalType) → n ≡ name
      → (0, t) ≡ p → IsFieldAt name (field n t fs) p
  at_first n t fs p e is =
      subst (IsFieldAt name (field n t fs)) is
      (record { within = omega arith; named = e; typed = refl })

  one_later : (n : List ℕ) (t : LogicalType) (fs : Fields) (q : ℕ × LogicalType)
      → IsFieldAt name fs q → IsFieldAt name (field n t fs) (suc q.0, q.1)
  one_later n t fs q h =
      record { within = omega (arith, h.within); named = h.named; typed = h.typed }

  module _ (n : List ℕ) (t : LogicalType) (fs : Fields) (p : ℕ × LogicalType) where
    behind : (o : Option (ℕ × LogicalType)) → after_one o ≡ Some p
        → ((q : ℕ × LogicalType) → o ≡ Some q → IsFieldAt name fs q)
        → IsFieldAt name (field n t fs) p
    behind None e rest = cc
    behind (Some q) e rest =
        let is : (suc q.0, q.1) ≡ p = cc in
        subst (IsFieldAt name (field n t fs)) is (one_later n t fs q (rest q refl))

    by_name : (b : Bool) → pointwise nat_eq n name ≡ b
        → cond b (Some (0, t)) (after_one (find_field name fs)) ≡ Some p
        → ((q : ℕ × LogicalType) → find_field name fs ≡ Some q → IsFieldAt name fs q)
        → IsFieldAt name (field n t fs) p
    by_name true same e rest =
        let is : (0, t) ≡ p = cc in
        at_first n t fs p ((bytes_decides n name).0 same) is
    by_name false same e rest = behind (find_field name fs) e rest

  pub field_found : (fs : Fields) (p : ℕ × LogicalType) → find_field name fs ≡ Some p
      → IsFieldAt name fs p
  field_found no_fields p e = cc
  field_found (field n t fs) p e =
      by_name n t fs p (pointwise nat_eq n name) refl e (field_found fs)

  -- so the leaf at its index is the leaf of the name
  pub leaf_found : {V O : Type 0} (fs : Fields) (p : ℕ × LogicalType) → find_field name fs ≡ Some p
      → (r : Result (Tree V O) VortexError) → AnswersUnlessMemory r (λ t. t ≡ field_leaf p.0 fs)
      → AnswersLeaf fs name r
  leaf_found {V} {O} fs p e r h =
      Answers-weaker r (λ t. t ≡ field_leaf p.0 fs) (IsColumnLeaf fs name) (λ e. ⊥)
      (λ e. (find_field name fs ≡ None) × (e ≡ ScopeMismatch)) as_named (λ d h. absurd h) h
    where
      at_place : IsFieldAt name fs p
      at_place = field_found fs p e

      as_named : (t : Tree V O) → t ≡ field_leaf p.0 fs → IsColumnLeaf fs name t
      as_named t is = record {
        found = p;
        named = e;
        is = is ∙ (λ i. leaf (place p.0 (at_place.named i) (at_place.typed i)));
      }
