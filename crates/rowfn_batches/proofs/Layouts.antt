-- One more column that stands in a header.
use Rattle.std.proofs.Common.{◌≡◌, ◌≢◌, ℕ, ◌<◌, ◌≤◌, ◌+◌, suc, List, [], ◌∷◌, ◌++◌, length}
use Rattle.std.proofs.Common.{ap, sym, get_or, zero, Option, Some, None, arith, ◌∙◌, refl}
use Rattle.std.proofs.Common.{subst}
use Rattle.csv.specs.Records.{field_at}
use Rattle.std.proofs.lemmas.List.{length-append, ext_get_or}
use Rattle.vortex_types.specs.FieldNames.{field_name}
use Rattle.vortex_types.specs.LogicalTypes.{Fields}
use Rattle.rowfn_batches.specs.Layouts.{LacksFrom, IsFirstFrom, StandsOnce, FirstStandAt}
use Rattle.rowfn_batches.specs.Layouts.{StandsWhere, given_place, StandAt, RefusesName, RefusesPlace}
use Rattle.rowfn_batches.specs.Layouts.{RefusesColumn, RefusesHeader, at_column, without_memory}
use Rattle.rowfn_batches.specs.declared.errors.StreamError.{StreamError}
use Rattle.rowfn_batches.specs.declared.errors.StreamError.TheVariants as end

-- a field that is there lies among the fields
within : (fields : List (List ℕ)) (q : ℕ) (x : List ℕ) → field_at fields q ≡ Some x
    → q < length fields
unfolding field_at
within [] q x e = cc e
within (f ∷ fs) zero x e = omega arith
within (f ∷ fs) (suc q) x e = omega (arith, within fs q x e)

-- a name that no field is up to the end is none from there on
pub nowhere : (fields : List (List ℕ)) (name : List ℕ) (start end : ℕ) → length fields ≤ end
    → ((q : ℕ) → start ≤ q → q < end → field_at fields q ≢ Some name)
    → LacksFrom fields name start
nowhere fields name start end past before q h e =
    before q h (omega (arith, past, within fields q name e)) e

pub stands_once : (fields : List (List ℕ)) (name : List ℕ) (place : ℕ)
    → IsFirstFrom fields name 0 place → LacksFrom fields name (place + 1)
    → StandsOnce fields name place
stands_once fields name place first none = (first.2, only)
  where
    only : (q : ℕ) → field_at fields q ≡ Some name → q ≡ place
    only q e = grind (arith, first.3 q, none q)

-- what holds of each place and of one more
one_place_more : (P : ℕ → ℕ → Type 0) (ps : List ℕ) (p : ℕ)
    → ((i : ℕ) → i < length ps → P i (get_or ps i 0)) → P (length ps) p
    → (i : ℕ) → i < length (ps ++ p ∷ []) → P i (get_or (ps ++ p ∷ []) i 0)
one_place_more P [] p h q zero lt = q
one_place_more P [] p h q (suc i) lt = absurd (omega arith)
one_place_more P (x ∷ ps) p h q zero lt = h 0 (omega arith)
one_place_more P (x ∷ ps) p h q (suc i) lt =
    one_place_more (λ j y. P (suc j) y) ps p (λ j l. h (suc j) (omega arith)) q i (omega arith)

pub no_columns : (fields : List (List ℕ)) (ds : Fields) (said : List (Option ℕ)) (ps : List ℕ)
    → ps ≡ [] → FirstStandAt fields ds said 0 ps
no_columns fields ds said ps e =
    record { count = ap length e; each = λ k lt. absurd (omega (arith, lt)) }

-- a turn of a loop over declared columns
pub next_column : (fields : List (List ℕ)) (ds : Fields) (said : List (Option ℕ)) (k : ℕ)
    (ps now : List ℕ) (p : ℕ)
    → FirstStandAt fields ds said k ps
    → StandsWhere fields (given_place said k) (field_name k ds) p
    → now ≡ ps ++ (p ∷ []) → FirstStandAt fields ds said (k + 1) now
next_column fields ds said k ps now p before once pushed =
    let Here : ℕ → ℕ → Type 0 = λ j y. StandsWhere fields (given_place said j) (field_name j ds) y in
    subst (λ (all : List ℕ). FirstStandAt fields ds said (k + 1) all) (sym pushed)
    (record {
      count = omega (arith, before.count, length-append ps (p ∷ []));
      each = λ i lt.
          one_place_more Here ps p
          (λ j l. before.each j (omega (arith, l, before.count)))
          (subst (λ (n : ℕ). Here n p) (sym before.count) once) i
          (omega (arith, lt, before.count, length-append ps (p ∷ [])));
    })

-- a name that is at one place and no other
one_place : (fields : List (List ℕ)) (at : Option ℕ) (name : List ℕ) (p q : ℕ)
    → StandsWhere fields at name p → StandsWhere fields at name q → p ≡ q
one_place fields None name p q here there = there.1 p here.0
one_place fields (Some at) name p q here there = here.0 ∙ sym there.0

-- the places of columns are the only ones at which they are
pub same_places : (fields : List (List ℕ)) (ds : Fields) (said : List (Option ℕ)) (n : ℕ)
    (ps qs : List ℕ) → FirstStandAt fields ds said n ps → FirstStandAt fields ds said n qs
    → ps ≡ qs
same_places fields ds said n ps qs here there =
    ext_get_or 0 ps qs (here.count ∙ sym there.count)
    (λ k lt.
    let below : k < n = omega (arith, lt, here.count) in
    one_place fields (given_place said k) (field_name k ds) (get_or ps k 0) (get_or qs k 0)
    (here.each k below) (there.each k below))

-- a column that has its place is refused only where memory runs out
refused_name : (fields : List (List ℕ)) (name : List ℕ) (p : ℕ) (e : StreamError)
    → StandsOnce fields name p → RefusesName fields name e → e ≡ end.OutOfMemory
refused_name fields name p (end.ColumnMissing told) here (is, none) =
    absurd (none p (omega arith) here.0)
refused_name fields name p (end.ColumnTwice told) here h =
    let one = here.1 h.1.0 h.1.3 in
    let two = here.1 h.1.1 h.1.4 in
    absurd (omega (arith, h.1.2, one, two))
refused_name fields name p end.OutOfMemory here h = refl
refused_name fields name p e here h = absurd h

refused_place : (fields : List (List ℕ)) (at : ℕ) (name : List ℕ) (p : ℕ) (e : StreamError)
    → StandsWhere fields (Some at) name p → RefusesPlace fields at name e → e ≡ end.OutOfMemory
refused_place fields at name p (end.PlaceMissing told place found) here h =
    absurd (omega (arith, here.1, h.3))
refused_place fields at name p end.OutOfMemory here h = refl
refused_place fields at name p e here h = absurd h

refused_column : (fields : List (List ℕ)) (at : Option ℕ) (name : List ℕ) (p : ℕ)
    (e : StreamError) → StandsWhere fields at name p → RefusesColumn fields at name e
    → e ≡ end.OutOfMemory
refused_column fields None name p e here h = refused_name fields name p e here h
refused_column fields (Some at) name p e here h = refused_place fields at name p e here h

pub refused_header : (fields : List (List ℕ)) (ds : Fields) (said : List (Option ℕ))
    (ps : List ℕ) (e : StreamError) → StandAt fields ds said ps → RefusesHeader fields ds said e
    → e ≡ end.OutOfMemory
refused_header fields ds said ps e here (at_column k before below first refused) =
    refused_column fields (given_place said k) (field_name k ds) (get_or ps k 0) e
    (here.each k below) refused
refused_header fields ds said ps e here (without_memory is) = is
