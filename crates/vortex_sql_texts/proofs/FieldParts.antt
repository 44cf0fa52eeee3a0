-- Texts in fields.
use Rattle.std.proofs.Common.{◌≡◌, ◌≤◌, ◌<◌, ◌+◌, ℕ, zero, suc, List, [], ◌∷◌, ◌++◌, arith, refl, ap}
use Rattle.std.proofs.Common.{append_assoc, length-append, cond, sym, ◌∙◌, true, false, length, take, drop, subst}
use Rattle.std.specs.Prelude.{nat_eq, ◌==◌, Bool, None, IsUtf8}
use Rattle.std.specs.List.{starts_with}
use Rattle.std.specs.Str.{IsCharBoundary}
use Rattle.std.specs.Str.Pattern.{FindsText, LacksTextAt, SplitsAroundMatch}
use Rattle.std.proofs.lemmas.Bool.{and_parts, and_from, eqb-true, eq-eqb, false_from_ne_true}
use Rattle.std.proofs.lemmas.Str.{IsUtf8-append, IsUtf8-drop, IsUtf8-take, IsCharBoundary-at_seam}
use Rattle.vortex_errors.specs.Answers.{UnlessMemory}
use Rattle.vortex_errors.specs.declared.error.VortexError.{VortexError}
use Rattle.vortex_errors.proofs.Answering.{UnlessMemory-weaker}
use Rattle.vortex_types.specs.Values.{Value}
use Rattle.vortex_sql_rows.specs.declared.faults.RowFault.TheVariants.{OtherValues}
use Rattle.vortex_sql_rows.specs.Faults.{faults_by}
use Rattle.vortex_sql_texts.specs.MadeTexts.{IsTooLong}
use Rattle.vortex_sql_texts.specs.Fields.{field_at, fields, fields_after, in_first, joined}
use Rattle.vortex_sql_texts.specs.Fields.{split_parts}

take_drop : {A : Type 0} (n : ℕ) (xs : List A) → take n xs ++ drop n xs ≡ xs
take_drop zero xs = refl
take_drop (suc n) [] = refl
take_drop (suc n) (x ∷ xs) = ap (λ ys. x ∷ ys) (take_drop n xs)

starts_split : (p s : List ℕ) → starts_with nat_eq s p ≡ true → s ≡ p ++ drop (length p) s
starts_split [] s e = refl
starts_split (x ∷ p) [] e = cc
starts_split (x ∷ p) (y ∷ s) e =
    let both = and_parts _ _ e in
    let rest = starts_split p s both.1 in
    let same = sym (eqb-true x y both.0) in
    λ i. same i ∷ rest i

starts_front : (p rest : List ℕ) → starts_with nat_eq (p ++ rest) p ≡ true
starts_front [] rest = refl
starts_front (x ∷ p) rest = and_from _ _ (eq-eqb x x refl) (starts_front p rest)

no_start : (ds bs : List ℕ) → LacksTextAt ds bs 0 → starts_with nat_eq bs ds ≡ false
no_start ds bs h = false_from_ne_true _ (λ e. h (drop (length ds) bs) (starts_split ds bs e))

skipped : (d : ℕ) (ds xs back : List ℕ)
    → fields_after d ds (length xs) (xs ++ back) ≡ fields_after d ds 0 back
skipped d ds [] back = refl
skipped d ds (x ∷ xs) back = skipped d ds xs back

one_field : (d : ℕ) (ds front back : List ℕ)
    → ((i : ℕ) → i < length front → LacksTextAt (d ∷ ds) (front ++ ((d ∷ ds) ++ back)) i)
    → fields_after d ds 0 (front ++ ((d ∷ ds) ++ back)) ≡ front ∷ fields_after d ds 0 back
one_field d ds [] back h =
    rw (starts_front (d ∷ ds) back) (ap (λ fs. [] ∷ fs) (skipped d ds ds back))
one_field d ds (b ∷ front) back h =
    rw (no_start (d ∷ ds) (b ∷ front ++ ((d ∷ ds) ++ back)) (h 0 (omega arith)))
    (ap (in_first b) (one_field d ds front back (λ i lt. h (suc i) (omega (arith, lt)))))

last_field : (d : ℕ) (ds bs : List ℕ) → ((i : ℕ) → i ≤ length bs → LacksTextAt (d ∷ ds) bs i)
    → fields_after d ds 0 bs ≡ bs ∷ []
last_field d ds [] h = refl
last_field d ds (b ∷ bs) h =
    rw (no_start (d ∷ ds) (b ∷ bs) (h 0 (omega arith)))
    (ap (in_first b) (last_field d ds bs (λ i le. h (suc i) (omega (arith, le)))))

pub some_bytes : (ds : List ℕ) (b : Bool) → b ≡ (length ds == 0) → b ≡ false → 0 < length ds
some_bytes [] b e h = cc
some_bytes (d ∷ ds) b e h = omega arith

-- a text that a delimiter is not in
pub uncut : (ds bs : List ℕ) → 0 < length ds → FindsText ds bs None → fields ds bs ≡ bs ∷ []
uncut [] bs lt h = absurd (omega (arith, lt))
uncut (d ∷ ds) bs lt h = last_field d ds bs h

-- a text, cut at its first delimiter
pub parts : (ds bs front back : List ℕ) → SplitsAroundMatch (FindsText ds) bs front back
    → bs ≡ front ++ (ds ++ back)
parts ds bs front back (i, j, (lacks, at), f, b, le, same, size) =
    sym (take_drop i bs) ∙ ap (λ xs. xs ++ drop i bs) (sym f)
    ∙ ap (λ xs. front ++ xs) (at.split ∙ ap (λ ys. ds ++ ys) (sym b))

pub first_field : (ds bs front back : List ℕ) → 0 < length ds
    → SplitsAroundMatch (FindsText ds) bs front back → fields ds bs ≡ front ∷ fields ds back
first_field [] bs front back lt h = absurd (omega (arith, lt))
first_field (d ∷ ds) bs front back lt (i, j, (lacks, at), f, b, le, same, size) =
    let e = parts (d ∷ ds) bs front back (i, j, (lacks, at), f, b, le, same, size) in
    ap (fields_after d ds 0) e
    ∙ one_field d ds front back
    (λ k below. subst (λ xs. LacksTextAt (d ∷ ds) xs k) e (lacks k (omega (arith, below, same))))

pub back_shorter : (ds bs front back : List ℕ) → 0 < length ds
    → SplitsAroundMatch (FindsText ds) bs front back → length back < length bs
back_shorter ds bs front back lt (i, j, (lacks, at), f, b, le, same, size) =
    omega (arith, lt, at.ends, size)

pub back_utf8 : (ds bs front back : List ℕ) → IsUtf8 bs
    → SplitsAroundMatch (FindsText ds) bs front back → IsUtf8 back
back_utf8 ds bs front back u (i, j, (lacks, at), f, b, le, same, size) =
    subst IsUtf8 (sym b) (IsUtf8-drop bs j u (rw at.ends at.after))

pub front_utf8 : (ds bs front back : List ℕ) → IsUtf8 ds → IsUtf8 bs
    → SplitsAroundMatch (FindsText ds) bs front back → IsUtf8 front
front_utf8 ds bs front back v u (i, j, (lacks, at), f, b, le, same, size) =
    let h : SplitsAroundMatch (FindsText ds) bs front back = (i, j, (lacks, at), f, b, le, same, size) in
    let cut = IsCharBoundary-at_seam bs front (ds ++ back) (parts ds bs front back h)
    (IsUtf8-append ds back v (back_utf8 ds bs front back u h)) in
    subst IsUtf8 (sym f) (IsUtf8-take bs i u (subst (IsCharBoundary bs) same cut))

-- the field that is left first
pub field_here : (n : ℕ) (fs gs : List (List ℕ)) (f : List ℕ) → drop n fs ≡ f ∷ gs
    → f ≡ field_at n fs
field_here zero [] gs f e = cc
field_here (suc n) [] gs f e = cc
field_here zero (g ∷ fs) gs f e = cc
field_here (suc n) (g ∷ fs) gs f e = field_here n fs gs f e

-- no field is left
pub field_past : (n k : ℕ) (fs : List (List ℕ)) (f : List ℕ) → drop n fs ≡ f ∷ [] → n < k
    → [] ≡ field_at k fs
field_past zero zero fs f e lt = absurd (omega (arith, lt))
field_past (suc n) zero fs f e lt = absurd (omega (arith, lt))
field_past n (suc k) [] f e lt = refl
field_past zero (suc k) (g ∷ fs) f e lt = let none : fs ≡ [] = cc in rw none refl
field_past (suc n) (suc k) (g ∷ fs) f e lt = field_past n k fs f e (omega (arith, lt))

past : (n : ℕ) (fs gs : List (List ℕ)) (f : List ℕ) → drop n fs ≡ f ∷ gs → drop (suc n) fs ≡ gs
past zero [] gs f e = cc
past (suc n) [] gs f e = cc
past zero (g ∷ fs) gs f e = cc
past (suc n) (g ∷ fs) gs f e = past n fs gs f e

pub one_less : (n : ℕ) (fs gs : List (List ℕ)) (f : List ℕ) → drop n fs ≡ f ∷ gs
    → drop (n + 1) fs ≡ gs
one_less n fs gs f e = let more : n + 1 ≡ suc n = omega arith in rw more (past n fs gs f e)

some_first : (b : ℕ) (fs : List (List ℕ)) → 0 < length (in_first b fs)
some_first b [] = omega arith
some_first b (f ∷ fs) = omega arith

either : (b : Bool) (fs gs : List (List ℕ)) → 0 < length fs → 0 < length gs
    → 0 < length (cond b fs gs)
either true fs gs h k = h
either false fs gs h k = k

some_after : (d : ℕ) (ds : List ℕ) (n : ℕ) (bs : List ℕ) → 0 < length (fields_after d ds n bs)
some_after d ds n [] = omega arith
some_after d ds zero (b ∷ bs) =
    either (starts_with nat_eq (b ∷ bs) (d ∷ ds)) ([] ∷ fields_after d ds (length ds) bs)
    (in_first b (fields_after d ds 0 bs)) (omega arith) (some_first b (fields_after d ds 0 bs))
some_after d ds (suc n) (b ∷ bs) = some_after d ds n bs

some_fields : (ds bs : List ℕ) → 0 < length (fields ds bs)
some_fields [] bs = omega arith
some_fields (d ∷ ds) bs = some_after d ds 0 bs

joined_some : (es f : List ℕ) (gs : List (List ℕ)) → 0 < length gs
    → joined es (f ∷ gs) ≡ f ++ (es ++ joined es gs)
joined_some es f [] h = absurd (omega (arith, h))
joined_some es f (g ∷ gs) h = refl

-- a field before those of another text
pub joined_more : (es f ds bs : List ℕ)
    → joined es (f ∷ fields ds bs) ≡ f ++ (es ++ joined es (fields ds bs))
joined_more es f ds bs = joined_some es f (fields ds bs) (some_fields ds bs)

-- one field more is made
pub joined_step : (es f ds rest before half made all : List ℕ)
    → all ≡ before ++ joined es (f ∷ fields ds rest) → half ≡ before ++ f → made ≡ half ++ es
    → all ≡ made ++ joined es (fields ds rest)
joined_step es f ds rest before half made all e h k =
    let more = joined es (fields ds rest) in
    e ∙ ap (λ xs. before ++ xs) (joined_more es f ds rest) ∙ sym (append_assoc before f (es ++ more))
    ∙ ap (λ xs. xs ++ (es ++ more)) (sym h) ∙ sym (append_assoc half es more)
    ∙ ap (λ xs. xs ++ more) (sym k)

-- and is too long
pub too_long_here : (es f ds rest before half all : List ℕ) (e : VortexError)
    → all ≡ before ++ joined es (f ∷ fields ds rest) → half ≡ before ++ f
    → UnlessMemory (IsTooLong (half ++ es)) e → UnlessMemory (IsTooLong all) e
too_long_here es f ds rest before half all e h k long =
    UnlessMemory-weaker (IsTooLong (half ++ es)) (IsTooLong all)
    (λ x l. (omega (arith, l.0, ap length (joined_step es f ds rest before half (half ++ es) all h k refl), length-append (half ++ es) (joined es (fields ds rest))), l.1)) e long

-- what `split_part` says of rows of other lengths
pub other_parts : (vs : List Value) → (length vs ≡ 3 → ⊥) → faults_by OtherValues ≡ split_parts vs
other_parts [] n = refl
other_parts (v ∷ []) n = refl
other_parts (v ∷ w ∷ []) n = refl
other_parts (v ∷ w ∷ x ∷ []) n = absurd (n refl)
other_parts (v ∷ w ∷ x ∷ y ∷ vs) n = refl
