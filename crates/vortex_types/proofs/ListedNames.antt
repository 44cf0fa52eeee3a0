-- Names and types copied one by one are the listed fields.
use Rattle.std.proofs.Common.{◌≡◌, ◌≢◌, ◌<◌, ℕ, List, [], ◌∷◌, map, length, get_or, sym, ap, ◌∙◌}
use Rattle.std.proofs.Common.{Bor, subst, ◌++◌, ◌+◌, take, drop, refl, arith, Result}
use Rattle.std.specs.Prelude.{String, string_bytes, AllPairs}
use Rattle.std.specs.declared.alloc.Global.{Global}
use Rattle.std.proofs.lemmas.List.{get_or-map, length-map, map-append, map_more}
use Rattle.vortex_errors.specs.declared.error.VortexError.{VortexError}
use Rattle.vortex_errors.specs.declared.error.VortexError.TheVariants.{InvalidColumn}
use Rattle.vortex_types.specs.declared.dtype.DType.{DType}
use Rattle.vortex_types.specs.LogicalTypes.{field}
use Rattle.vortex_types.specs.declared.dtype.StructFields.{StructFields}
use Rattle.vortex_types.specs.TypeOf.{AllDiffer, AreNamed, type_of, struct_fields, named_types}
use Rattle.vortex_errors.specs.Answers.{AnswersWhere}
use Rattle.vortex_errors.proofs.Answering.{Answers-weaker}
use Rattle.vortex_types.specs.ListedFields.{listed_fields, NameEachOnce}

abbrev Differ : List (List ℕ) → Type 0
Differ = AllPairs (λ a b. a ≢ b)

differ_as_bytes : (names : List (String Global)) → AllDiffer names
    → Differ (map string_bytes names)
differ_as_bytes [] h i j d below within = λ same. omega (arith, within)
differ_as_bytes (n ∷ ns) h i j d below within =
    let names = n ∷ ns in
    let in_names : j < length names = subst (λ k. j < k) (length-map names string_bytes) within in
    λ same.
    h i j n below in_names
    (sym (get_or-map string_bytes names i n d (omega (arith, below, in_names))) ∙ same
    ∙ get_or-map string_bytes names j n d in_names)

differ_as_names : (names : List (String Global)) → Differ (map string_bytes names)
    → AllDiffer names
differ_as_names names h i j d below within =
    let counted : j < length (map string_bytes names) =
    subst (λ k. j < k) (sym (length-map names string_bytes)) within in
    λ same.
    h i j (string_bytes d) below counted
    (get_or-map string_bytes names i d (string_bytes d) (omega (arith, below, within))
    ∙ same
    ∙ sym (get_or-map string_bytes names j d (string_bytes d) within))

-- one more item of a list is copied
pub one_more_copy : {X Y Z : Type 0} (f : X → Z) (g : Y → Z) (xs all : List X) (x : X)
    (ys : List Y) (y : Y) (i : ℕ) (d : Y) → i < length ys → all ≡ xs ++ x ∷ []
    → map f xs ≡ map g (take i ys) → f x ≡ g y → y ≡ get_or ys i y
    → map f all ≡ map g (take (i + 1) ys)
one_more_copy f g xs all x ys y i d within pushed before same is =
    ap (map f) pushed ∙ map-append f xs (x ∷ [])
    ∙ (λ k. before k ++ same k ∷ [])
    ∙ ap (λ z. map g (take i ys) ++ g z ∷ []) is ∙ sym (map_more g ys i y within)

listed : (names : List (String Global)) (types : List DType) (fs : List (Bor (List ℕ) × DType))
    → map string_bytes names ≡ map (λ f. f.0.now) fs → map type_of types ≡ map (λ f. type_of f.1) fs
    → named_types names types ≡ listed_fields fs
listed [] [] [] e h = refl
listed (n ∷ ns) (t ∷ ts) (f ∷ fs) e h =
    let name = ap (λ l. get_or l 0 (string_bytes n)) e in
    let dtype = ap (λ l. get_or l 0 (type_of t)) h in
    let others = listed ns ts fs (ap (drop 1) e) (ap (drop 1) h) in
    (λ k. field (name k) (dtype k) (others k))
listed [] [] (f ∷ fs) e h = cc
listed [] (t ∷ ts) [] e h = cc
listed [] (t ∷ ts) (f ∷ fs) e h = cc
listed (n ∷ ns) [] [] e h = cc
listed (n ∷ ns) [] (f ∷ fs) e h = cc
listed (n ∷ ns) (t ∷ ts) [] e h = cc

-- what is made of the copies is the result for the list
pub answers_listed : (r : Result StructFields VortexError) (names : List (String Global))
    (types : List DType) (fs : List (Bor (List ℕ) × DType))
    → map string_bytes names ≡ map (λ f. f.0.now) fs → map type_of types ≡ map (λ f. type_of f.1) fs
    → AnswersWhere r (AreNamed names types) (λ f. struct_fields f ≡ named_types names types)
    InvalidColumn
    → AnswersWhere r (NameEachOnce fs) (λ f. struct_fields f ≡ listed_fields fs) InvalidColumn
answers_listed r names types fs e h answers =
    let same = listed names types fs e h in
    let counted : length names ≡ length types =
    sym (length-map names string_bytes) ∙ ap length e ∙ length-map fs (λ f. f.0.now)
    ∙ sym (length-map fs (λ f. type_of f.1)) ∙ sym (ap length h) ∙ length-map types type_of in
    Answers-weaker r (λ f. AreNamed names types × (struct_fields f ≡ named_types names types))
    (λ f. NameEachOnce fs × (struct_fields f ≡ listed_fields fs))
    (λ x. (¬ (AreNamed names types)) × (x ≡ InvalidColumn))
    (λ x. (¬ (NameEachOnce fs)) × (x ≡ InvalidColumn))
    (λ f p. (subst Differ e (differ_as_bytes names p.0.1), p.1 ∙ same))
    (λ x p. ((λ d. p.0 (counted, differ_as_names names (subst Differ (sym e) d))), p.1)) answers
