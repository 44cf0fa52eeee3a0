-- Fields that are added to a line, and lines that follow one another.
use Rattle.std.proofs.Common.{◌≡◌, ◌<◌, ◌++◌, ◌∷◌, [], ◌∙◌, Bool, true, false, ℕ, zero, suc, List, refl}
use Rattle.std.proofs.Common.{ap, sym, subst, map, take, length, get_or, arith}
use Rattle.std.proofs.lemmas.List.{append_assoc, append-nil}
use Rattle.std.specs.List.{flat_map}
use Rattle.rowfn_index.specs.declared.entries.Entries.{Entries}
use Rattle.rowfn_index.specs.IndexTexts.{gap, fields_from, begun_after, line_of, HasFields, IsEnded, HasLine}

begun_true : (fs : List (List ℕ)) → begun_after true fs ≡ true
begun_true [] = refl
begun_true (f ∷ fs) = refl

begun_joined : (b : Bool) (fs gs : List (List ℕ))
    → begun_after b (fs ++ gs) ≡ begun_after (begun_after b fs) gs
begun_joined b [] gs = refl
begun_joined b (f ∷ fs) gs = sym (begun_true gs)

fields_joined : (b : Bool) (fs gs : List (List ℕ))
    → fields_from b (fs ++ gs) ≡ fields_from b fs ++ fields_from (begun_after b fs) gs
fields_joined b [] gs = refl
fields_joined b (f ∷ fs) gs =
    let rest : fields_from true (fs ++ gs) ≡ fields_from true fs ++ fields_from true gs =
    fields_joined true fs gs
    ∙ ap (λ (x : Bool). fields_from true fs ++ fields_from x gs) (begun_true fs) in
    ap (λ (x : List ℕ). gap b ++ (f ++ x)) rest
    ∙ ap (λ (x : List ℕ). gap b ++ x)
    (sym (append_assoc f (fields_from true fs) (fields_from true gs)))
    ∙ sym (append_assoc (gap b) (f ++ fields_from true fs) (fields_from true gs))

-- further fields of a line
pub more_fields : (a b c : Entries) (fs gs : List (List ℕ)) → HasFields a b fs → HasFields b c gs
    → HasFields a c (fs ++ gs)
more_fields a b c fs gs h k = record {
  bytes = k.bytes
      ∙ ap (λ (x : List ℕ). x ++ fields_from b.is_begun gs) h.bytes
      ∙ ap (λ (x : Bool). (a.bytes.items ++ fields_from a.is_begun fs) ++ fields_from x gs) h.begun
      ∙ append_assoc a.bytes.items (fields_from a.is_begun fs)
      (fields_from (begun_after a.is_begun fs) gs)
      ∙ ap (λ (x : List ℕ). a.bytes.items ++ x) (sym (fields_joined a.is_begun fs gs));
  begun = k.begun ∙ ap (λ (x : Bool). begun_after x gs) h.begun
      ∙ sym (begun_joined a.is_begun fs gs);
}

-- the end of a line
pub line_ended : (a b c : Entries) (fs : List (List ℕ)) → HasFields a b fs → IsEnded b c
    → HasLine a c fs
line_ended a b c fs h k = record {
  bytes = k.bytes ∙ ap (λ (x : List ℕ). x ++ (10 ∷ [])) h.bytes
      ∙ append_assoc a.bytes.items (fields_from a.is_begun fs) (10 ∷ []);
  begun = k.begun;
}

-- what is made of one item more
pub mapped_more : {A : Type 0} (f : A → List ℕ) (xs : List A) (k j : ℕ) (x : A) → j ≡ suc k
    → k < length xs → x ≡ get_or xs k x → map f (take j xs) ≡ map f (take k xs) ++ (f x ∷ [])
mapped_more f xs k j x next lt here =
    subst (λ (n : ℕ). map f (take n xs) ≡ map f (take k xs) ++ (f x ∷ [])) (sym next) (go xs k lt here)
  where
    go : (ys : List _) (l : ℕ) → l < length ys → x ≡ get_or ys l x
        → map f (take (suc l) ys) ≡ map f (take l ys) ++ (f x ∷ [])
    go [] l lt here = absurd (omega (arith, lt))
    go (y ∷ ys) zero lt here = ap (λ z. f z ∷ []) (sym here)
    go (y ∷ ys) (suc l) lt here = ap (λ zs. f y ∷ zs) (go ys l (omega (arith, lt)) here)

pub flat_mapped_more : {A : Type 0} (f : A → List (List ℕ)) (xs : List A) (k j : ℕ) (x : A)
    → j ≡ suc k → k < length xs → x ≡ get_or xs k x
    → flat_map f (take j xs) ≡ flat_map f (take k xs) ++ f x
flat_mapped_more f xs k j x next lt here =
    subst (λ (n : ℕ). flat_map f (take n xs) ≡ flat_map f (take k xs) ++ f x) (sym next)
    (go xs k lt here)
  where
    go : (ys : List _) (l : ℕ) → l < length ys → x ≡ get_or ys l x
        → flat_map f (take (suc l) ys) ≡ flat_map f (take l ys) ++ f x
    go [] l lt here = absurd (omega (arith, lt))
    go (y ∷ ys) zero lt here = append-nil (f y) ∙ ap f (sym here)
    go (y ∷ ys) (suc l) lt here =
        ap (λ zs. f y ++ zs) (go ys l (omega (arith, lt)) here)
        ∙ sym (append_assoc (f y) (flat_map f (take l ys)) (f x))

-- lines from the beginning on
pub record AreLines (e : Entries) (ls : List (List (List ℕ))) : Type 0 where
  pub bytes : e.bytes.items ≡ flat_map line_of ls
  pub begun : e.is_begun ≡ false

lines_joined : (ls : List (List (List ℕ))) (fs : List (List ℕ))
    → flat_map line_of (ls ++ fs ∷ []) ≡ flat_map line_of ls ++ line_of fs
lines_joined [] fs = append-nil (line_of fs)
lines_joined (l ∷ ls) fs =
    ap (λ x. line_of l ++ x) (lines_joined ls fs)
    ∙ sym (append_assoc (line_of l) (flat_map line_of ls) (line_of fs))

pub more_lines : (a b : Entries) (ls : List (List (List ℕ))) (fs : List (List ℕ)) → AreLines a ls
    → HasLine a b fs → AreLines b (ls ++ fs ∷ [])
more_lines a b ls fs h k = record {
  bytes = k.bytes
      ∙ ap (λ (x : Bool). a.bytes.items ++ (fields_from x fs ++ (10 ∷ []))) h.begun
      ∙ ap (λ (x : List ℕ). x ++ line_of fs) h.bytes ∙ sym (lines_joined ls fs);
  begun = k.begun;
}
