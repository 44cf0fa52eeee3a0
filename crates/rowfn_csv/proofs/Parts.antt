-- Where fields lie among the bytes of a batch, as more bytes come behind them.
use Rattle.std.proofs.Common.{length, ◌≡◌, ℕ, ◌<◌, ◌≤◌, suc, List, [], ◌∷◌, ◌++◌, Bool, true}
use Rattle.std.proofs.Common.{false, Option, Some, None, map, take, drop, refl, ap, sym, ◌∙◌, arith}
use Rattle.std.proofs.Common.{get_or, ◌+◌, add-one, if◌then◌else◌}
use Rattle.std.specs.Prelude.{nat_le}
use Rattle.std.proofs.Math.Seq.{take-suc}
use Rattle.std.proofs.lemmas.Bool.{le-leb}
use Rattle.std.proofs.lemmas.List.{take-take, map-append}
use Rattle.std.proofs.lemmas.List.Elements.{All-push}
use Rattle.std.proofs.lemmas.Slice.{between_is}
use Rattle.rowfn_csv.specs.Batches.{part_bytes, part_said, AreParts, KeepsParts}
use Rattle.rowfn_csv.specs.declared.batch.Part.{Part}

-- bytes that begin alike say the same there
said_alike : (n : ℕ) (xs ys : List ℕ) → take n ys ≡ take n xs → (p : Part) → p.end ≤ n
    → part_said ys p ≡ part_said xs p
said_alike n xs ys same p within = by (nat_le p.start p.end)
  where
    here : part_bytes ys p ≡ part_bytes xs p
    here =
        between_is ys p.start p.end
        ∙ ap (drop p.start) (sym (take-take p.end n ys within))
        ∙ ap (λ (bs : List ℕ). drop p.start (take p.end bs)) same
        ∙ ap (drop p.start) (take-take p.end n xs within)
        ∙ sym (between_is xs p.start p.end)

    by : (b : Bool)
        → (if b then Some (part_bytes ys p) else None)
        ≡ (if b then Some (part_bytes xs p) else None)
    by true = ap Some here
    by false = refl

-- so the fields that lie within the first bytes are kept
pub parts_kept : (n more : ℕ) (xs ys : List ℕ) → n ≤ more → take n ys ≡ take n xs
    → KeepsParts n xs more ys
parts_kept n more xs ys size same = record { grows = size; said = said_alike n xs ys same }

-- what is put there is said there
pub part_put : (bytes field : List ℕ) (p : Part) → p.start ≤ p.end → part_bytes bytes p ≡ field
    → part_said bytes p ≡ Some field
part_put bytes field p rising e =
    ap (λ b. if b then Some (part_bytes bytes p) else None) (le-leb p.start p.end rising)
    ∙ ap Some e

said_all : (n more : ℕ) (xs ys : List ℕ) → KeepsParts n xs more ys → (ps : List Part)
    → AreParts n ps → map (part_said ys) ps ≡ map (part_said xs) ps
said_all n more xs ys kept [] h = refl
said_all n more xs ys kept (p ∷ ps) h =
    λ i. kept.said p (h 0 p (omega arith)) i
    ∷ said_all n more xs ys kept ps (λ k d lt. h (suc k) d (omega (arith, lt))) i

-- and they lie within more bytes
pub parts_more : (n more : ℕ) (ps : List Part) → n ≤ more → AreParts n ps → AreParts more ps
parts_more n more ps size h k d lt = let within = h k d lt in omega (arith, size, within)

-- no parts
pub none_parts : (size : ℕ) (ps : List Part) → ps ≡ [] → AreParts size ps
none_parts size [] e k d lt = absurd (omega (arith, lt))
none_parts size (p ∷ ps) e k d lt = absurd (cc e)

pub none_said : (bytes : List ℕ) (ps : List Part) → ps ≡ [] → map (part_said bytes) ps ≡ []
none_said bytes ps e = ap (map (part_said bytes)) e

-- one part more
module _ (n more : ℕ) (xs ys : List ℕ) (kept : KeepsParts n xs more ys) (p : Part) (ps : List Part)
    (h : AreParts n ps)
  where
    pub parts_pushed : p.end ≤ more → AreParts more (ps ++ (p ∷ []))
    parts_pushed within =
        All-push (λ (q : Part). q.end ≤ more) ps p (parts_more n more ps kept.grows h) within

    pub said_pushed : (said : Option (List ℕ)) → part_said ys p ≡ said
        → map (part_said ys) (ps ++ (p ∷ [])) ≡ map (part_said xs) ps ++ (said ∷ [])
    said_pushed said e =
        map-append (part_said ys) ps (p ∷ [])
        ∙ (λ i. said_all n more xs ys kept ps h i ++ (e i ∷ []))

-- one more of a list of which a map has what the first parts say
pub next_part : {A : Type 0} (f : A → Option (List ℕ)) (bytes : List ℕ) (xs : List A) (y : A)
    (ps : List Part) (i : ℕ) (d : Part) → i < length ps
    → map f xs ≡ map (part_said bytes) (take i ps) → f y ≡ part_said bytes (get_or ps i d)
    → map f (xs ++ (y ∷ [])) ≡ map (part_said bytes) (take (i + 1) ps)
next_part f bytes xs y ps i d lt before here =
    map-append f xs (y ∷ [])
    ∙ (λ j. before j ++ (here j ∷ []))
    ∙ sym (map-append (part_said bytes) (take i ps) (get_or ps i d ∷ []))
    ∙ ap (map (part_said bytes)) (sym (take-suc ps i d lt))
    ∙ ap (λ (n : ℕ). map (part_said bytes) (take n ps)) (sym (add-one i))
