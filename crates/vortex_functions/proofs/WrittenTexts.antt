-- A tree that is written from left to right: what is written and what is left are its text, and
-- less is left with each step.
use Rattle.std.proofs.Common.{◌≡◌, ℕ, zero, suc, ◌+◌, ◌-◌, ◌<◌, ◌≤◌, length, List, [], ◌∷◌, ◌++◌}
use Rattle.std.proofs.Common.{map, Option, Some, None, refl, sym, ap, ◌∙◌, subst, arith, add-one}
use Rattle.std.proofs.Common.{Bor, string_bytes}
use Rattle.std.specs.Prelude.{⊤, codes, slice_get, String}
use Rattle.std.specs.declared.alloc.Global.{Global}
use Rattle.std.specs.Option.{option_and_then, option_map, option_copied, unwrap_or}
use Rattle.std.proofs.lemmas.Option.{slice_get-map}
use Rattle.std.proofs.lemmas.List.{append_assoc, append-nil, length-map}
use Rattle.vortex_interface.specs.CallTexts.{Appends, text_at, told}
use Rattle.vortex_interface.specs.Shipped.{shipped_before, shipped_printed, shipped_text}
use Rattle.vortex_interface.specs.Functions.{ours, custom}
use Rattle.vortex_interface.specs.Printing.{literal_text, tree_text, tree_texts, with_text}
use Rattle.vortex_interface.specs.Printing.{function_text}
use Rattle.vortex_interface.specs.Trees.{Tree, leaf, place, held, constant, call, Trees, no_trees}
use Rattle.vortex_interface.specs.Trees.{tree, children_of, list_of, called}
use Rattle.vortex_interface.proofs.PartTexts.{told_next, told_past, text_got, text_past}
use Rattle.vortex_functions.specs.WrittenTexts.{leaf_text, tree_before}
use Rattle.vortex_functions.specs.WrittenTexts.{tree_printed, HasText, text_in, child_texts}
use Rattle.vortex_functions.specs.WrittenTexts.{left_of, WritesPart}
use Rattle.vortex_functions.specs.declared.expression.text.Writing.{Writing}

parts : (a : Option (List ℕ)) (o : Option (List (List ℕ))) (js : List (List ℕ))
    → with_text a o ≡ Some js
    → (j : List ℕ) × (rest : List (List ℕ)) × (a ≡ Some j) × (o ≡ Some rest) × (js ≡ j ∷ rest)
parts None o js p = cc
parts (Some a) None js p = cc
parts (Some a) (Some rest) js p = (a, rest, refl, refl, cc)

-- the content of an option that something follows from
some_texts : {A B : Type 0} (o : Option A) (f : A → Option B) (b : B) → option_and_then f o ≡ Some b
    → (a : A) × (o ≡ Some a) × (f a ≡ Some b)
some_texts None f b e = cc
some_texts (Some a) f b e = (a, refl, e)

grouped : (out before child rest more : List ℕ)
    → out ++ before ++ child ++ (rest ++ more) ≡ out ++ (before ++ child ++ rest ++ more)
grouped out before child rest more =
    ap (λ bs. bs ++ (rest ++ more)) (append_assoc out before child)
    ∙ append_assoc out (before ++ child) (rest ++ more)
    ∙ ap (λ bs. out ++ bs) (sym (append_assoc (before ++ child) rest more))

abbrev times : ℕ → ℕ → ℕ
times zero c = 0
times (suc n) c = c + times n c

all_parts : (n : ℕ) → n - 0 ≡ n
all_parts n = omega arith

cost_by : (n c : ℕ) → suc (times n c) ≡ suc (times (n - 0) c)
cost_by n c = ap (λ m. suc (times m c)) (sym (all_parts n))

-- all that is left of a node that is no call is its text
leaf_left : (text : List ℕ) → told (λ k. text) (λ k. k) 0 (1 - 0) [] ≡ text
leaf_left text =
    ap (λ n. told (λ k. text) (λ k. k) 0 n []) (all_parts 1)
    ∙ append-nil (text ++ []) ∙ append-nil text

module _ {V O : Type 0} where
  -- each part of a call costs as much as all of its children
  abbrev mutual
    pub cost : Tree V O → ℕ
    cost (leaf l) = suc (times 1 1)
    cost (constant s) = suc (times 1 1)
    cost (call f ts) = suc (times (suc (length (list_of ts))) (suc (costs ts)))

    pub costs : Trees V O → ℕ
    costs no_trees = 0
    costs (tree t ts) = cost t + costs ts

  abbrev child_costs : Tree V O → ℕ
  child_costs (leaf l) = 0
  child_costs (constant s) = 0
  child_costs (call f ts) = costs ts

  -- the cost of a node from its k-th part on, and of frames
  abbrev cost_on : Tree V O → ℕ → ℕ
  cost_on t k = suc (times (suc (length (children_of t)) - k) (suc (child_costs t)))

  abbrev pub frames_cost : List (Writing V O) → ℕ
  frames_cost [] = 0
  frames_cost (w ∷ ws) = cost_on w.node.now w.next + frames_cost ws

  frames_cost_push : (ws : List (Writing V O)) (w : Writing V O)
      → frames_cost (ws ++ w ∷ []) ≡ frames_cost ws + cost_on w.node.now w.next
  frames_cost_push [] w = omega arith
  frames_cost_push (x ∷ ws) w = omega (arith, frames_cost_push ws w)

  cost_is : (t : Tree V O) → cost t ≡ cost_on t 0
  cost_is (leaf l) = cost_by 1 1
  cost_is (constant s) = cost_by 1 1
  cost_is (call f ts) = cost_by (suc (length (list_of ts))) (suc (costs ts))

  costs_at : (ts : Trees V O) (k : ℕ) (c : Tree V O) → slice_get (list_of ts) k ≡ Some c
      → cost c ≤ costs ts
  costs_at no_trees k c e = cc
  costs_at (tree t ts) zero c e =
      let p : t ≡ c = cc in let same = ap cost p in omega (arith, same)
  costs_at (tree t ts) (suc k) c e = omega (arith, costs_at ts k c e)

  child_cost : (t : Tree V O) (k : ℕ) (c : Tree V O) → slice_get (children_of t) k ≡ Some c
      → cost c ≤ child_costs t
  child_cost (leaf l) k c e = cc
  child_cost (constant s) k c e = cc
  child_cost (call f ts) k c e = costs_at ts k c e

  -- that is its next part and what comes after
  cost_next : (t : Tree V O) (k : ℕ) → k ≤ length (children_of t)
      → cost_on t k ≡ suc (child_costs t) + cost_on t (suc k)
  cost_next t k within =
      let n = suc (length (children_of t)) in
      let more : n - k ≡ suc (n - suc k) = omega arith in
      let same = ap (λ m. suc (times m (suc (child_costs t)))) more in
      omega (arith, same)

  -- what is left to write of frames, the last of them first
  abbrev pub left : List (Writing V O) → List ℕ
  left [] = []
  left (w ∷ ws) = left ws ++ left_of w.node.now w.next

  left_push : (ws : List (Writing V O)) (w : Writing V O)
      → left (ws ++ w ∷ []) ≡ left_of w.node.now w.next ++ left ws
  left_push [] w = sym (append-nil (left_of w.node.now w.next))
  left_push (x ∷ ws) w =
      ap (λ bs. bs ++ left_of x.node.now x.next) (left_push ws w)
      ∙ append_assoc (left_of w.node.now w.next) (left ws) (left_of x.node.now x.next)

  abbrev AllHaveText : List (Writing V O) → Type 0
  AllHaveText [] = ⊤
  AllHaveText (w ∷ ws) = HasText w.node.now × AllHaveText ws

  texts_push : (ws : List (Writing V O)) (w : Writing V O)
      → AllHaveText ws → HasText w.node.now → AllHaveText (ws ++ w ∷ [])
  texts_push [] w h t = (t, tt)
  texts_push (x ∷ ws) w h t = (h.0, texts_push ws w h.1 t)

  texts_pop : (ws : List (Writing V O)) (w : Writing V O)
      → AllHaveText (ws ++ w ∷ []) → AllHaveText ws × HasText w.node.now
  texts_pop [] w h = (tt, h.0)
  texts_pop (x ∷ ws) w h = let r = texts_pop ws w h.1 in ((h.0, r.0), r.1)

  texts_are : (ts : Trees V O) (texts : List (List ℕ)) → tree_texts ts ≡ Some texts
      → texts ≡ map text_in (list_of ts)
  texts_are no_trees texts e = cc
  texts_are (tree t ts) texts e =
      let w = parts (tree_text t) (tree_texts ts) texts e in
      let first : w.0 ≡ text_in t = sym (ap (λ o. unwrap_or o []) w.2) in
      w.4 ∙ (λ j. first j ∷ texts_are ts w.1 w.3 j)

  child_has_text : (ts : Trees V O) (texts : List (List ℕ)) (k : ℕ) (c : Tree V O)
      → tree_texts ts ≡ Some texts → slice_get (list_of ts) k ≡ Some c → HasText c
  child_has_text no_trees texts k c e at = cc
  child_has_text (tree t ts) texts zero c e at =
      let w = parts (tree_text t) (tree_texts ts) texts e in
      let p : t ≡ c = cc in subst (λ (u : Tree V O). HasText u) p (w.0, w.2)
  child_has_text (tree t ts) texts (suc k) c e at =
      let w = parts (tree_text t) (tree_texts ts) texts e in
      child_has_text ts w.1 k c w.3 at

  -- a call that has a text is one of a shipped function, and its children have texts
  no_text : (f : V) (o : O) (ts : Trees V O) → HasText (call (custom f o) ts) → ⊥
  no_text f o ts h = let w = some_texts (tree_texts ts) (λ texts. None) h.0 h.1 in cc

  texts_within : (t : Tree V O) → HasText t → (i : ℕ) (c : Tree V O)
      → slice_get (children_of t) i ≡ Some c → HasText c
  texts_within (leaf l) h i c at = cc
  texts_within (constant s) h i c at = cc
  texts_within (call f ts) h i c at =
      let w = some_texts (tree_texts ts) (function_text f) h.0 h.1 in
      child_has_text ts w.0 i c w.1 at

  -- all that is left of a node at first is its text
  left_all : (t : Tree V O) → HasText t → left_of t 0 ≡ text_in t
  left_all (leaf (place p name t)) h = leaf_left (codes "$." ++ name)
  left_all (leaf (held c)) h = cc
  left_all (constant s) h = leaf_left (literal_text s.dtype s.value)
  left_all (call (custom f o) ts) h = absurd (no_text f o ts h)
  left_all (call (ours s) ts) h =
      let w = some_texts (tree_texts ts) (function_text {V = V} {O = O} (ours s)) h.0 h.1 in
      let texts = map text_in (list_of ts) in
      let text : shipped_text s w.0 ≡ h.0 = cc in
      ap (λ n. told (shipped_before s) (shipped_printed s) 0 n texts)
      (all_parts (suc (length (list_of ts)))
      ∙ ap suc (sym (length-map (list_of ts) text_in)))
      ∙ ap (shipped_text s) (sym (texts_are ts w.0 w.1))
      ∙ text ∙ sym (ap (λ o. unwrap_or o []) h.1)

  -- the text of a node that is no call is a part of its text
  pub leaf_part : (t : Tree V O) (k : ℕ) (old new : String Global) → called t ≡ None
      → Appends old (leaf_text t) new → WritesPart t k old new None
  leaf_part (leaf l) k old new e w = (k, refl, λ h. (w, refl))
  leaf_part (constant s) k old new e w = (k, refl, λ h. (w, refl))
  leaf_part (call f ts) k old new e w = cc

  -- what is written, and what is left of the frames, is the root's text, if it has one
  abbrev pub Writes : Tree V O → List ℕ → List (Writing V O) → Type 0
  Writes root out ws = HasText root → AllHaveText ws × (out ++ left ws ≡ text_in root)

  pub writes_first : (t : Bor (Tree V O)) (out : List ℕ) (none ws : List (Writing V O))
      → out ≡ [] → none ≡ [] → ws ≡ none ++ record { node = t; next = 0 } ∷ [] → Writes t.now out ws
  writes_first t out none ws e n is h =
      let first : List (Writing V O) = record { node = t; next = 0 } ∷ [] in
      subst (λ xs. AllHaveText xs × (out ++ left xs ≡ text_in t.now))
      (sym (is ∙ ap (λ xs. xs ++ first) n))
      ((h, tt), ap (λ bs. bs ++ left_of t.now 0) e ∙ left_all t.now h)

  -- the last frame is popped
  module _ (all rest : List (Writing V O)) (last : Writing V O) (popped : all ≡ rest ++ last ∷ [])
    where
      abbrev t : Tree V O
      t = last.node.now

      abbrev k : ℕ
      k = last.next

      pub past_costs : frames_cost rest < frames_cost all
      past_costs = rw popped (omega (arith, frames_cost_push rest last))

      -- past its last part nothing is left of it
      pub written_past : (root : Tree V O) (out : List ℕ) → Writes root out all
          → length (children_of t) < k → Writes root out rest
      written_past root out w past h =
          let r = subst (Writes root out) popped w h in
          let nothing : left_of t k ≡ [] =
          told_past (tree_before t) (tree_printed t) k (suc (length (children_of t))) (child_texts t)
          (omega arith) in
          let same = left_push rest last ∙ ap (λ bs. bs ++ left rest) nothing in
          ((texts_pop rest last r.0).0, ap (λ bs. out ++ bs) (sym same) ∙ r.1)

      -- and follows its next part
      module _ (more : List (Writing V O)) (within : k ≤ length (children_of t))
          (pushed : more ≡ rest ++ record { node = last.node; next = last.next + 1 } ∷ []) where
        abbrev behind : Writing V O
        behind = record { node = last.node; next = suc last.next }

        abbrev above : List (Writing V O)
        above = rest ++ behind ∷ []

        goes : more ≡ above
        goes =
            pushed
            ∙ ap (λ n. rest ++ record { node = last.node; next = n } ∷ []) (add-one last.next)

        pub said_costs : frames_cost more < frames_cost all
        said_costs =
            rw (goes, popped)
            (omega (arith, cost_next t k within, frames_cost_push rest last, frames_cost_push rest behind))

        -- after the part is written, with the text of that child
        part_written : (root : Tree V O) (out new : List ℕ) → Writes root out all
            → (HasText t
            → new ≡ (out ++ tree_before t k) ++ text_at (tree_printed t k) (child_texts t))
            → Writes root new above
        part_written root out new w n h =
            let r = subst (Writes root out) popped w h in
            let texts = texts_pop rest last r.0 in
            let before = tree_before t k in
            let child = text_at (tree_printed t k) (child_texts t) in
            let next =
            told_next (tree_before t) (tree_printed t) k (suc (length (children_of t)))
            (child_texts t) (omega arith) in (
              texts_push rest behind texts.0 texts.1,
              ap (λ bs. bs ++ left above) (n texts.1)
                  ∙ ap (λ bs. out ++ before ++ child ++ bs) (left_push rest behind)
                  ∙ grouped out before child (left_of t (suc k)) (left rest)
                  ∙ ap (λ bs. out ++ (bs ++ left rest)) (sym next)
                  ∙ ap (λ bs. out ++ bs) (sym (left_push rest last))
                  ∙ r.1,
            )

        module _ (root : Tree V O) (old new : String Global) (o : Option (Bor (Tree V O)))
            (w : Writes root (string_bytes old) all)
            (written : WritesPart t k old new (option_copied o)) where
          abbrev out : List ℕ
          out = string_bytes old

          abbrev bytes : List ℕ
          bytes = string_bytes new

          abbrev i : ℕ
          i = written.0

          pub written_said : o ≡ None → Writes root bytes more
          written_said none = subst (Writes root bytes) (sym goes) (part_written root out bytes w ends)
            where
              ends : HasText t
                  → bytes ≡ (out ++ tree_before t k) ++ text_at (tree_printed t k) (child_texts t)
              ends h =
                  let is = written.2 h in
                  let past : slice_get (children_of t) i ≡ None =
                  sym written.1 ∙ ap option_copied none in
                  let nothing : text_at i (child_texts t) ≡ [] =
                  text_past (child_texts t) i
                  (slice_get-map text_in (children_of t) i ∙ ap (option_map text_in) past) in
                  is.0 ∙ sym (append-nil (out ++ tree_before t k))
                  ∙ ap (λ bs. (out ++ tree_before t k) ++ bs)
                  (sym nothing ∙ ap (λ j. text_at j (child_texts t)) is.1)

          -- after a child comes the next part
          module _ (child : Bor (Tree V O)) (found : o ≡ Some child) (deeper : List (Writing V O))
              (begun : deeper ≡ more ++ record { node = child; next = 0 } ∷ []) where
            abbrev first : Writing V O
            first = record { node = child; next = 0 }

            abbrev c : Tree V O
            c = child.now

            there : slice_get (children_of t) i ≡ Some c
            there = sym written.1 ∙ ap option_copied found

            under : deeper ≡ above ++ first ∷ []
            under = begun ∙ ap (λ ws. ws ++ first ∷ []) goes

            pub begun_costs : frames_cost deeper < frames_cost all
            begun_costs =
                rw (under, popped)
                (omega (
                  arith,
                  cost_next t k within,
                  child_cost t i c there,
                  cost_is c,
                  frames_cost_push rest last,
                  frames_cost_push rest behind,
                  frames_cost_push above first,
                ))

            pub written_begun : Writes root bytes deeper
            written_begun = subst (Writes root bytes) (sym under) goes_on
              where
                with_child : HasText t → bytes ++ text_in c
                    ≡ (out ++ tree_before t k) ++ text_at (tree_printed t k) (child_texts t)
                with_child h =
                    let is = written.2 h in
                    let got : text_at i (child_texts t) ≡ text_in c =
                    text_got (child_texts t) i (text_in c)
                    (slice_get-map text_in (children_of t) i ∙ ap (option_map text_in) there) in
                    ap (λ bs. bs ++ text_in c) is.0
                    ∙ ap (λ bs. (out ++ tree_before t k) ++ bs)
                    (sym got ∙ ap (λ j. text_at j (child_texts t)) is.1)

                goes_on : Writes root bytes (above ++ first ∷ [])
                goes_on h =
                    let next = part_written root out (bytes ++ text_in c) w with_child h in
                    let texts = texts_pop rest last (subst (Writes root out) popped w h).0 in
                    let has = texts_within t texts.1 i c there in (
                      texts_push above first next.0 has,
                      ap (λ bs. bytes ++ bs) (left_push above first)
                          ∙ ap (λ bs. bytes ++ (bs ++ left above)) (left_all c has)
                          ∙ sym (append_assoc bytes (text_in c) (left above))
                          ∙ next.1,
                    )
