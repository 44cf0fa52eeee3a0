-- What was read before a token begins an expression.
use Rattle.std.proofs.Common.{◌≡◌, ℕ, ◌≤◌, List, [], ◌∷◌, ◌++◌, false, true, Some, refl, ap, subst}
use Rattle.std.proofs.Common.{◌∙◌, append_assoc, arith, lit<, lit≤}
use Rattle.std.specs.Prelude.{codes}
use Rattle.std.proofs.lemmas.List.{append-nil}
use Rattle.vortex_syntax.specs.declared.token.Sign.TheVariants as sign
use Rattle.vortex_syntax.specs.Frames.{Frame, hole, top_hole, ceiling, top_ceiling, whole}
use Rattle.vortex_syntax.specs.declared.frame.Mode.{Mode}
use Rattle.vortex_syntax.specs.declared.frame.Mode.TheVariants as mode
use Rattle.vortex_syntax.specs.Tokens.{Token, name, text, sign}
use Rattle.vortex_syntax.specs.Syntax as tree
use Rattle.vortex_syntax.specs.Syntax.{Syntax}
use Rattle.vortex_syntax.specs.Levels.{level, Fits, is_level, concat_level, literal_level}
use Rattle.vortex_syntax.specs.Levels.{atom_level, typed_level}
use Rattle.vortex_syntax.specs.Spelling.{cast_sign, between_tokens, side_tokens}
use Rattle.vortex_syntax.specs.Reading.{between_kind}
use Rattle.vortex_syntax.specs.Spelling.{spelling, all_spelled, with_not, is_tokens, like_sign}
use Rattle.vortex_syntax.specs.Spelling.{type_token, in_tokens, branches_spelled, function_tokens}
use Rattle.vortex_syntax.specs.Postfix as step
use Rattle.vortex_syntax.specs.Postfix.{Step, postfix}
use Rattle.vortex_syntax.specs.Refusals.{Begins}
use Rattle.vortex_syntax.proofs.Tables.{top_atom, top_sign, own_right, whole_atom, atom_ceiling}
use Rattle.vortex_syntax.proofs.Held.{Held, opened, casting, negating, minusing, joining}
use Rattle.vortex_syntax.proofs.Held.{plusing, inverting, extracting, parting, limiting, placing}
use Rattle.vortex_syntax.proofs.Held.{first_fits, siding, trimming, trimming_by}
use Rattle.vortex_syntax.proofs.Held.{distinguishing, lower, upper, matching, calling, listing}
use Rattle.vortex_syntax.proofs.Held.{frame_of, written, choosing, asking, answering, defaulting}
use Rattle.vortex_syntax.proofs.Held.{IsSound, frames_of, all_written, Nested, Plugged, plugged}
use Rattle.vortex_syntax.proofs.Before.{Behind, HasOperand, Holds}

-- a frame with its last operand, and what may still be missing
record Filled (h : Held) (e : Syntax) : Type 0 where
  tree : Syntax
  fits : Fits tree
  level : level tree ≡ whole (frame_of h)
  more : List Token
  tokens : (written h ++ spelling e) ++ more ≡ spelling tree

closed : (h : Held) (e : Syntax) → Plugged h e → Filled h e
closed h e r = record {
  tree = r.tree;
  fits = r.fits;
  level = r.level;
  more = [];
  tokens = append-nil (written h ++ spelling e) ∙ r.tokens;
}

column : List ℕ
column = 97 ∷ []

bounded : (a b c d e : List Token) → ((a ++ b) ++ c) ++ (d ++ e) ≡ a ++ (b ++ (c ++ (d ++ e)))
bounded a b c d e = simp append_assoc

items_closed : (a b c d : List Token)
    → ((a ++ (b ++ c)) ++ d) ++ (sign sign.Close ∷ [])
    ≡ a ++ (b ++ (c ++ (d ++ (sign sign.Close ∷ []))))
items_closed a b c d = simp append_assoc

call_closed : (a b c d : List Token) → ((a ++ b) ++ c) ++ d ≡ a ++ (b ++ (c ++ d))
call_closed a b c d = simp append_assoc

asked : (a b c : List Token)
    → ((a ++ (sign sign.When ∷ [])) ++ b) ++ c ≡ a ++ (sign sign.When ∷ (b ++ c))
asked a b c = simp append_assoc

answered : (a b c d : List Token)
    → ((a ++ (sign sign.When ∷ (b ++ (sign sign.Then ∷ [])))) ++ c) ++ d
    ≡ a ++ (sign sign.When ∷ (b ++ (sign sign.Then ∷ (c ++ d))))
answered a b c d = simp append_assoc

defaulted : (a b c d e : List Token)
    → ((a ++ (sign sign.When ∷ (b ++ (sign sign.Then ∷ (c ++ (sign sign.Else ∷ [])))))) ++ d) ++ e
    ≡ a ++ (sign sign.When ∷ (b ++ (sign sign.Then ∷ (c ++ (sign sign.Else ∷ (d ++ e))))))
defaulted a b c d e = simp append_assoc

part_closed : (a b c : List Token)
    → ((a ++ (b ++ (sign sign.From ∷ []))) ++ c) ++ (sign sign.Close ∷ [])
    ≡ a ++ (b ++ (sign sign.From ∷ (c ++ (sign sign.Close ∷ []))))
part_closed a b c = simp append_assoc

limit_closed : (w : List ℕ) (a b c d : List Token)
    → ((a ++ (b ++ (sign sign.From ∷ (c ++ (name w ∷ []))))) ++ d) ++ (sign sign.Close ∷ [])
    ≡ a ++ (b ++ (sign sign.From ∷ (c ++ (name w ∷ (d ++ (sign sign.Close ∷ []))))))
limit_closed w a b c d = simp append_assoc

place_closed : (a b c : List Token)
    → ((a ++ (b ++ (sign sign.In ∷ []))) ++ c) ++ (sign sign.Close ∷ [])
    ≡ a ++ (b ++ (sign sign.In ∷ (c ++ (sign sign.Close ∷ []))))
place_closed a b c = simp append_assoc

trim_closed : (a b c d : List Token)
    → ((a ++ (b ++ (c ++ (sign sign.From ∷ [])))) ++ d) ++ (sign sign.Close ∷ [])
    ≡ a ++ (b ++ (c ++ (sign sign.From ∷ (d ++ (sign sign.Close ∷ [])))))
trim_closed a b c d = simp append_assoc

filled : (h : Held) (e : Syntax) → IsSound h → Fits e → hole (frame_of h) ≤ level e
    → level e ≤ ceiling (frame_of h) → Filled h e
filled opened e s f le under = record {
  tree = tree.grouped e;
  fits = f;
  level = refl;
  more = sign sign.Close ∷ [];
  tokens = refl;
}
filled (casting p) e s f le under = record {
  tree = tree.cast p e column false;
  fits = f;
  level = refl;
  more = sign sign.As ∷ name column ∷ sign sign.Close ∷ [];
  tokens = refl;
}
filled negating e s f le under = closed negating e (plugged negating e (lit< tt) s f le under)
filled minusing e s f le under = closed minusing e (plugged minusing e (lit< tt) s f le under)
filled plusing e s f le under = closed plusing e (plugged plusing e (lit< tt) s f le under)
filled inverting e s f le under = closed inverting e (plugged inverting e (lit< tt) s f le under)
filled (joining o a) e s f le under =
    closed (joining o a) e (plugged (joining o a) e (omega (arith, own_right o)) s f le under)
filled (distinguishing n a) e s f le under =
    closed (distinguishing n a) e (plugged (distinguishing n a) e (lit< tt) s f le under)
filled (lower n a) e s f le under = record {
  tree = tree.between n a e e;
  fits = (s.0, le, le, s.1, f, f);
  level = refl;
  more = sign sign.And ∷ spelling e;
  tokens = bounded (spelling a) (between_tokens n) (spelling e) (sign sign.And ∷ [])
      (spelling e);
}
filled (upper n a b) e s f le under =
    closed (upper n a b) e (plugged (upper n a b) e (lit< tt) s f le under)
filled (matching k a) e s f le under =
    closed (matching k a) e (plugged (matching k a) e (lit< tt) s f le under)
filled (listing n a args) e s f le under = record {
  tree = tree.listed n a args e;
  fits = (s.0, s.1, s.2, f);
  level = refl;
  more = sign sign.Close ∷ [];
  tokens = items_closed (spelling a) (in_tokens n) (all_spelled args) (spelling e);
}
filled choosing e s f le under = record {
  tree = tree.chosen (tree.of_operand e) (tree.operand (name column)) (tree.operand (name column));
  fits = (f, refl, refl);
  level = refl;
  more = sign sign.When ∷ name column ∷ sign sign.Then ∷ name column ∷ sign sign.End ∷ [];
  tokens = refl;
}
filled (asking bs) e s f le under = record {
  tree = tree.chosen bs e (tree.operand (name column));
  fits = (s, f, refl);
  level = refl;
  more = sign sign.Then ∷ name column ∷ sign sign.End ∷ [];
  tokens = asked (branches_spelled bs) (spelling e)
      (sign sign.Then ∷ name column ∷ sign sign.End ∷ []);
}
filled (answering bs c) e s f le under = record {
  tree = tree.chosen bs c e;
  fits = (s.0, s.1, f);
  level = refl;
  more = sign sign.End ∷ [];
  tokens = answered (branches_spelled bs) (spelling c) (spelling e) (sign sign.End ∷ []);
}
filled (defaulting bs c v) e s f le under = record {
  tree = tree.chosen_else bs c v e;
  fits = (s.0, s.1, s.2, f);
  level = refl;
  more = sign sign.End ∷ [];
  tokens = defaulted (branches_spelled bs) (spelling c) (spelling v) (spelling e)
      (sign sign.End ∷ []);
}
filled (extracting p g w) e s f le under = record {
  tree = tree.extracted p g w e;
  fits = (s, f);
  level = refl;
  more = sign sign.Close ∷ [];
  tokens = call_closed (function_tokens p g) (name w ∷ sign sign.From ∷ []) (spelling e)
      (sign sign.Close ∷ []);
}
filled (parting p g b) e s f le under = record {
  tree = tree.parted p g b e;
  fits = (s.0, s.1, f);
  level = refl;
  more = sign sign.Close ∷ [];
  tokens = part_closed (function_tokens p g) (spelling b) (spelling e);
}
filled (limiting p g b a w) e s f le under = record {
  tree = tree.parted_for p g b a w e;
  fits = (s.0, s.1, s.2, s.3, f);
  level = refl;
  more = sign sign.Close ∷ [];
  tokens = limit_closed w (function_tokens p g) (spelling b) (spelling a) (spelling e);
}
filled (placing p g b) e s f le under = record {
  tree = tree.placed p g b e;
  fits = (s.0, s.1, s.2, f);
  level = refl;
  more = sign sign.Close ∷ [];
  tokens = place_closed (function_tokens p g) (spelling b) (spelling e);
}
filled (siding p g d) e s f le under = record {
  tree = tree.trimmed_by p g (Some d) e (tree.operand (name column));
  fits = (s, f, refl);
  level = refl;
  more = sign sign.From ∷ name column ∷ sign sign.Close ∷ [];
  tokens = call_closed (function_tokens p g) (sign (sign.Side d) ∷ []) (spelling e)
      (sign sign.From ∷ name column ∷ sign sign.Close ∷ []);
}
filled (trimming p g d) e s f le under = record {
  tree = tree.trimmed p g d e;
  fits = (s, f);
  level = refl;
  more = sign sign.Close ∷ [];
  tokens = call_closed (function_tokens p g) (sign (sign.Side d) ∷ sign sign.From ∷ [])
      (spelling e) (sign sign.Close ∷ []);
}
filled (trimming_by p g o c) e s f le under = record {
  tree = tree.trimmed_by p g o c e;
  fits = (s.0, s.1, f);
  level = refl;
  more = sign sign.Close ∷ [];
  tokens = trim_closed (function_tokens p g) (side_tokens o) (spelling c) (spelling e);
}
filled (calling p w args) e s f le under = record {
  tree = tree.applied p w args e;
  fits = (s.0, f, first_fits w args e s.1 le);
  level = refl;
  more = sign sign.Close ∷ [];
  tokens =
      call_closed (function_tokens p w) (all_spelled args) (spelling e) (sign sign.Close ∷ []);
}

regrouped : (a b c d e : List Token) → ((a ++ b) ++ c) ++ (d ++ e) ≡ (a ++ ((b ++ c) ++ d)) ++ e
regrouped a b c d e = simp append_assoc

begun : (hs : List Held) (e : Syntax) → Nested hs → Fits e → top_hole (frames_of hs) ≤ level e
    → level e ≤ top_ceiling (frames_of hs)
    → Begins (all_written hs ++ spelling e)
begun [] e n f le under =
    record { tree = e; levels = f; more = []; tokens = append-nil (spelling e) }
begun (h ∷ hs) e n f le under =
    let r = filled h e n.0 f le under in
    let b = begun hs r.tree n.2 r.fits
    (let k : top_hole (frames_of hs) ≤ level r.tree = omega (arith, n.1, r.level) in k)
    (let k : level r.tree ≤ top_ceiling (frames_of hs) =
    omega (arith, r.level, whole_atom (frame_of h), atom_ceiling (frames_of hs)) in k) in
    record {
      tree = b.tree;
      levels = b.levels;
      more = r.more ++ b.more;
      tokens =
          regrouped (all_written hs) (written h) (spelling e) r.more b.more
          ∙ ap (λ ts. (all_written hs ++ ts) ++ b.more) r.tokens ∙ b.tokens;
    }

completed : (a ts us vs : List Token) → (a ++ ts) ++ (us ++ vs) ≡ (a ++ (ts ++ us)) ++ vs
completed a ts us vs = simp append_assoc

-- pending frames, and tokens after them with which an operand begins
begun_by : (fs : List Frame) (out : List Step) (before : List Token) (xs : List Step)
    (ts : List Token) → Behind fs out before xs ts → (e : Syntax) (more : List Token) → Fits e
    → top_hole fs ≤ level e → level e ≤ top_ceiling fs → ts ++ more ≡ spelling e → Begins before
begun_by fs out before xs ts b e more f le under k =
    let r = begun b.hs e b.nested f (subst (λ gs. top_hole gs ≤ level e) b.frames le)
    (subst (λ gs. level e ≤ top_ceiling gs) b.frames under) in
    record {
      tree = r.tree;
      levels = r.levels;
      more = more ++ r.more;
      tokens =
          ap (λ us. us ++ (more ++ r.more)) b.tokens
          ∙ completed (all_written b.hs) ts more r.more
          ∙ ap (λ us. (all_written b.hs ++ us) ++ r.more) k ∙ r.tokens;
    }

operand_begun : (l : ℕ) (fs : List Frame) (out : List Step) (before ts : List Token)
    → (a : HasOperand l fs out before ts) → (e : Syntax) (more : List Token) → Fits e
    → top_hole fs ≤ level e → level e ≤ top_ceiling fs
    → (spelling a.tree ++ ts) ++ more ≡ spelling e → Begins before
operand_begun l fs out before ts a e more f le under k =
    begun_by fs out before (postfix a.tree) (spelling a.tree ++ ts) a.behind e more f le under k

patterned : (a b c d : List Token) → (a ++ (b ++ (c ++ (sign sign.Escape ∷ [])))) ++ d
    ≡ a ++ (b ++ (c ++ (sign sign.Escape ∷ d)))
patterned a b c d = simp append_assoc

distinguished : (a b c : List Token)
    → (a ++ (b ++ (sign sign.Distinct ∷ []))) ++ (sign sign.From ∷ c)
    ≡ a ++ ((b ++ (sign sign.Distinct ∷ sign sign.From ∷ [])) ++ c)
distinguished a b c = simp append_assoc

itemised : (a b c : List Token)
    → (a ++ b) ++ (sign sign.Open ∷ c) ≡ a ++ ((b ++ (sign sign.Open ∷ [])) ++ c)
itemised a b c = simp append_assoc

pub holds_begins : (m : Mode) (fs : List Frame) (out : List Step) (before : List Token)
    → Holds m fs out before → Begins before
holds_begins mode.Want fs out before h =
    begun_by fs out before [] [] h (tree.operand (name column)) (name column ∷ []) refl
    (top_atom fs) (atom_ceiling fs) refl
holds_begins mode.Signed fs out before h =
    begun_by fs out before [] (sign sign.Minus ∷ []) h (tree.minus (tree.operand (name column)))
    (name column ∷ []) (lit≤ tt, lit≤ tt, refl) (top_sign fs) (omega (arith, atom_ceiling fs)) refl
holds_begins (mode.Have l) fs out before h =
    operand_begun l fs out before [] h h.tree [] h.fits
    (subst (λ (m : ℕ). top_hole fs ≤ m) h.level h.place)
    (subst (λ (m : ℕ). m ≤ top_ceiling fs) h.level h.under)
    (append-nil (spelling h.tree ++ []) ∙ append-nil (spelling h.tree))
holds_begins mode.Named fs out before h =
    begun_by fs out before (step.operand (name h.0) ∷ []) (name h.0 ∷ []) h.1
    (tree.operand (name h.0)) [] refl (top_atom fs) (atom_ceiling fs) refl
holds_begins mode.Unit fs out before h =
    begun_by fs out before (step.operand h.1 ∷ []) (name h.0 ∷ h.1 ∷ []) h.4
    (tree.measured h.0 h.1 (codes "day")) (name (codes "day") ∷ []) (h.2, h.3, refl) (top_atom fs)
    (atom_ceiling fs) refl
holds_begins mode.Typing fs out before h =
    let a = h.1 in
    operand_begun h.0 fs out before (sign sign.Typed ∷ []) a (tree.typed a.tree column false)
    (name column ∷ []) (subst (λ (m : ℕ). literal_level ≤ m) a.level h.2, a.fits)
    (omega (arith, top_atom fs)) (omega (arith, h.2, a.under))
    (append_assoc (spelling a.tree) (sign sign.Typed ∷ []) (name column ∷ []))
holds_begins (mode.Converting l) fs out before h =
    let a = h.0 in
    operand_begun l fs out before (sign sign.Typed ∷ []) a (tree.converted a.tree column false)
    (name column ∷ []) (
      subst (λ (m : ℕ). atom_level ≤ m) a.level h.1,
      subst (λ (m : ℕ). m ≤ typed_level) a.level h.2,
      a.fits,
    ) (subst (λ (m : ℕ). top_hole fs ≤ m) a.level a.place)
    (subst (λ (m : ℕ). m ≤ top_ceiling fs) a.level a.under)
    (append_assoc (spelling a.tree) (sign sign.Typed ∷ []) (name column ∷ []))
holds_begins (mode.Is n) fs out before h =
    let a = h.1 in
    operand_begun h.0 fs out before (is_tokens n) a (tree.tested tree.Null n a.tree)
    (sign sign.Null ∷ []) (subst (λ (m : ℕ). is_level ≤ m) a.level h.2, a.fits, tt) h.3
    (omega (arith, atom_ceiling fs))
    (append_assoc (spelling a.tree) (is_tokens n) (sign sign.Null ∷ []))
holds_begins (mode.Distinct n) fs out before h =
    let a = h.1 in
    let us = is_tokens n ++ (sign sign.Distinct ∷ []) in
    let e : Syntax = tree.operand (name column) in
    operand_begun h.0 fs out before us a (tree.distinct n a.tree e)
    (sign sign.From ∷ name column ∷ [])
    (subst (λ (m : ℕ). is_level ≤ m) a.level h.2, lit≤ tt, a.fits, refl) h.3
    (omega (arith, atom_ceiling fs))
    (distinguished (spelling a.tree) (is_tokens n) (name column ∷ []))
holds_begins (mode.Listing n) fs out before h =
    let a = h.1 in
    let e : Syntax = tree.operand (name column) in
    operand_begun h.0 fs out before (with_not n sign.In) a
    (tree.listed n a.tree tree.no_arguments e)
    (sign sign.Open ∷ name column ∷ sign sign.Close ∷ [])
    (subst (λ (m : ℕ). concat_level ≤ m) a.level h.2, a.fits, tt, refl) h.3
    (omega (arith, atom_ceiling fs))
    (itemised (spelling a.tree) (with_not n sign.In) (name column ∷ sign sign.Close ∷ []))
holds_begins (mode.Negating l) fs out before h =
    let a = h.0 in
    let e : Syntax = tree.operand (name column) in
    operand_begun l fs out before (sign sign.Not ∷ []) a (tree.between (between_kind true false) a.tree e e)
    (sign sign.Between ∷ name column ∷ sign sign.And ∷ name column ∷ [])
    (subst (λ (m : ℕ). concat_level ≤ m) a.level h.1, lit≤ tt, lit≤ tt, a.fits, refl, refl) h.2
    (omega (arith, atom_ceiling fs))
    (append_assoc (spelling a.tree) (sign sign.Not ∷ [])
    (sign sign.Between ∷ name column ∷ sign sign.And ∷ name column ∷ []))
holds_begins (mode.Casting p) fs out before h =
    begun_by fs out before [] (sign (cast_sign p) ∷ []) h
    (tree.cast p (tree.operand (name column)) column false)
    (sign sign.Open ∷ name column ∷ sign sign.As ∷ name column ∷ sign sign.Close ∷ []) refl
    (top_atom fs) (atom_ceiling fs) refl
holds_begins (mode.CastType p) fs out before h =
    begun_by fs out before (postfix h.0)
    (sign (cast_sign p) ∷ sign sign.Open ∷ (spelling h.0 ++ (sign sign.As ∷ []))) h.2
    (tree.cast p h.0 column false) (name column ∷ sign sign.Close ∷ []) h.1 (top_atom fs)
    (atom_ceiling fs)
    (ap (λ ts. sign (cast_sign p) ∷ sign sign.Open ∷ ts)
    (append_assoc (spelling h.0) (sign sign.As ∷ []) (name column ∷ sign sign.Close ∷ [])))
holds_begins mode.CastEnd fs out before h =
    begun_by fs out before _
    (sign (cast_sign h.3) ∷ sign
    sign.Open ∷ (spelling h.0 ++ (sign sign.As ∷ type_token h.1 h.2 ∷ [])))
    h.5 (tree.cast h.3 h.0 h.1 h.2) (sign sign.Close ∷ []) h.4 (top_atom fs)
    (atom_ceiling fs)
    (ap (λ ts. sign (cast_sign h.3) ∷ sign sign.Open ∷ ts)
    (append_assoc (spelling h.0) (sign sign.As ∷ type_token h.1 h.2 ∷ []) (sign sign.Close ∷ [])))
holds_begins (mode.Escaping k) fs out before h =
    begun_by fs out before (postfix h.0 ++ postfix h.1)
    (spelling h.0 ++ (like_sign k ++ (spelling h.1 ++ (sign sign.Escape ∷ [])))) h.7
    (tree.matched k h.0 h.1 (Some column)) (text column ∷ []) (h.2, h.3, h.4, h.5) h.6
    (omega (arith, atom_ceiling fs))
    (patterned (spelling h.0) (like_sign k) (spelling h.1) (text column ∷ []))
