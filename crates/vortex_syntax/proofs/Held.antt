-- Frames with their operands.
use Rattle.std.proofs.Common.{◌≡◌, ℕ, suc, ◌<◌, ◌≤◌, Bool, true, false, nat_lt, cond, List, [], ◌∷◌}
use Rattle.std.proofs.Common.{◌++◌, Option, None, refl, ap, sym, subst, ◌∙◌, append_assoc, arith}
use Rattle.std.proofs.lemmas.List.{append-nil}
use Rattle.std.proofs.lemmas.Bool.Decides.{nat_tests}
use Rattle.vortex_syntax.specs.declared.step.WrittenOperator.{WrittenOperator}
use Rattle.vortex_syntax.specs.declared.step.BetweenKind.{BetweenKind}
use Rattle.vortex_syntax.specs.declared.step.LikeKind.{LikeKind}
use Rattle.vortex_syntax.specs.declared.step.Call.TheVariants as call
use Rattle.vortex_syntax.specs.declared.token.Sign.TheVariants as sign
use Rattle.vortex_syntax.specs.declared.frame.CasePart.TheVariants as part
use Rattle.vortex_syntax.specs.Frames.{Frame, hole, top_hole, ceiling, top_ceiling, guard, whole}
use Rattle.vortex_syntax.specs.Frames.{closing}
use Rattle.vortex_syntax.specs.Frames as frame
use Rattle.vortex_syntax.specs.Tokens.{Token, name, text, sign}
use Rattle.vortex_syntax.specs.Syntax as tree
use Rattle.vortex_syntax.specs.Syntax.{Syntax, Arguments, Branches}
use Rattle.vortex_syntax.specs.Levels.{left, level, Fits, AllFit, BranchesFit, is_level}
use Rattle.vortex_syntax.specs.Levels.{concat_level, takes_word, takes_from, takes_in, is_for}
use Rattle.vortex_syntax.specs.Levels.{first_level, first_of, takes_side}
use Rattle.vortex_syntax.specs.declared.token.TrimSide.{TrimSide}
use Rattle.vortex_syntax.specs.Spelling.{spelling, all_spelled, operator_sign}
use Rattle.vortex_syntax.specs.Spelling.{distinct_tokens, in_tokens, like_sign, branches_spelled}
use Rattle.vortex_syntax.specs.Spelling.{function_tokens, between_tokens, cast_sign, side_tokens}
use Rattle.vortex_syntax.specs.Postfix.{Step, operand, called, argument_count, has_operand}
use Rattle.vortex_syntax.specs.Postfix.{branch_count, side_of}
use Rattle.vortex_syntax.specs.Postfix.{postfix, all_postfix, branches_postfix}
use Rattle.vortex_syntax.specs.Reading.{Operand, operand_of, settled}
use Rattle.vortex_syntax.proofs.Tables.{whole_atom, atom_ceiling}

pub data Held : Type 0 where
  opened : Held
  casting : Bool → Held
  negating : Held
  minusing : Held
  plusing : Held
  inverting : Held
  joining : WrittenOperator → Syntax → Held
  distinguishing : Bool → Syntax → Held
  lower : BetweenKind → Syntax → Held
  upper : BetweenKind → Syntax → Syntax → Held
  matching : LikeKind → Syntax → Held
  calling : Bool → List ℕ → Arguments → Held
  extracting : Bool → List ℕ → List ℕ → Held
  parting : Bool → List ℕ → Syntax → Held
  limiting : Bool → List ℕ → Syntax → Syntax → List ℕ → Held
  placing : Bool → List ℕ → Syntax → Held
  siding : Bool → List ℕ → TrimSide → Held
  trimming : Bool → List ℕ → TrimSide → Held
  trimming_by : Bool → List ℕ → Option TrimSide → Syntax → Held
  listing : Bool → Syntax → Arguments → Held
  choosing : Held
  asking : Branches → Held
  answering : Branches → Syntax → Held
  defaulting : Branches → Syntax → Syntax → Held

abbrev pub frame_of : Held → Frame
frame_of opened = frame.Open
frame_of (casting p) = frame.Cast p
frame_of negating = frame.Not
frame_of minusing = frame.Minus
frame_of plusing = frame.Plus
frame_of inverting = frame.BitNot
frame_of (joining o a) = frame.Join o
frame_of (distinguishing n a) = frame.Distinct n
frame_of (lower k a) = frame.Between k
frame_of (upper k a b) = frame.Bounded k
frame_of (matching k a) = frame.Like k
frame_of (calling p w args) = frame.Arguments w (argument_count args)
frame_of (extracting p f w) = frame.Extract f
frame_of (parting p f s) = frame.From f
frame_of (limiting p f s a w) = frame.For f
frame_of (placing p f a) = frame.Place f
frame_of (siding p f d) = frame.Trim d
frame_of (trimming p f d) = frame.TrimFrom d
frame_of (trimming_by p f o c) = frame.TrimBy (side_of o)
frame_of (listing n a args) = frame.Items n (argument_count args)
frame_of choosing = frame.Case part.Operand false 0
frame_of (asking bs) = frame.Case part.When (has_operand bs) (branch_count bs)
frame_of (answering bs c) = frame.Case part.Then (has_operand bs) (branch_count bs)
frame_of (defaulting bs c v) = frame.Case part.Else (has_operand bs) (suc (branch_count bs))

abbrev pub written : Held → List Token
written opened = sign sign.Open ∷ []
written (casting p) = sign (cast_sign p) ∷ sign sign.Open ∷ []
written negating = sign sign.Not ∷ []
written minusing = sign sign.Minus ∷ []
written plusing = sign sign.Plus ∷ []
written inverting = sign sign.BitNot ∷ []
written (joining o a) = spelling a ++ (sign (operator_sign o) ∷ [])
written (distinguishing n a) = spelling a ++ distinct_tokens n
written (lower k a) = spelling a ++ between_tokens k
written (upper k a b) =
    spelling a ++ (between_tokens k ++ (spelling b ++ (sign sign.And ∷ [])))
written (matching k a) = spelling a ++ like_sign k
written (calling p w args) = function_tokens p w ++ all_spelled args
written (extracting p f w) = function_tokens p f ++ (name w ∷ sign sign.From ∷ [])
written (parting p f s) = function_tokens p f ++ (spelling s ++ (sign sign.From ∷ []))
written (limiting p f s a w) =
    function_tokens p f ++ (spelling s ++ (sign sign.From ∷ (spelling a ++ (name w ∷ []))))
written (placing p f a) = function_tokens p f ++ (spelling a ++ (sign sign.In ∷ []))
written (siding p f d) = function_tokens p f ++ (sign (sign.Side d) ∷ [])
written (trimming p f d) = function_tokens p f ++ (sign (sign.Side d) ∷ sign sign.From ∷ [])
written (trimming_by p f o c) =
    function_tokens p f ++ (side_tokens o ++ (spelling c ++ (sign sign.From ∷ [])))
written (listing n a args) = spelling a ++ (in_tokens n ++ all_spelled args)
written choosing = sign sign.Case ∷ []
written (asking bs) = branches_spelled bs ++ (sign sign.When ∷ [])
written (answering bs c) =
    branches_spelled bs ++ (sign sign.When ∷ (spelling c ++ (sign sign.Then ∷ [])))
written (defaulting bs c v) =
    branches_spelled bs
    ++ (sign sign.When ∷ (spelling c ++ (sign sign.Then ∷ (spelling v ++ (sign sign.Else ∷ [])))))

abbrev pub held : Held → List Step
held opened = []
held (casting p) = []
held negating = []
held minusing = []
held plusing = []
held inverting = []
held (joining o a) = postfix a
held (distinguishing n a) = postfix a
held (lower n a) = postfix a
held (upper n a b) = postfix a ++ postfix b
held (matching k a) = postfix a
held (calling p w args) = all_postfix args
held (extracting p f w) = operand (text w) ∷ []
held (parting p f s) = postfix s
held (limiting p f s a w) = postfix s ++ postfix a
held (placing p f a) = postfix a
held (siding p f d) = []
held (trimming p f d) = []
held (trimming_by p f o c) = postfix c
held (listing n a args) = postfix a ++ all_postfix args
held choosing = []
held (asking bs) = branches_postfix bs
held (answering bs c) = branches_postfix bs ++ postfix c
held (defaulting bs c v) = (branches_postfix bs ++ postfix c) ++ postfix v

-- the first of some arguments of a call binds as tightly as required there
abbrev pub FirstFits : List ℕ → Arguments → Type 0
FirstFits w tree.no_arguments = Unit {0}
FirstFits w (tree.argument args a) = first_level w ≤ level (first_of args a)

pub first_fits : (w : List ℕ) (args : Arguments) (a : Syntax) → FirstFits w args
    → hole (frame.Arguments w (argument_count args)) ≤ level a
    → first_level w ≤ level (first_of args a)
first_fits w tree.no_arguments a s h = h
first_fits w (tree.argument args b) a s h = s

abbrev pub IsSound : Held → Type 0
IsSound opened = Unit {0}
IsSound (casting p) = Unit {0}
IsSound negating = Unit {0}
IsSound minusing = Unit {0}
IsSound plusing = Unit {0}
IsSound inverting = Unit {0}
IsSound (joining o a) = (left o ≤ level a) × Fits a
IsSound (distinguishing n a) = (is_level ≤ level a) × Fits a
IsSound (lower n a) = (concat_level ≤ level a) × Fits a
IsSound (upper n a b) = (concat_level ≤ level a) × (concat_level ≤ level b) × Fits a × Fits b
IsSound (matching k a) = (concat_level ≤ level a) × Fits a
IsSound (calling p w args) = AllFit args × FirstFits w args
IsSound (extracting p f w) = takes_word f ≡ true
IsSound (parting p f s) = (takes_from f ≡ true) × Fits s
IsSound (limiting p f s a w) = (takes_from f ≡ true) × (is_for w ≡ true) × Fits s × Fits a
IsSound (placing p f a) = (takes_in f ≡ true) × (concat_level ≤ level a) × Fits a
IsSound (siding p f d) = takes_side f ≡ true
IsSound (trimming p f d) = takes_side f ≡ true
IsSound (trimming_by p f o c) = (takes_side f ≡ true) × Fits c
IsSound (listing n a args) = (concat_level ≤ level a) × Fits a × AllFit args
IsSound choosing = Unit {0}
IsSound (asking bs) = BranchesFit bs
IsSound (answering bs c) = BranchesFit bs × Fits c
IsSound (defaulting bs c v) = BranchesFit bs × Fits c × Fits v

abbrev pub frames_of : List Held → List Frame
frames_of [] = []
frames_of (h ∷ hs) = frame_of h ∷ frames_of hs

abbrev pub all_written : List Held → List Token
all_written [] = []
all_written (h ∷ hs) = all_written hs ++ written h

abbrev pub all_held : List Held → List Step
all_held [] = []
all_held (h ∷ hs) = all_held hs ++ held h

abbrev pub Nested : List Held → Type 0
Nested [] = Unit {0}
Nested (h ∷ hs) = IsSound h × (top_hole (frames_of hs) ≤ whole (frame_of h)) × Nested hs

-- a frame that its last operand closes
pub record Plugged (h : Held) (e : Syntax) : Type 0 where
  pub tree : Syntax
  pub fits : Fits tree
  pub level : level tree ≡ whole (frame_of h)
  pub steps : held h ++ (postfix e ++ (closing (frame_of h) ∷ [])) ≡ postfix tree
  pub tokens : written h ++ spelling e ≡ spelling tree

pub plugged : (h : Held) (e : Syntax) → 0 < guard (frame_of h) → IsSound h → Fits e
    → hole (frame_of h) ≤ level e → level e ≤ ceiling (frame_of h) → Plugged h e
plugged opened e g s f le under = absurd (let k : ⊥ = omega (arith, g) in k)
plugged (casting p) e g s f le under = absurd (let k : ⊥ = omega (arith, g) in k)
plugged negating e g s f le under =
    record { tree = tree.negated e; fits = (le, f); level = refl; steps = refl; tokens = refl }
plugged minusing e g s f le under =
    record { tree = tree.minus e; fits = (le, under, f); level = refl; steps = refl; tokens = refl }
plugged plusing e g s f le under =
    record { tree = tree.plus e; fits = (le, f); level = refl; steps = refl; tokens = refl }
plugged inverting e g s f le under =
    record { tree = tree.bit_not e; fits = (le, f); level = refl; steps = refl; tokens = refl }
plugged (joining o a) e g s f le under = record {
  tree = tree.joined o a e;
  fits = (s.0, le, s.1, f);
  level = refl;
  steps = refl;
  tokens = append_assoc (spelling a) (sign (operator_sign o) ∷ []) (spelling e);
}
plugged (distinguishing n a) e g s f le under = record {
  tree = tree.distinct n a e;
  fits = (s.0, le, s.1, f);
  level = refl;
  steps = refl;
  tokens = append_assoc (spelling a) (distinct_tokens n) (spelling e);
}
plugged (lower k a) e g s f le under = absurd (let k : ⊥ = omega (arith, g) in k)
plugged (upper k a b) e g s f le under = record {
  tree = tree.between k a b e;
  fits = (s.0, s.1, le, s.2, s.3, f);
  level = refl;
  steps = append_assoc (postfix a) (postfix b) (postfix e ++ (called (call.Between k) ∷ []));
  tokens =
      append_assoc (spelling a) (between_tokens k ++ (spelling b ++ (sign sign.And ∷ [])))
      (spelling e)
      ∙ ap (λ ts. spelling a ++ ts)
      (append_assoc (between_tokens k) (spelling b ++ (sign sign.And ∷ [])) (spelling e))
      ∙ ap (λ ts. spelling a ++ (between_tokens k ++ ts))
      (append_assoc (spelling b) (sign sign.And ∷ []) (spelling e));
}
plugged (matching k a) e g s f le under = record {
  tree = tree.matched k a e None;
  fits = (s.0, le, s.1, f);
  level = refl;
  steps = refl;
  tokens = append_assoc (spelling a) (like_sign k) (spelling e)
      ∙ ap (λ ts. spelling a ++ (like_sign k ++ ts)) (sym (append-nil (spelling e)));
}
plugged (calling p w args) e g s f le under = absurd (let k : ⊥ = omega (arith, g) in k)
plugged (extracting p v w) e g s f le under = absurd (let k : ⊥ = omega (arith, g) in k)
plugged (parting p v b) e g s f le under = absurd (let k : ⊥ = omega (arith, g) in k)
plugged (limiting p v b a w) e g s f le under = absurd (let k : ⊥ = omega (arith, g) in k)
plugged (placing p v b) e g s f le under = absurd (let k : ⊥ = omega (arith, g) in k)
plugged (siding p v d) e g s f le under = absurd (let k : ⊥ = omega (arith, g) in k)
plugged (trimming p v d) e g s f le under = absurd (let k : ⊥ = omega (arith, g) in k)
plugged (trimming_by p v o c) e g s f le under = absurd (let k : ⊥ = omega (arith, g) in k)
plugged (listing n a args) e g s f le under = absurd (let k : ⊥ = omega (arith, g) in k)
plugged choosing e g s f le under = absurd (let k : ⊥ = omega (arith, g) in k)
plugged (asking bs) e g s f le under = absurd (let k : ⊥ = omega (arith, g) in k)
plugged (answering bs c) e g s f le under = absurd (let k : ⊥ = omega (arith, g) in k)
plugged (defaulting bs c v) e g s f le under = absurd (let k : ⊥ = omega (arith, g) in k)

-- an operand after the pending frames
pub record Settles (a : Operand) (ts : List Token) : Type 0 where
  pub hs : List Held
  pub tree : Syntax
  pub frames : a.frames ≡ frames_of hs
  pub steps : a.steps ≡ all_held hs ++ postfix tree
  pub level : a.level ≡ level tree
  pub tokens : ts ≡ all_written hs ++ spelling tree
  pub nested : Nested hs
  pub fits : Fits tree
  pub place : top_hole a.frames ≤ a.level
  pub under : a.level ≤ top_ceiling a.frames

abbrev settled_if : Bool → ℕ → ℕ → Frame → List Frame → List Step → Operand
settled_if b p l f fs out =
    cond b (settled p (whole f) fs (out ++ (closing f ∷ []))) (operand_of l (f ∷ fs) out)

is_below : (m n : ℕ) → nat_lt m n ≡ true → 0 < n
is_below m n h = grind (arith, nat_tests)

-- what closing makes, given what the frames below it become
closed_sound : (p : ℕ) (h : Held) (hs : List Held) (e : Syntax) (r : Plugged h e)
    → Settles (settled p (level r.tree) (frames_of hs) (all_held hs ++ postfix r.tree))
    (all_written hs ++ spelling r.tree)
    → Settles (settled p (whole (frame_of h)) (frames_of hs)
    ((all_held (h ∷ hs) ++ postfix e) ++ (closing (frame_of h) ∷ [])))
    (all_written (h ∷ hs) ++ spelling e)
closed_sound p h hs e r s =
    let steps : all_held hs ++ postfix r.tree
    ≡ (all_held (h ∷ hs) ++ postfix e) ++ (closing (frame_of h) ∷ []) =
    ap (λ xs. all_held hs ++ xs) (sym r.steps)
    ∙ sym (append_assoc (all_held hs) (held h) (postfix e ++ (closing (frame_of h) ∷ [])))
    ∙ sym (append_assoc (all_held hs ++ held h) (postfix e) (closing (frame_of h) ∷ [])) in
    let tokens : all_written hs ++ spelling r.tree ≡ all_written (h ∷ hs) ++ spelling e =
    ap (λ ts. all_written hs ++ ts) (sym r.tokens)
    ∙ sym (append_assoc (all_written hs) (written h) (spelling e)) in
    subst (λ (ts : List Token). Settles
    (settled p (whole (frame_of h)) (frames_of hs)
    ((all_held (h ∷ hs) ++ postfix e) ++ (closing (frame_of h) ∷ []))) ts) tokens
    (subst (λ (xs : List Step). Settles (settled p (whole (frame_of h)) (frames_of hs) xs)
    (all_written hs ++ spelling r.tree)) steps
    (subst (λ (l : ℕ). Settles (settled p l (frames_of hs) (all_held hs ++ postfix r.tree))
    (all_written hs ++ spelling r.tree)) r.level s))

either_sound : (p : ℕ) (h : Held) (hs : List Held) (e : Syntax) (b : Bool)
    → nat_lt p (guard (frame_of h)) ≡ b → Nested (h ∷ hs) → Fits e → hole (frame_of h) ≤ level e
    → level e ≤ ceiling (frame_of h)
    → ((r : Plugged h e)
    → Settles (settled p (level r.tree) (frames_of hs) (all_held hs ++ postfix r.tree))
    (all_written hs ++ spelling r.tree))
    → Settles (settled_if b p (level e) (frame_of h) (frames_of hs)
    (all_held (h ∷ hs) ++ postfix e)) (all_written (h ∷ hs) ++ spelling e)
either_sound p h hs e true k nested fits place under below =
    let r = plugged h e (is_below p (guard (frame_of h)) k) nested.0 fits place under in
    closed_sound p h hs e r (below r)
either_sound p h hs e false k nested fits place under below = record {
  hs = h ∷ hs;
  tree = e;
  frames = refl;
  steps = refl;
  level = refl;
  tokens = refl;
  nested = nested;
  fits = fits;
  place = place;
  under = under;
}

pub settled_sound : (p : ℕ) (hs : List Held) (e : Syntax) → Nested hs → Fits e
    → top_hole (frames_of hs) ≤ level e → level e ≤ top_ceiling (frames_of hs)
    → Settles (settled p (level e) (frames_of hs) (all_held hs ++ postfix e))
    (all_written hs ++ spelling e)
unfolding settled
settled_sound p [] e nested fits place under =
    record {
      hs = [];
      tree = e;
      frames = refl;
      steps = refl;
      level = refl;
      tokens = refl;
      nested =
          tt;
      fits = fits;
      place = place;
      under = under;
    }
settled_sound p (h ∷ hs) e nested fits place under =
    either_sound p h hs e (nat_lt p (guard (frame_of h))) refl nested fits place under
    (λ r. settled_sound p hs r.tree nested.2 r.fits
    (let k : top_hole (frames_of hs) ≤ level r.tree = omega (arith, nested.1, r.level) in k)
    (let k : level r.tree ≤ top_ceiling (frames_of hs) =
    omega (arith, r.level, whole_atom (frame_of h), atom_ceiling (frames_of hs)) in k))
