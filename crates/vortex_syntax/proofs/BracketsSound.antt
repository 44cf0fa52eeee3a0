-- What closing brackets and commas do to what was read.
use Rattle.std.proofs.Common.{◌≡◌, ℕ, suc, Bool, List, [], ◌∷◌, ◌++◌, Some, ap, sym, subst, ◌∙◌}
use Rattle.std.proofs.Common.{append_assoc, refl, lit≤, ◌≤◌, true, false}
use Rattle.std.proofs.lemmas.List.{append-nil}
use Rattle.vortex_syntax.specs.declared.token.Sign.{Sign}
use Rattle.vortex_syntax.specs.declared.token.Sign.TheVariants as sign
use Rattle.vortex_syntax.specs.Frames.{Frame, hole}
use Rattle.vortex_syntax.specs.Frames as frame
use Rattle.vortex_syntax.specs.declared.frame.Mode.TheVariants as mode
use Rattle.vortex_syntax.specs.Tokens.{Token, name, sign}
use Rattle.vortex_syntax.specs.Syntax as tree
use Rattle.vortex_syntax.specs.Syntax.{Syntax, Arguments}
use Rattle.vortex_syntax.specs.Levels.{Fits, predicate_level, atom_level, level, first_level}
use Rattle.vortex_syntax.specs.Levels.{first_of}
use Rattle.vortex_syntax.specs.Spelling.{spelling, all_spelled, function_tokens}
use Rattle.vortex_syntax.specs.Postfix.{Step, applied, listed, argument_count, postfix, all_postfix}
use Rattle.vortex_syntax.specs.Postfix.{trimmed}
use Rattle.vortex_syntax.specs.Reading.{State, state, close_behind, comma_behind}
use Rattle.vortex_syntax.proofs.Tables.{top_atom, atom_ceiling}
use Rattle.vortex_syntax.proofs.Held.{Held, opened, calling, extracting, listing, written, held}
use Rattle.vortex_syntax.proofs.Held.{parting, limiting, placing, trimming, trimming_by, first_fits}
use Rattle.vortex_syntax.proofs.Held.{IsSound}
use Rattle.vortex_syntax.proofs.Before.{Behind, more, more_tokens, as_tokens, as_steps, pushed}
use Rattle.vortex_syntax.proofs.Before.{popped, open_is, call_is, items_are, HasOperand, HoldsIn}
use Rattle.vortex_syntax.proofs.Before.{along, operand_is, extract_is, part_is, limit_is, place_is}
use Rattle.vortex_syntax.proofs.Before.{trim_is, by_is}
use Rattle.vortex_syntax.proofs.Grown.{Holding, holding_as, sound_as, completed}
use Rattle.vortex_syntax.proofs.ItemsSound.{item_is, listed_is}
use Rattle.vortex_syntax.proofs.PartsSound.{parted_is, limited_is, placed_is, trimmed_is}
use Rattle.vortex_syntax.proofs.PartsSound.{trimmed_by_is}

pub grouped_is : (a : Syntax) (h : Held) (fs : List Frame) (out : List Step) (before : List Token)
    → Fits a → h ≡ opened
    → Behind fs out before (held h ++ postfix a) (written h ++ (spelling a ++ []))
    → HasOperand atom_level fs out (before ++ (sign sign.Close ∷ [])) []
grouped_is a h fs out before f e r =
    let b : Behind fs out before (postfix a) (sign sign.Open ∷ (spelling a ++ [])) =
    subst (λ (v : Held). Behind fs out before (held v ++ postfix a)
    (written v ++ (spelling a ++ []))) e r in
    operand_is (tree.grouped a) fs out (before ++ (sign sign.Close ∷ [])) f (top_atom fs)
    (atom_ceiling fs)
    (as_tokens fs out (before ++ (sign sign.Close ∷ [])) (postfix a)
    (sign sign.Open ∷ ((spelling a ++ []) ++ (sign sign.Close ∷ [])))
    (spelling (tree.grouped a))
    (ap (λ ts. sign sign.Open ∷ (ts ++ (sign sign.Close ∷ []))) (append-nil (spelling a)))
    (more_tokens fs out before (postfix a) (sign sign.Open ∷ (spelling a ++ []))
    (sign sign.Close ∷ []) b))

-- a call with its operand
in_call_by : (a b c d : List Token) → ((a ++ b) ++ (c ++ [])) ++ d ≡ a ++ (b ++ (c ++ d))
in_call_by a b c d =
    ap (λ ts. ((a ++ b) ++ ts) ++ d) (append-nil c) ∙ append_assoc (a ++ b) c d
    ∙ append_assoc a b (c ++ d)

pub in_call : (p : Bool) (w : List ℕ) (args : Arguments) (a : Syntax) (u : Sign)
    → (written (calling p w args) ++ (spelling a ++ [])) ++ (sign u ∷ [])
    ≡ function_tokens p w ++ (all_spelled args ++ (spelling a ++ (sign u ∷ [])))
in_call p w args a u =
    in_call_by (function_tokens p w) (all_spelled args) (spelling a) (sign u ∷ [])

abbrev pub Called : Bool → List ℕ → Arguments → Syntax → List Frame → List Step → List Token
    → Type 0
Called p w args a fs out before =
    Behind fs out before (all_postfix args ++ postfix a)
    (written (calling p w args) ++ (spelling a ++ []))

pub called_is : (p : Bool) (w : List ℕ) (args : Arguments) (a : Syntax) (h : Held)
    (fs : List Frame) (out : List Step) (before : List Token) → h ≡ calling p w args
    → Behind fs out before (held h ++ postfix a) (written h ++ (spelling a ++ []))
    → Called p w args a fs out before
called_is p w args a h fs out before e r =
    subst (λ (v : Held). Behind fs out before (held v ++ postfix a)
    (written v ++ (spelling a ++ []))) e r

-- the first argument binds as tightly as required, where the last one does
first_is : (p : Bool) (w : List ℕ) (n l : ℕ) (args : Arguments) (a : Syntax)
    → n ≡ argument_count args → l ≡ level a → IsSound (calling p w args)
    → hole (frame.Arguments w n) ≤ l → first_level w ≤ level (first_of args a)
first_is p w n l args a e k s place =
    first_fits w args a s.1
    (subst (λ (m : ℕ). hole (frame.Arguments w m) ≤ level a) e
    (subst (λ (m : ℕ). hole (frame.Arguments w n) ≤ m) k place))

pub applied_is : (p : Bool) (w : List ℕ) (n : ℕ) (args : Arguments) (a : Syntax) (fs : List Frame)
    (out : List Step) (before : List Token) → n ≡ argument_count args
    → Fits (tree.applied p w args a) → Called p w args a fs out before
    → HasOperand atom_level fs (out ++ (applied w (suc n) ∷ [])) (before ++
    (sign sign.Close ∷ [])) []
applied_is p w n args a fs out before e f b =
    let last : List Step = applied w (suc n) ∷ [] in
    let close : List Token = sign sign.Close ∷ [] in
    let xs = (all_postfix args ++ postfix a) ++ last in
    operand_is (tree.applied p w args a) fs (out ++ last) (before ++ close) f (top_atom fs)
    (atom_ceiling fs)
    (as_steps fs (out ++ last) (before ++ close) xs (postfix (tree.applied p w args a))
    (spelling (tree.applied p w args a))
    (append_assoc (all_postfix args) (postfix a) last
    ∙ ap (λ m. all_postfix args ++ (postfix a ++ (applied w (suc m) ∷ []))) e)
    (as_tokens fs (out ++ last) (before ++ close) xs
    ((written (calling p w args) ++ (spelling a ++ [])) ++ close)
    (spelling (tree.applied p w args a)) (in_call p w args a sign.Close)
    (more fs out before (all_postfix args ++ postfix a)
    (written (calling p w args) ++ (spelling a ++ [])) last close b)))

pub extracted_is : (p : Bool) (f w : List ℕ) (a : Syntax) (fs : List Frame) (out : List Step)
    (before : List Token) → Fits (tree.extracted p f w a) → Holding (extracting p f w) a fs out before
    → HasOperand atom_level fs (out ++ (applied f 2 ∷ [])) (before ++ (sign sign.Close ∷ [])) []
extracted_is p f w a fs out before fit b =
    completed (extracting p f w) a (tree.extracted p f w a) (applied f 2) sign.Close fs out before
    refl
    (append_assoc (function_tokens p f) (name w ∷ sign sign.From ∷ [])
    (spelling a ++ (sign sign.Close ∷ [])))
    fit (top_atom fs) (lit≤ tt) b

pub argument_is : (p : Bool) (w : List ℕ) (n : ℕ) (args : Arguments) (a : Syntax) (fs : List Frame)
    (out : List Step) (before : List Token) → n ≡ argument_count args
    → Fits (tree.applied p w args a) → Called p w args a fs out before
    → Behind (frame.Arguments w (suc n) ∷ fs) out (before ++ (sign sign.Comma ∷ [])) [] []
argument_is p w n args a fs out before e f b =
    let comma : List Token = sign sign.Comma ∷ [] in
    subst (λ (m : ℕ). Behind (frame.Arguments w (suc m) ∷ fs) out (before ++ comma) [] []) (sym e)
    (pushed (calling p w (tree.argument args a)) fs out (before ++ comma)
    (as_tokens fs out (before ++ comma) (all_postfix args ++ postfix a)
    ((written (calling p w args) ++ (spelling a ++ [])) ++ comma)
    (written (calling p w (tree.argument args a))) (in_call p w args a sign.Comma)
    (more_tokens fs out before (all_postfix args ++ postfix a)
    (written (calling p w args) ++ (spelling a ++ [])) comma b)) ((f.0, f.1), f.2) (top_atom fs))

pub comma_sound : (l : ℕ) (fs : List Frame) (out : List Step) (s : State) (before : List Token)
    → comma_behind fs out ≡ Some s → HasOperand l fs out before []
    → HoldsIn s (before ++ (sign sign.Comma ∷ []))
comma_sound l (frame.Arguments w n ∷ fs) out s before e a =
    let r = popped (frame.Arguments w n) fs out before (postfix a.tree) (spelling a.tree ++ [])
    a.behind in
    let i = call_is w n r.h r.is in
    let sound = sound_as r.h (calling i.1 w i.0) i.2 r.sound in
    along (state mode.Want (frame.Arguments w (suc n) ∷ fs) out) s
    (before ++ (sign sign.Comma ∷ [])) e
    (argument_is i.1 w n i.0 a.tree fs out before i.3
    (sound.0, a.fits, first_is i.1 w n l i.0 a.tree i.3 a.level sound a.place)
    (called_is i.1 w i.0 a.tree r.h fs out before i.2 r.behind))
comma_sound l (frame.Items n k ∷ fs) out s before e a =
    let r = popped (frame.Items n k) fs out before (postfix a.tree)
    (spelling a.tree ++ []) a.behind in
    let i = items_are n k r.h r.is in
    along (state mode.Want (frame.Items n (suc k) ∷ fs) out) s (before ++ (sign sign.Comma ∷ [])) e
    (item_is n k i.0 i.1 a.tree fs out before i.3 (sound_as r.h
    (listing n i.0 i.1) i.2 r.sound) a.fits r.place
    (holding_as r.h (listing n i.0 i.1) a.tree fs out before i.2 r.behind))
comma_sound l fs out s before e a = absurd cc

pub close_sound : (l : ℕ) (fs : List Frame) (out : List Step) (s : State) (before : List Token)
    → close_behind fs out ≡ Some s → HasOperand l fs out before []
    → HoldsIn s (before ++ (sign sign.Close ∷ []))
close_sound l (frame.Open ∷ fs) out s before e a =
    let r = popped frame.Open fs out before (postfix a.tree) (spelling a.tree ++ []) a.behind in
    along (state (mode.Have atom_level) fs out) s (before ++ (sign sign.Close ∷ [])) e
    (grouped_is a.tree r.h fs out before a.fits (open_is r.h r.is) r.behind)
close_sound l (frame.Arguments w n ∷ fs) out s before e a =
    let r = popped (frame.Arguments w n) fs out before (postfix a.tree) (spelling a.tree ++ [])
    a.behind in
    let i = call_is w n r.h r.is in
    let sound = sound_as r.h (calling i.1 w i.0) i.2 r.sound in
    along (state (mode.Have atom_level) fs (out ++ (applied w (suc n) ∷ []))) s
    (before ++ (sign sign.Close ∷ [])) e
    (applied_is i.1 w n i.0 a.tree fs out before i.3
    (sound.0, a.fits, first_is i.1 w n l i.0 a.tree i.3 a.level sound a.place)
    (called_is i.1 w i.0 a.tree r.h fs out before i.2 r.behind))
close_sound l (frame.Extract f ∷ fs) out s before e a =
    let r = popped (frame.Extract f) fs out before (postfix a.tree) (spelling a.tree ++ [])
    a.behind in
    let i = extract_is f r.h r.is in
    along (state (mode.Have atom_level) fs (out ++ (applied f 2 ∷ []))) s
    (before ++ (sign sign.Close ∷ [])) e
    (extracted_is i.0 f i.1 a.tree fs out before
    (sound_as r.h (extracting i.0 f i.1) i.2 r.sound, a.fits)
    (holding_as r.h (extracting i.0 f i.1) a.tree fs out before i.2 r.behind))
close_sound l (frame.From f ∷ fs) out s before e a =
    let r = popped (frame.From f) fs out before (postfix a.tree) (spelling a.tree ++ []) a.behind in
    let i = part_is f r.h r.is in
    along (state (mode.Have atom_level) fs (out ++ (applied f 2 ∷ []))) s
    (before ++ (sign sign.Close ∷ [])) e
    (parted_is i.0 f i.1 a.tree fs out before (sound_as r.h (parting i.0 f i.1) i.2 r.sound) a.fits
    (holding_as r.h (parting i.0 f i.1) a.tree fs out before i.2 r.behind))
close_sound l (frame.Place f ∷ fs) out s before e a =
    let r = popped (frame.Place f) fs out before (postfix a.tree) (spelling a.tree ++ [])
    a.behind in
    let i = place_is f r.h r.is in
    along (state (mode.Have atom_level) fs (out ++ (applied f 2 ∷ []))) s
    (before ++ (sign sign.Close ∷ [])) e
    (placed_is i.0 f i.1 a.tree fs out before (sound_as r.h (placing i.0 f i.1) i.2 r.sound) a.fits
    (holding_as r.h (placing i.0 f i.1) a.tree fs out before i.2 r.behind))
close_sound l (frame.TrimFrom d ∷ fs) out s before e a =
    let r = popped (frame.TrimFrom d) fs out before (postfix a.tree) (spelling a.tree ++ [])
    a.behind in
    let i = trim_is d r.h r.is in
    let h : Held = trimming i.0 i.1 d in
    along (state (mode.Have atom_level) fs (out ++ (trimmed d false ∷ []))) s
    (before ++ (sign sign.Close ∷ [])) e
    (trimmed_is i.0 i.1 d a.tree fs out before (sound_as r.h h i.2 r.sound) a.fits
    (holding_as r.h h a.tree fs out before i.2 r.behind))
close_sound l (frame.TrimBy d ∷ fs) out s before e a =
    let r = popped (frame.TrimBy d) fs out before (postfix a.tree) (spelling a.tree ++ [])
    a.behind in
    let i = by_is d r.h r.is in
    let h : Held = trimming_by i.0 i.1 i.2 i.3 in
    along (state (mode.Have atom_level) fs (out ++ (trimmed d true ∷ []))) s
    (before ++ (sign sign.Close ∷ [])) e
    (trimmed_by_is i.0 i.1 i.2 d i.3 a.tree fs out before i.5 (sound_as r.h h i.4 r.sound) a.fits
    (holding_as r.h h a.tree fs out before i.4 r.behind))
close_sound l (frame.For f ∷ fs) out s before e a =
    let r = popped (frame.For f) fs out before (postfix a.tree) (spelling a.tree ++ []) a.behind in
    let i = limit_is f r.h r.is in
    let h : Held = limiting i.0 f i.1 i.2 i.3 in
    along (state (mode.Have atom_level) fs (out ++ (applied f 3 ∷ []))) s
    (before ++ (sign sign.Close ∷ [])) e
    (limited_is i.0 f i.1 i.2 i.3 a.tree fs out before (sound_as r.h h i.4 r.sound) a.fits
    (holding_as r.h h a.tree fs out before i.4 r.behind))
close_sound l (frame.Items n k ∷ fs) out s before e a =
    let r = popped (frame.Items n k) fs out before (postfix a.tree)
    (spelling a.tree ++ []) a.behind in
    let i = items_are n k r.h r.is in
    along (state (mode.Have predicate_level) fs (out ++ (listed n (suc k) ∷ []))) s
    (before ++ (sign sign.Close ∷ [])) e
    (listed_is n k i.0 i.1 a.tree fs out before i.3 (sound_as r.h
    (listing n i.0 i.1) i.2 r.sound) a.fits
    r.place (holding_as r.h (listing n i.0 i.1) a.tree fs out before i.2 r.behind))
close_sound l fs out s before e a = absurd cc
