-- The driver's walk, over nodes that represent trees.
use Rattle.std.proofs.Common.{◌≡◌, ℕ, suc, ◌+◌, ◌<◌, ◌≤◌, List, [], ◌∷◌, ◌++◌, length, map, All}
use Rattle.std.proofs.Common.{Option, Some, None, refl, sym, ap, subst, ◌∙◌, arith}
use Rattle.std.specs.Prelude.{slice_get, IsSome, IfSome}
use Rattle.std.specs.Option.{option_map}
use Rattle.std.proofs.lemmas.List.{length-map, map-append}
use Rattle.std.proofs.lemmas.List.Elements.{All-nil, All-push, All-pop}
use Rattle.std.proofs.lemmas.Option.{slice_get_within}
use Rattle.vortex_interface.specs.Trees.{Tree, children_of}
use Rattle.vortex_interface.specs.Driver.{step}
use Rattle.vortex_interface.specs.Meaning.{Meaning}
use Rattle.vortex_interface.specs.Eval.{tree_type}
use Rattle.vortex_rewriting.specs.declared.frames.Opened.{Opened}
use Rattle.vortex_rewriting.specs.Frames.{partly, plug, AreSettled, AreFrames, IsNext, frames_in}
use Rattle.vortex_rewriting.specs.Frames.{HaveRows}
use Rattle.vortex_rewriting.proofs.StepsBelow.{length_next}
use Rattle.vortex_rewriting.proofs.FrameWalks.{partly_none, partly_next, plug_push, frames_push}
use Rattle.vortex_rewriting.proofs.FrameWalks.{frames_pop, settled_next, step_when_done}
use Rattle.vortex_rewriting.proofs.FrameWalks.{below_typed, left_above, left_from}
use Rattle.vortex_rewriting.proofs.FrameWalks.{past_fewer, down_fewer, up_fewer}

pub map_push : {A B : Type 0} (f : A → B) (more done : List A) (a : A) → more ≡ done ++ a ∷ []
    → map f more ≡ map f done ++ f a ∷ []
map_push f more done a e = ap (map f) e ∙ map-append f done (a ∷ [])

-- a property of what is present
pub of_some : {A : Type 0} (P : A → Type 0) (o : Option A) (a : A) → IfSome o P → o ≡ Some a → P a
of_some {A} P o a h e = subst (λ (x : Option A). IfSome x P) e h

-- one more with that context
pub rows_push : {T B : Type 0} (rows : T → B) (n : B) (more done : List T) (t : T)
    → All (λ u. rows u ≡ n) done → rows t ≡ n → more ≡ done ++ t ∷ [] → All (λ u. rows u ≡ n) more
rows_push rows n more done t h same m =
    subst (All (λ u. rows u ≡ n)) (sym m) (All-push (λ u. rows u ≡ n) done t h same)

-- the rows of the frames above, and of the last one
pub rows_above : {T B : Type 0} (rows : T → B) (n : B) (all rest : List (Opened T)) (f : Opened T)
    → all ≡ rest ++ f ∷ [] → HaveRows rows n all
    → HaveRows rows n rest × (rows f.node ≡ n) × All (λ t. rows t ≡ n) f.done.items
rows_above {T} {B} rows n all rest f e h =
    let here = All-pop (λ (g : Opened T).
    (rows g.node ≡ n) × All (λ t. rows t ≡ n) g.done.items)
    all rest (Some f) e h in
    (here.0, here.1.0, here.1.1)

module _ {T V O : Type 0} (tree : T → Tree V O) where
  abbrev seen : Opened T → Tree V O × List (Tree V O)
  seen f = (tree f.node, map tree f.done.items)

  next_at : (t : Tree V O) (done : List T) (o : Option T) (child : T)
      → IsNext t (map tree done) (option_map tree o) → o ≡ Some child
      → slice_get (children_of t) (length (map tree done)) ≡ Some (tree child)
  next_at t done o child h e =
      subst (λ (x : Option T). IsNext t (map tree done) (option_map tree x)) e h

  -- the next child is after those that are done
  pub next_is : (t : Tree V O) (done now : List T) (o : Option T) (child : T) → now ≡ done
      → IsNext t (map tree now) (option_map tree o) → o ≡ Some child
      → slice_get (children_of t) (length (map tree done)) ≡ Some (tree child)
  next_is t done now o child same h e =
      next_at t done o child
      (subst (λ xs. IsNext t (map tree xs) (option_map tree o)) same h) e

  -- if there is none, all are done
  pub all_done : (t : Tree V O) (done now : List T) (o : Option T) → now ≡ done
      → IsNext t (map tree now) (option_map tree o) → o ≡ None
      → length (children_of t) ≤ length (map tree done)
  all_done t done now o same h e =
      subst (λ (x : Option T). IsNext t (map tree done) (option_map tree x)) e
      (subst (λ xs. IsNext t (map tree xs) (option_map tree o)) same h)

  -- a closed frame is a node of the whole tree
  pub goes_up : (all rest : List (Opened T)) (f : Opened T) (t : T) (more : List T)
      → all ≡ rest ++ f ∷ [] → more ≡ f.done.items ++ t ∷ []
      → plug (frames_in tree rest) (partly (tree f.node) (map tree more))
      ≡ plug (frames_in tree all) (tree t)
  goes_up all rest f t more e m =
      ap (λ xs. plug (frames_in tree rest) (partly (tree f.node) xs))
      (map_push tree more f.done.items t m)
      ∙ sym (plug_push (frames_in tree rest) (seen f) (tree t))
      ∙ ap (λ fs. plug fs (tree t)) (sym (map_push seen all rest f e))

  -- the steps of a walk that are left
  abbrev pub steps_left : List (Opened T) → T → ℕ → ℕ
  steps_left fs node k = left_above (frames_in tree fs) + left_from (tree node) k

  pub passes_fewer : (fs : List (Opened T)) (node : T) (done more : List T) (child : T)
      → slice_get (children_of (tree node)) (length (map tree done)) ≡ Some (tree child)
      → more ≡ done ++ child ∷ []
      → steps_left fs node (length more) < steps_left fs node (length done)
  passes_fewer fs node done more child at m =
      let fewer = past_fewer (tree node) (map tree done) (tree child) at in
      let long : length more ≡ suc (length done) = ap length m ∙ length_next done child in
      let here = ap (left_from (tree node)) (length-map done tree) in
      let now = ap (left_from (tree node)) long in
      let later = ap (λ k. left_from (tree node) (suc k)) (length-map done tree) in
      omega (arith, fewer, here, now, later)

  pub descends_fewer : (fs all : List (Opened T)) (f : Opened T) (child : T) (fresh : List T)
      → slice_get (children_of (tree f.node)) (length (map tree f.done.items)) ≡ Some (tree child)
      → all ≡ fs ++ f ∷ [] → fresh ≡ []
      → steps_left all child (length fresh) < steps_left fs f.node (length f.done.items)
  descends_fewer fs all f child fresh at e n =
      let fewer = down_fewer (frames_in tree fs) (seen f) (tree child) at in
      let above = ap left_above (map_push seen all fs f e) in
      let here = ap (left_from (tree f.node)) (length-map f.done.items tree) in
      let below = ap (λ xs. left_from (tree child) (length xs)) n in
      omega (arith, fewer, above, here, below)

  pub rises_fewer : (all rest : List (Opened T)) (f : Opened T) (node t : T) (k : ℕ)
      (more : List T)
      → all ≡ rest ++ f ∷ [] → more ≡ f.done.items ++ t ∷ []
      → steps_left rest f.node (length more) < steps_left all node k
  rises_fewer all rest f node t k more e m =
      let fewer = up_fewer (frames_in tree rest) (seen f) (tree node) k in
      let above = ap left_above (map_push seen all rest f e) in
      let long : length more ≡ suc (length f.done.items) =
      ap length m ∙ length_next f.done.items t in
      let now = ap (left_from (tree f.node)) long in
      let later = ap (λ j. left_from (tree f.node) (suc j)) (length-map f.done.items tree) in
      omega (arith, fewer, above, now, later)

  module _ (rule : Tree V O → Option (Tree V O)) where
    pub frames_above : (all rest : List (Opened T)) (f : Opened T) → all ≡ rest ++ f ∷ []
        → AreFrames rule (frames_in tree all)
        → AreFrames rule (frames_in tree rest) × AreSettled rule (map tree f.done.items)
    frames_above all rest f e h =
        let r = frames_pop rule (frames_in tree rest) (seen f)
        (subst (AreFrames rule) (map_push seen all rest f e) h) in
        (r.0, r.1)

    -- the node of the frame on one more child is well typed if the whole tree is
    pub over_typed : (m : Meaning V O) (all rest : List (Opened T)) (f : Opened T) (t : T)
        (more : List T) → all ≡ rest ++ f ∷ [] → more ≡ f.done.items ++ t ∷ []
        → AreFrames rule (frames_in tree all)
        → IsSome (tree_type m (plug (frames_in tree all) (tree t)))
        → IsSome (tree_type m (partly (tree f.node) (map tree more)))
    over_typed m all rest f t more e p h typed =
        below_typed rule m (frames_in tree rest) (partly (tree f.node) (map tree more))
        (frames_above all rest f e h).0
        (subst (λ u. IsSome (tree_type m u)) (sym (goes_up all rest f t more e p)) typed)

    module _ {B : Type 0} (rows : T → B) (above : List (Opened T)) (root : T) where
      -- the whole tree is unchanged, over the same rows, and what is done is in normal form
      pub record IsWalk (fs : List (Opened T)) (node : T) (done : List T) : Type 0 where
        pub frames : AreFrames rule (frames_in tree fs)
        pub settled : AreSettled rule (map tree done)
        pub same : plug (frames_in tree fs) (partly (tree node) (map tree done))
            ≡ plug (frames_in tree above) (tree root)
        pub rows_above : HaveRows rows (rows root) fs
        pub rows_done : All (λ t. rows t ≡ rows root) done
        pub rows_node : rows node ≡ rows root

      pub begins : (done : List T) → AreFrames rule (frames_in tree above)
          → HaveRows rows (rows root) above → done ≡ [] → IsWalk above root done
      begins done frames same n = record {
        frames = frames;
        settled = subst (λ xs. AreSettled rule (map tree xs)) (sym n) tt;
        same =
            ap (λ xs. plug (frames_in tree above) (partly (tree root) (map tree xs))) n
            ∙ ap (plug (frames_in tree above)) (partly_none (tree root));
        rows_above = same;
        rows_done = subst (All (λ t. rows t ≡ rows root)) (sym n) (All-nil _);
        rows_node = refl;
      }

      -- past a child in normal form
      pub passes : (fs : List (Opened T)) (node : T) (done more : List T) (child : T)
          → IsWalk fs node done
          → slice_get (children_of (tree node)) (length (map tree done)) ≡ Some (tree child)
          → step rule (tree child) ≡ None → rows child ≡ rows node → more ≡ done ++ child ∷ []
          → IsWalk fs node more
      passes fs node done more child w at settled same m = record {
        frames = w.frames;
        settled =
            subst (AreSettled rule) (sym (map_push tree more done child m))
            (settled_next rule (map tree done) (tree child) w.settled settled);
        same =
            ap (plug (frames_in tree fs))
            (ap (partly (tree node)) (map_push tree more done child m)
            ∙ partly_next (tree node) (map tree done) (tree child) at)
            ∙ w.same;
        rows_above = w.rows_above;
        rows_done =
            rows_push rows (rows root) more done child w.rows_done (same ∙ w.rows_node) m;
        rows_node = w.rows_node;
      }

      -- down to a child
      pub descends : (fs all : List (Opened T)) (f : Opened T) (child : T) (fresh : List T)
          → IsWalk fs f.node f.done.items
          → slice_get (children_of (tree f.node)) (length (map tree f.done.items))
          ≡ Some (tree child)
          → rows child ≡ rows f.node → all ≡ fs ++ f ∷ [] → fresh ≡ [] → IsWalk all child fresh
      descends fs all f child fresh w at same e n = record {
        frames =
            subst (AreFrames rule) (sym (map_push seen all fs f e))
            (frames_push rule (frames_in tree fs) (seen f) w.frames w.settled
            (slice_get_within (children_of (tree f.node)) (length (map tree f.done.items)) (tree child)
            at));
        settled = subst (λ xs. AreSettled rule (map tree xs)) (sym n) tt;
        same =
            ap (λ xs. plug (frames_in tree all) (partly (tree child) (map tree xs))) n
            ∙ ap (plug (frames_in tree all)) (partly_none (tree child))
            ∙ ap (λ gs. plug gs (tree child)) (map_push seen all fs f e)
            ∙ plug_push (frames_in tree fs) (seen f) (tree child)
            ∙ ap (plug (frames_in tree fs))
            (partly_next (tree f.node) (map tree f.done.items) (tree child) at)
            ∙ w.same;
        rows_above =
            subst (HaveRows rows (rows root)) (sym e)
            (All-push (λ (g : Opened T). (rows g.node ≡ rows root)
            × All (λ t. rows t ≡ rows root) g.done.items) fs f w.rows_above
            (w.rows_node, w.rows_done));
        rows_done = subst (All (λ t. rows t ≡ rows root)) (sym n) (All-nil _);
        rows_node = same ∙ w.rows_node;
      }

      -- up with a node in normal form
      pub rises : (all rest : List (Opened T)) (f : Opened T) (node whole : T) (done more : List T)
          → IsWalk all node done → tree whole ≡ partly (tree node) (map tree done)
          → step rule (tree whole) ≡ None → rows whole ≡ rows node → all ≡ rest ++ f ∷ []
          → more ≡ f.done.items ++ whole ∷ [] → IsWalk rest f.node more
      rises all rest f node whole done more w is settled same e m =
          let up = frames_above all rest f e w.frames in
          let here = rows_above rows (rows root) all rest f e w.rows_above in
          record {
            frames = up.0;
            settled =
                subst (AreSettled rule) (sym (map_push tree more f.done.items whole m))
                (settled_next rule (map tree f.done.items) (tree whole) up.1 settled);
            same =
                goes_up all rest f whole more e m
                ∙ ap (plug (frames_in tree all)) is
                ∙ w.same;
            rows_above = here.0;
            rows_done =
                rows_push rows (rows root) more f.done.items whole here.2 (same ∙ w.rows_node)
                m;
            rows_node = here.1;
          }

      -- the step of a node on its children, all done, is the rule's result for it
      pub step_made : (fs : List (Opened T)) (node whole : T) (done : List T) (o made : Option T)
          → IsWalk fs node done → tree whole ≡ partly (tree node) (map tree done)
          → length (children_of (tree node)) ≤ length (map tree done)
          → option_map tree o ≡ rule (tree whole) → o ≡ made
          → step rule (tree whole) ≡ option_map tree made
      step_made fs node whole done o made w is all e found =
          ap (step rule) is
          ∙ step_when_done rule (tree node) (map tree done) w.settled all
          ∙ ap rule (sym is)
          ∙ sym e
          ∙ ap (option_map tree) found

      -- at the root the walk ends
      pub ends : (fs : List (Opened T)) (node whole : T) (done : List T) → IsWalk fs node done
          → length fs ≡ 0 → tree whole ≡ partly (tree node) (map tree done)
          → step rule (tree whole) ≡ None
          → (plug (frames_in tree above) (tree root) ≡ tree whole)
          × (step rule (plug (frames_in tree above) (tree root)) ≡ None)
      ends [] node whole done w n is settled =
          let same = sym w.same ∙ sym is in
          (same, ap (step rule) same ∙ settled)
      ends (f ∷ fs) node whole done w n is settled = absurd (omega (arith, n))

      pub node_typed : (m : Meaning V O) (fs : List (Opened T)) (node : T) (done : List T)
          → IsWalk fs node done
          → IsSome (tree_type m (plug (frames_in tree above) (tree root)))
          → IsSome (tree_type m (partly (tree node) (map tree done)))
      node_typed m fs node done w typed =
          below_typed rule m (frames_in tree fs) (partly (tree node) (map tree done)) w.frames
          (subst (λ t. IsSome (tree_type m t)) (sym w.same) typed)
