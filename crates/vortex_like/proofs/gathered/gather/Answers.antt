use Rattle.std.proofs.Common.{◌≡◌, ℕ, ◌-◌, List, [], ◌∷◌, ◌++◌, length, sym, ap, subst, ◌∙◌, arith, refl}
use Rattle.vortex_like.specs.Gathered.{AreGathered}
use Rattle.vortex_like.specs.TextRows.{texts_of, text_at}
use Rattle.vortex_like.proofs.Gathering.{gathered_none, gathered_next}
use Rattle.vortex_like.proofs.gathered.gather.Goals as goal

pub loop-end-init : goal.loop-end-init
loop-end-init c =
    let texts : List (List ℕ) = texts_of c.args.texts.now in
    let none : c.args.first - c.args.first ≡ 0 = omega arith in
    let places : c.push.new.self.items ≡ 0 ∷ [] =
    c.in_ok-push.ensures.items ∙ ap (λ (ps : List ℕ). ps ++ 0 ∷ []) c.clear-2.ensures.items in
    subst
    (λ (n : ℕ). AreGathered texts c.args.first n c.clear.new.self.items c.push.new.self.items)
    (sym none)
    (subst (λ (bs : List ℕ). AreGathered texts c.args.first 0 bs c.push.new.self.items)
    (sym c.clear.ensures.items)
    (subst (λ (ps : List ℕ). AreGathered texts c.args.first 0 [] ps) (sym places)
    (gathered_none texts c.args.first)))

pub loop-end-preserved : goal.loop-end-preserved
loop-end-preserved c =
    let more : c.len-in-loop-end.result ≡ length c.append.new.bytes.items =
    omega (arith, c.append.new.bytes.ok.0) in
    gathered_next (texts_of c.args.texts.now) c.args.first c.loop-end.end c.loop-end.bytes.items
    c.loop-end.places.items (text_at (texts_of c.args.texts.now) c.loop-end.end) c.append.new.bytes.items
    c.push-in-loop-end.new.self.items c.len-in-loop-end.result c.loop-end.auto.end
    c.loop-end.invariant refl c.in_ok-append.ensures more
    c.in_ok-push-2.ensures.items
