use Rattle.std.proofs.Common.{◌≡◌, ℕ, ◌+◌, ◌<◌, List, ◌++◌, length, take, drop, get_or, sym, ap, subst}
use Rattle.std.proofs.Common.{◌∙◌, arith, length-drop, append_assoc}
use Rattle.std.specs.Int.{w64, to_le_bytes}
use Rattle.std.proofs.Math.Seq.{take-append-add}
use Rattle.std.proofs.lemmas.List.{take-append-drop, drop-drop, get_or-drop}
use Rattle.std.proofs.lemmas.Nat.{le_bytes_8}
use Rattle.vortex_views.specs.ViewBytes.{view_bytes, view_len}
use Rattle.vortex_like.proofs.texts.push_inlined.Goals as goal

pub returns : goal.returns
returns c =
    let view : List ℕ = view_bytes c.args.view.now in
    let old : List ℕ = c.args.bytes.now.items in
    let whole : c.as_bytes.result.now ≡ view = c.as_bytes.ensures.value in
    let size : length view ≡ 16 =
    sym (ap (λ (bs : List ℕ). length bs) whole) ∙ c.as_bytes.ensures.len in
    let small : (i : ℕ) → get_or view i 0 < 256 =
    λ i. subst (λ (bs : List ℕ). get_or bs i 0 < 256) whole (c.learn_bytes.ensures i) in
    let rest : to_le_bytes w64 c.rest.result ≡ drop 8 view =
    le_bytes_8 (drop 8 view) c.rest.result (omega (arith, length-drop 8 view, size))
    (λ i. subst (λ (b : ℕ). b < 256) (sym (get_or-drop 8 view i 0)) (small (8 + i)))
    c.rest.ensures in
    let behind : take 4 (drop 4 view) ++ drop 8 view ≡ drop 4 view =
    ap (λ (bs : List ℕ). take 4 (drop 4 view) ++ bs) (sym (drop-drop 4 4 view))
    ∙ take-append-drop 4 (drop 4 view) in
    let pushed : c.push_eight.new.bytes.items ≡ old ++ drop 4 view =
    c.push_eight.ensures
    ∙ ap (λ (bs : List ℕ). bs ++ to_le_bytes w64 c.rest.result)
    (c.push_four.ensures.items ∙ ap (λ (bs : List ℕ). old ++ bs) c.prefix.ensures)
    ∙ ap (λ (bs : List ℕ). (old ++ take 4 (drop 4 view)) ++ bs) rest
    ∙ append_assoc old (take 4 (drop 4 view)) (drop 8 view)
    ∙ ap (λ (bs : List ℕ). old ++ bs) behind in
    let end : c.len.result + c.len-2.result ≡ length old + view_len view =
    omega (arith, c.args.bytes.now.ok.0, c.len-2.ensures) in
    c.truncate.ensures.items
    ∙ ap (λ (n : ℕ). take n c.push_eight.new.bytes.items) end
    ∙ ap (take (length old + view_len view)) pushed
    ∙ take-append-add old (drop 4 view) (view_len view)
