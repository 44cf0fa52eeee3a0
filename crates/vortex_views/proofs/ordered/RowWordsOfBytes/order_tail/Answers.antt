use Rattle.std.proofs.Common.{◌≡◌, ◌<◌, ◌≤◌, ◌⊎◌, ℕ, Bool, false, IsTrue, length, inl, inr}
use Rattle.std.proofs.Common.{◌∙◌, ap, sym, arith, rules}
use Rattle.std.proofs.lemmas.Bool.{cases_lt, false≢true}
use Rattle.vortex_views.specs.ViewBytes.{view_bytes, view_len}
use Rattle.vortex_views.specs.ValueWords.{order_tail_word}
use Rattle.vortex_views.proofs.Resolving.{view_of, tail_of_view}
use Rattle.vortex_views.proofs.ordered.RowWordsOfBytes.order_tail.Goals as goal

-- a view that is not inlined has more than twelve bytes
is_long : (inlined : Bool) (n : ℕ) → (n ≤ 12 → IsTrue inlined) → inlined ≡ false
    → (12 < n) ⊎ (n ≤ 12)
    → 12 < n
is_long inlined n h e (inl long) = long
is_long inlined n h e (inr short) = absurd (false≢true (sym e ∙ h short))

pub returns-then-is_inlined : goal.returns-then-is_inlined
returns-then-is_inlined c =
    c.order_tail.ensures
    ∙ tail_of_view _ _ (view_of _ _ c.args.self.now.fit) (c.is_inlined.ensures.0 (search rules))

pub value_of-requires : goal.value_of-requires
value_of-requires c = c.args.self.now.fit

pub long_tail-requires : goal.long_tail-requires
long_tail-requires c =
    let n = view_len (view_bytes c.args.self.now.view.now) in
    let long : 12 < n =
    is_long c.is_inlined.result n c.is_inlined.ensures.1 c.if-is_inlined.false (cases_lt 12 n) in
    let same = (view_of _ _ c.args.self.now.fit).len in
    let borrowed = ap length c.value_of.ensures in
    omega (arith, long, same, borrowed)

pub returns-else-is_inlined : goal.returns-else-is_inlined
returns-else-is_inlined c = c.long_tail.ensures ∙ ap order_tail_word c.value_of.ensures
