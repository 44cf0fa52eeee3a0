-- The pairs of sequences around two that are compared, the outermost first.
use Rattle.std.proofs.Common.{◌≡◌, ℕ, suc, ◌+◌, List, [], ◌∷◌, ◌++◌, ap, ◌∙◌, arith, Ordering}
use Rattle.std.proofs.Common.{Equal}
use Rattle.std.specs.Ordering.{ordering_then}
use Rattle.vortex_columns.specs.PairOrder.{ArePaired, order_from, size_left}
use Rattle.vortex_columns.specs.declared.cell.order.Comparing.{Comparing}
use Rattle.vortex_columns.proofs.Compare.{then_next, then_equal}

-- their remaining order: the innermost first
abbrev pub order_around : List Comparing → Ordering
order_around [] = Equal
order_around (c ∷ cs) = ordering_then (order_around cs) (order_from c)

abbrev pub AreAround : List Comparing → Type 0
AreAround [] = Unit {0}
AreAround (c ∷ cs) = ArePaired c × AreAround cs

abbrev pub size_around : List Comparing → ℕ
size_around [] = 0
size_around (c ∷ cs) = suc (size_left c) + size_around cs

pub order_pushed : (cs : List Comparing) (c : Comparing)
    → order_around (cs ++ c ∷ []) ≡ ordering_then (order_from c) (order_around cs)
order_pushed [] c = then_equal (order_from c)
order_pushed (d ∷ cs) c =
    ap (λ o. ordering_then o (order_from d)) (order_pushed cs c)
    ∙ then_next (order_from c) (order_around cs) (order_from d)

pub size_pushed : (cs : List Comparing) (c : Comparing)
    → size_around (cs ++ c ∷ []) ≡ size_around cs + suc (size_left c)
size_pushed [] c = omega arith
size_pushed (d ∷ cs) c = omega (arith, size_pushed cs c)

pub pushed : (cs : List Comparing) (c : Comparing) → AreAround cs → ArePaired c
    → AreAround (cs ++ c ∷ [])
pushed [] c h p = (p, tt)
pushed (d ∷ cs) c h p = (h.0, pushed cs c h.1 p)

pub popped : (cs : List Comparing) (c : Comparing) → AreAround (cs ++ c ∷ [])
    → AreAround cs × ArePaired c
popped [] c h = (tt, h.0)
popped (d ∷ cs) c h = let r = popped cs c h.1 in ((h.0, r.0), r.1)
