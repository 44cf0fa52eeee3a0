-- Steps in postfix order, each over what the steps before it left: the last item first.
use Rattle.std.specs.Prelude.{◌≡◌, Result, MatchResult, ℕ, List, [], ◌∷◌, None, Some, map, reverse}
use Rattle.std.specs.Prelude.{length, take, drop, nat_le, suc, ◌+◌, ◌*◌, Bool, true, false}
use Rattle.std.specs.Prelude.{if◌then◌else◌}
use Rattle.vortex_types.specs.LogicalTypes.{Fields}
use Rattle.vortex_syntax.specs.declared.step.Call.{Call}
use Rattle.vortex_syntax.specs.declared.step.Call.TheVariants as call
use Rattle.vortex_syntax.specs.Postfix.{Step, operand, negative, typed, cast, escaped, applied}
use Rattle.vortex_syntax.specs.Postfix.{listed, chosen, trimmed, called}
use Rattle.vortex_expressions.specs.declared.item.Item as held
use Rattle.vortex_expressions.specs.declared.binder.Stack as stack
use Rattle.vortex_expressions.specs.declared.binder.Stopped as stopped
use Rattle.vortex_expressions.specs.Answering.{StopsBy}
use Rattle.vortex_expressions.specs.Outcomes.{Outcome, answers, missing, and_then}
use Rattle.vortex_expressions.specs.Items.{Item, item_in, Tree, settled}
use Rattle.vortex_expressions.specs.Calls.{Names, names_of, names_in, operand_by, negative_item}
use Rattle.vortex_expressions.specs.Calls.{typed_by, cast_by}
use Rattle.vortex_expressions.specs.Calls.{not_item, joined_item, tested_item, distinct_item}
use Rattle.vortex_expressions.specs.Calls.{between_item, minus_item, listed_item, chosen_item}
use Rattle.vortex_expressions.specs.Calls.{matched_item, plus_item, bit_not_item}
use Rattle.vortex_expressions.specs.Functions.{applied_by, trimmed_item, trimmed_by_item}
use Rattle.vortex_expressions.specs.Binding.{LogicalTree, ended}
use Rattle.vortex_logical.specs.declared.kind.Kind.{Kind}

abbrev pub stack_in : List held.Item → List Item
stack_in is = reverse (map item_in is)

-- the result is pushed
abbrev pub pushed : List Item → Outcome Item → Outcome (List Item)
pushed st o = and_then o (λ i. answers (i ∷ st))

-- for the last item, the last two, and the last three
abbrev pub with_one : (Item → Outcome Item) → List Item → Outcome (List Item)
with_one f [] = missing
with_one f (a ∷ st) = pushed st (f a)

abbrev pub with_two : (Item → Item → Outcome Item) → List Item → Outcome (List Item)
with_two f [] = missing
with_two f (b ∷ st) = with_one (λ a. f a b) st

abbrev pub with_three : (Item → Item → Item → Outcome Item) → List Item → Outcome (List Item)
with_three f [] = missing
with_three f (c ∷ st) = with_two (λ a b. f a b c) st

-- so many of the last items, in their order, and what is left; and a call on them
abbrev pub last_items : ℕ → List Item → Outcome (List Item × List Item)
last_items n st = if nat_le n (length st) then answers (reverse (take n st), drop n st) else missing

abbrev pub with_last : (List Item → Outcome Item) → ℕ → List Item → Outcome (List Item)
with_last f n st = and_then (last_items n st) (λ p. pushed p.1 (f p.0))

-- the parts of a CASE: its operand, a condition and a value for each branch, and what follows ELSE
abbrev pub flag : Bool → ℕ
flag b = if b then 1 else 0

abbrev pub case_count : Bool → ℕ → Bool → ℕ
case_count h k e = flag h + 2 * k + flag e

abbrev pub call_made : Call → List Item → Outcome (List Item)
call_made call.Not = with_one not_item
call_made call.Minus = with_one minus_item
call_made call.Plus = with_one plus_item
call_made call.BitNot = with_one bit_not_item
call_made (call.Join o) = with_two (joined_item o)
call_made (call.Is k n) = with_one (tested_item k n)
call_made (call.Distinct n) = with_two (distinct_item n)
call_made (call.Between k) = with_three (between_item k)
call_made (call.Like k) = with_two (matched_item k None)

module _ (columns : Names) where
  abbrev pub stepped : Step → List Item → Outcome (List Item)
  stepped (operand t) st = pushed st (operand_by columns t)
  stepped (negative ds) st = pushed st (negative_item columns.has_kinds ds)
  stepped (typed w n) st = with_one (typed_by columns.has_kinds w n) st
  stepped (cast p w n) st = with_one (cast_by columns.has_kinds p w n) st
  stepped (escaped k e) st = with_two (matched_item k (Some e)) st
  stepped (applied w n) st = with_last (applied_by columns.has_kinds w) n st
  stepped (listed n k) st = with_last (listed_item n) (suc k) st
  stepped (chosen h k e) st = with_last (chosen_item h) (case_count h k e) st
  stepped (trimmed d false) st = with_one (trimmed_item columns.has_kinds d) st
  stepped (trimmed d true) st = with_two (trimmed_by_item columns.has_kinds d) st
  stepped (called c) st = call_made c st

  unfoldable pub run : List Step → List Item → Outcome (List Item)
  run [] st = answers st
  run (s ∷ ss) st = and_then (stepped s st) (run ss)

-- the only item that steps leave
abbrev pub left_as : {A : Type 0} → (Item → Outcome A) → List Item → Outcome A
left_as last [] = missing
left_as last (i ∷ []) = last i
left_as last (i ∷ j ∷ st) = missing

-- what steps leave over columns without kinds
abbrev pub tree_left : Fields → List Step → Outcome Tree
tree_left scope ss = and_then (run (names_of scope) ss []) (left_as (settled None))

-- and over columns with kinds
abbrev pub logical_left : Fields → List Kind → List Step → Outcome LogicalTree
logical_left scope kinds ss = and_then (run (names_in scope kinds) ss []) (left_as ended)

-- the stack that steps leave, or why one of them stops
abbrev pub RunsTo : Fields → List Kind → List Step → Result stack.Stack stopped.Stopped → Type 0
RunsTo scope kinds ss result =
    MatchResult result
    (λ s. run (names_in scope kinds) ss [] ≡ answers (stack_in s.items.items))
    (λ s. StopsBy (run (names_in scope kinds) ss []) s.stop)
