use Rattle.std.proofs.Common.{◌≡◌, List, rules, subst, ℕ}
use Rattle.std.specs.Prelude.{IfOk, string_bytes}
use Rattle.std.proofs.lemmas.Iterator.{YieldsList-from_chars, YieldsList-from_take, text_from_collect}
use Rattle.vortex_sql_characters.proofs.parts.first_chars.Goals as goal

pub returns : goal.returns
returns c =
    subst (λ (bs : List ℕ). IfOk c.collect.result (λ made. string_bytes made ≡ bs))
    c.count_in.ensures.first
    (text_from_collect _ c.collect.ensures.ran
    (YieldsList-from_take _ (YieldsList-from_chars c.args.text.now (search rules) cc)
    c.take.ensures.count))
