use Rattle.std.proofs.Common.{sym, ap, ◌∙◌, subst, List, ℕ}
use Rattle.std.specs.Prelude.{IsUtf8}
use Rattle.std.proofs.lemmas.Str.{IsUtf8-string_bytes}
use Rattle.vortex_types.specs.ValueOf.{value_of}
use Rattle.vortex_types.proofs.ScalarViews.{view-List}
use Rattle.vortex_columns.proofs.cell.cell_of.Goals as goal

pub returns-in-Utf8-clause-whole : goal.returns-in-Utf8-clause-whole
returns-in-Utf8-clause-whole c =
    subst (λ (bs : List ℕ). IsUtf8 bs) (sym c.as_str.ensures.value)
    (IsUtf8-string_bytes c.in-Utf8.text)

pub returns-in-List-clause-value : goal.returns-in-List-clause-value
returns-in-List-clause-value c = sym (ap value_of c.in-List.is ∙ view-List c.in-List.items)
