-- The text of a tree is read back as that tree.
use Rattle.std.proofs.Common.{◌≡◌, ℕ, List, Option, Some, None, refl, subst}
use Rattle.std.specs.Option.{option_and_then}
use Rattle.vortex_types.specs.LogicalTypes.{Fields}
use Rattle.vortex_syntax.specs.Syntax.{Syntax}
use Rattle.vortex_syntax.specs.Spelling.{spelling}
use Rattle.vortex_syntax.specs.Nesting.{nests}
use Rattle.vortex_syntax.specs.Grammar.{Reads}
use Rattle.vortex_syntax.specs.Writing.{written}
use Rattle.vortex_syntax.proofs.Written.{read_back}
use Rattle.vortex_expressions.specs.Items.{Tree}
use Rattle.vortex_expressions.specs.Binding.{Expresses}
use Rattle.vortex_expressions.specs.Writing.{syntax_of, text_if, text_of_tree, IsOver}
use Rattle.vortex_expressions.proofs.Options.{some_is, where_is}
use Rattle.vortex_expressions.proofs.SyntaxLevels.{fits_of}
use Rattle.vortex_expressions.proofs.SyntaxWritten.{written_of}
use Rattle.vortex_expressions.proofs.CallsBack.{tree_back}

pub text_back : (scope : Fields) (t : Tree) (text : List ℕ) → IsOver scope t
    → text_of_tree t ≡ Some text → Expresses scope text t
text_back scope t text o e = by (syntax_of t) refl e
  where
    by : (s : Option Syntax) → syntax_of t ≡ s
        → option_and_then (λ a. text_if (spelling a)) s ≡ Some text → Expresses scope text t
    by None h g = absurd cc
    by (Some a) h g =
        let w = where_is (nests (spelling a)) (Some (written (spelling a))) text g in
        let r = read_back a (fits_of t a h) (written_of scope t a o h) w.so in
        record {
          syntax = a;
          read = subst (λ (bs : List ℕ). Reads bs a)
              (some_is (written (spelling a)) text w.there) r;
          bound = tree_back scope t a o h;
        }
