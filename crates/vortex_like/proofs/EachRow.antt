-- The result of the last compiled pattern for a text is the result of LIKE for the two values of a
-- row.
use Rattle.std.proofs.Common.{◌≡◌, ℕ, Bool, false, List, sym, ap, subst, ◌∙◌}
use Rattle.std.specs.Str.{chars}
use Rattle.vortex_types.specs.Values.{Value, text, is_null}
use Rattle.vortex_like.specs.declared.options.LikeOptions.{LikeOptions}
use Rattle.vortex_like.specs.Tokens.{is_match}
use Rattle.vortex_like.specs.Patterns.{PatternView, pattern_of, like}
use Rattle.vortex_like.specs.Rows.{IsLikeBit, turned}
use Rattle.vortex_like.specs.TextRows.{IsTextOf}

-- the values are texts, with these bytes in the columns, and the pattern is compiled from its text
pub row_like : (options : LikeOptions) (v w : Value) (p : PatternView)
    (own ps ps' bs bs' : List ℕ) (ascii b : Bool) → IsTextOf v bs → IsTextOf w ps
    → is_null v ≡ false → is_null w ≡ false
    → b ≡ turned options.negated (is_match p.case_insensitive p.tokens (chars bs'))
    → p ≡ pattern_of options.escape own options.case_insensitive ascii → own ≡ ps' → ps' ≡ ps
    → bs' ≡ bs
    → IsLikeBit options v w b
row_like options v w p own ps ps' bs bs' ascii b hv hw nv nw told of_own same borrowed read =
    subst (λ (x : Value). IsLikeBit options x w b) (sym (hv.value nv))
    (subst (λ (y : Value). IsLikeBit options (text bs) y b) (sym (hw.value nw)) answer)
  where
    answer : b ≡ like options bs ps
    answer =
        told
        ∙ ap
        (λ (q : PatternView).
        turned options.negated (is_match q.case_insensitive q.tokens (chars bs'))) of_own
        ∙ ap (λ (t : List ℕ). like options bs' t) (same ∙ borrowed)
        ∙ ap (λ (x : List ℕ). like options x ps) read
