-- Of an expression that matches as another does, the same is found.
use Rattle.std.proofs.Common.{◌≡◌, ◌<◌, Bool, ◌*◌, ◌+◌, ℕ, List, Option, Some, None, true, is_some, get_or, ap, option_map, refl, sym, ◌∙◌}
use Rattle.std.proofs.lemmas.Option.{same_Some}
use mathlib.Core.Path.{fun_ext}
use Rattle.regex.specs.Patterns.{Match, Re, SameCaptures, find_str, slot_of, span}
use Rattle.regex.specs.Writes.{both, group_of}
use Rattle.regex.proofs.ForCallers.{found_alike, is_match_alike, span_alike}
use Rattle.vortex_sql_texts.specs.MadeTexts.{text_or_fault}
use Rattle.vortex_sql_patterns.specs.Patterns.{pattern_in, IsPatternOf}
use Rattle.vortex_sql_patterns.specs.Replacing.{found_at, replaced, seen}
use Rattle.vortex_sql_patterns.specs.RegexpReplace.{replaced_by}

same_seen : (m n : Match) → span m ≡ span n → slot_of n ≡ slot_of m → seen m ≡ seen n
same_seen m n s e =
    ap (λ (x : ℕ × ℕ). record { start = x.0; end = x.1; group = group_of m }) s
    ∙ ap (λ (g : ℕ → Option ℕ). record {
      start = n.start;
      end = n.trace.end;
      group = λ k. both (g (2 * k)) (g (2 * k + 1));
    }) (sym e)

module _ (bs : List ℕ) (bytes : (k : ℕ) → get_or bs k 0 < 256) (a b : Re)
    (same : SameCaptures a b) where
  pub found_as : (at : ℕ) → found_at a bs at ≡ found_at b bs at
  found_as at = by (find_str a bs at) (find_str b bs at) refl refl
    where
      by : (o p : Option Match) → find_str a bs at ≡ o → find_str b bs at ≡ p
          → option_map seen o ≡ option_map seen p
      by None None e k = refl
      by (Some m) p e k =
          let other = found_alike same bs bytes true at m e in
          let spans = ap (option_map span) (sym e) ∙ span_alike same bs bytes true at
          ∙ ap (option_map span) other.1 in
          ap Some (same_seen m other.0 (same_Some _ _ spans) other.2)
          ∙ ap (option_map seen) (sym other.1 ∙ k)
      by None (Some n) e k =
          let found = ap is_some (sym e) ∙ is_match_alike same bs bytes true at ∙ ap is_some k in cc

-- so that the same is written
pub same_replaced : (all : Bool) (bs rs ps : List ℕ) (re : Re) → IsPatternOf ps re
    → ((k : ℕ) → get_or bs k 0 < 256)
    → replaced_by all bs rs (pattern_in ps)
    ≡ text_or_fault (replaced all bs rs (found_at re bs))
same_replaced all bs rs ps re (as_read, e, same) bytes =
    ap (replaced_by all bs rs) e
    ∙ ap (λ next. text_or_fault (replaced all bs rs next))
    (fun_ext (λ at. sym (found_as bs bytes re as_read same at)))
