-- Texts of as many bytes as a text may have.
use Rattle.std.proofs.Common.{◌≡◌, ◌≤◌, ◌<◌, ℕ, List, length, true, false, refl}
use Rattle.std.specs.Prelude.{IsUtf8, ◌&&◌, nat_le, Bool}
use Rattle.std.specs.Str.{is_utf8}
use Rattle.std.proofs.lemmas.Bool.{le-leb, lt-leb}
use Rattle.std.proofs.lemmas.Str.{is_utf8-from_IsUtf8}
use Rattle.vortex_sql_rows.specs.Laws.{both_true}
use Rattle.vortex_sql_texts.specs.MadeTexts.{may_be_text}

pub has_room : (bs : List ℕ) → IsUtf8 bs → length bs ≤ 4294967295 → may_be_text bs ≡ true
has_room bs u h =
    both_true (is_utf8 bs) (nat_le (length bs) 4294967295) (is_utf8-from_IsUtf8 bs u)
    (le-leb (length bs) 4294967295 h)

and_false : (a b : Bool) → b ≡ false → (a && b) ≡ false
and_false true b e = e
and_false false b e = refl

pub has_none : (bs : List ℕ) → 4294967295 < length bs → may_be_text bs ≡ false
has_none bs h =
    and_false (is_utf8 bs) (nat_le (length bs) 4294967295) (lt-leb (length bs) 4294967295 h)
