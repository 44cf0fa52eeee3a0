use Rattle.std.proofs.Common.{◌≡◌, ◌-◌, ◌≤◌, length}
use Rattle.std.specs.Prelude.{IsUtf8, chars}
use Rattle.vortex_sql_texts.specs.Trims.{kept_count, members}
use Rattle.vortex_sql_texts.proofs.Ends.{kept_of}
use Rattle.vortex_sql_texts.proofs.trims.kept_count.Given as goal

-- what is kept so far ends before `end`
abbrev pub invariant-loop-c : goal.invariant-loop-c
invariant-loop-c l = record {
  same :
      kept_count (members l.out) (chars l.text)
      ≡ kept_of (length (chars l.text) - length (chars l.rest))
      (length (chars l.text) - length (chars l.end)) (kept_count (members l.out) (chars l.rest));
  later : length (chars l.rest) ≤ length (chars l.end);
  shorter : length (chars l.end) ≤ length (chars l.text);
  utf8 : IsUtf8 l.rest;
  end_utf8 : IsUtf8 l.end;
}

abbrev pub decreases-loop-c : goal.decreases-loop-c
decreases-loop-c l = length (chars l.rest)
