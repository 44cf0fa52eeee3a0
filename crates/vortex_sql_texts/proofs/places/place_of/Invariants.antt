use Rattle.std.proofs.Common.{◌≡◌, ◌+◌, ◌-◌, ◌≤◌, length}
use Rattle.std.specs.Prelude.{IsUtf8, chars}
use Rattle.vortex_sql_texts.specs.Places.{further, place_of}
use Rattle.vortex_sql_texts.proofs.places.place_of.Given as goal

-- the place is one in the rest
abbrev pub invariant-loop-rest : goal.invariant-loop-rest
invariant-loop-rest l = record {
  same :
      place_of l.part (chars l.text)
      ≡ further (length (chars l.text) - length (chars l.rest) + 1)
      (place_of l.part (chars l.rest));
  shorter : length (chars l.rest) ≤ length (chars l.text);
  utf8 : IsUtf8 l.rest;
}

abbrev pub decreases-loop-rest : goal.decreases-loop-rest
decreases-loop-rest l = length (chars l.rest)
