use Rattle.std.proofs.lemmas.Str.{IsUtf8-string_bytes}
use Rattle.vortex_like.proofs.text_tests.InsideTest.new.Goals as goal

pub invariant_of-result : goal.invariant_of-result
invariant_of-result c = record {
  utf8 =
      rw (c.build_forward_owned.ensures, c.into_bytes.ensures.value)
      (∣ IsUtf8-string_bytes c.args.literal ∣₁);
}
