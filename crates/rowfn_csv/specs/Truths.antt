-- Truth values as other programs spell them.
use Rattle.std.specs.Prelude.{◌||◌, Bool, ℕ, List, codes, if◌then◌else◌}
use Rattle.std.specs.Str.{bytes_eq}

abbrev pub is_true_word : List ℕ → Bool
is_true_word bs =
    bytes_eq bs (codes "t") || (bytes_eq bs (codes "True")
    || (bytes_eq bs (codes "TRUE") || bytes_eq bs (codes "1")))

abbrev pub is_false_word : List ℕ → Bool
is_false_word bs =
    bytes_eq bs (codes "f") || (bytes_eq bs (codes "False")
    || (bytes_eq bs (codes "FALSE") || bytes_eq bs (codes "0")))

-- a field that says a truth value in another spelling, as `true` or `false`; any other as it stands
abbrev pub truth_spelled : List ℕ → List ℕ
truth_spelled bs =
    if is_true_word bs then codes "true" else (if is_false_word bs then codes "false" else bs)

-- a field of a column whose truth values stand in any spelling, or as it stands
abbrev pub respelled : Bool → List ℕ → List ℕ
respelled is_truth bs = if is_truth then truth_spelled bs else bs
