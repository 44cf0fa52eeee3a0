-- The names of functions are words without quotes.
use Rattle.std.proofs.Common.{◌≡◌, Bool, true, false, not, refl}
use Rattle.std.proofs.lemmas.Bool.{false≢true}
use Rattle.vortex_standard.specs.declared.standard.Standard.{Standard}
use Rattle.vortex_standard.specs.NameLaws.{of_each}
use Rattle.vortex_standard.specs.Names.{name_of}
use Rattle.vortex_syntax.specs.Keywords.{keyword_of}
use Rattle.vortex_syntax.specs.Levels.{takes_in}
use Rattle.vortex_syntax.specs.Pieces.{is_sized_word}
use Rattle.vortex_syntax.specs.Writing.{is_bare}

pub bare_name : (f : Standard) → is_bare (name_of f) ≡ true
unfolding keyword_of
bare_name = of_each (λ f. is_bare (name_of f)) refl

is_turned : (b : Bool) → not b ≡ true → b ≡ false
is_turned false h = refl
is_turned true h = absurd (false≢true h)

-- none of them is a type's whose name has sizes
unsized : (f : Standard) → not (is_sized_word (name_of f)) ≡ true
unsized = of_each (λ f. not (is_sized_word (name_of f))) refl

pub unsized_name : (f : Standard) → is_sized_word (name_of f) ≡ false
unsized_name f = is_turned (is_sized_word (name_of f)) (unsized f)

-- none of them takes `in` after its first argument
placeless : (f : Standard) → not (takes_in (name_of f)) ≡ true
placeless = of_each (λ f. not (takes_in (name_of f))) refl

pub placeless_name : (f : Standard) → takes_in (name_of f) ≡ false
placeless_name f = is_turned (takes_in (name_of f)) (placeless f)
