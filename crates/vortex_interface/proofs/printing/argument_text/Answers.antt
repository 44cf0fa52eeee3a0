use Rattle.std.proofs.Common.{◌≡◌, length, refl, map, slice_get, string_bytes, Some, None, sym, ap}
use Rattle.std.proofs.Common.{◌∙◌}
use Rattle.std.specs.Option.{option_map}
use Rattle.std.proofs.lemmas.Option.{slice_get-map, slice_get_read, slice_get_past}
use Rattle.vortex_interface.proofs.PartTexts.{text_got, text_past}
use Rattle.vortex_interface.proofs.printing.argument_text.Goals as goal

pub returns-in-Some : goal.returns-in-Some
returns-in-Some c =
    let texts = map string_bytes c.args.children.now in
    let place = c.args.place in
    let text = string_bytes c.in-Some.text.now in
    let at : slice_get texts place ≡ Some text =
    slice_get-map string_bytes c.args.children.now place
    ∙ ap (option_map string_bytes)
    (slice_get_read c.args.children.now (length c.args.children.now) place c.in-Some.text.now refl
    c.in-Some.ensures.lookup.3.0 c.in-Some.ensures.lookup.1) in
    c.as_str.ensures.value ∙ sym (text_got texts place text at)

pub returns-in-None : goal.returns-in-None
returns-in-None c =
    let texts = map string_bytes c.args.children.now in
    let place = c.args.place in
    let at : slice_get texts place ≡ None =
    slice_get-map string_bytes c.args.children.now place
    ∙ ap (option_map string_bytes)
    (slice_get_past c.args.children.now place c.in-None.ensures.lookup.3) in
    sym (text_past texts place at)
