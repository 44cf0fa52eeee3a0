-- One more line of a script.
use Rattle.std.proofs.Common.{◌≡◌, ℕ, ◌+◌, ◌<◌, List, [], map, length, get_or, refl, sym, ap, subst}
use Rattle.std.proofs.Common.{◌∙◌, arith, add-one, Bor}
use Rattle.std.specs.Prelude.{slice_index_or}
use Rattle.std.proofs.lemmas.List.{get_or-map, length-map}
use Rattle.vortex_errors.specs.declared.error.VortexError.{VortexError}
use Rattle.vortex_errors.proofs.Answering.{UnlessMemory-weaker}
use Rattle.vortex_interface.specs.Meaning.{Meaning}
use Rattle.vortex_interface.specs.Rules.{Rules}
use Rattle.rowfn_scripts.specs.declared.stop.Stop.{Stop}
use Rattle.rowfn_scripts.specs.declared.stop.Stop.TheVariants.{Refused, Malformed}
use Rattle.rowfn_lines.specs.Commands.{Command, command_of}
use Rattle.rowfn_scripts.specs.Sessions.{SessionView, Step, goes_on, refuses, is_malformed, StepsTo}
use Rattle.rowfn_scripts.specs.Stepping.{StopsBy, end_of}
use Rattle.rowfn_scripts.specs.Scripts.{command_at, Reaches, one_more, EndsAt}

line_said : (items : List (Bor (List ℕ))) (lines : List (List ℕ)) (i : ℕ) (d : Bor (List ℕ))
    → map (λ l. l.now) items ≡ lines → i < length items
    → command_of (get_or items i d).now ≡ command_at lines i
line_said items lines i d e h =
    ap command_of (sym (get_or-map (λ (y : Bor (List ℕ)). y.now) items i d [] h))
    ∙ ap (λ (ls : List (List ℕ)). command_of (slice_index_or ls i [])) e

module _ {V O : Type 0} (m : Meaning V O) (rs : Rules V O) (items : List (Bor (List ℕ)))
    (lines : List (List ℕ)) (i : ℕ) (d : Bor (List ℕ)) (e : map (λ l. l.now) items ≡ lines)
    (h : i < length items)
    (s : SessionView V O) where
  within : i < length lines
  within = omega (arith, ap length e, length-map items (λ (y : Bor (List ℕ)). y.now))

  said : (r : Step V O) → StepsTo m rs (command_of (get_or items i d).now) s r
      → StepsTo m rs (command_at lines i) s r
  said r p = subst (λ (k : Command). StepsTo m rs k s r) (line_said items lines i d e h) p

  pub reaches_more : (t : SessionView V O) → Reaches m rs lines i s
      → StepsTo m rs (command_of (get_or items i d).now) s (goes_on t)
      → Reaches m rs lines (i + 1) t
  reaches_more t reached p =
      subst (λ (n : ℕ). Reaches m rs lines n t) (sym (add-one i))
      (one_more i s t reached within (said (goes_on t) p))

  pub ends_here : (stop : Stop) → StopsBy (StepsTo m rs (command_of (get_or items i d).now) s) stop
      → EndsAt m rs lines i s (end_of stop (i + 1))
  ends_here (Refused error) u =
      UnlessMemory-weaker
      (λ (y : VortexError). StepsTo m rs (command_of (get_or items i d).now) s (refuses y))
      (λ (y : VortexError). (i < length lines) × StepsTo m rs (command_at lines i) s (refuses y))
      (λ y p. (within, said (refuses y) p)) error u
  ends_here Malformed u = (within, said is_malformed u, refl)
