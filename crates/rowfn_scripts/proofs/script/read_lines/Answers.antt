use Rattle.std.proofs.Common.{◌≡◌, ◌∙◌, ℕ, List, [], Bor, ap, map, sym, subst}
use Rattle.rowfn_scripts.specs.declared.ending.End.{End}
use Rattle.rowfn_lines.specs.Lines.{lines_of}
use Rattle.rowfn_scripts.specs.Scripts.{Reaches, begins, EndsAt}
use Rattle.rowfn_scripts.specs.Sessions.{SessionView, fresh}
use Rattle.rowfn_scripts.proofs.SessionSteps.{printed_of}
use Rattle.rowfn_scripts.proofs.Reading.{reaches_more, ends_here}
use Rattle.rowfn_scripts.specs.Stepping.{script_meaning, script_rules}
use Rattle.rowfn_scripts.proofs.script.read_lines.Goals as goal

pub returns-in_default : goal.returns-in_default
returns-in_default c =
    record {
      read = 0;
      session = fresh;
      reached = begins;
      ends = tt;
      printed = printed_of c.requires;
    }

pub loop-i-init : goal.loop-i-init
loop-i-init c =
    subst
    (λ (s : SessionView _ _).
    Reaches script_meaning script_rules (lines_of c.args.script.now) 0 s)
    (sym c.requires) begins

pub returns-in-Err : goal.returns-in-Err
returns-in-Err c =
    let m = script_meaning in
    let rs = script_rules in
    let items = c.deref-line-items.result.now in
    let lines = lines_of c.args.script.now in
    let d : Bor (List ℕ) = record { ref_ptr = (0, 0); now = [] } in
    let read : map (λ l. l.now) items ≡ lines =
    ap (map (λ l. l.now)) c.deref-line-items.ensures.value ∙ c.in-Ok.ensures in
    let ends =
    ends_here m rs items lines c.loop-i.i d read c.loop-i-test.true c.loop-i.session c.in-Err.stop
    c.in-Err.ensures.0 in
    record {
      read = c.loop-i.i;
      session = c.loop-i.session;
      reached = c.loop-i.invariant;
      ends =
          subst (λ (ending : End). EndsAt m rs lines c.loop-i.i c.loop-i.session ending)
          (sym c.ending.ensures) ends;
      printed = c.in-Err.ensures.1;
    }

pub loop-i-preserved : goal.loop-i-preserved
loop-i-preserved c =
    let m = script_meaning in
    let rs = script_rules in
    let items = c.deref-line-items.result.now in
    let lines = lines_of c.args.script.now in
    let d : Bor (List ℕ) = record { ref_ptr = (0, 0); now = [] } in
    let read : map (λ l. l.now) items ≡ lines =
    ap (map (λ l. l.now)) c.deref-line-items.ensures.value ∙ c.in-Ok.ensures in
    reaches_more m rs items lines c.loop-i.i d read c.loop-i-test.true c.loop-i.session
    c.read_line.new.self c.loop-i.invariant c.in_default-read_line.ensures
