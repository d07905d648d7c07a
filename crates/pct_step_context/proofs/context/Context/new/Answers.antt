use Rattle.pct_names.proofs.Names.{ap, arith, has_timeouts, is_some, length, refl, Some, subst, sym, true, ℕ, ◌∙◌, ◌≡◌}
use Rattle.pct_threads.proofs.TableLemmas.{within-occupied}
use Rattle.pct_threads.specs.Tables.{frames_at, is_occupied_at}
use Rattle.pct_keys.specs.Tables.{Table}
use Rattle.pct_engine_laws.specs.SeenSteps.{environment_in}
use Rattle.pct_process.specs.FamilyViews.{other_processes}
use Rattle.pct_process.specs.ProcessViews.{slots_of, thread_on_slot, ProcessData}
use Rattle.pct_step_context.specs.Positions.{IsPosition}
use Rattle.pct_step_context.specs.Numbers.{NewNumbersFit, NextKeysFit}
use Rattle.pct_step_context.proofs.ProcessReads.{occupied_by, held_of, ids_fit, frames_read}
use Rattle.pct_step_context.proofs.context.Context.new.Goals as goal

pub position_of-requires-clause-occupied : goal.position_of-requires-clause-occupied
position_of-requires-clause-occupied g c =
    let s = c.process.inside in
    occupied_by s.keys s.threads c.process.invariant.0 c.args.slot (subst (λ (d : ProcessData). is_some (thread_on_slot d.slots c.args.slot) ≡ true) (sym c.process.view_is) c.requires)

pub position_of-requires-clause-row : goal.position_of-requires-clause-row
position_of-requires-clause-row g c =
    let s = c.process.inside in
    let occupied = occupied_by s.keys s.threads c.process.invariant.0 c.args.slot (subst (λ (d : ProcessData). is_some (thread_on_slot d.slots c.args.slot) ≡ true) (sym c.process.view_is) c.requires) in
    omega (arith, c.process.invariant.0, within-occupied s.threads c.args.slot occupied)

pub returns-clause-context : goal.returns-clause-context
returns-clause-context g c =
    let script = c.args.around.program.now.script in
    let s = c.process.inside in
    let keys = s.keys in
    let threads = s.threads in
    let read = c.position_of in
    let timeouts = has_timeouts c.args.around.program.now.config.format in
    λ t at.
    let on : thread_on_slot (slots_of keys.rows threads) c.args.slot ≡ Some t = subst (λ (d : ProcessData). thread_on_slot d.slots c.args.slot ≡ Some t) (sym c.process.view_is) at in
    let h = held_of keys threads c.process.invariant.0 c.args.slot t on in
    let position = subst (IsPosition script read.result) h.2 (read.ensures.position h.0 h.1) in
    record {
      shared_is = refl;
      keys_are = ap (λ (k : Table). k.places) read.ensures.keys ∙ ap (λ (d : ProcessData). d.shared.keys) c.process.view_is;
      position_is = position;
      frames_are = ap (frames_at threads) read.ensures.slot ∙ frames_read keys threads c.process.invariant.0 c.args.slot t on;
      environment_is = subst (λ (d : ProcessData). environment_in timeouts (length d.slots) (other_processes c.args.around.family) d.slots t.id ≡ environment_in timeouts (length (slots_of read.result.keys.now.rows threads)) (other_processes c.args.around.family) (slots_of read.result.keys.now.rows threads) read.result.id) c.process.view_is
          (λ i. environment_in timeouts (length (slots_of (sym read.ensures.keys i).rows threads)) (other_processes c.args.around.family) (slots_of (sym read.ensures.keys i).rows threads) (sym position.id_is i));
    }

pub returns-clause-whole : goal.returns-clause-whole
returns-clause-whole g c =
    let read = c.position_of.ensures in
    let s = c.process.inside in
    record {
      decoded = read.decoded;
      row = read.row;
      held = subst (λ (k : ℕ). is_occupied_at s.threads k ≡ true) (sym read.slot)
          (occupied_by s.keys s.threads c.process.invariant.0 c.args.slot (subst (λ (d : ProcessData). is_some (thread_on_slot d.slots c.args.slot) ≡ true) (sym c.process.view_is) c.requires));
      rows = ap (λ (k : Table). length k.rows) read.keys ∙ c.process.invariant.0;
      standings_are = c.process.invariant.1;
    }

pub returns-clause-numbers : goal.returns-clause-numbers
returns-clause-numbers g c = λ fit.
    let s = c.process.inside in
    let fits = subst NewNumbersFit (sym c.process.view_is) fit in
    record { ids = ids_fit s.keys s.threads c.process.invariant.0 fits.ids; keys_fit = subst (λ (k : Table). NextKeysFit k.places) (sym c.position_of.ensures.keys) fits.keys_fit }
