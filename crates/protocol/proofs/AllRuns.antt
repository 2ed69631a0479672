-- All that is promised of events, for every order that keeps the laws and every test of it that is right; and computed runs.
-- Assumes nothing.
use Rattle.std.proofs.Common.{leb, refl}
use Rattle.std.proofs.lemmas.Bool.{leb-true, le-leb}
use Rattle.protocol.specs.Order.{Order, Lawful, Truthful, numbers}
use Rattle.protocol.specs.Runs.{RunsOf, ShownRises, ShownTells}
use Rattle.protocol.proofs.Plays.{plays_by_rules_lem, run_reaches_lem, runs_all_lem, run_understood_lem, run_levels_hold_lem, run_grows_lem, run_takes_lem, run_goes_back_lem}
use Rattle.protocol.proofs.Raises.{run_rises_lem, run_rises_on_lem, raise_promises_lem}

pub all_runs : (O : Order) → Lawful O → RunsOf O
all_runs O L below T =
    record {
      plays_by_rules = plays_by_rules_lem O L below T;
      run_reaches = run_reaches_lem O L below T;
      runs_all = runs_all_lem O L below T;
      run_understood = run_understood_lem O L below T;
      run_levels_hold = run_levels_hold_lem O L below T;
      run_grows = run_grows_lem O L below T;
      run_takes = run_takes_lem O L below T;
      run_goes_back = run_goes_back_lem O L below T;
      run_rises = run_rises_lem O L below T;
      run_rises_on = run_rises_on_lem O L below T;
      raise_promises = raise_promises_lem O L below T;
    }

pub numbers_truthful : Truthful numbers leb
numbers_truthful = record { sound = leb-true; complete = le-leb }

pub shown_rises : ShownRises
shown_rises = (refl, refl, refl, refl)

pub shown_tells : ShownTells
shown_tells = (refl, refl, refl)
