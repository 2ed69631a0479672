use Rattle.std.proofs.Common.{rules, refl, ap, ◌∙◌}
use Rattle.runs.specs.Worlds.{kept}
use Rattle.berths.proofs.Acts.{kept_is}
use Rattle.berths.proofs.berth.Berth.begin.Goals as goal

pub returns : goal.returns
returns g c = (c.file.result.now, search rules, (c.in_ok-station.station, c.in_ok-station.deed), (c.file.result, c.in_ok-station.ensures, refl), record { says = c.said.ensures; writes_down = search rules; runs_on = c.then_some.ensures ∙ kept_is c.lives.result c.in_ok-station.station ∙ ap (λ l. kept l c.in_ok-station.station) c.lives.ensures })
