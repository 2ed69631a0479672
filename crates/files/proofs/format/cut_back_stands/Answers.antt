use Rattle.files.proofs.CutsBack.{cuts_back}
use Rattle.files.proofs.format.cut_back_stands.Goals as goal

pub returns : goal.returns
returns g c f =
    cuts_back (g.F.Format.begins f) (g.F.Format.known f) (g.met.F.Format.within f) (g.met.F.Format.stays f) (g.met.F.Format.cut f)
