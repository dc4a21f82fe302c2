use Rattle.std.proofs.Common.{refl}
use Rattle.od_outside.proofs.Lifting.{loaded}
use Rattle.od_outside.proofs.bundle.BundleOutside.load.Goals as goal

pub returns : goal.returns
returns g c = record {
  goes_on = record { remote = (refl, g.met.R.Remote.goes_refl _); tree = (refl, g.met.T.Tree.goes_refl _); keeper = (refl, c.load.ensures.goes) };
  cause = c.load.ensures.cause;
  told = loaded _ _ c.load.ensures.images;
}
