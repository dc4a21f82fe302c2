use Rattle.std.proofs.Common.{refl}
use Rattle.od_outside.proofs.Lifting.{committed}
use Rattle.od_outside.proofs.bundle.BundleOutside.commit.Goals as goal

pub returns : goal.returns
returns g c = record {
  goes_on = record { remote = (refl, g.met.R.Remote.goes_refl _); tree = (refl, g.met.T.Tree.goes_refl _); keeper = (refl, c.commit.ensures.goes) };
  cause = c.commit.ensures.cause;
  told = committed _ _ c.commit.ensures.images;
}
