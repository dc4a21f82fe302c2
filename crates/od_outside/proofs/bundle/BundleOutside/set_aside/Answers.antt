use Rattle.std.proofs.Common.{refl}
use Rattle.od_outside.proofs.Lifting.{worked}
use Rattle.od_outside.proofs.bundle.BundleOutside.set_aside.Goals as goal

pub returns : goal.returns
returns g c = record {
  goes_on = record { remote = (refl, g.met.R.Remote.goes_refl _); tree = (refl, c.set_aside.ensures.goes); keeper = (refl, g.met.K.Keeper.goes_refl _) };
  cause = c.set_aside.ensures.cause;
  told = worked _ _ c.set_aside.ensures.log;
}
