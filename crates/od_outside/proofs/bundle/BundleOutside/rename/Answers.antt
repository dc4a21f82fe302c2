use Rattle.std.proofs.Common.{refl}
use Rattle.od_outside.proofs.Lifting.{worked}
use Rattle.od_outside.proofs.bundle.BundleOutside.rename.Goals as goal

pub returns : goal.returns
returns g c = record {
  goes_on = record { remote = (refl, g.met.R.Remote.goes_refl _); tree = (refl, c.rename.ensures.goes); keeper = (refl, g.met.K.Keeper.goes_refl _) };
  cause = c.rename.ensures.cause;
  told = worked _ _ c.rename.ensures.log;
}
