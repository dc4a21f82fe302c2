use Rattle.std.proofs.Common.{refl}
use Rattle.od_outside.proofs.Lifting.{worked}
use Rattle.od_outside.proofs.bundle.BundleOutside.asides.Goals as goal

pub returns-clause-calls : goal.returns-clause-calls
returns-clause-calls g c = record {
  goes_on = record { remote = (refl, g.met.R.Remote.goes_refl _); tree = (refl, c.asides.ensures.goes); keeper = (refl, g.met.K.Keeper.goes_refl _) };
  cause = c.asides.ensures.cause;
  told = worked _ _ c.asides.ensures.log;
}
