use Rattle.std.proofs.Common.{refl}
use Rattle.od_outside.proofs.Lifting.{asked-once}
use Rattle.od_outside.proofs.bundle.BundleOutside.ask.Goals as goal

pub returns : goal.returns
returns g c = record {
  goes_on = record { remote = (refl, c.ask.ensures.goes); tree = (refl, g.met.T.Tree.goes_refl _); keeper = (refl, g.met.K.Keeper.goes_refl _) };
  cause = c.ask.ensures.cause;
  told = asked-once _ _ c.ask.ensures.log;
}
