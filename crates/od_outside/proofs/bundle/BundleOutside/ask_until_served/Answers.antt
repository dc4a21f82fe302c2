use Rattle.std.proofs.Common.{refl}
use Rattle.od_outside.proofs.Lifting.{asked-served}
use Rattle.od_outside.proofs.bundle.BundleOutside.ask_until_served.Goals as goal

pub returns : goal.returns
returns g c = record {
  goes_on = record { remote = (refl, c.ask_until_served.ensures.goes); tree = (refl, g.met.T.Tree.goes_refl _); keeper = (refl, g.met.K.Keeper.goes_refl _) };
  cause = c.ask_until_served.ensures.cause;
  told = asked-served _ _ c.ask_until_served.ensures.log;
}
