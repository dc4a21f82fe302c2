use Rattle.std.proofs.Common.{refl}
use Rattle.od_outside.proofs.Lifting.{asked-again}
use Rattle.od_outside.proofs.bundle.BundleOutside.ask_again.Goals as goal

pub returns : goal.returns
returns g c = record {
  goes_on = record { remote = (refl, c.ask_again.ensures.goes); tree = (refl, g.met.T.Tree.goes_refl _); keeper = (refl, g.met.K.Keeper.goes_refl _) };
  cause = c.ask_again.ensures.cause;
  told = asked-again _ _ c.ask_again.ensures.log;
}
