-- Which stop a fault of the outside, or of the pages, is.
use Rattle.od_keeper.specs.declared.fault.KeeperFault.{KeeperFault}
use Rattle.od_keeper.specs.declared.fault.KeeperFault.TheVariants as keeper
use Rattle.od_mirror.specs.declared.mirror.PullFault.{PullFault}
use Rattle.od_mirror.specs.declared.mirror.PullFault.TheVariants as page
use Rattle.od_remote.specs.declared.again.ServeFault.{ServeFault}
use Rattle.od_remote.specs.declared.again.ServeFault.TheVariants as serve
use Rattle.od_remote.specs.declared.remote.AskFault.{AskFault}
use Rattle.od_remote.specs.declared.remote.AskFault.TheVariants as ask
use Rattle.od_pull.specs.declared.stop.PullStop.{PullStop}
use Rattle.od_pull.specs.declared.stop.PullStop.TheVariants as stop

abbrev pub serve_stop : ServeFault → PullStop
serve_stop serve.Failed = stop.LinkFault
serve_stop serve.Unserved = stop.Unserved
serve_stop (serve.Bad bytes) = stop.BadReply bytes
serve_stop serve.Memory = stop.Memory

abbrev pub ask_stop : AskFault → PullStop
ask_stop ask.Failed = stop.LinkFault
ask_stop (ask.Bad bytes) = stop.BadReply bytes
ask_stop ask.Memory = stop.Memory

abbrev pub page_stop : PullFault → PullStop
page_stop (page.BadPages id) = stop.BadPages id
page_stop page.Memory = stop.Memory

abbrev pub keeper_stop : KeeperFault → PullStop
keeper_stop keeper.Failed = stop.KeeperFault
keeper_stop keeper.Memory = stop.Memory
