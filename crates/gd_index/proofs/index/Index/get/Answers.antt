use Rattle.std.proofs.Common.{None, Some}
use Rattle.gd_index.proofs.Lines.{got}
use Rattle.gd_index.proofs.index.Index.get.Goals as goal

pub returns-in-None : goal.returns-in-None
returns-in-None c = got c.args.number c.self.inside.rows.entries c.args.self.now None c.self.invariant.maps.lined c.self.view_is c.in-None.ensures.value

pub returns-in-Some : goal.returns-in-Some
returns-in-Some c = got c.args.number c.self.inside.rows.entries c.args.self.now (Some c.in-Some.row.now) c.self.invariant.maps.lined c.self.view_is c.in-Some.ensures.value
