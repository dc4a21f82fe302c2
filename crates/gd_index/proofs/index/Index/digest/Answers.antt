use Rattle.std.proofs.Common.{None, ap}
use Rattle.gd_index.specs.Indexed.{digest_of_live}
use Rattle.gd_index.proofs.Lines.{got, digested}
use Rattle.gd_index.proofs.index.Index.digest.Goals as goal

pub returns-in-None : goal.returns-in-None
returns-in-None c = ap digest_of_live (got c.args.number c.self.inside.rows.entries c.args.self.now None c.self.invariant.maps.lined c.self.view_is c.in-None.ensures.value)

pub returns-in-Some : goal.returns-in-Some
returns-in-Some c = digested c.args.number c.self.inside.rows.entries c.args.self.now c.in-Some.row.now c.self.invariant.maps.lined c.self.view_is c.in-Some.ensures.value
