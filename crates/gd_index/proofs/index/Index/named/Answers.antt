use Rattle.std.proofs.Common.{None, Some}
use Rattle.gd_index.proofs.Naming.{named-got, named-none, as-sibling}
use Rattle.gd_index.proofs.index.Index.named.Goals as goal

pub returns-in_default-clause-item : goal.returns-in_default-clause-item
returns-in_default-clause-item c = named-none c.args.self.now c.args.parent c.args.name.now c.in_default.ensures

pub returns-in_default-clause-sibling : goal.returns-in_default-clause-sibling
returns-in_default-clause-sibling c = as-sibling c.args.self.now c.args.parent c.args.name.now None (named-none c.args.self.now c.args.parent c.args.name.now c.in_default.ensures)

pub returns-in-None-clause-item : goal.returns-in-None-clause-item
returns-in-None-clause-item c =
    named-got c.self.inside.rows.entries c.args.self.now c.args.parent c.in-Some.number c.args.name.now None c.self.invariant.maps.lined c.self.invariant.maps.rises c.self.view_is c.in-Some.ensures c.in-None.ensures.value

pub returns-in-None-clause-sibling : goal.returns-in-None-clause-sibling
returns-in-None-clause-sibling c =
    as-sibling c.args.self.now c.args.parent c.args.name.now None
    (named-got c.self.inside.rows.entries c.args.self.now c.args.parent c.in-Some.number c.args.name.now None c.self.invariant.maps.lined c.self.invariant.maps.rises c.self.view_is c.in-Some.ensures c.in-None.ensures.value)

pub returns-in-Some-get-clause-item : goal.returns-in-Some-get-clause-item
returns-in-Some-get-clause-item c =
    named-got c.self.inside.rows.entries c.args.self.now c.args.parent c.in-Some.number c.args.name.now (Some c.in-Some-get.row.now) c.self.invariant.maps.lined c.self.invariant.maps.rises c.self.view_is c.in-Some.ensures c.in-Some-get.ensures.value

pub returns-in-Some-get-clause-sibling : goal.returns-in-Some-get-clause-sibling
returns-in-Some-get-clause-sibling c =
    as-sibling c.args.self.now c.args.parent c.args.name.now (Some c.in-Some-get.row.now.item)
    (named-got c.self.inside.rows.entries c.args.self.now c.args.parent c.in-Some.number c.args.name.now (Some c.in-Some-get.row.now) c.self.invariant.maps.lined c.self.invariant.maps.rises c.self.view_is c.in-Some.ensures c.in-Some-get.ensures.value)
