use Rattle.std.proofs.Common.{sym, subst, ◌∙◌}
use Rattle.gd_laws.proofs.Allowed.{may-put, room-for-one, next-number, kept-fits, not-refused}
use Rattle.gd_store.proofs.There.{settled-there}
use Rattle.gd_laws.proofs.Sounds.{over-file}
use Rattle.gd_store.specs.Kept.{IsKept}
use Rattle.gd_store.proofs.Kept.{new-map, under-map}
use Rattle.gd_store.proofs.items.Items.put_under_and_get.Goals as goal

pub add_file_and_get-requires-clause-room : goal.add_file_and_get-requires-clause-room
add_file_and_get-requires-clause-room c =
    let may = may-put c.args.self.now c.args.parent c.args.name.now c.args.bytes.now c.args.behaviour c.args.condition.now c.args.others c.in_ok-settle.settle c.in_ok-settle.ensures.ok.1 (sym c.in_ok-settle.ensures.ok.0) in
    room-for-one c.args.self.now c.in_ok-settle.settle c.in-Free.free _ c.in-Free.is may.room

pub add_file_and_get-requires-clause-number : goal.add_file_and_get-requires-clause-number
add_file_and_get-requires-clause-number c =
    let may = may-put c.args.self.now c.args.parent c.args.name.now c.args.bytes.now c.args.behaviour c.args.condition.now c.args.others c.in_ok-settle.settle c.in_ok-settle.ensures.ok.1 (sym c.in_ok-settle.ensures.ok.0) in
    next-number c.args.self.now _ _ may.room

pub add_file_and_get-requires-clause-kept : goal.add_file_and_get-requires-clause-kept
add_file_and_get-requires-clause-kept c =
    let may = may-put c.args.self.now c.args.parent c.args.name.now c.args.bytes.now c.args.behaviour c.args.condition.now c.args.others c.in_ok-settle.settle c.in_ok-settle.ensures.ok.1 (sym c.in_ok-settle.ensures.ok.0) in
    kept-fits c.args.self.now _ c.args.others c.args.bytes.now c.in_ok-copy.copy c.in_ok-copy.ensures may.room

pub put_bytes_and_get-requires-clause-number : goal.put_bytes_and_get-requires-clause-number
put_bytes_and_get-requires-clause-number c =
    let may = may-put c.args.self.now c.args.parent c.args.name.now c.args.bytes.now c.args.behaviour c.args.condition.now c.args.others c.in_ok-settle.settle c.in_ok-settle.ensures.ok.1 (sym c.in_ok-settle.ensures.ok.0) in
    next-number c.args.self.now _ _ may.room

pub put_bytes_and_get-requires-clause-kept : goal.put_bytes_and_get-requires-clause-kept
put_bytes_and_get-requires-clause-kept c =
    let may = may-put c.args.self.now c.args.parent c.args.name.now c.args.bytes.now c.args.behaviour c.args.condition.now c.args.others c.in_ok-settle.settle c.in_ok-settle.ensures.ok.1 (sym c.in_ok-settle.ensures.ok.0) in
    kept-fits c.args.self.now _ c.args.others c.args.bytes.now c.in_ok-copy.copy c.in_ok-copy.ensures may.room

pub unreachable-requires : goal.unreachable-requires
unreachable-requires c =
    let may = may-put c.args.self.now c.args.parent c.args.name.now c.args.bytes.now c.args.behaviour c.args.condition.now c.args.others c.in_ok-settle.settle c.in_ok-settle.ensures.ok.1 (sym c.in_ok-settle.ensures.ok.0) in
    not-refused c.in_ok-settle.settle c.in-Refuse.is may.had

pub put_bytes_and_get-requires-clause-there : goal.put_bytes_and_get-requires-clause-there
put_bytes_and_get-requires-clause-there c =
    settled-there c.args.self.now c.args.parent c.args.name.now c.args.behaviour c.in-Over.number (sym c.in_ok-settle.ensures.ok.1 ∙ c.in-Over.is)

pub add_file_and_get-requires-clause-map : goal.add_file_and_get-requires-clause-map
add_file_and_get-requires-clause-map c =
    let may = may-put c.args.self.now c.args.parent c.args.name.now c.args.bytes.now c.args.behaviour c.args.condition.now c.args.others c.in_ok-settle.settle c.in_ok-settle.ensures.ok.1 (sym c.in_ok-settle.ensures.ok.0) in
    new-map c.args.self.now c.args.parent c.args.name.now c.in-Free.free c.args.bytes.now c.args.behaviour c.args.others c.in_ok-settle.settle (subst IsKept c.self.view_is c.self.invariant) (sym c.in_ok-settle.ensures.ok.1) c.in-Free.is may
    c.in_ok-copy.copy c.in_ok-copy.ensures

pub put_bytes_and_get-requires-clause-map : goal.put_bytes_and_get-requires-clause-map
put_bytes_and_get-requires-clause-map c =
    let may = may-put c.args.self.now c.args.parent c.args.name.now c.args.bytes.now c.args.behaviour c.args.condition.now c.args.others c.in_ok-settle.settle c.in_ok-settle.ensures.ok.1 (sym c.in_ok-settle.ensures.ok.0) in
    under-map c.args.self.now c.args.parent c.args.name.now c.args.bytes.now c.args.behaviour c.args.others c.in-Over.number c.in_ok-settle.settle (subst IsKept c.self.view_is c.self.invariant) (sym c.in_ok-settle.ensures.ok.1) c.in-Over.is may
    c.in_ok-copy.copy c.in_ok-copy.ensures

pub put_bytes_and_get-requires-clause-file : goal.put_bytes_and_get-requires-clause-file
put_bytes_and_get-requires-clause-file c =
    over-file c.args.self.now c.args.parent c.args.name.now c.args.behaviour c.in-Over.number (subst IsKept c.self.view_is c.self.invariant).map (sym c.in_ok-settle.ensures.ok.1 ∙ c.in-Over.is)
