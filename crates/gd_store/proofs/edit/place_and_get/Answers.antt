use Rattle.std.proofs.Common.{refl, ap, sym, ◌∙◌}
use Rattle.std.specs.Option.{option_copied}
use Rattle.gd_item.specs.Inventory.{with_place}
use Rattle.gd_store.proofs.Records.{changed-recorded, lives}
use Rattle.gd_store.proofs.edit.place_and_get.Goals as goal

pub unreachable-requires : goal.unreachable-requires
unreachable-requires c = lives c.args.items.now c.args.number c.requires.there c.requires.not_root (sym (ap option_copied c.in_default.is) ∙ c.get.ensures)

pub returns-clause-ok : goal.returns-clause-ok
returns-clause-ok c = (
  changed-recorded (with_place c.args.change c.args.parent c.args.name) (λ x. refl) c.args.items.now c.place.new.self c.args.number c.in-Some.item.now c.in_ok-made.made c.kind_of-made.result
      c.requires.not_root (sym (ap option_copied c.in-Some.is) ∙ c.get.ensures) c.in_ok-place.ensures.ok c.in_ok-made.ensures c.kind_of-made.ensures,
  c.in_ok-place.ensures.ok,
)
