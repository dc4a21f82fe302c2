use Rattle.std.proofs.Common.{refl, ap, sym, ◌∙◌}
use Rattle.std.specs.Option.{option_copied}
use Rattle.gd_item.specs.Inventory.{with_bytes}
use Rattle.gd_store.proofs.Records.{changed-recorded, file-lives, file-not-root, own-file}
use Rattle.gd_store.proofs.edit.overwrite_and_get.Goals as goal

pub unreachable-requires : goal.unreachable-requires
unreachable-requires c = file-lives c.args.items.now c.args.number c.requires.there c.requires.file (sym (ap option_copied c.in_default.is) ∙ c.get.ensures)

pub written_record-requires : goal.written_record-requires
written_record-requires c = record { file = own-file c.args.items.now c.args.number c.in-Some.item.now (sym (ap option_copied c.in-Some.is) ∙ c.get.ensures) c.requires.file }

pub returns-clause-made : goal.returns-clause-made
returns-clause-made c =
    changed-recorded (with_bytes c.args.change c.args.bytes) (λ x. refl) c.args.items.now c.overwrite.new.self c.args.number c.in-Some.item.now c.in_ok-made.made c.kind_of-made.result
    (file-not-root c.args.items.now c.args.number c.requires.file) (sym (ap option_copied c.in-Some.is) ∙ c.get.ensures) c.in_ok-version.ensures.ok c.in_ok-made.ensures c.kind_of-made.ensures
