use Rattle.std.proofs.Common.{None, cond, ap, ◌∙◌}
use Rattle.std.specs.Option.{option_copied}
use Rattle.gd_item.specs.Inventory.{inventory}
use Rattle.gd_api.specs.Replies.{last_item_name}
use Rattle.gd_api.proofs.Calls.{children-listed}
use Rattle.gd_api.proofs.reads.children_at.Goals as goal

pub returns : goal.returns
returns c = record {
  answer = λ log epoch floor stands.
      let answer = c.in_ok-items.ensures log epoch floor stands in
      let named = c.in_ok-next.ensures ∙ ap (λ items. cond c.in_ok-items.more (last_item_name items) None) c.as_slice.ensures in
      record {
        ok = (answer.ok.0, children-listed (inventory log) (option_copied c.args.after) c.args.size c.args.id.0 c.in_ok-items.items c.in_ok-items.more c.in_ok-next.next answer.ok.1.0 answer.ok.1.1 named);
        err = tt;
      };
}
