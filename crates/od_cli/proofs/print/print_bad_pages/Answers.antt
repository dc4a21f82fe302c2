use Rattle.std.proofs.Common.{◌≡◌, ℕ, List, ◌++◌, codes, ap, ◌∙◌}
use Rattle.gd_item.specs.Ids.{id_text}
use Rattle.od_cli.proofs.Asking.{ok-gives}
use Rattle.od_cli.proofs.print.print_bad_pages.Goals as goal

pub returns : goal.returns
returns c =
    ok-gives c.print_item_id.result (c.print_item_id.new.out ≡ c.args.out.now ++ (codes "item " ++ c.as_str.result.now ++ codes "\nsync BadReply\n"))
    (c.print_item_id.new.out ≡ c.args.out.now ++ (codes "item " ++ id_text c.args.id.0 ++ codes "\nsync BadReply\n")) c.print_item_id.ensures
    (λ printed. printed ∙ ap (λ (i : List ℕ). c.args.out.now ++ (codes "item " ++ i ++ codes "\nsync BadReply\n")) (c.as_str.ensures ∙ c.in_ok-id.ensures))
