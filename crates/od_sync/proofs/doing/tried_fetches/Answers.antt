use Rattle.std.proofs.Common.{rules, ap, ◌∙◌, filter}
use Rattle.std.proofs.lemmas.Fn.{filter_same}
use Rattle.od_sync.specs.Doing.{is_tried}
use Rattle.od_sync.proofs.doing.tried_fetches.Goals as goal

pub returns : goal.returns
returns c =
    c.from_vec.ensures
    ∙ (filter_same _ (is_tried c.args.barred.now) _ (λ x b f' k. search rules) c.into_vec-tried.result.items c.retain.new.self.items c.retain.ensures.filtered
    ∙ ap (filter (is_tried c.args.barred.now)) c.into_vec-tried.ensures)
