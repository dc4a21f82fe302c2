use Rattle.gd_item.proofs.LogsFeed.{rises-feed, feed-last, feed-pages}
use Rattle.gd_item.proofs.log_laws.pages_give_each_change_once.Goals as goal

pub returns-clause-rises : goal.returns-clause-rises
returns-clause-rises c = rises-feed

pub returns-clause-later : goal.returns-clause-later
returns-clause-later c = feed-last

pub returns-clause-rest : goal.returns-clause-rest
returns-clause-rest c = feed-pages
