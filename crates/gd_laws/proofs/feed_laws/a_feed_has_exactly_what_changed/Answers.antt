use Rattle.gd_laws.proofs.Feeds.{feed-log, once-log}
use Rattle.gd_laws.proofs.feed_laws.a_feed_has_exactly_what_changed.Goals as goal

pub returns-clause-entries : goal.returns-clause-entries
returns-clause-entries c = feed-log

pub returns-clause-once : goal.returns-clause-once
returns-clause-once c = once-log
