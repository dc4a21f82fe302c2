use Rattle.std.proofs.Common.{rules}
use Rattle.std.proofs.Common.{ap}
use Rattle.std.specs.Option.{option_copied}
use Rattle.gd_item.specs.Sessions.{session_at}
use Rattle.gd_api.proofs.Sending.{put-so, target-is, target-there}
use Rattle.gd_api.proofs.uploads.commit.Goals as goal

pub returns-in_default-clause-answer : goal.returns-in_default-clause-answer
returns-in_default-clause-answer c = λ log epoch floor list openers session stands live found. target-there (option_copied c.target.result) (session_at c.args.session list) session (c.target.ensures list openers live) found (ap option_copied c.in_default.is)

pub returns-in_err-reply-clause-answer : goal.returns-in_err-reply-clause-answer
returns-in_err-reply-clause-answer c = λ log epoch floor list openers session stands live found. let told = put-so c.put_in.new.store log epoch floor list c.args.bytes.now c.in-Some.target.now c.others-others.result c.args.session session _ (target-is (option_copied c.target.result) (session_at c.args.session list) c.in-Some.target.now session (c.target.ensures list openers live) found (ap option_copied c.in-Some.is)) (c.others-others.ensures list openers live) found (c.in_err-reply.ensures.answer log epoch floor stands) in search (rules, told, c.from_residual.ensures)

pub returns-clause-answer : goal.returns-clause-answer
returns-clause-answer c = λ log epoch floor list openers session stands live found. let told = put-so c.put_in.new.store log epoch floor list c.args.bytes.now c.in-Some.target.now c.others-others.result c.args.session session _ (target-is (option_copied c.target.result) (session_at c.args.session list) c.in-Some.target.now session (c.target.ensures list openers live) found (ap option_copied c.in-Some.is)) (c.others-others.ensures list openers live) found (c.in_ok-reply.ensures.answer log epoch floor stands) in record { ok = (told.ok.0, (told.ok.1, c.end.ensures list openers live)); err = tt }
