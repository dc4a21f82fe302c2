use Rattle.gd_http.proofs.Said.{replies_cut}
use Rattle.gd_http.proofs.laws.replies_cut_anywhere.Goals as goal

pub returns : goal.returns
returns c = replies_cut
