use Rattle.od_pull.proofs.Beginning.{emptied}
use Rattle.od_pull.proofs.pulling.begin_anew.Goals as goal

pub returns-in-UploadDifferences : goal.returns-in-UploadDifferences
returns-in-UploadDifferences g c = rw c.in-UploadDifferences.is
    (emptied c.new.result c.new-in-UploadDifferences.result c.new-in-UploadDifferences-2.result c.new-in-UploadDifferences-3.result c.new.ensures c.new-in-UploadDifferences.ensures c.new-in-UploadDifferences-2.ensures
    c.new-in-UploadDifferences-3.ensures c.commit.result c.commit.ensures)
