use Rattle.od_sync.proofs.KeptPull.{view-items, view-sound, never-bad}
use Rattle.od_sync.proofs.laws.a_pull_mirrors_the_drive.Goals as goal

pub returns-clause-items : goal.returns-clause-items
returns-clause-items c items token old after view pulled are = view-items items token old after are view pulled

pub returns-clause-sound : goal.returns-clause-sound
returns-clause-sound c items token old after view pulled are = view-sound items token old after are view pulled

pub returns-clause-never_bad : goal.returns-clause-never_bad
returns-clause-never_bad c items token old after number pulled are = never-bad items token old after are number pulled
