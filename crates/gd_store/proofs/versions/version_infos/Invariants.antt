use Rattle.std.proofs.Common.{◌≡◌, drop, map, filter, ◌++◌}
use Rattle.gd_item.specs.Versions.{info_of}
use Rattle.gd_laws.specs.Given.{is_version_of}
use Rattle.gd_store.proofs.versions.version_infos.Given as goal

abbrev pub invariant-loop-version : goal.invariant-loop-version
invariant-loop-version l = l.infos.items ++ map info_of (filter (is_version_of l.number) (drop l.version-index l.replaced)) ≡ map info_of (filter (is_version_of l.number) l.replaced)
