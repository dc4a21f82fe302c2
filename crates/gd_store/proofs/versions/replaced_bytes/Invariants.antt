use Rattle.std.proofs.Common.{◌≡◌, drop}
use Rattle.gd_item.specs.Versions.{replaced_bytes}
use Rattle.gd_store.proofs.versions.replaced_bytes.Given as goal

abbrev pub invariant-loop-version : goal.invariant-loop-version
invariant-loop-version l = replaced_bytes l.number l.content l.replaced ≡ replaced_bytes l.number l.content (drop l.version-index l.replaced)
