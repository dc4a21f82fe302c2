-- A look is one of two kinds.
use Rattle.std.proofs.Common.{ℕ}
use Rattle.gd_item.specs.declared.id.ItemId.{ItemId}
use Rattle.gd_item.specs.declared.request.Address.{Address}
use Rattle.gd_item.specs.declared.request.Request.{Request}
use Rattle.gd_item.specs.declared.request.Request.TheVariants.{Get, Children, MakeFolder, Put, Patch, Delete, Content, Download, OpenSession, Fragment, SessionStatus, CancelSession, Finish, Delta}
use Rattle.od_pull.specs.Digests.{IsLook}

-- what holds of both kinds of looks holds of each look
pub by-look : (P : Request → Type 0) → ((at : Address) → P (Content at)) → ((id : ItemId) (version : ℕ) → P (Download id version)) → (request : Request) → IsLook request → P request
by-look P content download (Content at) look = content at
by-look P content download (Download id version) look = download id version
by-look P content download (Get at) look = absurd look
by-look P content download (Children at after) look = absurd look
by-look P content download (MakeFolder at name behaviour) look = absurd look
by-look P content download (Put at bytes behaviour condition) look = absurd look
by-look P content download (Patch at name parent condition) look = absurd look
by-look P content download (Delete at condition) look = absurd look
by-look P content download (OpenSession at name behaviour condition defer) look = absurd look
by-look P content download (Fragment session first last total bytes) look = absurd look
by-look P content download (SessionStatus session) look = absurd look
by-look P content download (CancelSession session) look = absurd look
by-look P content download (Finish session) look = absurd look
by-look P content download (Delta token) look = absurd look
