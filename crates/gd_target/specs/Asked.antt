-- What a request asks for, by what its target names and by its query; and that its written target says so.
use Rattle.std.specs.Prelude.{◌≡◌, ℕ, ◌^◌, ◌<◌, ⊤, true, List, ◌++◌, length, codes, Option, Some, None, All}
use Rattle.gd_names.specs.Escapes.{escaped, is_between}
use Rattle.gd_item.specs.declared.id.ItemId.{ItemId}
use Rattle.gd_item.specs.declared.request.Address.{Address}
use Rattle.gd_item.specs.declared.request.Address.TheVariants.{Id, ByPath, Child}
use Rattle.gd_item.specs.declared.request.Request.{Request}
use Rattle.gd_item.specs.declared.request.Request.TheVariants as request
use Rattle.gd_item.specs.Written.{IfGiven}
use Rattle.gd_json.specs.Changes.{behaviour_text}
use Rattle.gd_target.specs.declared.resource.Resource.{Resource}
use Rattle.gd_target.specs.declared.resource.Resource.TheVariants.{Item, Children, Content, Uploads, Changes, Download, Session}
use Rattle.gd_target.specs.Cuts.{cut}
use Rattle.gd_target.specs.Resources.{named_by}
use Rattle.gd_target.specs.Targets.{target_text}

abbrev pub resource_asked : Request → Resource
resource_asked (request.Get at) = Item at
resource_asked (request.Children at after) = Children at
resource_asked (request.MakeFolder at name behaviour) = Children at
resource_asked (request.Put at bytes behaviour condition) = Content at
resource_asked (request.Patch at name parent condition) = Item at
resource_asked (request.Delete at condition) = Item at
resource_asked (request.Content at) = Content at
resource_asked (request.Download id version) = Download id version
resource_asked (request.OpenSession at name behaviour condition defer) = Uploads at
resource_asked (request.Fragment session first last total bytes) = Session session
resource_asked (request.SessionStatus session) = Session session
resource_asked (request.CancelSession session) = Session session
resource_asked (request.Finish session) = Session session
resource_asked (request.Delta token) = Changes

abbrev pub name_query : Option (List ℕ) → Option (List ℕ)
name_query None = None
name_query (Some name) = Some (codes "$skiptoken=" ++ escaped name)

abbrev pub token_query : Option (List ℕ) → Option (List ℕ)
token_query None = None
token_query (Some token) = Some (codes "token=" ++ token)

abbrev pub query_asked : Request → Option (List ℕ)
query_asked (request.Children at after) = name_query after
query_asked (request.Put at bytes behaviour condition) = Some (codes "@microsoft.graph.conflictBehavior=" ++ behaviour_text behaviour)
query_asked (request.Delta token) = token_query token
query_asked r = None

-- what the types say of the numbers of a request
abbrev pub IsKnownId : ItemId → Type 0
IsKnownId id = id.0 < 2 ^ 64

abbrev pub IsKnownAddress : Address → Type 0
IsKnownAddress (Id id) = IsKnownId id
IsKnownAddress (ByPath path) = ⊤
IsKnownAddress (Child id name) = IsKnownId id

abbrev pub IsKnown : Request → Type 0
IsKnown (request.Get at) = IsKnownAddress at
IsKnown (request.Children at after) = IsKnownAddress at
IsKnown (request.MakeFolder at name behaviour) = IsKnownAddress at
IsKnown (request.Put at bytes behaviour condition) = IsKnownAddress at
IsKnown (request.Patch at name parent condition) = IsKnownAddress at × IfGiven IsKnownId parent
IsKnown (request.Delete at condition) = IsKnownAddress at
IsKnown (request.Content at) = IsKnownAddress at
IsKnown (request.Download id version) = IsKnownId id × (version < 2 ^ 64)
IsKnown (request.OpenSession at name behaviour condition defer) = IsKnownAddress at
IsKnown (request.Fragment session first last total bytes) = (session < 2 ^ 64) × (first < 2 ^ 64) × (last < 2 ^ 64) × (total < 2 ^ 64)
IsKnown (request.SessionStatus session) = session < 2 ^ 64
IsKnown (request.CancelSession session) = session < 2 ^ 64
IsKnown (request.Finish session) = session < 2 ^ 64
IsKnown (request.Delta token) = ⊤

-- the written target names what is asked for, has the query, and is made of visible bytes of ASCII
pub record IsReadAgain (r : Request) : Type 0 where
  pub resource : named_by (target_text r) ≡ Some (resource_asked r)
  pub query : (cut 63 (target_text r)).1 ≡ query_asked r
  pub some : 0 < length (target_text r)
  pub visible : All (λ b. is_between 33 126 b ≡ true) (target_text r)
