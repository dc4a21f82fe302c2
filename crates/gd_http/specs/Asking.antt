-- What a whole request asks for: the methods of each resource, and what is read for each. A target that names nothing
-- comes first, then a method that it has not, then a query, a header or a body that is not as it has to be.
use Rattle.std.specs.Prelude.{ℕ, cond, List, [], ◌∷◌, length, nat_eq, codes, Option, Some, None, option_map, unwrap_or, Result, Ok, Err}
use Rattle.gd_names.specs.Escapes.{unescaped}
use Rattle.gd_names.specs.declared.conflict.Conflict.{Conflict}
use Rattle.gd_names.specs.declared.conflict.Conflict.TheVariants.{Replace}
use Rattle.gd_item.specs.declared.fault.ErrorCode.TheVariants as code
use Rattle.gd_item.specs.declared.request.Address.{Address}
use Rattle.gd_item.specs.declared.request.Request.{Request}
use Rattle.gd_item.specs.declared.request.Request.TheVariants as request
use Rattle.gd_json.specs.declared.fault.JsonFault.{JsonFault}
use Rattle.gd_json.specs.Bodies.{body, or_empty}
use Rattle.gd_json.specs.Changes.{behaviour_of, folder_body_at, patch_at, begin_at}
use Rattle.gd_json.specs.Values.{one_of}
use Rattle.gd_target.specs.declared.fault.RequestFault.{RequestFault}
use Rattle.gd_target.specs.declared.fault.RequestFault.TheVariants.{NotFound, NotAllowed, Invalid, Memory}
use Rattle.gd_target.specs.declared.query.QueryMember.TheVariants.{Behaviour, SkipToken, Token}
use Rattle.gd_target.specs.declared.resource.Resource.{Resource}
use Rattle.gd_target.specs.declared.resource.Resource.TheVariants.{Item, Children, Content, Uploads, Versions, Version, Changes, Download, Session, Batch}
use Rattle.gd_target.specs.Cuts.{cut}
use Rattle.gd_target.specs.Faults.{◌>>=◌, ok_or}
use Rattle.gd_target.specs.Queries.{once, query_values}
use Rattle.gd_target.specs.Resources.{named_by}
use Rattle.gd_frame.specs.declared.frame.Field.{Field}
use Rattle.gd_http.specs.declared.incoming.Incoming.{Incoming}
use Rattle.gd_http.specs.declared.incoming.Incoming.TheVariants as incoming
use Rattle.gd_http.specs.declared.method.Method.{Method}
use Rattle.gd_http.specs.declared.method.Method.TheVariants.{Get, Put, Post, Patch, Delete, Other}
use Rattle.gd_http.specs.Headers.{text_value, condition_of, range_of}

unfoldable pub method_of : List ℕ → Method
method_of text =
    unwrap_or (one_of ((codes "GET", Get) ∷ (codes "PUT", Put) ∷ (codes "POST", Post) ∷ (codes "PATCH", Patch) ∷ (codes "DELETE", Delete) ∷ []) text) Other

-- ---- what the query says

-- a put without a behaviour replaces
abbrev pub behaviour_in : Option (List ℕ) → Result Conflict RequestFault
behaviour_in None = Ok Replace
behaviour_in (Some text) = ok_or Invalid (behaviour_of text)

unfoldable pub behaviour_at : Option (List ℕ) → Result Conflict RequestFault
behaviour_at query = once (query_values Behaviour query) >>= behaviour_in

abbrev pub name_in : Option (List ℕ) → Result (Option (List ℕ)) RequestFault
name_in None = Ok None
name_in (Some segment) = ok_or Invalid (option_map Some (unescaped segment))

unfoldable pub after_at : Option (List ℕ) → Result (Option (List ℕ)) RequestFault
after_at query = once (query_values SkipToken query) >>= name_in

-- a token is taken as it comes
abbrev pub text_in : Option (List ℕ) → Result (Option (List ℕ)) RequestFault
text_in None = Ok None
text_in (Some value) = text_value value >>= λ text. Ok (Some text)

unfoldable pub token_at : Option (List ℕ) → Result (Option (List ℕ)) RequestFault
token_at query = once (query_values Token query) >>= text_in

-- ---- what a body says

-- whatever is wrong with a body
abbrev pub or_invalid : {A : Type 0} → Result A JsonFault → Result A RequestFault
or_invalid (Ok x) = Ok x
or_invalid (Err e) = Err Invalid

-- ---- the methods of each resource

abbrev pub ask : Request → Result Incoming RequestFault
ask request = Ok (incoming.Ask request)

unfoldable pub on_item : Address → Method → List Field → List ℕ → Result Incoming RequestFault
on_item at Get fields bytes = ask (request.Get at)
on_item at Patch fields bytes = do
  condition ← condition_of fields
  patch ← or_invalid (body patch_at bytes)
  ask (request.Patch at patch.name patch.parent condition)
on_item at Delete fields bytes = condition_of fields >>= λ condition. ask (request.Delete at condition)
on_item at Put fields bytes = Err NotAllowed
on_item at Post fields bytes = Err NotAllowed
on_item at Other fields bytes = Err NotAllowed

unfoldable pub on_children : Address → Method → Option (List ℕ) → List ℕ → Result Incoming RequestFault
on_children at Get query bytes = after_at query >>= λ after. ask (request.Children at after)
on_children at Post query bytes = or_invalid (body folder_body_at bytes) >>= λ folder. ask (request.MakeFolder at folder.name folder.behaviour)
on_children at Put query bytes = Err NotAllowed
on_children at Patch query bytes = Err NotAllowed
on_children at Delete query bytes = Err NotAllowed
on_children at Other query bytes = Err NotAllowed

unfoldable pub on_content : Address → Method → Option (List ℕ) → List Field → List ℕ → Result Incoming RequestFault
on_content at Get query fields bytes = ask (request.Content at)
on_content at Put query fields bytes = do
  behaviour ← behaviour_at query
  condition ← condition_of fields
  ask (request.Put at bytes behaviour condition)
on_content at Post query fields bytes = Err NotAllowed
on_content at Patch query fields bytes = Err NotAllowed
on_content at Delete query fields bytes = Err NotAllowed
on_content at Other query fields bytes = Err NotAllowed

-- no body is an empty one
unfoldable pub on_uploads : Address → Method → List Field → List ℕ → Result Incoming RequestFault
on_uploads at Post fields bytes = do
  condition ← condition_of fields
  begin ← or_invalid (body begin_at (or_empty bytes))
  ask (request.OpenSession at begin.name begin.behaviour condition begin.defer)
on_uploads at Get fields bytes = Err NotAllowed
on_uploads at Put fields bytes = Err NotAllowed
on_uploads at Patch fields bytes = Err NotAllowed
on_uploads at Delete fields bytes = Err NotAllowed
on_uploads at Other fields bytes = Err NotAllowed

-- a file is made of a whole session by a request without a body
abbrev pub finish : ℕ → List ℕ → Result Incoming RequestFault
finish session bytes = cond (nat_eq (length bytes) 0) (ask (request.Finish session)) (Err Invalid)

unfoldable pub on_session : ℕ → Method → List Field → List ℕ → Result Incoming RequestFault
on_session session Get fields bytes = ask (request.SessionStatus session)
on_session session Put fields bytes = range_of fields >>= λ range. ask (request.Fragment session range.first range.last range.total bytes)
on_session session Delete fields bytes = ask (request.CancelSession session)
on_session session Post fields bytes = finish session bytes
on_session session Patch fields bytes = Err NotAllowed
on_session session Other fields bytes = Err NotAllowed

-- what is read by `GET` alone
abbrev pub only_get : Method → Result Incoming RequestFault → Result Incoming RequestFault
only_get Get read = read
only_get Put read = Err NotAllowed
only_get Post read = Err NotAllowed
only_get Patch read = Err NotAllowed
only_get Delete read = Err NotAllowed
only_get Other read = Err NotAllowed

abbrev pub only_post : Method → Result Incoming RequestFault → Result Incoming RequestFault
only_post Post read = read
only_post Get read = Err NotAllowed
only_post Put read = Err NotAllowed
only_post Patch read = Err NotAllowed
only_post Delete read = Err NotAllowed
only_post Other read = Err NotAllowed

unfoldable pub on_changes : Method → Option (List ℕ) → Result Incoming RequestFault
on_changes method query = only_get method (token_at query >>= λ token. ask (request.Delta token))

unfoldable pub asked_of : Resource → Method → Option (List ℕ) → List Field → List ℕ → Result Incoming RequestFault
asked_of (Item at) method query fields bytes = on_item at method fields bytes
asked_of (Children at) method query fields bytes = on_children at method query bytes
asked_of (Content at) method query fields bytes = on_content at method query fields bytes
asked_of (Uploads at) method query fields bytes = on_uploads at method fields bytes
asked_of (Versions id) method query fields bytes = only_get method (Ok (incoming.Versions id))
asked_of (Version id version) method query fields bytes = only_post method (Ok (incoming.Restore id version))
asked_of Changes method query fields bytes = on_changes method query
asked_of (Download id version) method query fields bytes = only_get method (ask (request.Download id version))
asked_of (Session session) method query fields bytes = on_session session method fields bytes
asked_of Batch method query fields bytes = only_post method (Ok (incoming.Batch bytes))

-- ---- the whole request

unfoldable pub asked : List ℕ → List ℕ → List Field → List ℕ → Result Incoming RequestFault
asked method target fields bytes = ok_or NotFound (named_by target) >>= λ resource. asked_of resource (method_of method) (cut 63 target).1 fields bytes

-- a fault as its refusal; want of memory is none of what a message says
abbrev pub or_refuse : Result Incoming RequestFault → Incoming
or_refuse (Ok message) = message
or_refuse (Err NotFound) = incoming.Refuse 404 code.ItemNotFound
or_refuse (Err NotAllowed) = incoming.Refuse 405 code.NotSupported
or_refuse (Err Invalid) = incoming.Refuse 400 code.InvalidRequest
or_refuse (Err Memory) = incoming.Refuse 503 code.GeneralException

-- what a whole request is, by its method, target, headers and body
abbrev pub incoming_of : List ℕ → List ℕ → List Field → List ℕ → Incoming
incoming_of method target fields bytes = or_refuse (asked method target fields bytes)
