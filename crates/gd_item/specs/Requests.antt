-- The kind of a request, one for each call of the API.
use Rattle.gd_item.specs.declared.request.Request.{Request}
use Rattle.gd_item.specs.declared.request.Request.TheVariants as request
use Rattle.gd_item.specs.declared.request.RequestKind.{RequestKind}
use Rattle.gd_item.specs.declared.request.RequestKind.TheVariants as kind

abbrev pub kind_of : Request → RequestKind
kind_of (request.Get at) = kind.Get
kind_of (request.Children at after) = kind.Children
kind_of (request.MakeFolder at name behaviour) = kind.MakeFolder
kind_of (request.Put at bytes behaviour condition) = kind.Put
kind_of (request.Patch at name parent condition) = kind.Patch
kind_of (request.Delete at condition) = kind.Delete
kind_of (request.Content at) = kind.Content
kind_of (request.Download id version) = kind.Download
kind_of (request.OpenSession at name behaviour condition defer) = kind.OpenSession
kind_of (request.Fragment session first last total bytes) = kind.Fragment
kind_of (request.SessionStatus session) = kind.SessionStatus
kind_of (request.CancelSession session) = kind.CancelSession
kind_of (request.Finish session) = kind.Finish
kind_of (request.Delta token) = kind.Delta
