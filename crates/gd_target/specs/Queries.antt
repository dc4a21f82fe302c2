-- The members of a query. Those that no request has are ignored, and so is one without `=`.
use Rattle.std.specs.Prelude.{ℕ, List, [], ◌∷◌, Option, Some, None, Result, Ok, Err, codes, option_map}
use Rattle.std.specs.Borrow.{Bor}
use Rattle.std.specs.List.{filter_map}
use Rattle.gd_json.specs.Links.{past}
use Rattle.gd_target.specs.declared.fault.RequestFault.{RequestFault}
use Rattle.gd_target.specs.declared.fault.RequestFault.TheVariants.{Invalid}
use Rattle.gd_target.specs.declared.query.QueryMember.{QueryMember}
use Rattle.gd_target.specs.declared.query.QueryMember.TheVariants.{Behaviour, SkipToken, Token}
use Rattle.gd_target.specs.Cuts.{parts_after}

-- a part of a text that may be there
abbrev pub shown : Option (Bor (List ℕ)) → Option (List ℕ)
shown found = option_map (λ text. text.now) found

-- one value, if any; several are refused
abbrev pub once : List (List ℕ) → Result (Option (List ℕ)) RequestFault
once [] = Ok None
once (value ∷ []) = Ok (Some value)
once (value ∷ other ∷ values) = Err Invalid

abbrev pub or_else : Option (List ℕ) → Option (List ℕ) → Option (List ℕ)
or_else None other = other
or_else (Some text) other = Some text

-- the value, where the part is `name=value` of this member. The `@` of a name may be escaped.
unfoldable pub value_in : QueryMember → List ℕ → Option (List ℕ)
value_in Behaviour part =
    or_else (past (codes "@microsoft.graph.conflictBehavior=") part) (past (codes "%40microsoft.graph.conflictBehavior=") part)
value_in SkipToken part = past (codes "$skiptoken=") part
value_in Token part = past (codes "token=") part

-- the values that a query has for a member
abbrev pub query_values : QueryMember → Option (List ℕ) → List (List ℕ)
query_values member query = filter_map (value_in member) (parts_after 38 query)
