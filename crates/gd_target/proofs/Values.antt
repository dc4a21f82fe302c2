-- The values of a query's member, part after part.
use Rattle.std.proofs.Common.{◌≡◌, ℕ, List, [], Option, Some, None, Ok, Err, refl, sym, ap, ◌∙◌}
use Rattle.std.specs.List.{cons_option, filter_map}
use Rattle.gd_target.specs.declared.fault.RequestFault.TheVariants.{Invalid}
use Rattle.gd_target.specs.declared.query.QueryMember.{QueryMember}
use Rattle.gd_target.specs.Cuts.{cut, parts, parts_after}
use Rattle.gd_target.specs.Queries.{once, value_in}
use Rattle.gd_target.proofs.Cutting.{parts_cut}

abbrev pub values : QueryMember → List ℕ → List (List ℕ)
values m text = filter_map (value_in m) (parts 38 text)

abbrev pub values_after : QueryMember → Option (List ℕ) → List (List ℕ)
values_after m rest = filter_map (value_in m) (parts_after 38 rest)

values_step : (m : QueryMember) (text part : List ℕ) (rest value : Option (List ℕ)) → cut 38 text ≡ (part, rest) → value ≡ value_in m part
    → values m text ≡ cons_option value (values_after m rest)
values_step m text part rest value is value_is = rw (parts_cut 38 text, is, value_is) refl

pub goes_on : (m : QueryMember) (query text part : List ℕ) (rest value found more : Option (List ℕ)) → cut 38 text ≡ (part, rest) → value ≡ value_in m part
    → once (cons_option found (values m text)) ≡ once (values m query)
    → ((others : List (List ℕ)) → once (cons_option found (cons_option value others)) ≡ once (cons_option more others))
    → once (cons_option more (values_after m rest)) ≡ once (values m query)
goes_on m query text part rest value found more is value_is before step =
    sym (step (values_after m rest)) ∙ ap (λ vs. once (cons_option found vs)) (sym (values_step m text part rest value is value_is)) ∙ before

once_alone : (more : Option (List ℕ)) → once (cons_option more []) ≡ Ok more
once_alone None = refl
once_alone (Some value) = refl

pub ends : (m : QueryMember) (query text part : List ℕ) (rest value found more : Option (List ℕ)) → cut 38 text ≡ (part, rest) → value ≡ value_in m part
    → once (cons_option found (values m text)) ≡ once (values m query)
    → ((others : List (List ℕ)) → once (cons_option found (cons_option value others)) ≡ once (cons_option more others))
    → rest ≡ None → once (values m query) ≡ Ok more
ends m query text part rest value found more is value_is before step none =
    sym (goes_on m query text part rest value found more is value_is before step) ∙ ap (λ o. once (cons_option more (values_after m o))) none ∙ once_alone more

pub refused : (m : QueryMember) (query text part : List ℕ) (rest value found : Option (List ℕ)) → cut 38 text ≡ (part, rest) → value ≡ value_in m part
    → once (cons_option found (values m text)) ≡ once (values m query)
    → ((others : List (List ℕ)) → once (cons_option found (cons_option value others)) ≡ Err Invalid) → once (values m query) ≡ Err Invalid
refused m query text part rest value found is value_is before step =
    sym before ∙ ap (λ vs. once (cons_option found vs)) (values_step m text part rest value is value_is) ∙ step (values_after m rest)
