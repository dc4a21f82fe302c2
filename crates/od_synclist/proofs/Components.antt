-- Empty components, and components that are cut out one after the other.
use Rattle.std.proofs.Common.{◌≡◌, ℕ, Bool, true, false, ◌||◌, List, [], ◌∷◌, ◌++◌, ap, ◌∙◌, inl, inr, arith, length-append}
use Rattle.std.proofs.lemmas.Bool.{cases_Bool, ne_eqb}
use Rattle.std.specs.Bool.{if◌then◌else◌}
use Rattle.std.specs.List.{list_any}
use Rattle.gd_names.specs.Paths.{parts_from}
use Rattle.od_synclist.specs.Rules.{is_slash, is_empty}

-- whether a component is empty of a text that goes on, where the component so far is or is not
abbrev pub is_any_empty : Bool → List ℕ → Bool
is_any_empty so_far [] = so_far
is_any_empty so_far (b ∷ text) = if is_slash b then so_far || is_any_empty true text else is_any_empty false text

any-parts_from : (current text : List ℕ) → list_any is_empty (parts_from current text) ≡ is_any_empty (is_empty current) text
any-parts_from current [] = grind arith
any-parts_from current (b ∷ text) = elim (cases_Bool (is_slash b)) [
  | inl slash ↦ rw slash (ap (λ found. is_empty current || found) (any-parts_from [] text))
  | inr other ↦
      let some : is_empty (current ++ b ∷ []) ≡ false = ne_eqb _ _ (omega (arith, length-append current (b ∷ []))) in
      rw other (any-parts_from (current ++ b ∷ []) text ∙ ap (λ e. is_any_empty e text) some)
]

pub any_empty : (text : List ℕ) → list_any is_empty (parts_from [] text) ≡ is_any_empty true text
any_empty text = any-parts_from [] text
