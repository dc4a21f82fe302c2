-- What is read of the matches of `clap`, and when there are none.
use Rattle.std.proofs.Common.{◌≡◌, ◌⊎◌, List, [], ◌∷◌, Option, Some, None, inl, inr, refl, sym, ap, ap₂, ◌∙◌, false, codes}
use Rattle.std.specs.Option.{option_map_or}
use Rattle.std.specs.Str.{bytes_eq}
use Rattle.clap.specs.Words.{App, IsAmong, Kinds, Row, Rule, Text, fault_of, first_of, first_value, matches_of, rows_of, with_rule}
use Rattle.clap.specs.declared.error.ErrorKind.{ErrorKind}
use Rattle.clap.specs.declared.error.ErrorKind.TheVariants.{OutOfMemory}
use Rattle.clap.specs.declared.parser.matches.Found.{Found}
use Rattle.clap.proofs.WalkLemmas.{first_value-rows}
use Rattle.od_words.specs.Found.{found_in, unless_refused, flag_in}

pub found_text : (f : Found) (id t u : Text) → Some u ≡ first_value f id → t ≡ u → first_of id (rows_of f) ≡ Some t
found_text f id t u found same = sym (first_value-rows f id) ∙ sym found ∙ ap (λ (x : Text). Some x) (sym same)

pub found_no_text : (f : Found) (id : Text) → None ≡ first_value f id → first_of id (rows_of f) ≡ None
found_no_text f id found = sym (first_value-rows f id) ∙ sym found

-- whether a flag was given, by its text
pub found_flag : (f : Found) (id : Text) (o : Option Text) → o ≡ first_value f id → option_map_or (λ text. bytes_eq text (codes "true")) o false ≡ flag_in id (rows_of f)
found_flag f id o found = ap (λ (x : Option Text). option_map_or (λ text. bytes_eq text (codes "true")) x false) (found ∙ first_value-rows f id)

pub found_rows : (app : App) (words : List Text) (rows : List Row) → fault_of app words ≡ [] → rows ≡ matches_of app words → found_in app words ≡ Some rows
found_rows app words rows passes is = ap (λ (kinds : Kinds). unless_refused kinds (matches_of app words)) passes ∙ ap (λ (x : List Row). Some x) (sym is)

-- an error that is no want of memory is of a kind for which the words are refused
pub refused : (kinds : Kinds) (rows : List Row) (kind : ErrorKind) → (kind ≡ OutOfMemory → ⊥) → (kind ≡ OutOfMemory) ⊎ IsAmong kind kinds → unless_refused kinds rows ≡ None
refused [] rows kind other is = elim is [ inl h ↦ absurd (other h) | inr h ↦ absurd h ]
refused (k ∷ kinds) rows kind other is = refl

-- one more option
pub one_more : (new old app : App) (made rule : Rule) → new ≡ with_rule old made → old ≡ app → made ≡ rule → new ≡ with_rule app rule
one_more new old app made rule is before same = is ∙ ap₂ with_rule before same
