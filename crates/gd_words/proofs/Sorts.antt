-- What `clap` says of words that it does not take is a question, or it is none, whatever kind it chooses.
use Rattle.std.proofs.Common.{◌≡◌, ◌⊎◌, inl, inr, ℕ, zero, suc, Bool, true, false, List, [], ◌∷◌, Option, Some, None, if◌then◌else◌, subst, true≢false, length, ◌&&◌, not, nat_lt, ◌==◌, IfOk, Result, find, is_some, ◌||◌, drop, slice_get, encode_utf8, codes, refl, ap, sym, ◌∙◌}
use Rattle.std.proofs.lemmas.Result.{IfOk-weaker}
use Rattle.std.specs.List.{list_any}
use Rattle.std.specs.Option.{option_map_or}
use Rattle.std.specs.Str.{bytes_eq, chars}
use Rattle.clap.specs.Faults.{action_fault, bundle_fault, bundle_step_fault, built_fault, check_fault, count_fault, default_fault, defaults_fault, entered_fault, flag_word_fault, flags_fault, given_default_fault, level_fault, long_fault, option_fault, other_fault, positional_fault, react_fault, repeat_fault, set_fault, settle_fault, short_fault, step_fault, stray_fault, turn_fault, use_fault, values_fault, walk_fault, word_fault}
use Rattle.clap.specs.Kinds.{Kinds, IsAmong, check_kinds, or_else, range_kinds, request_kinds, value_kinds, values_kinds}
use Rattle.clap.specs.Walk.{Held, Names, Row, Rule, Step, Text, Waiting, Walk, action_of, answers_to, arg_by_id, arg_by_index, arg_by_long, arg_by_short, attached_value, finished, has_row, is_empty, is_pending, most_values, nothing_held, reacted, settled, subcommand_met, takes_several, value, values_or_missing, walk, walk_from, word_met, walked, with_default}
use Rattle.clap.specs.Simple.{App, Shape, argument_words, built, entered, label_of, names_of}
use Rattle.clap.specs.Facts.{unwrap_or_range}
use Rattle.clap.specs.Lexer.{long_of, short_of}
use Rattle.clap.specs.declared.builder.ArgAction.{ArgAction}
use Rattle.clap.specs.declared.builder.ArgAction.TheVariants.{Set, Append, SetTrue, SetFalse, Count, Help, HelpShort, HelpLong, Version}
use Rattle.clap.specs.declared.builder.ValueParser.{ValueParser}
use Rattle.clap.specs.declared.error.ErrorKind.{ErrorKind}
use Rattle.clap.specs.declared.error.ErrorKind.TheVariants.{InvalidValue, WrongNumberOfValues, TooFewValues, TooManyValues, OutOfMemory, DisplayHelp, InvalidSubcommand}
use Rattle.clap.specs.Words.{fault_of, subcommand_of}
use Rattle.gd_words.specs.Options.{program_app}
use Rattle.gd_words.specs.Words.{IsRefused, Reads, Tells, asks, is_question, serving_of, serving_under, unless_refused}
use Rattle.gd_words.specs.declared.asked.Asked.{Asked}
use Rattle.gd_words.specs.declared.asked.Asked.TheVariants.{Serve, Told, Refused}
use Rattle.gd_words.specs.declared.asked.Serving.{Serving}

abbrev pub AllAs : Bool → Kinds → Type 0
AllAs question [] = Unit {0}
AllAs question (kind ∷ kinds) = (is_question kind ≡ question) × AllAs question kinds

pub record Alike (kinds : Kinds) : Type 0 where
  pub question : Bool
  pub all : AllAs question kinds

none : Alike []
none = record { question = false; all = tt }

one : (kind : ErrorKind) → Alike (kind ∷ [])
one kind = record { question = is_question kind; all = (refl, tt) }

first : (a b : Kinds) → Alike a → Alike b → Alike (or_else a b)
first [] b here next = next
first (kind ∷ kinds) b here next = here

either : (t : Bool) (a b : Kinds) → Alike a → Alike b → Alike (if t then a else b)
either true a b x y = x
either false a b x y = y

either_of_three : (t u : Bool) (a b c : Kinds) → Alike a → Alike b → Alike c → Alike (if t then a else (if u then b else c))
either_of_three true u a b c x y z = x
either_of_three false true a b c x y z = y
either_of_three false false a b c x y z = z

when : {X : Type 0} (f : X → Kinds) (o : Option X) → ((x : X) → Alike (f x)) → Alike (option_map_or f o [])
when f None all = none
when f (Some x) all = all x

of_values : (ignore_case : Bool) (parser : ValueParser) (vs : List Text) → Alike (values_kinds ignore_case parser vs)
of_values ignore_case parser [] = none
of_values ignore_case parser (v ∷ vs) = first _ _ (either _ _ _ none (one _)) (of_values ignore_case parser vs)

ranges : (missing same right few many : Bool) → Alike (if missing then InvalidValue ∷ [] else (if same then (if right then [] else WrongNumberOfValues ∷ [])
    else (if few then TooFewValues ∷ [] else (if many then TooManyValues ∷ [] else []))))
ranges true same right few many = one _
ranges false true true few many = none
ranges false true false few many = one _
ranges false false right true many = one _
ranges false false right false true = one _
ranges false false right false false = none

of_range : (least most n : ℕ) → Alike (range_kinds least most n)
of_range least most n = ranges (nat_lt 0 least && n == 0) (least == most) (least == n) (nat_lt n least) (nat_lt most n)

of_request : (action : ArgAction) → Alike (request_kinds action)
of_request Help = one _
of_request HelpShort = one _
of_request HelpLong = one _
of_request Version = one _
of_request _ = none

of_set : (again : Bool) (a : Rule) (values : List Text) (rows : List Row) → Alike (set_fault again a values rows)
of_set again a values rows = first _ _ (either _ _ _ (one _) none) (of_values _ _ values)

of_count : (a : Rule) (values : List Text) (rows : List Row) → Alike (count_fault a values rows)
of_count a [] rows = either _ _ _ none (one _)
of_count a (v ∷ vs) rows = of_values _ _ (v ∷ vs)

of_action : (action : ArgAction) (again : Bool) (a : Rule) (values : List Text) (rows : List Row) → Alike (action_fault action again a values rows)
of_action Set again a values rows = of_set again a values rows
of_action SetTrue again a values rows = of_set again a values rows
of_action SetFalse again a values rows = of_set again a values rows
of_action Append again a values rows = of_values _ _ values
of_action Count again a values rows = of_count a values rows
of_action other again a values rows = of_request other

of_use : (again : Bool) (a : Rule) (values : List Text) (rows : List Row) → Alike (use_fault again a values rows)
of_use again a values rows = first _ _ (of_range (unwrap_or_range a.range).start_inclusive (most_values a) (length values)) (of_action (action_of a) again a (values_or_missing a values) rows)

of_settle : (c : List Rule) (again : Bool) (h : Held) → Alike (settle_fault c again h)
of_settle c again h = when _ h.pending (λ p. when (λ a. use_fault again a p.1 h.rows) (arg_by_id c p.0) (λ a. of_use again a p.1 h.rows))

of_react : (c : List Rule) (again : Bool) (a : Rule) (values : List Text) (h : Held) → Alike (react_fault c again a values h)
of_react c again a values h = first _ _ (of_settle c again h) (of_use again a values (settled c h).rows)

of_option : (c : List Rule) (again : Bool) (a : Rule) (v : Option Text) (h : Held) → Alike (option_fault c again a v h)
of_option c again a (Some v) h = of_react c again a (v ∷ []) h
of_option c again a None h = of_settle c again h

of_long : (c : List Rule) (again : Bool) (a : Option Rule) (v : Option Text) (h : Held) → Alike (long_fault c again a v h)
of_long c again None v h = one _
of_long c again (Some a) v h = either_of_three _ _ _ _ _ (of_option c again a v h) (one _) (of_react c again a [] h)

of_short : (c : List Rule) (again : Bool) (a : Option Rule) (rest : Text) (h : Held) (next : Held → Kinds) → ((h : Held) → Alike (next h)) → Alike (short_fault c again a rest h next)
of_short c again None rest h next all = one _
of_short c again (Some a) rest h next all = either _ _ _ (of_option c again a (attached_value rest) h) (first _ _ (of_react c again a [] h) (all (reacted c a [] h)))

of_bundle_step : (c : List Rule) (again : Bool) (x : Option ℕ) (flags : Text) (skip : ℕ) (h : Held) (next : Text → ℕ → Held → Kinds)
    → ((flags : Text) (skip : ℕ) (h : Held) → Alike (next flags skip h)) → Alike (bundle_step_fault c again x flags skip h next)
of_bundle_step c again None flags skip h next all = none
of_bundle_step c again (Some x) flags zero h next all =
    let rest = drop (length (encode_utf8 x)) flags in of_short c again (arg_by_short c x) rest h (next rest 0) (λ h. all rest 0 h)
of_bundle_step c again (Some x) flags (suc skip) h next all = all (drop (length (encode_utf8 x)) flags) skip h

of_flags : (c : List Rule) (again : Bool) (k : ℕ) (flags : Text) (skip : ℕ) (h : Held) → Alike (flags_fault c again k flags skip h)
unfolding flags_fault
of_flags c again zero flags skip h = none
of_flags c again (suc k) flags skip h = of_bundle_step c again (slice_get (chars flags) 0) flags skip h (flags_fault c again k) (of_flags c again k)

of_flag_word : (c : List Rule) (again : Bool) (named : Option (Text × Option Text)) (word : Text) (h : Held) → Alike (flag_word_fault c again named word h)
of_flag_word c again (Some p) word h = of_long c again (arg_by_long c p.0) p.1 h
of_flag_word c again None word h = when (λ flags. bundle_fault c again flags h) (short_of word) (λ flags. of_flags c again (length flags) flags h.skip (record h { skip = 0 }))

-- the command has no `help` among its commands
abbrev HasNoHelp : Shape → Type 0
HasNoHelp s = s.disable_help_subcommand ≡ true

abbrev HaveNoHelp : List Shape → Type 0
HaveNoHelp [] = Unit {0}
HaveNoHelp (s ∷ subs) = HasNoHelp s × HaveNoHelp subs

no_help : (named disabled : Bool) (a : Kinds) → disabled ≡ true → Alike (if named && not disabled then a else [])
no_help true true a e = none
no_help true false a e = absurd (true≢false (sym e))
no_help false disabled a e = none

of_other : (s : Shape) → HasNoHelp s → (named : Option Text) (word : Text) (h : Held) → Alike (other_fault s named word h)
of_other s e (Some name) word h = no_help (bytes_eq name (codes "help")) s.disable_help_subcommand (DisplayHelp ∷ InvalidSubcommand ∷ []) e
of_other s e None word h = either _ _ _ none (of_flag_word s.rules s.args_override_self (long_of word) word h)

of_word : (s : Shape) → HasNoHelp s → (names : Names) (is_trailing : Bool) (waiting : Waiting) (word : Text) (h : Held) → Alike (word_fault s names is_trailing waiting word h)
of_word s e names is_trailing waiting word h = either is_trailing _ _ none (of_other s e (subcommand_met names waiting word) word h)

of_stray : (s : Shape) → Alike (stray_fault s)
of_stray s = either s.is_leaf _ _ (one _) (record { question = false; all = (refl, (refl, tt)) })

of_step : (s : Shape) (position : ℕ) (h : Held) (step : Step) → Alike (step_fault s position h step)
of_step s position h value = strays (arg_by_index s.rules position)
  where
    strays : (o : Option Rule) → Alike (option_map_or (λ a. positional_fault s.rules s.args_override_self a h) o (stray_fault s))
    strays None = of_stray s
    strays (Some a) = either (is_pending a h.pending && takes_several a) _ _ none (of_settle s.rules s.args_override_self h)
of_step s position h _ = none

of_turn : (s : Shape) → HasNoHelp s → (names : Names) (w : Walk) (word : Text) → Alike (turn_fault s names w word)
of_turn s e names w word =
    let met = word_met s.rules names w.is_trailing w.waiting w.position word w.held in
    either (is_some w.stopped) _ _ none (first _ _ (of_word s e names w.is_trailing w.waiting word w.held) (of_step s w.position met.0 met.1))

of_walk : (s : Shape) → HasNoHelp s → (names : Names) (w : Walk) (words : List Text) → Alike (walk_fault s names w words)
unfolding walk_fault
of_walk s e names w [] = none
of_walk s e names w (word ∷ words) = first _ _ (of_turn s e names w word) (of_walk s e names (walked s.rules names w word) words)

of_given_default : (a : Rule) (values : List Text) → Alike (given_default_fault a values)
of_given_default a values = first _ _ (of_request (action_of a)) (of_values _ _ values)

of_default : (rows : List Row) (a : Rule) → Alike (default_fault rows a)
of_default rows a = either (has_row a.id rows || is_empty a.defaults) _ _ none (of_given_default a a.defaults)

of_defaults : (rows : List Row) (rules : List Rule) → Alike (defaults_fault rows rules)
unfolding defaults_fault
of_defaults rows [] = none
of_defaults rows (a ∷ rest) = first _ _ (of_default rows a) (of_defaults (with_default rows a) rest)

of_check : (help subcommand argument : Bool) → Alike (check_kinds help subcommand argument)
of_check true subcommand argument = one _
of_check false true argument = one _
of_check false false true = one _
of_check false false false = none

of_level : (s : Shape) → HasNoHelp s → (names : Names) (h : Held) (words : List Text) (has_subcommand : Bool) (below : Kinds) → Alike below → Alike (level_fault s names h words has_subcommand below)
of_level s e names h words has_subcommand below under =
    let end = (walk s.rules names h words).held in
    let checks : Alike (check_fault s (finished s.rules end) has_subcommand) = of_check _ _ _ in
    let defaults : Alike (defaults_fault (settled s.rules end).rows s.rules) = of_defaults (settled s.rules end).rows s.rules in
    first _ _ (of_walk s e names (walk_from h) words) (first _ _ under (first _ _ (of_settle s.rules s.args_override_self end) (first _ _ defaults checks)))

of_entered : (names : Shape → Bool) (subs : List Shape) → HaveNoHelp subs → (words : List Text)
    → Alike (option_map_or (λ s. level_fault s [] nothing_held words false []) (find names subs) [])
of_entered names [] all words = none
of_entered names (s ∷ subs) all words = pick (of_entered names subs all.1 words) (names s)
  where
    pick : Alike (option_map_or (λ s. level_fault s [] nothing_held words false []) (find names subs) []) → (t : Bool)
        → Alike (option_map_or (λ s. level_fault s [] nothing_held words false []) (if t then Some s else find names subs) [])
    pick rest true = of_level s all.0 [] nothing_held words false [] none
    pick rest false = rest

of_app : (a : App) → HasNoHelp a.top → HaveNoHelp a.subs → (h : Held) (words : List Text) → Alike (built_fault a h words)
of_app a e subs h words =
    let stop = (walk a.top.rules (names_of a) h words).stopped in
    let below : Alike (entered_fault a stop) = when (λ p. option_map_or (λ s. level_fault s [] nothing_held p.1 false []) (find (λ s. answers_to p.0 (label_of s)) a.subs) []) stop
    (λ p. of_entered (λ s. answers_to p.0 (label_of s)) a.subs subs p.1) in
    of_level a.top e (names_of a) h words (is_some (entered a stop)) (entered_fault a stop) below

of_words : (words : List Text) → Alike (fault_of program_app words)
of_words words = of_app (built program_app) refl (refl, tt) nothing_held (argument_words program_app words)

-- ---- what one of the kinds says of all

any_of : (question : Bool) (kind : ErrorKind) (kinds : Kinds) → AllAs question (kind ∷ kinds) → list_any is_question (kind ∷ kinds) ≡ question
any_of true kind kinds all = rw all.0 refl
any_of false kind [] all = rw all.0 refl
any_of false kind (next ∷ kinds) all = rw all.0 (any_of false next kinds all.1)

kind_as : (question : Bool) (kinds : Kinds) (kind : ErrorKind) → AllAs question kinds → IsAmong kind kinds → is_question kind ≡ question
kind_as question [] kind all among = absurd among
kind_as question (k ∷ kinds) kind all (inl same) = ap is_question same ∙ all.0
kind_as question (k ∷ kinds) kind all (inr among) = kind_as question kinds kind all.1 among

asks_as : (kinds : Kinds) (kind : ErrorKind) → Alike kinds → IsAmong kind kinds → list_any is_question kinds ≡ is_question kind
asks_as [] kind alike among = absurd among
asks_as (k ∷ kinds) kind alike among = any_of alike.question k kinds alike.all ∙ sym (kind_as alike.question (k ∷ kinds) kind alike.all among)

not_found : (kinds : Kinds) (kind : ErrorKind) (found : Option Serving) → IsAmong kind kinds → unless_refused kinds found ≡ None
not_found [] kind found among = absurd among
not_found (k ∷ kinds) kind found among = refl

among_them : (kinds : Kinds) (kind : ErrorKind) → (kind ≡ OutOfMemory → ⊥) → (kind ≡ OutOfMemory) ⊎ IsAmong kind kinds → IsAmong kind kinds
among_them kinds kind other (inl memory) = absurd (other memory)
among_them kinds kind other (inr among) = among

no_memory : (kind : ErrorKind) → is_question kind ≡ true → kind ≡ OutOfMemory → ⊥
no_memory kind question memory = true≢false (sym question ∙ ap is_question memory)

told : (words : List Text) (kind : ErrorKind) (asked : Asked) → (kind ≡ OutOfMemory) ⊎ IsAmong kind (fault_of program_app words) → Tells kind asked → Reads words asked
unfolding serving_of asks
told words kind (Serve serving) has tells = absurd tells
told words kind (Told text) has tells =
    asks_as _ kind (of_words words) (among_them _ kind (no_memory kind tells) has) ∙ tells
told words kind (Refused text) has tells =
    let among = among_them _ kind tells.1 has in
    (not_found _ kind _ among, asks_as _ kind (of_words words) among ∙ tells.0)

module _ (app : App) (is : app ≡ program_app) (words : List Text) where
  pub all_told : {E : Type 0} (kind : ErrorKind) (r : Result Asked E) → (kind ≡ OutOfMemory) ⊎ IsAmong kind (fault_of app words) → IfOk r (Tells kind) → IfOk r (Reads words)
  all_told kind r has tells =
      let here : (kind ≡ OutOfMemory) ⊎ IsAmong kind (fault_of program_app words) = subst (λ (a : App). (kind ≡ OutOfMemory) ⊎ IsAmong kind (fault_of a words)) is has in
      IfOk-weaker r _ _ (λ asked told_of. told words kind asked here told_of) tells

  taken : (found : Option Serving) → fault_of app words ≡ [] → found ≡ serving_under (subcommand_of app words) → serving_of words ≡ found
  unfolding serving_of
  taken found none_of is_found =
      ap (λ (a : App). unless_refused (fault_of a words) (serving_under (subcommand_of a words))) (sym is)
      ∙ ap (λ (kinds : Kinds). unless_refused kinds (serving_under (subcommand_of app words))) none_of ∙ sym is_found

  pub served : (serving : Serving) → fault_of app words ≡ [] → Some serving ≡ serving_under (subcommand_of app words) → serving_of words ≡ Some serving
  served serving none_of is_found = taken (Some serving) none_of is_found

  asks_nothing : fault_of app words ≡ [] → asks words ≡ false
  unfolding asks
  asks_nothing none_of = ap (λ (a : App). list_any is_question (fault_of a words)) (sym is) ∙ ap (list_any is_question) none_of

  refused : (asked : Asked) → fault_of app words ≡ [] → None ≡ serving_under (subcommand_of app words) → IsRefused asked → Reads words asked
  refused (Serve serving) none_of is_found is_refused = absurd is_refused
  refused (Told text) none_of is_found is_refused = absurd is_refused
  refused (Refused text) none_of is_found is_refused = (taken None none_of is_found, asks_nothing none_of)

  pub all_refused : {E : Type 0} (r : Result Asked E) → fault_of app words ≡ [] → None ≡ serving_under (subcommand_of app words) → IfOk r IsRefused → IfOk r (Reads words)
  all_refused r none_of is_found is_refused = IfOk-weaker r _ _ (λ asked refusal. refused asked none_of is_found refusal) is_refused
