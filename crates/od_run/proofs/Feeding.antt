-- What is known of the feed stays so.
use Rattle.std.proofs.Common.{◌≡◌, ℕ, ◌^◌, ◌<◌, ◌≤◌, Bool, true, false, ◌||◌, not, cond, nat_eq, nat_lt, List, [], ◌∷◌, ◌++◌, max, codes, Option, Some, None, refl, ap, sym, subst, ◌∙◌, append_assoc}
use Rattle.std.specs.Cmp.Lexicographic.{pointwise}
use Rattle.gd_names.proofs.Small.{neither, not-below}
use Rattle.gd_item.specs.Answers.{answer_of}
use Rattle.gd_item.specs.Pages.{Latest, Bad, Lost, asked_unless, asked_by_token}
use Rattle.gd_item.specs.Sessions.{State, held}
use Rattle.gd_item.specs.Steps.{number_of, state_of}
use Rattle.gd_item.specs.Tokens.{token_text, token_of_text}
use Rattle.gd_item.specs.declared.reply.Page.{Page}
use Rattle.gd_item.specs.declared.reply.PageLink.{PageLink}
use Rattle.gd_item.specs.declared.reply.PageLink.TheVariants as link
use Rattle.gd_item.specs.declared.reply.Reply.{Reply}
use Rattle.gd_item.specs.declared.reply.Reply.TheVariants as reply
use Rattle.gd_item.specs.declared.reply.Resync.TheVariants.{ApplyDifferences, UploadDifferences}
use Rattle.gd_item.specs.declared.request.Request.{Request}
use Rattle.gd_item.specs.declared.request.Request.TheVariants.{Delta}
use Rattle.gd_item.specs.declared.step.Step.{Step}
use Rattle.gd_item.specs.declared.step.Step.TheVariants as step
use Rattle.gd_item.specs.declared.step.Who.TheVariants.{Own}
use Rattle.gd_item.specs.declared.token.Token.{Token}
use Rattle.gd_item.proofs.ReadTokens.{token-exact, token-read}
use Rattle.gd_laws.proofs.Logs.{epoch-fits, number-fits}
use Rattle.gd_laws.proofs.Pages.{asked-token, last-of-none, last-of-token}
use Rattle.gd_laws.proofs.Tokens.{last-served, next-served}
use Rattle.gd_laws.specs.Served.{is_page, is_served_token}
use Rattle.od_run.specs.Good.{IfPulled, IsFeedOf, IsPulledAt, IsToken}
use Rattle.od_run.specs.Knowing.{Feed, feed_after, feed_asked, feed_heard, feed_told, pulled_by, pulled_to, token_after}
use Rattle.od_run.specs.Moments.{is_own_delta}
use Rattle.od_run.proofs.Lasts.{last-hit, last-missed}

-- ---- a token that is served is spelt as one
read-by : (state : State) (latest : Bool) (read : Option Token) → is_page (cond latest Latest (asked_by_token state read)) ≡ true → (token : Token) × (read ≡ Some token)
read-by state true read is = absurd (cc is)
read-by state false None is = absurd (cc is)
read-by state false (Some token) is = (token, refl)

served-read : (state : State) (text : List ℕ) → is_served_token state (Some text) ≡ true → IsToken (Some text)
served-read state text is = read-by state (pointwise nat_eq text (codes "latest")) (token_of_text text) is

next-token : (drive : List Step) (size : ℕ) (token : Option (List ℕ)) (page : Page) (next : PageLink) → reply.Page page ≡ answer_of drive size (Delta token) → page.link ≡ next
    → IsToken (token_after token (reply.Page (record page { link = next })))
next-token drive size token page (link.Next text) is ends = served-read (state_of drive) text (next-served drive token size page text is ends)
next-token drive size token page (link.Delta text) is ends = served-read (state_of drive) text (last-served drive token size page text is ends)

token-told : (drive : List Step) (size : ℕ) (token : Option (List ℕ)) (given : Reply) → given ≡ answer_of drive size (Delta token) → IsToken token → IsToken (token_after token given)
token-told drive size token (reply.Page page) is known = next-token drive size token page page.link is refl
token-told drive size token (reply.Gone resync) is known = tt
token-told drive size token given is known = known

-- ---- the token at the end of a pull
-- a token whose start is past the drive's number is not served
within : (state : State) (token : Token) (other ahead old : Bool) → (ahead ≡ false → token.start ≤ (held state).number)
    → is_page (asked_unless (cond other (Some (Lost UploadDifferences)) (cond ahead (Some Bad) (cond old (Some (Lost ApplyDifferences)) None))) token) ≡ true → token.start ≤ (held state).number
within state token true ahead old low is = absurd (cc is)
within state token false true old low is = absurd (cc is)
within state token false false true low is = absurd (cc is)
within state token false false false low is = low refl

start-low : (state : State) (text : List ℕ) (token : Token) → token_of_text text ≡ Some token → is_served_token state (Some text) ≡ true → token.start ≤ (held state).number
start-low state text token read is =
    within state token (not (nat_eq token.epoch state.epoch)) (nat_lt (held state).number token.position || nat_lt (held state).number token.start)
    (nat_lt (max token.position token.start) state.floor)
    (λ ahead. not-below (held state).number token.start (neither (nat_lt (held state).number token.position) (nat_lt (held state).number token.start) ahead).1)
    (sym (ap is_page (asked-token state text token read)) ∙ is)

pub record EndsAt (drive : List Step) (text : List ℕ) : Type 0 where
  pub read : Token
  pub read_is : token_of_text text ≡ Some read
  pub epoch : read.epoch ≡ (state_of drive).epoch
  pub position : read.position ≡ number_of drive
  pub start : read.start ≤ read.position

ends-at : (drive : List Step) (text : List ℕ) (start : ℕ) → start < 2 ^ 64 → text ≡ token_text (record { epoch = (state_of drive).epoch; position = number_of drive; start = start })
    → is_served_token (state_of drive) (Some text) ≡ true → EndsAt drive text
ends-at drive text start fits is served =
    let read : Token = record { epoch = (state_of drive).epoch; position = number_of drive; start = start } in
    let read_is : token_of_text text ≡ Some read = ap token_of_text is ∙ token-read read (epoch-fits drive) (number-fits drive) fits in
    record { read = read; read_is = read_is; epoch = refl; position = refl; start = start-low (state_of drive) text read read_is served }

ends-token : (drive : List Step) (size : ℕ) (token : Option (List ℕ)) (page : Page) (text : List ℕ) → IsToken token → reply.Page page ≡ answer_of drive size (Delta token) → page.link ≡ link.Delta text → EndsAt drive text
ends-token drive size None page text known is ends =
    ends-at drive text (number_of drive) (number-fits drive) (last-of-none drive size text page is ends).token (last-served drive None size page text is ends)
ends-token drive size (Some sent) page text known is ends =
    ends-at drive text (known.0).start (token-exact sent known.0 known.1).3 (last-of-token drive size sent text known.0 page known.1 is ends).token (last-served drive (Some sent) size page text is ends)

-- ---- the feed
abbrev asking : Option (List ℕ) → Step
asking token = step.Ask Own (Delta token) true true

pulled-link : (drive : List Step) (size : ℕ) (token : Option (List ℕ)) (page : Page) (next : PageLink) → IsToken token → reply.Page page ≡ answer_of drive size (Delta token) → page.link ≡ next
    → IfPulled (IsPulledAt (drive ++ asking token ∷ []) (token_after token (reply.Page (record page { link = next })))) (pulled_to drive next)
pulled-link drive size token page (link.Next text) known is ends = tt
pulled-link drive size token page (link.Delta text) known is ends =
    let at : EndsAt drive text = ends-token drive size token page text known is ends in
    record {
      more = asking token ∷ [];
      grown = refl;
      last = last-hit is_own_delta drive (asking token) refl;
      text = text;
      text_is = refl;
      read = at.read;
      read_is = at.read_is;
      epoch = at.epoch;
      position = at.position;
      start = at.start;
    }

pulled-told : (drive : List Step) (size : ℕ) (token : Option (List ℕ)) (given : Reply) → IsToken token → given ≡ answer_of drive size (Delta token)
    → IfPulled (IsPulledAt (drive ++ asking token ∷ []) (token_after token given)) (pulled_by drive given)
pulled-told drive size token (reply.Page page) known is = pulled-link drive size token page page.link known is refl
pulled-told drive size token given known is = tt

-- a request for changes that is heard, and one that is not
feed-told : (drive : List Step) (size : ℕ) (feed : Feed) (token : Option (List ℕ)) → token ≡ feed.token → IsFeedOf drive feed
    → IsFeedOf (drive ++ asking token ∷ []) (feed_told drive feed (answer_of drive size (Delta token)))
feed-told drive size feed token same is =
    let known : IsToken token = subst IsToken (sym same) is.token in
    let given : Reply = answer_of drive size (Delta token) in
    record {
      token = subst (λ t. IsToken (token_after t given)) same (token-told drive size token given refl known);
      pulled = subst (λ t. IfPulled (IsPulledAt (drive ++ asking token ∷ []) (token_after t given)) (pulled_by drive given)) same (pulled-told drive size token given known refl);
      unasked = λ begun. absurd (cc begun);
    }

feed-unheard : (drive more : List Step) (feed : Feed) → IsFeedOf drive feed → IsFeedOf (drive ++ more) (feed_asked feed)
feed-unheard drive more feed is = record { token = is.token; pulled = tt; unasked = λ begun. absurd (cc begun) }

feed-heard : (drive : List Step) (size : ℕ) (feed : Feed) (token : Option (List ℕ)) (served heard : Bool) → token ≡ feed.token → IsFeedOf drive feed
    → IsFeedOf (drive ++ step.Ask Own (Delta token) served heard ∷ []) (feed_heard drive size feed (Delta token) served heard)
feed-heard drive size feed token true true same is = feed-told drive size feed token same is
feed-heard drive size feed token true false same is = feed-unheard drive (step.Ask Own (Delta token) true false ∷ []) feed is
feed-heard drive size feed token false heard same is = feed-unheard drive (step.Ask Own (Delta token) false heard ∷ []) feed is

-- another step
pulled-other : (drive : List Step) (other : Step) (token : Option (List ℕ)) (pulled : Option (List Step)) → is_own_delta other ≡ false → IfPulled (IsPulledAt drive token) pulled
    → IfPulled (IsPulledAt (drive ++ other ∷ []) token) pulled
pulled-other drive other token None elsewhere is = tt
pulled-other drive other token (Some pulled) elsewhere is = record {
  more = is.more ++ other ∷ [];
  grown = ap (λ log. log ++ other ∷ []) is.grown ∙ append_assoc pulled is.more (other ∷ []);
  last = last-missed is_own_delta drive other elsewhere ∙ is.last;
  text = is.text;
  text_is = is.text_is;
  read = is.read;
  read_is = is.read_is;
  epoch = is.epoch;
  position = is.position;
  start = is.start;
}

pub feed-other : (drive : List Step) (other : Step) (feed : Feed) → is_own_delta other ≡ false → IsFeedOf drive feed → IsFeedOf (drive ++ other ∷ []) feed
feed-other drive other feed elsewhere is = record { token = is.token; pulled = pulled-other drive other feed.token feed.pulled elsewhere is.pulled; unasked = is.unasked }

abbrev pub Asks : Request → Option (List ℕ) → Type 0
Asks (Delta token) known = token ≡ known
Asks request known = Unit {0}

pub feed-own : (drive : List Step) (size : ℕ) (feed : Feed) (request : Request) (served heard : Bool) → Asks request feed.token → IsFeedOf drive feed
    → IsFeedOf (drive ++ step.Ask Own request served heard ∷ []) (feed_after drive size feed request served heard)
feed-own drive size feed (Delta token) served heard asks is = feed-heard drive size feed token served heard asks is
feed-own drive size feed request served heard asks is = feed-other drive (step.Ask Own request served heard) feed refl is
