-- The page that is given for a token is what changed past its position, and the last page has all of that.
use Rattle.std.proofs.Common.{◌≡◌, ℕ, ◌-◌, ◌≤◌, Bool, true, false, ◌||◌, not, cond, nat_eq, nat_lt, List, length, map, max, slice_index, codes, Option, Some, None, refl, ap, sym, ◌∙◌, arith}
use Rattle.std.proofs.lemmas.List.{take_all}
use Rattle.std.proofs.lemmas.Map.Entries.{length-values_of}
use Rattle.std.specs.Cmp.Lexicographic.{pointwise, bytes_decides}
use Rattle.std.specs.Map.{values_of, keys_of}
use Rattle.gd_names.proofs.Small.{none-given, not-below}
use Rattle.gd_item.specs.Answers.{answer_of, answer_unless, reply_to, refused, delta_reply, bare_item, bare_reply, shown}
use Rattle.gd_item.specs.Pages.{Asked, Past, Bad, Latest, Lost, asked, asked_unless, asked_by_token, token_fault, is_bad, page_past, page_link}
use Rattle.gd_item.specs.Records.{feed, first_of, last_of}
use Rattle.gd_item.specs.Refused.{Refusal, refuse}
use Rattle.gd_item.specs.Sessions.{State, held}
use Rattle.gd_item.specs.Steps.{after_request, state_of, number_of}
use Rattle.gd_item.specs.Tokens.{token_text, token_of_text}
use Rattle.gd_item.specs.declared.fault.ErrorCode.TheVariants.{InvalidRequest}
use Rattle.gd_item.specs.declared.item.Item.{Item}
use Rattle.gd_item.specs.declared.reply.Page.{Page}
use Rattle.gd_item.specs.declared.reply.PageLink.TheVariants as link
use Rattle.gd_item.specs.declared.reply.Reply.{Reply}
use Rattle.gd_item.specs.declared.reply.Reply.TheVariants as reply
use Rattle.gd_item.specs.declared.reply.Resync.TheVariants.{ApplyDifferences, UploadDifferences}
use Rattle.gd_item.specs.declared.request.Request.{Request}
use Rattle.gd_item.specs.declared.request.Request.TheVariants.{Delta}
use Rattle.gd_item.specs.declared.step.Step.{Step}
use Rattle.gd_item.specs.declared.step.Who.TheVariants.{Own}
use Rattle.gd_item.specs.declared.token.Token.{Token}
use Rattle.gd_laws.specs.Served.{is_page, is_served_token, shown_items, IsPagePast, IsLastPast}

-- ---- a page as it is shown
pub record IsShown (plain : Bool) (whole : Reply) (page : Page) : Type 0 where
  pub full : Page
  pub is : whole ≡ reply.Page full
  pub items : page.items ≡ shown_items plain full.items
  pub link : page.link ≡ full.link

bare-shown : (whole : Reply) (page : Page) → reply.Page page ≡ bare_reply whole → IsShown true whole page
bare-shown (reply.Page full) page is =
    let same : page ≡ record full { items = map bare_item full.items } = cc is in
    record { full = full; is = refl; items = ap (λ (p : Page). p.items) same; link = ap (λ (p : Page). p.link) same }
bare-shown whole page is = absurd (cc is)

pub is-shown : (plain : Bool) (whole : Reply) (page : Page) → reply.Page page ≡ shown plain whole → IsShown plain whole page
is-shown true whole page is = bare-shown whole page is
is-shown false whole page is = record { full = page; is = sym is; items = refl; link = refl }

-- ---- what a token asks for
not-latest : (text : List ℕ) (token : Token) (b : Bool) → pointwise nat_eq text (codes "latest") ≡ b → token_of_text text ≡ Some token → b ≡ false
not-latest text token true same is =
    let latest : text ≡ codes "latest" = (bytes_decides text (codes "latest")).0 same in
    let none : token_of_text text ≡ None = ap token_of_text latest in
    absurd (cc (is, none))
not-latest text token false other is = refl

pub asked-token : (state : State) (text : List ℕ) (token : Token) → token_of_text text ≡ Some token → asked state (Some text) ≡ asked_unless (token_fault state token) token
asked-token state text token is =
    ap (λ b. cond b Latest (asked_by_token state (token_of_text text))) (not-latest text token (pointwise nat_eq text (codes "latest")) refl is)
    ∙ ap (asked_by_token state) is

-- the reply to what a token asks for
abbrev pub given_for : State → ℕ → Asked → Reply
given_for state size a = cond (is_bad a) (refused (refuse 400 InvalidRequest)) (delta_reply state size a)

pub unless-cond : (b : Bool) (r : Refusal) (state : State) (size : ℕ) (request : Request)
    → answer_unless (cond b (Some r) None) state size request ≡ cond b (refused r) (reply_to state (after_request state Own request) size request)
unless-cond true r state size request = refl
unless-cond false r state size request = refl

-- a page that is given, as the drive has it
pub given-page : (log : List Step) (size : ℕ) (token : Option (List ℕ)) (page : Page) → reply.Page page ≡ answer_of log size (Delta token)
    → IsShown (state_of log).plain (given_for (state_of log) size (asked (state_of log) token)) page
given-page log size token page answer =
    is-shown (state_of log).plain (given_for (state_of log) size (asked (state_of log) token)) page
    (answer ∙ ap (shown (state_of log).plain) (unless-cond (is_bad (asked (state_of log) token)) (refuse 400 InvalidRequest) (state_of log) size (Delta token)))

-- ---- the page past a token
served-at : (a b c : Bool) (state : State) (size : ℕ) (token : Token) (full : Page)
    → given_for state size (asked_unless (cond a (Some (Lost UploadDifferences)) (cond b (Some Bad) (cond c (Some (Lost ApplyDifferences)) None))) token) ≡ reply.Page full
    → page_past state token.position token.start size ≡ full
served-at true b c state size token full is = absurd (cc is)
served-at false true c state size token full is = absurd (cc is)
served-at false false true state size token full is = absurd (cc is)
served-at false false false state size token full is = cc is

page-past : (state : State) (position start size : ℕ) (whole : Reply) (page : Page) → (given : IsShown state.plain whole page) → page_past state position start size ≡ given.full
    → IsPagePast state position start size page
page-past state position start size whole page given is = record {
  items = given.items ∙ ap (λ (p : Page). shown_items state.plain p.items) (sym is);
  link = given.link ∙ ap (λ (p : Page). p.link) (sym is);
}

pub page-of-token : (log : List Step) (size : ℕ) (text : List ℕ) (token : Token) (page : Page) → token_of_text text ≡ Some token → reply.Page page ≡ answer_of log size (Delta (Some text))
    → IsPagePast (state_of log) token.position token.start size page
page-of-token log size text token page is answer =
    let given = given-page log size (Some text) page answer in
    page-past (state_of log) token.position token.start size (given_for (state_of log) size (asked (state_of log) (Some text))) page given
    (served-at (not (nat_eq token.epoch (state_of log).epoch)) (nat_lt (number_of log) token.position || nat_lt (number_of log) token.start)
    (nat_lt (max token.position token.start) (state_of log).floor) (state_of log) size token given.full
    (sym (ap (given_for (state_of log) size) (asked-token (state_of log) text token is)) ∙ given.is))

pub page-of-none : (log : List Step) (size : ℕ) (page : Page) → reply.Page page ≡ answer_of log size (Delta None) → IsPagePast (state_of log) 0 (number_of log) size page
page-of-none log size page answer =
    let given = given-page log size None page answer in
    let same : page_past (state_of log) 0 (number_of log) size ≡ given.full = cc (given.is) in
    page-past (state_of log) 0 (number_of log) size (given_for (state_of log) size (asked (state_of log) None)) page given same

-- ---- a token that is served has a page
shown-page : (plain : Bool) (full : Page) → (page : Page) × (shown plain (reply.Page full) ≡ reply.Page page)
shown-page true full = (record full { items = map bare_item full.items }, refl)
shown-page false full = (full, refl)

page-for : (state : State) (size : ℕ) (a : Asked) → is_page a ≡ true → (page : Page) × (shown state.plain (given_for state size a) ≡ reply.Page page)
page-for state size (Past position start) is = shown-page state.plain (page_past state position start size)
page-for state size Latest is = absurd (cc is)
page-for state size Bad is = absurd (cc is)
page-for state size (Lost resync) is = absurd (cc is)

pub served-page : (log : List Step) (size : ℕ) (token : Option (List ℕ)) → is_served_token (state_of log) token ≡ true → (page : Page) × (answer_of log size (Delta token) ≡ reply.Page page)
served-page log size token is =
    let given = page-for (state_of log) size (asked (state_of log) token) is in (
      given.0,
      ap (shown (state_of log).plain) (unless-cond (is_bad (asked (state_of log) token)) (refuse 400 InvalidRequest) (state_of log) size (Delta token)) ∙ given.1,
    )

-- ---- a last page has all that changed
last-link : (epoch start number : ℕ) (last : Option ℕ) (end : List ℕ) → page_link epoch start number last ≡ link.Delta end
    → (last ≡ None) × (end ≡ token_text (record { epoch = epoch; position = number; start = start }))
last-link epoch start number None end is = (refl, cc is)
last-link epoch start number (Some last) end is = absurd (cc is)

first-of-all : (size : ℕ) (changes : List (ℕ × Item)) → last_of size changes ≡ None → first_of size changes ≡ values_of changes
first-of-all size changes is =
    let long : length changes ≤ size = not-below size (length changes) (none-given (nat_lt size (length changes)) (slice_index (keys_of changes) (size - 1)) is) in
    take_all size (values_of changes) (omega (arith, long, length-values_of changes))

pub last-page : (state : State) (position start size : ℕ) (page : Page) (end : List ℕ) → IsPagePast state position start size page → page.link ≡ link.Delta end → IsLastPast state position start page end
last-page state position start size page end past ends =
    let changes : List (ℕ × Item) = feed (held state) position start in
    let last = last-link state.epoch start (held state).number (last_of size (feed (held state) position start)) end (sym past.link ∙ ends) in
    record {
      items = past.items ∙ ap (shown_items state.plain) (first-of-all size (feed (held state) position start) last.0);
      token = last.1;
    }

pub last-of-token : (log : List Step) (size : ℕ) (text end : List ℕ) (token : Token) (page : Page) → token_of_text text ≡ Some token → reply.Page page ≡ answer_of log size (Delta (Some text))
    → page.link ≡ link.Delta end → IsLastPast (state_of log) token.position token.start page end
last-of-token log size text end token page is answer ends =
    last-page (state_of log) token.position token.start size page end (page-of-token log size text token page is answer) ends

pub last-of-none : (log : List Step) (size : ℕ) (end : List ℕ) (page : Page) → reply.Page page ≡ answer_of log size (Delta None) → page.link ≡ link.Delta end
    → IsLastPast (state_of log) 0 (number_of log) page end
last-of-none log size end page answer ends = last-page (state_of log) 0 (number_of log) size page end (page-of-none log size page answer) ends
