-- Each line leads a run on.
use Rattle.std.proofs.Common.{◌≡◌, ℕ, Bool, true, false, ◌&&◌, List, [], ◌∷◌, ◌++◌, length, drop, Option, Some, None, refl, sym, ap, ◌∙◌, subst, ◌⊎◌, inl, inr, append-nil}
use Rattle.std.proofs.lemmas.Bool.{and_parts}
use Rattle.std.specs.List.{list_all}
use Rattle.gd_item.specs.declared.request.Request.{Request}
use Rattle.gd_item.specs.declared.step.Step.{Step}
use Rattle.gd_item.specs.declared.step.DriveEvent.{DriveEvent}
use Rattle.gd_item.specs.declared.step.Step.TheVariants.{Event}
use Rattle.od_keeper.specs.Keeping.{last_image}
use Rattle.od_keeper.specs.Memory as keeper
use Rattle.od_keeper.specs.declared.image.Image.{Image}
use Rattle.od_sync.specs.Syncs.{HasServable}
use Rattle.od_keeper.specs.declared.memory.MemoryKeeper.{MemoryKeeper}
use Rattle.od_tree.specs.Memory as tree
use Rattle.od_tree.specs.declared.memory.MemoryTree.{MemoryTree}
use Rattle.od_tree.specs.declared.step.LocalStep.{LocalStep}
use Rattle.gd_laws.specs.Served.{is_token_safe}
use Rattle.gd_laws.proofs.Tokens.{served-stays}
use Rattle.od_cli.specs.Played.{line_steps, line_text, request_steps}
use Rattle.od_cli.specs.Plays.{Plays}
use Rattle.od_cli.specs.Pulling.{others_steps}
use Rattle.od_cli.specs.Runs.{Run, Goes, local_text, requests_text}
use Rattle.od_cli.specs.RunStates.{PlaysTo, StandsFor}
use Rattle.od_cli.specs.Worlds.{WorldValue, page_size}
use Rattle.od_cli.specs.declared.line.Line.{Line}
use Rattle.od_cli.specs.declared.line.Line.TheVariants.{Page, Local, Requests}

-- what a request adds leaves a token served
pub request-safe : (asked : Option Request) → list_all is_token_safe (request_steps asked) ≡ true
request-safe None = refl
request-safe (Some request) = refl

pub others-safe : (requests : List Request) → list_all is_token_safe (others_steps requests) ≡ true
others-safe [] = refl
others-safe (request ∷ requests) = others-safe requests

-- a line of other clients, a pull or `drive`
module _ (before after : WorldValue) (folder : MemoryTree) (kept : MemoryKeeper) (counted : ℕ) (followed : Bool) (line given : Line) (old new : List ℕ) (is : given ≡ line)
    (goes : (run : Run) → Goes run line (record run { drive = run.drive ++ line_steps run.drive run.size line }) (line_text run.drive run.size line)) (plays : Plays before after old new line)
    (safe : (run : Run) → list_all is_token_safe (line_steps run.drive run.size line) ≡ true) where
  leads : (run : Run) → StandsFor before folder kept counted followed run → PlaysTo after folder kept counted followed run line old new
  leads run stands =
      let grown : after.log ≡ run.drive ++ line_steps run.drive run.size line =
      ap (λ (w : WorldValue). w.log) plays.world ∙ ap (λ (l : List Step). l ++ line_steps l before.size line) stands.drive ∙ ap (λ n. run.drive ++ line_steps run.drive n line) stands.size in
      record {
        next = record run { drive = run.drive ++ line_steps run.drive run.size line };
        text = line_text run.drive run.size line;
        stands = record {
          drive = grown;
          size = ap (λ (w : WorldValue). w.size) plays.world ∙ stands.size;
          followed_is = stands.followed_is;
          local = stands.local;
          images = stands.images;
          counted_is = stands.counted_is;
          alone = stands.alone;
          steady = stands.steady;
          no_link_faults = ap (λ (w : WorldValue). w.faults) plays.world ∙ stands.no_link_faults;
          no_tree_faults = stands.no_tree_faults;
          no_keeper_faults = stands.no_keeper_faults;
          pages = stands.pages;
          servable = λ is_followed. served-stays run.drive (line_steps run.drive run.size line) (last_image run.images).token (safe run) (stands.servable is_followed);
        };
        goes = goes run;
        printed = plays.printed ∙ ap (λ (l : List Step). old ++ line_text l before.size line) stands.drive ∙ ap (λ n. old ++ line_text run.drive n line) stands.size;
      }

  pub other-leads : (run : Run) → StandsFor before folder kept counted followed run → PlaysTo after folder kept counted followed run given old new
  other-leads run stands = let P : Line → Type 0 = λ l. PlaysTo after folder kept counted followed run l old new in subst P (sym is) (leads run stands)

-- `local`
pub local-leads : (world : WorldValue) (folder : MemoryTree) (kept : MemoryKeeper) (counted : ℕ) (followed : Bool) (given : Line) (old new : List ℕ) → given ≡ Local → ((local : List LocalStep) → tree.log_of folder ≡ Some local → new ≡ old ++ local_text local)
    → (run : Run) → StandsFor world folder kept counted followed run → PlaysTo world folder kept counted followed run given old new
local-leads world folder kept counted followed given old new is printed run stands =
    let P : Line → Type 0 = λ l. PlaysTo world folder kept counted followed run l old new in
    subst P (sym is) (record { next = run; text = local_text run.local; stands = stands; goes = (refl, refl); printed = printed run.local stands.local })

-- `requests`
pub requests-lead : (world : WorldValue) (folder : MemoryTree) (kept : MemoryKeeper) (counted now : ℕ) (followed : Bool) (given : Line) (steps : List Step) (old new : List ℕ) → given ≡ Requests → now ≡ length world.log
    → steps ≡ drop counted world.log → new ≡ old ++ requests_text steps → (run : Run) → StandsFor world folder kept counted followed run → PlaysTo world folder kept now followed run given old new
requests-lead world folder kept counted now followed given steps old new is all after printed run stands =
    let P : Line → Type 0 = λ l. PlaysTo world folder kept now followed run l old new in
    let told : steps ≡ drop run.counted run.drive = after ∙ ap (λ n. drop n world.log) stands.counted_is ∙ ap (λ (l : List Step). drop run.counted l) stands.drive in
    subst P (sym is) (record {
      next = record run { counted = length run.drive };
      text = requests_text (drop run.counted run.drive);
      stands = record {
        drive = stands.drive;
        size = stands.size;
        followed_is = stands.followed_is;
        local = stands.local;
        images = stands.images;
        counted_is = all ∙ ap (λ (l : List Step). length l) stands.drive;
        alone = stands.alone;
        steady = stands.steady;
        no_link_faults = stands.no_link_faults;
        no_tree_faults = stands.no_tree_faults;
        no_keeper_faults = stands.no_keeper_faults;
        pages = stands.pages;
        servable = stands.servable;
      };
      goes = (refl, refl);
      printed = printed ∙ ap (λ (s : List Step). old ++ requests_text s) told;
    })

-- an event leaves a token served, or this client follows the drive no more
still-served : (log : List Step) (happens : DriveEvent) (follow followed : Bool) (image : Image) → (list_all is_token_safe (Event happens ∷ []) ≡ true) ⊎ (follow ≡ false) → (followed ≡ true → HasServable image log)
    → (follow && followed) ≡ true → HasServable image (log ++ Event happens ∷ [])
still-served log happens true followed image (inl safe) servable both_so = served-stays log (Event happens ∷ []) image.token safe (servable both_so)
still-served log happens false followed image (inl safe) servable both_so = absurd (cc both_so)
still-served log happens true followed image (inr no_more) servable both_so = absurd (cc no_more)
still-served log happens false followed image (inr no_more) servable both_so = absurd (cc both_so)

-- what happens to the drive
module _ (before after : WorldValue) (folder folder_after : MemoryTree) (kept kept_after : MemoryKeeper) (counted counted_after : ℕ) (followed followed_after : Bool) (out : List ℕ)
    (same_folder : folder_after ≡ folder) (same_kept : kept_after ≡ kept) (same_counted : counted_after ≡ counted) where
  -- the objects of a run but the drive are as they were
  module _ (run next : Run) (stands : StandsFor before folder kept counted followed run) (local : next.local ≡ run.local) (images : next.images ≡ run.images) (told : next.counted ≡ run.counted)
      (faults : after.faults ≡ before.faults) (log : after.log ≡ next.drive) (size : after.size ≡ next.size) (follows : followed_after ≡ next.followed)
      (pages : next.followed ≡ true → next.size ≡ page_size) (servable : next.followed ≡ true → HasServable (last_image next.images) next.drive) where
    pub stands-on : StandsFor after folder_after kept_after counted_after followed_after next
    stands-on = record {
      drive = log;
      size = size;
      followed_is = follows;
      local = ap tree.log_of same_folder ∙ stands.local ∙ ap (λ (l : List LocalStep). Some l) (sym local);
      images = ap keeper.images_of same_kept ∙ stands.images ∙ ap (λ (is : List Image). Some is) (sym images);
      counted_is = same_counted ∙ stands.counted_is ∙ sym told;
      alone = ap tree.is_undisturbed same_folder ∙ stands.alone;
      steady = ap keeper.is_undisturbed same_kept ∙ stands.steady;
      no_link_faults = faults ∙ stands.no_link_faults;
      no_tree_faults = ap tree.faults_of same_folder ∙ stands.no_tree_faults;
      no_keeper_faults = ap keeper.faults_of same_kept ∙ stands.no_keeper_faults;
      pages = pages;
      servable = servable;
    }

  -- `expire` and `restore`, which this client cannot follow
  module _ (line given : Line) (happens : DriveEvent) (is : given ≡ line) (world : after ≡ record before { log = before.log ++ Event happens ∷ [] }) where
    log-after : (run : Run) → StandsFor before folder kept counted followed run → after.log ≡ run.drive ++ Event happens ∷ []
    log-after run stands = ap (λ (w : WorldValue). w.log) world ∙ ap (λ (l : List Step). l ++ Event happens ∷ []) stands.drive

    pub event-leads : (follow : Bool) → followed_after ≡ (follow && followed) → (list_all is_token_safe (Event happens ∷ []) ≡ true) ⊎ (follow ≡ false)
        → ((run : Run) → Goes run line (record run { drive = run.drive ++ Event happens ∷ []; followed = follow && run.followed }) [])
        → (run : Run) → StandsFor before folder kept counted followed run → PlaysTo after folder_after kept_after counted_after followed_after run given out out
    event-leads follow follows safe goes run stands =
        let P : Line → Type 0 = λ l. PlaysTo after folder_after kept_after counted_after followed_after run l out out in
        let next : Run = record run { drive = run.drive ++ Event happens ∷ []; followed = follow && run.followed } in
        subst P (sym is) (record {
          next = next;
          text = [];
          stands =
              stands-on run next stands refl refl refl (ap (λ (w : WorldValue). w.faults) world) (log-after run stands) (ap (λ (w : WorldValue). w.size) world ∙ stands.size)
              (follows ∙ ap (λ f. follow && f) stands.followed_is) (λ both_so. stands.pages (and_parts follow run.followed both_so).1) (still-served run.drive happens follow run.followed (last_image run.images) safe stands.servable);
          goes = goes run;
          printed = sym (append-nil out);
        })

  -- `page`, after which this client does not sync
  pub page-leads : (given : Line) (size : ℕ) → given ≡ Page size → after ≡ record before { size = size } → followed_after ≡ false
      → (run : Run) → StandsFor before folder kept counted followed run → PlaysTo after folder_after kept_after counted_after followed_after run given out out
  page-leads given size is world follows run stands =
      let P : Line → Type 0 = λ l. PlaysTo after folder_after kept_after counted_after followed_after run l out out in
      let next : Run = record run { size = size; followed = false } in
      subst P (sym is) (record {
        next = next;
        text = [];
        stands =
            stands-on run next stands refl refl refl (ap (λ (w : WorldValue). w.faults) world) (ap (λ (w : WorldValue). w.log) world ∙ stands.drive) (ap (λ (w : WorldValue). w.size) world) follows (λ both_so. absurd (cc both_so)) (λ both_so. absurd (cc both_so));
        goes = (refl, refl);
        printed = sym (append-nil out);
      })
