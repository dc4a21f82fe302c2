-- Each agreement that is committed was so.
use Rattle.std.proofs.Common.{◌≡◌, inl, inr, ⊎_elim, ℕ, ◌+◌, Bool, true, false, cond, is_none, List, [], ◌∷◌, ◌++◌, length, Option, Some, None, refl, ap, sym, subst, ◌∙◌, append_assoc, arith}
use Rattle.std.specs.List.{AllByRecursion, Contains}
use Rattle.std.proofs.lemmas.List.{append-nil, length_push}
use Rattle.std.proofs.lemmas.List.Elements.{Contains-append_cases, Contains-append_left, Contains-append_right, Contains-push_cases}
use Rattle.gd_names.proofs.Each.{each-append, each-so}
use Rattle.gd_item.specs.Inventory.{Effect, MadeFolder, PutNew, PutOver, Moved, Removed, live_at}
use Rattle.gd_item.specs.Nodes.{below}
use Rattle.gd_item.specs.Records.{digest_record}
use Rattle.gd_item.specs.Refused.{Refusal, refusal}
use Rattle.gd_item.specs.Steps.{effects_by, effects_of, held_by, state_of}
use Rattle.gd_item.specs.declared.digest.Digest.{Digest}
use Rattle.gd_item.specs.declared.request.Request.{Request}
use Rattle.gd_item.specs.declared.request.Request.TheVariants.{OpenSession, Delta}
use Rattle.gd_item.specs.declared.step.Step.{Step}
use Rattle.gd_item.specs.declared.step.Step.TheVariants as step
use Rattle.gd_item.specs.declared.step.Who.TheVariants.{Own, Other}
use Rattle.od_keeper.specs.Keeping.{last_image}
use Rattle.od_keeper.specs.declared.image.Agreed.{Agreed}
use Rattle.od_keeper.specs.declared.image.Agreed.TheVariants.{Nothing, Folder, File}
use Rattle.od_keeper.specs.declared.image.BaseRow.{BaseRow}
use Rattle.od_keeper.specs.declared.image.Image.{Image}
use Rattle.od_tree.specs.Local.{Local, after_op, after_step, after_steps, bytes_in, empty_folder, file_at, file_in, local_of, spot_at}
use Rattle.od_tree.specs.Loss.{reading_at, reading_by, readings, readings_after}
use Rattle.od_tree.specs.declared.local.LocalFile.{LocalFile}
use Rattle.od_tree.specs.declared.local.Spot.{Spot}
use Rattle.od_tree.specs.declared.step.LocalStep.{LocalStep}
use Rattle.od_tree.specs.declared.step.LocalStep.TheVariants.{User, Op}
use Rattle.od_tree.specs.declared.step.TreeOp.{TreeOp}
use Rattle.od_tree.specs.declared.step.TreeOp.TheVariants as op
use Rattle.od_tree.proofs.Steps.{local-snoc}
use Rattle.od_run.specs.Acting.{AsPulled, HasFlight, HasFlown, HasRow, IsAt, IsOnItsWay, LegalFrom, May, MayAgree, MayKeep, MayKeepRow}
use Rattle.od_run.specs.Good.{AreSound, Good, IfPulled, IsPulledAt}
use Rattle.od_run.specs.Knowing.{Here, Known, Path, There, after_effects, agreed_bytes, agreed_item, at_known_path, begins, brought_by, here_after, known_path, learn, stands, there_after, there_asked, there_brought, there_heard}
use Rattle.od_run.specs.Truths.{AgreedOnce, BroughtOnce, HadOnce, IsNamed, ReadOnce, StoodOnce, WasSo, WereSo, made_of}
use Rattle.od_run.specs.Worlds.{World, Event, Asked, Worked, Kept, happens, now}
use Rattle.od_run.proofs.Accepting.{asked-same}
use Rattle.od_run.proofs.Among.{among-head, of-each}
use Rattle.od_run.proofs.Goods.{good-after, good-beginning}

-- ---- longer logs
stood-later : (local more : List LocalStep) (path : Path) (what : Agreed) → StoodOnce local path what → StoodOnce (local ++ more) path what
stood-later local more path what once = record {
  first = once.first;
  more = once.more ++ more;
  grown = ap (λ log. log ++ more) once.grown ∙ append_assoc once.first once.more more;
  stood = once.stood;
}

had-later : (drive more : List Step) (path : Path) (what : Agreed) → HadOnce drive path what → HadOnce (drive ++ more) path what
had-later drive more path what once = record {
  first = once.first;
  more = once.more ++ more;
  grown = ap (λ log. log ++ more) once.grown ∙ append_assoc once.first once.more more;
  had = once.had;
}

brought-later : (drive more : List Step) (path : Path) (what : Agreed) → BroughtOnce drive path what → BroughtOnce (drive ++ more) path what
brought-later drive more path what once = record {
  first = once.first;
  request = once.request;
  more = once.more ++ more;
  grown = ap (λ log. log ++ more) once.grown ∙ append_assoc once.first (step.Ask Own once.request true true ∷ once.more) more;
  effect = once.effect;
  effects = once.effects;
  effects_are = once.effects_are;
  named = once.named;
  what_is = once.what_is;
}

readings-more : (at : ℕ) (local : Local) (log more : List LocalStep) → (later : List (Path × List ℕ)) × (readings_after at local (log ++ more) ≡ readings_after at local log ++ later)
readings-more at local [] more = (readings_after at local more, refl)
readings-more at local (step ∷ log) more =
    let rest = readings-more (at + 1) (after_step at local step) log more in
    (rest.0, ap (λ later. reading_by local step ++ later) rest.1 ∙ sym (append_assoc (reading_by local step) (readings_after (at + 1) (after_step at local step) log) rest.0))

pub reading-later : (log more : List LocalStep) (reading : Path × List ℕ) → Contains (readings log) reading → Contains (readings (log ++ more)) reading
reading-later log more reading there =
    let rest = readings-more 0 empty_folder log more in
    subst (λ all. Contains all reading) (sym rest.1) (Contains-append_left (readings log) rest.0 reading there)

readings-last : (at : ℕ) (local : Local) (log : List LocalStep) (last : LocalStep) → readings_after at local (log ++ last ∷ []) ≡ readings_after at local log ++ reading_by (after_steps at local log) last
readings-last at local [] last = append-nil (reading_by local last)
readings-last at local (step ∷ log) last =
    let after : Local = after_step at local step in
    ap (λ later. reading_by local step ++ later) (readings-last (at + 1) after log last)
    ∙ sym (append_assoc (reading_by local step) (readings_after (at + 1) after log) (reading_by (after_steps (at + 1) after log) last))

agreed-later : (drive steps : List Step) (local more : List LocalStep) (path : Path) (what : Agreed) → AgreedOnce drive local path what → AgreedOnce (drive ++ steps) (local ++ more) path what
agreed-later drive steps local more path what once =
    ⊎_elim (λ (nothing : what ≡ Nothing). inl nothing)
    (λ was. inr (
      stood-later local more path what was.0,
      ⊎_elim (λ (had : HadOnce drive path what). inl (had-later drive steps path what had)) (λ (brought : BroughtOnce drive path what). inr (brought-later drive steps path what brought)) was.1,
    )) once

read-later : (local more : List LocalStep) (path : Path) (flight : Option Digest) → ReadOnce local path flight → ReadOnce (local ++ more) path flight
read-later local more path None once = tt
read-later local more path (Some digest) once = (once.0, reading-later local more (path, once.0) once.1, once.2)

row-later : (drive steps : List Step) (local more : List LocalStep) (row : BaseRow) → WasSo drive local row → WasSo (drive ++ steps) (local ++ more) row
row-later drive steps local more row was = record {
  what = agreed-later drive steps local more row.path row.what was.what;
  flight = read-later local more row.path row.flight was.flight;
}

rows-later : (drive steps : List Step) (local more : List LocalStep) (rows : List BaseRow) → AllByRecursion (WasSo drive local) rows → AllByRecursion (WasSo (drive ++ steps) (local ++ more)) rows
rows-later drive steps local more rows were = each-so (WasSo drive local) (WasSo (drive ++ steps) (local ++ more)) (λ row was. row-later drive steps local more row was) rows were

-- ---- what is known was so
abbrev AreStood : List LocalStep → List (Path × Agreed) → Type 0
AreStood local facts = AllByRecursion (λ (fact : Path × Agreed). StoodOnce local fact.0 fact.1) facts

abbrev AreBrought : List Step → List (Path × Agreed) → Type 0
AreBrought drive facts = AllByRecursion (λ (fact : Path × Agreed). BroughtOnce drive fact.0 fact.1) facts

pub record Truth (w : World) (k : Known) : Type 0 where
  pub images : WereSo w.drive w.local w.images
  pub image : AllByRecursion (WasSo w.drive w.local) k.image.rows
  pub stood : AreStood w.local k.here.stood
  pub read : AllByRecursion (Contains (readings w.local)) k.here.read
  pub brought : AreBrought w.drive k.there.brought

images-later : (drive steps : List Step) (local more : List LocalStep) (images : List Image) → WereSo drive local images → WereSo (drive ++ steps) (local ++ more) images
images-later drive steps local more images were =
    each-so (λ (image : Image). AllByRecursion (WasSo drive local) image.rows) (λ (image : Image). AllByRecursion (WasSo (drive ++ steps) (local ++ more)) image.rows)
    (λ image rows. rows-later drive steps local more image.rows rows) images were

all-stood : (local more : List LocalStep) (facts : List (Path × Agreed)) → AreStood local facts → AreStood (local ++ more) facts
all-stood local more facts are =
    each-so (λ (fact : Path × Agreed). StoodOnce local fact.0 fact.1) (λ (fact : Path × Agreed). StoodOnce (local ++ more) fact.0 fact.1) (λ fact once. stood-later local more fact.0 fact.1 once) facts are

pub all-read : (local more : List LocalStep) (facts : List (Path × List ℕ)) → AllByRecursion (Contains (readings local)) facts → AllByRecursion (Contains (readings (local ++ more))) facts
all-read local more facts are = each-so (Contains (readings local)) (Contains (readings (local ++ more))) (λ fact there. reading-later local more fact there) facts are

all-brought : (drive more : List Step) (facts : List (Path × Agreed)) → AreBrought drive facts → AreBrought (drive ++ more) facts
all-brought drive more facts are =
    each-so (λ (fact : Path × Agreed). BroughtOnce drive fact.0 fact.1) (λ (fact : Path × Agreed). BroughtOnce (drive ++ more) fact.0 fact.1) (λ fact once. brought-later drive more fact.0 fact.1 once) facts are

-- ---- what a request brings about
at-child : (Holds : Path × Agreed → Type 0) (known : Option Path) (name : List ℕ) (what : Agreed) → ((above : Path) → Holds (above ++ name ∷ [], what)) → AllByRecursion Holds (at_known_path (below known name) what)
at-child Holds None name what so = tt
at-child Holds (Some above) name what so = (so above, tt)

at-known : (Holds : Path × Agreed → Type 0) (known : Option Path) (what : Agreed) → ((path : Path) → Holds (path, what)) → AllByRecursion Holds (at_known_path known what)
at-known Holds None what so = tt
at-known Holds (Some path) what so = (so path, tt)

module _ (drive : List Step) (k : Known) (request : Request) where
  abbrev asking : Step
  asking = step.Ask Own request true true

  abbrev IsBrought : Path × Agreed → Type 0
  IsBrought fact = BroughtOnce (drive ++ asking ∷ []) fact.0 fact.1

  once : (effect : Effect) (effects : List Effect) (path : Path) (what : Agreed) → effects_by (state_of drive) asking ≡ effect ∷ effects → IsNamed path effect → what ≡ made_of (held_by drive) effect
      → BroughtOnce (drive ++ asking ∷ []) path what
  once effect effects path what are named is =
      record { first = drive; request = request; more = []; grown = refl; effect = effect; effects = effects; effects_are = are; named = named; what_is = is }

  effect-brought : (effect : Effect) (effects : List Effect) → effects_by (state_of drive) asking ≡ effect ∷ effects → AllByRecursion IsBrought (brought_by k (held_by drive) effect)
  effect-brought (MadeFolder parent name) effects are =
      at-child IsBrought (known_path k parent) name Folder (λ above. once (MadeFolder parent name) effects (above ++ name ∷ []) Folder are (above, refl) refl)
  effect-brought (PutNew parent name bytes) effects are =
      at-child IsBrought (known_path k parent) name (File (digest_record bytes))
      (λ above. once (PutNew parent name bytes) effects (above ++ name ∷ []) (File (digest_record bytes)) are (above, refl) refl)
  effect-brought (PutOver number bytes) effects are =
      at-known IsBrought (known_path k number) (File (digest_record bytes)) (λ path. once (PutOver number bytes) effects path (File (digest_record bytes)) are tt refl)
  effect-brought (Moved number parent name) effects are =
      at-child IsBrought (known_path k parent) name (agreed_item (live_at number (held_by drive).items))
      (λ above. once (Moved number parent name) effects (above ++ name ∷ []) (agreed_item (live_at number (held_by drive).items)) are (above, refl) refl)
  effect-brought (Removed number) effects are = tt

  effects-brought : (effects : List Effect) (there : There) → effects_by (state_of drive) asking ≡ effects → AllByRecursion IsBrought there.brought
      → AllByRecursion IsBrought (after_effects k (held_by drive) effects there).brought
  effects-brought [] there are so = so
  effects-brought (effect ∷ effects) there are so =
      each-append IsBrought (brought_by k (held_by drive) effect) there.brought (effect-brought effect effects are) so

abbrev Owns : List Step → Request → Bool → Bool → List Step
Owns drive request served heard = drive ++ step.Ask Own request served heard ∷ []

request-brought : (drive : List Step) (k : Known) (request : Request) (there : There) → effects_by (state_of drive) (step.Ask Own request true true) ≡ effects_of (state_of drive) request
    → AreBrought (Owns drive request true true) there.brought → AreBrought (Owns drive request true true) (there_brought (state_of drive) k request there).brought
request-brought drive k (OpenSession at name behaviour condition defer) there are so = so
request-brought drive k request there are so = effects-brought drive k request (effects_of (state_of drive) request) there are so

unless-refused : (drive : List Step) (k : Known) (request : Request) (there : There) (refused : Option Refusal) → refusal (state_of drive) request ≡ refused
    → AreBrought (Owns drive request true true) there.brought → AreBrought (Owns drive request true true) (cond (is_none refused) (there_brought (state_of drive) k request there) there).brought
unless-refused drive k request there (Some why) is so = so
unless-refused drive k request there None is so =
    request-brought drive k request there (ap (λ why. cond (is_none why) (effects_of (state_of drive) request) []) is) so

heard-brought : (drive : List Step) (k : Known) (request : Request) (served heard : Bool) (there : There) → AreBrought (Owns drive request served heard) there.brought
    → AreBrought (Owns drive request served heard) (there_heard (state_of drive) k request served heard there).brought
heard-brought drive k request true true there so = unless-refused drive k request there (refusal (state_of drive) request) refl so
heard-brought drive k request true false there so = so
heard-brought drive k request false heard there so = so

after-asked : (drive : List Step) (k : Known) (request : Request) (served heard : Bool) → AreBrought drive k.there.brought
    → AreBrought (Owns drive request served heard) (there_heard (state_of drive) k request served heard (there_asked request k.there)).brought
after-asked drive k request served heard so =
    heard-brought drive k request served heard (there_asked request k.there)
    (subst (AreBrought (Owns drive request served heard)) (sym (asked-same request k.there)) (all-brought drive (step.Ask Own request served heard ∷ []) k.there.brought so))

there-brought : (drive : List Step) (k : Known) (request : Request) (served heard : Bool) → AreBrought drive k.there.brought
    → AreBrought (Owns drive request served heard) (there_after drive k request served heard).brought
there-brought drive k (Delta token) served heard so = tt
there-brought drive k request served heard so = after-asked drive k request served heard so

-- ---- what is seen in the folder
stood-now : (first more : List LocalStep) (path : Path) (found : Option Spot) → spot_at path (local_of first).spots ≡ found → AreStood (first ++ more) (stands path found)
stood-now first more path None is = tt
stood-now first more path (Some spot) is =
    let what : Agreed = agreed_bytes (bytes_in spot.file) in (
      record {
        first = first;
        more = more;
        grown = refl;
        stood = subst (λ found. Contains (stands path found) (path, what)) (sym is) (among-head (path, what) []);
      },
      tt,
    )

-- as it is before an operation, and after it
seen-before : (log : List LocalStep) (call : TreeOp) (path : Path) (facts : List (Path × Agreed)) → AreStood log facts
    → AreStood (log ++ Op call ∷ []) (stands path (spot_at path (local_of log).spots) ++ facts)
seen-before log call path facts so =
    each-append (λ (fact : Path × Agreed). StoodOnce (log ++ Op call ∷ []) fact.0 fact.1) (stands path (spot_at path (local_of log).spots)) facts
    (stood-now log (Op call ∷ []) path (spot_at path (local_of log).spots) refl) (all-stood log (Op call ∷ []) facts so)

seen-after : (log : List LocalStep) (call : TreeOp) (path : Path) (facts : List (Path × Agreed)) → AreStood log facts
    → AreStood (log ++ Op call ∷ []) (stands path (spot_at path (after_op (local_of log) call).spots) ++ facts)
seen-after log call path facts so =
    let done : List LocalStep = log ++ Op call ∷ [] in
    let found : Option Spot = spot_at path (after_op (local_of log) call).spots in
    each-append (λ (fact : Path × Agreed). StoodOnce done fact.0 fact.1) (stands path found) facts
    (subst (λ steps. AreStood steps (stands path found)) (append-nil done)
    (stood-now done [] path found (ap (λ (local : Local). spot_at path local.spots) (local-snoc log (Op call))))) (all-stood log (Op call ∷ []) facts so)

abbrev Stands : List LocalStep → Here → TreeOp → Type 0
Stands log here call = AreStood (log ++ Op call ∷ []) (here_after log (local_of log) (after_op (local_of log) call) here call).stood

here-stood : (log : List LocalStep) (here : Here) (call : TreeOp) → AreStood log here.stood → Stands log here call
here-stood log here (op.List []) so = tt
here-stood log here (op.List (name ∷ path)) so = seen-before log (op.List (name ∷ path)) (name ∷ path) here.stood so
here-stood log here (op.Read at) so = seen-before log (op.Read at) at here.stood so
here-stood log here (op.MakeDir at) so = seen-after log (op.MakeDir at) at here.stood so
here-stood log here (op.RemoveDir at) so = all-stood log (Op (op.RemoveDir at) ∷ []) here.stood so
here-stood log here (op.Place at bytes) so = seen-after log (op.Place at bytes) at here.stood so
here-stood log here (op.Rename from to) so = all-stood log (Op (op.Rename from to) ∷ []) here.stood so
here-stood log here (op.SetAside at) so = all-stood log (Op (op.SetAside at) ∷ []) here.stood so
here-stood log here (op.ReadAside aside) so = all-stood log (Op (op.ReadAside aside) ∷ []) here.stood so
here-stood log here (op.PutBack aside to) so = seen-after log (op.PutBack aside to) to here.stood so
here-stood log here (op.Discard aside) so = all-stood log (Op (op.Discard aside) ∷ []) here.stood so
here-stood log here op.Asides so = all-stood log (Op op.Asides ∷ []) here.stood so

-- what is read
among-all : {X : Type 0} (before xs : List X) → AllByRecursion (Contains (before ++ xs)) xs
among-all before [] = tt
among-all before (x ∷ xs) = (
  Contains-append_right before (x ∷ xs) x (among-head x xs),
  subst (λ all. AllByRecursion (Contains all) xs) (append_assoc before (x ∷ []) xs) (among-all (before ++ x ∷ []) xs),
)

newly-read : (log : List LocalStep) (at : Path) → AllByRecursion (Contains (readings (log ++ Op (op.Read at) ∷ []))) (reading_at at (file_at at (local_of log).spots))
newly-read log at =
    subst (λ all. AllByRecursion (Contains all) (reading_at at (file_at at (local_of log).spots))) (sym (readings-last 0 empty_folder log (Op (op.Read at))))
    (among-all (readings log) (reading_at at (file_at at (local_of log).spots)))

abbrev pub Reads : List LocalStep → Here → TreeOp → Type 0
Reads log here call = AllByRecursion (Contains (readings (log ++ Op call ∷ []))) (here_after log (local_of log) (after_op (local_of log) call) here call).read

pub here-read : (log : List LocalStep) (here : Here) (call : TreeOp) → AllByRecursion (Contains (readings log)) here.read → Reads log here call
here-read log here (op.List []) so = tt
here-read log here (op.Read at) so =
    each-append (Contains (readings (log ++ Op (op.Read at) ∷ []))) (reading_at at (file_at at (local_of log).spots)) here.read (newly-read log at)
    (all-read log (Op (op.Read at) ∷ []) here.read so)
here-read log here (op.List (name ∷ path)) so = all-read log (Op (op.List (name ∷ path)) ∷ []) here.read so
here-read log here (op.MakeDir at) so = all-read log (Op (op.MakeDir at) ∷ []) here.read so
here-read log here (op.RemoveDir at) so = all-read log (Op (op.RemoveDir at) ∷ []) here.read so
here-read log here (op.Place at bytes) so = all-read log (Op (op.Place at bytes) ∷ []) here.read so
here-read log here (op.Rename from to) so = all-read log (Op (op.Rename from to) ∷ []) here.read so
here-read log here (op.SetAside at) so = all-read log (Op (op.SetAside at) ∷ []) here.read so
here-read log here (op.ReadAside aside) so = all-read log (Op (op.ReadAside aside) ∷ []) here.read so
here-read log here (op.PutBack aside to) so = all-read log (Op (op.PutBack aside to) ∷ []) here.read so
here-read log here (op.Discard aside) so = all-read log (Op (op.Discard aside) ∷ []) here.read so
here-read log here op.Asides so = all-read log (Op op.Asides ∷ []) here.read so

-- ---- what is committed
had-pulled : (drive : List Step) (token : Option (List ℕ)) (pulled : Option (List Step)) (path : Path) (what : Agreed) → IfPulled (IsPulledAt drive token) pulled
    → AsPulled (λ then. IsAt (held_by then) path what) pulled → HadOnce drive path what
had-pulled drive token None path what at had = absurd had
had-pulled drive token (Some pulled) path what at had = record { first = pulled; more = at.more; grown = at.grown; had = had }

-- what was read stood there
file-stood : (at : Path) (spot : Spot) (file : Option LocalFile) (reading : Path × List ℕ) → spot.file ≡ file → Contains (reading_at at file) reading
    → Contains (stands reading.0 (Some spot)) (reading.0, File (digest_record reading.1))
file-stood at spot None reading is there = absurd (omega (arith, there.1))
file-stood at spot (Some file) reading is there =
    let same : (at, file.bytes) ≡ reading =
    ⊎_elim (λ (none : Contains [] reading). absurd (omega (arith, none.1))) (λ one. one) (Contains-push_cases [] (at, file.bytes) reading there) in
    let bytes : file.bytes ≡ reading.1 = ap (λ (r : Path × List ℕ). r.1) same in
    let what : agreed_bytes (bytes_in spot.file) ≡ File (digest_record reading.1) = ap (λ f. agreed_bytes (bytes_in f)) is ∙ ap (λ b. File (digest_record b)) bytes in
    subst (λ a. Contains (stands reading.0 (Some spot)) (reading.0, a)) what (among-head (reading.0, agreed_bytes (bytes_in spot.file)) [])

path-read : (at : Path) (file : Option LocalFile) (reading : Path × List ℕ) → Contains (reading_at at file) reading → at ≡ reading.0
path-read at None reading there = absurd (omega (arith, there.1))
path-read at (Some file) reading there =
    ap (λ (r : Path × List ℕ). r.0) (⊎_elim (λ (none : Contains [] reading). absurd (omega (arith, none.1))) (λ one. one) (Contains-push_cases [] (at, file.bytes) reading there))

spot-stood : (at : Path) (local : Local) (found : Option Spot) (reading : Path × List ℕ) → spot_at at local.spots ≡ found → Contains (reading_at at (file_in found)) reading
    → Contains (stands reading.0 (spot_at reading.0 local.spots)) (reading.0, File (digest_record reading.1))
spot-stood at local None reading is there = absurd (omega (arith, there.1))
spot-stood at local (Some spot) reading is there =
    let here = file-stood at spot spot.file reading refl there in
    let path : at ≡ reading.0 = path-read at spot.file reading there in
    subst (λ found. Contains (stands reading.0 found) (reading.0, File (digest_record reading.1))) (sym (ap (λ p. spot_at p local.spots) (sym path) ∙ is)) here

step-stood : (local : Local) (step : LocalStep) (reading : Path × List ℕ) → Contains (reading_by local step) reading
    → Contains (stands reading.0 (spot_at reading.0 local.spots)) (reading.0, File (digest_record reading.1))
step-stood local (Op (op.Read at)) reading there = spot-stood at local (spot_at at local.spots) reading refl there
step-stood local (User edit) reading there = absurd (omega (arith, there.1))
step-stood local (Op call) reading there = absurd (omega (arith, there.1))

read-stood : (before log : List LocalStep) (reading : Path × List ℕ) → Contains (readings_after (length before) (local_of before) log) reading → StoodOnce (before ++ log) reading.0 (File (digest_record reading.1))
read-stood before [] reading there = absurd (omega (arith, there.1))
read-stood before (step ∷ log) reading there =
    let after : Local = after_step (length before) (local_of before) step in
    ⊎_elim
    (λ now. record { first = before; more = step ∷ log; grown = refl; stood = step-stood (local_of before) step reading now })
    (λ later.
    let moved : Contains (readings_after (length (before ++ step ∷ [])) (local_of (before ++ step ∷ [])) log) reading =
    subst (λ n. Contains (readings_after n (local_of (before ++ step ∷ [])) log) reading) (sym (length_push before step))
    (subst (λ local. Contains (readings_after (length before + 1) local log) reading) (sym (local-snoc before step)) later) in
    subst (λ steps. StoodOnce steps reading.0 (File (digest_record reading.1))) (append_assoc before (step ∷ []) log) (read-stood (before ++ step ∷ []) log reading moved))
    (Contains-append_cases (reading_by (local_of before) step) (readings_after (length before + 1) after log) reading there)

module _ (w : World) (k : Known) (good : Good w k) (so : Truth w k) where
  flown-so : (path : Path) (what : Agreed) → HasFlown k path what → StoodOnce w.local path what
  flown-so path Nothing flown = absurd flown
  flown-so path Folder flown = absurd flown
  flown-so path (File digest) flown =
      let was : WasSo w.drive w.local flown.0 = of-each (WasSo w.drive w.local) k.image.rows flown.0 so.image flown.1 in
      let once : ReadOnce w.local path (Some digest) = subst (λ p. ReadOnce w.local p (Some digest)) flown.2 (subst (λ f. ReadOnce w.local (flown.0).path f) flown.3 was.flight) in
      subst (λ d. StoodOnce w.local path (File d)) (sym once.2) (read-stood [] w.local (path, once.0) once.1)

  agreed-so : (path : Path) (what : Agreed) → MayAgree k path what → AgreedOnce w.drive w.local path what
  agreed-so path what may =
      ⊎_elim (λ (nothing : what ≡ Nothing). inl nothing)
      (λ rest. ⊎_elim
      (λ (row : HasRow k path what).
      let was : WasSo w.drive w.local row.0 = of-each (WasSo w.drive w.local) k.image.rows row.0 so.image row.1 in
      subst (λ p. AgreedOnce w.drive w.local p what) row.2 (subst (λ a. AgreedOnce w.drive w.local row.0.path a) row.3 was.what))
      (λ seen. inr (
        ⊎_elim (λ stood. of-each (λ (fact : Path × Agreed). StoodOnce w.local fact.0 fact.1) k.here.stood (path, what) so.stood stood) (λ flown. flown-so path what flown) seen.0,
        ⊎_elim (λ had. inl (had-pulled w.drive k.feed.token k.feed.pulled path what good.feed.pulled had))
            (λ did. inr (of-each (λ (fact : Path × Agreed). BroughtOnce w.drive fact.0 fact.1) k.there.brought (path, what) so.brought did)) seen.1,
      )) rest) may

  flight-so : (path : Path) (flight : Option Digest) → IsOnItsWay k path flight → ReadOnce w.local path flight
  flight-so path None may = tt
  flight-so path (Some digest) may =
      ⊎_elim
      (λ (row : HasFlight k path digest).
      let was : WasSo w.drive w.local row.0 = of-each (WasSo w.drive w.local) k.image.rows row.0 so.image row.1 in
      subst (λ p. ReadOnce w.local p (Some digest)) row.2 (subst (λ f. ReadOnce w.local row.0.path f) row.3 was.flight))
      (λ read. (read.0, of-each (Contains (readings w.local)) k.here.read (path, read.0) so.read read.1, read.2)) may

  rows-so : (rows : List BaseRow) → AllByRecursion (MayKeepRow k) rows → AllByRecursion (WasSo w.drive w.local) rows
  rows-so rows may =
      each-so (MayKeepRow k) (WasSo w.drive w.local) (λ row is. record { what = agreed-so row.path row.what is.what; flight = flight-so row.path row.flight is.flight }) rows may

-- ---- each kind of event
drive-so : (w : World) (k : Known) (size : ℕ) (step : Step) (there : There) → AreBrought (w.drive ++ step ∷ []) there.brought → Truth w k → Truth (happens w (Asked size step)) (record k { there = there })
drive-so w k size step there brought so = record {
  images = subst (λ local. WereSo (w.drive ++ step ∷ []) local w.images) (append-nil w.local) (images-later w.drive (step ∷ []) w.local [] w.images so.images);
  image = subst (λ local. AllByRecursion (WasSo (w.drive ++ step ∷ []) local) k.image.rows) (append-nil w.local) (rows-later w.drive (step ∷ []) w.local [] k.image.rows so.image);
  stood = so.stood;
  read = so.read;
  brought = brought;
}

local-so : (w : World) (k : Known) (step : LocalStep) (here : Here) → AreStood (w.local ++ step ∷ []) here.stood → AllByRecursion (Contains (readings (w.local ++ step ∷ []))) here.read → Truth w k
    → Truth (happens w (Worked step)) (record k { here = here })
local-so w k step here stood read so = record {
  images = subst (λ drive. WereSo drive (w.local ++ step ∷ []) w.images) (append-nil w.drive) (images-later w.drive [] w.local (step ∷ []) w.images so.images);
  image = subst (λ drive. AllByRecursion (WasSo drive (w.local ++ step ∷ [])) k.image.rows) (append-nil w.drive) (rows-later w.drive [] w.local (step ∷ []) k.image.rows so.image);
  stood = stood;
  read = read;
  brought = so.brought;
}

asked-so : (w : World) (k : Known) (size : ℕ) (request : Request) (served heard : Bool) → Truth w k
    → Truth (happens w (Asked size (step.Ask Own request served heard))) (learn w k (Asked size (step.Ask Own request served heard)))
asked-so w k size request served heard so =
    let there : There = there_after w.drive k request served heard in
    let next = drive-so w k size (step.Ask Own request served heard) there (there-brought w.drive k request served heard so.brought) so in
    record { images = next.images; image = next.image; stood = next.stood; read = next.read; brought = next.brought }

kept-so : (w : World) (k : Known) (image : Image) → Good w k → Truth w k → MayKeep k image → Truth (happens w (Kept image)) (learn w k (Kept image))
kept-so w k image good so may =
    let rows : AllByRecursion (WasSo w.drive w.local) image.rows = rows-so w k good so image.rows may.rows in
    record {
      images = each-append (λ (i : Image). AllByRecursion (WasSo w.drive w.local) i.rows) w.images (image ∷ []) so.images (rows, tt);
      image = rows;
      stood = so.stood;
      read = so.read;
      brought = so.brought;
    }

so-after : (w : World) (k : Known) (event : Event) → Good w k → Truth w k → May k event → Truth (happens w event) (learn w k event)
so-after w k (Asked size (step.Ask Own request served heard)) good so may = asked-so w k size request served heard so
so-after w k (Asked size (step.Ask Other request served heard)) good so may =
    drive-so w k size (step.Ask Other request served heard) k.there (all-brought w.drive (step.Ask Other request served heard ∷ []) k.there.brought so.brought) so
so-after w k (Asked size (step.Event event)) good so may = drive-so w k size (step.Event event) k.there (all-brought w.drive (step.Event event ∷ []) k.there.brought so.brought) so
so-after w k (Worked (User edit)) good so may =
    local-so w k (User edit) k.here (all-stood w.local (User edit ∷ []) k.here.stood so.stood) (all-read w.local (User edit ∷ []) k.here.read so.read) so
so-after w k (Worked (Op call)) good so may =
    local-so w k (Op call) (here_after w.local (local_of w.local) (after_op (local_of w.local) call) k.here call) (here-stood w.local k.here call so.stood) (here-read w.local k.here call so.read) so
so-after w k (Kept image) good so may = kept-so w k image good so may

so-run : (w : World) (k : Known) (events : List Event) → Good w k → Truth w k → LegalFrom w k events → WereSo (now w events).drive (now w events).local (now w events).images
so-run w k [] good so legal = so.images
so-run w k (event ∷ events) good so legal =
    so-run (happens w event) (learn w k event) events (good-after w k event good legal.0) (so-after w k event good so legal.0) legal.1

last-so : (drive : List Step) (local : List LocalStep) (images : List Image) → WereSo drive local images → AllByRecursion (WasSo drive local) (last_image images).rows
last-so drive local [] were = tt
last-so drive local (image ∷ []) were = were.0
last-so drive local (image ∷ next ∷ images) were = last-so drive local (next ∷ images) were.1

pub were-so : (w : World) (events : List Event) → AreSound w.drive w.images → LegalFrom w (begins w) events → WereSo w.drive w.local w.images
    → WereSo (now w events).drive (now w events).local (now w events).images
were-so w events sound legal were =
    so-run w (begins w) events (good-beginning w sound) (record { images = were; image = last-so w.drive w.local w.images were; stood = tt; read = tt; brought = tt }) legal
