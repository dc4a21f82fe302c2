-- Folder after folder and file after file: what is made so far, and what is left to make, are all that is to be made.
use Rattle.std.proofs.Common.{◌≡◌, inl, inr, ℕ, ◌+◌, ◌<◌, Bool, true, false, cond, List, [], ◌∷◌, ◌++◌, length, map, take, drop, get_or, add-one, zero, suc, Option, Some, None, Ok, refl, ap, sym, subst, ◌∙◌, append_assoc}
use Rattle.std.proofs.Math.Seq.{drop-cons}
use Rattle.std.proofs.lemmas.List.{append-nil, map-append, take_more, take_at, drop_at}
use Rattle.std.proofs.lemmas.List.Elements.{All-nil, All-cons, All-append, All-contains, All-take, All-drop, Contains-get_or}
use Rattle.std.specs.List.{All, AllByRecursion, AllZip, Contains}
use Rattle.std.specs.Option.{option_to_list}
use Rattle.gd_item.specs.Records.{digest_record}
use Rattle.od_keeper.specs.Sound.{IsAccepted}
use Rattle.od_keeper.specs.declared.image.Agreed.TheVariants as agreed
use Rattle.od_keeper.specs.declared.image.BaseRow.{BaseRow}
use Rattle.od_transfer.specs.declared.job.Outcome.{Outcome}
use Rattle.od_transfer.specs.declared.job.Outcome.TheVariants.{Fetched, Changed, Refused, Lost}
use Rattle.od_tree.specs.Calls.{Calls, Refuses}
use Rattle.od_tree.specs.Local.{Local, local_of, with_spot}
use Rattle.od_tree.specs.Undisturbed.{NoUser}
use Rattle.od_tree.specs.declared.edit.UserEdit.{UserEdit}
use Rattle.od_tree.specs.declared.fault.TreeFault.{TreeFault}
use Rattle.od_tree.specs.declared.local.Spot.{Spot}
use Rattle.od_tree.specs.declared.step.LocalStep.{LocalStep}
use Rattle.od_tree.specs.declared.step.LocalStep.TheVariants.{User, Op}
use Rattle.od_tree.specs.declared.step.TreeOp.{TreeOp}
use Rattle.od_tree.specs.declared.step.TreeOp.TheVariants as op
use Rattle.od_sync.specs.Doing.{AreRowsOf, CanMake, CanPlace, CanStand, GivesRows, IsBroughtTo, IsBytes, IsFetchFit, IsFileAt, IsFolderOf, IsMakingOf, IsPathOf, Makes, MakesAll, NoFile, NoFolder, PlacesAll, PlacesThese, file_spot, folder_spot, placed_file, placed_files, placed_in, placed_row, row_of_file}
use Rattle.od_sync.specs.Making.{MakesNext, PlacesFetched, bytes_of}
use Rattle.od_sync.specs.declared.planning.Fetching.{Fetching}
use Rattle.od_sync.proofs.Made.{in-two, makes-so, makes-then}

-- ---- folders
-- the folders that are left can be made, and make the whole
pub record MakesLeft (folders left : List (List (List ℕ))) (before now : Option (List LocalStep)) (barred : List (List (List ℕ))) : Type 0 where
  pub all : (old part : List LocalStep) → before ≡ Some old → now ≡ Some (old ++ part) → NoUser part → CanMake (local_of old).spots folders
      → (barred ≡ []) × CanMake (local_of (old ++ part)).spots left × ((local_of (old ++ part)).spots ++ map folder_spot left ≡ (local_of old).spots ++ map folder_spot folders)

none-made : (log : Option (List LocalStep)) (old part : List LocalStep) → log ≡ Some old → log ≡ Some (old ++ part) → old ++ part ≡ old
none-made log old part told grown = cc (sym told ∙ grown)

pub makes-first : (folders : List (List (List ℕ))) (log : Option (List LocalStep)) (barred : List (List (List ℕ))) → barred ≡ [] → MakesLeft folders folders log log barred
makes-first folders log barred none = record {
  all = λ old part told grown alone can.
      let same : old ≡ old ++ part = sym (none-made log old part told grown) in
      (none, subst (λ steps. CanMake (local_of steps).spots folders) same can, ap (λ steps. (local_of steps).spots ++ map folder_spot folders) (sym same));
}

abbrev MadeSo : List (List (List ℕ)) → List (List (List ℕ)) → List (List (List ℕ)) → List Spot → List LocalStep → Type 0
MadeSo barred folders left spots log =
    (barred ≡ []) × CanMake (local_of log).spots left × ((local_of log).spots ++ map folder_spot left ≡ spots ++ map folder_spot folders)

makes-next : {IsFolder NowFolder : List (List ℕ) → Type 0} {IsFile NowFile : List (List ℕ) → List ℕ → Type 0} (folders left : List (List (List ℕ))) (path : List (List ℕ))
    (before now after : Option (List LocalStep)) (barred barred_now : List (List (List ℕ)))
    → MakesLeft folders (path ∷ left) before now barred → Makes IsFolder IsFile before now → Makes NowFolder NowFile now after → MakesNext path barred barred_now now after
    → MakesLeft folders left before after barred_now
makes-next folders left path before now after barred barred_now so_far first second next = record {
  all = λ old part told grown alone can.
      let two = in-two before now after old part first second told grown alone in
      let one = so_far.all old two.first told two.now_is two.alone_first can in
      let made = next.one (old ++ two.first) two.second two.now_is two.after_is two.alone_second one.0 one.1.0 in
      subst (MadeSo barred_now folders left (local_of old).spots) two.whole (
        made.0,
        subst (λ spots. CanMake spots left) (sym made.1) one.1.1,
        ap (λ spots. spots ++ map folder_spot left) made.1 ∙ append_assoc (local_of (old ++ two.first)).spots (folder_spot path ∷ []) (map folder_spot left) ∙ one.2,
      );
}

pub makes-more : {IsFolder NowFolder : List (List ℕ) → Type 0} {IsFile NowFile : List (List ℕ) → List ℕ → Type 0} (folders : List (List (List ℕ))) (i : ℕ) (path : List (List ℕ))
    (before now after : Option (List LocalStep)) (barred barred_now : List (List (List ℕ))) → i < length folders → path ≡ get_or folders i path
    → MakesLeft folders (drop i folders) before now barred → Makes IsFolder IsFile before now → Makes NowFolder NowFile now after → MakesNext path barred barred_now now after
    → MakesLeft folders (drop (i + 1) folders) before after barred_now
makes-more folders i path before now after barred barred_now inside is so_far first second next =
    let here : drop i folders ≡ path ∷ drop (i + 1) folders =
    drop-cons folders i path inside ∙ (ap (λ y. y ∷ drop (suc i) folders) (sym is) ∙ ap (λ j. path ∷ drop j folders) (sym (add-one i)))
    in
    makes-next folders (drop (i + 1) folders) path before now after barred barred_now (subst (λ left. MakesLeft folders left before now barred) here so_far) first second next

pub makes-last : (folders left : List (List (List ℕ))) (before now : Option (List LocalStep)) (barred : List (List (List ℕ))) → left ≡ [] → MakesLeft folders left before now barred → MakesAll folders before now barred
makes-last folders left before now barred none so_far = record {
  all = λ old part told grown alone can.
      let one = so_far.all old part told grown alone can in
      (one.0, sym (append-nil (local_of (old ++ part)).spots) ∙ (ap (λ paths. (local_of (old ++ part)).spots ++ map folder_spot paths) (sym none) ∙ one.2));
}

-- the next folder that is made is among them
folder-among : (folders : List (List (List ℕ))) (i : ℕ) (path at : List (List ℕ)) → i < length folders → path ≡ get_or folders i path → IsFolderOf (path ∷ []) at → IsFolderOf folders at
folder-among folders i path at inside is one =
    let here : Contains folders path = subst (Contains folders) (sym is) (Contains-get_or folders i path inside) in
    All-contains (Contains folders) (path ∷ []) at (All-cons (Contains folders) path [] here (All-nil (Contains folders))) one

pub folder-then : (folders : List (List (List ℕ))) (i : ℕ) (path : List (List ℕ)) (before now after : Option (List LocalStep)) → i < length folders → path ≡ get_or folders i path
    → Makes (IsFolderOf folders) NoFile before now → Makes (IsFolderOf (path ∷ [])) NoFile now after → Makes (IsFolderOf folders) NoFile before after
folder-then folders i path before now after inside is first second =
    makes-then before now after first (makes-so now after (λ at one. folder-among folders i path at inside is one) (λ at bytes none. none) second)

-- ---- files
-- the files that are left can be placed, and make the whole
pub record FilesLeft (fetches : List Fetching) (outcomes : List Outcome) (spots whole : List Spot) : Type 0 where
  pub files : List (List (List ℕ) × List ℕ)
  pub paths : AllZip IsPathOf fetches files
  pub bytes : AllZip IsBytes outcomes files
  pub can : CanPlace spots files
  pub spots_are : spots ++ map file_spot files ≡ whole

pub record PlacesLeft (batch fetches : List Fetching) (came outcomes : List Outcome) (before now : Option (List LocalStep)) : Type 0 where
  pub all : (files : List (List (List ℕ) × List ℕ)) (old part : List LocalStep) → before ≡ Some old → now ≡ Some (old ++ part) → NoUser part
      → AllZip IsPathOf batch files → AllZip IsBytes came files → CanPlace (local_of old).spots files
      → FilesLeft fetches outcomes (local_of (old ++ part)).spots ((local_of old).spots ++ map file_spot files)

pub places-first : (batch : List Fetching) (came : List Outcome) (log : Option (List LocalStep)) → PlacesLeft batch batch came came log log
places-first batch came log = record {
  all = λ files old part told grown alone paths bytes can.
      let same : old ≡ old ++ part = sym (none-made log old part told grown) in
      record {
        files = files;
        paths = paths;
        bytes = bytes;
        can = subst (λ steps. CanPlace (local_of steps).spots files) same can;
        spots_are = ap (λ steps. (local_of steps).spots ++ map file_spot files) (sym same);
      };
}

left-after : (fetch : Fetching) (fetches : List Fetching) (outcome : Outcome) (outcomes : List Outcome) (files : List (List (List ℕ) × List ℕ)) (spots now whole : List Spot) → AllZip IsPathOf (fetch ∷ fetches) files
    → AllZip IsBytes (outcome ∷ outcomes) files → CanPlace spots files → spots ++ map file_spot files ≡ whole
    → ((bytes : List ℕ) → bytes_of outcome ≡ Some bytes → CanStand fetch.path spots → now ≡ with_spot fetch.path (Some (placed_file bytes)) spots) → FilesLeft fetches outcomes now whole
left-after fetch fetches outcome outcomes [] spots now whole paths bytes can are placed = absurd paths
left-after fetch fetches outcome outcomes (file ∷ files) spots now whole paths bytes can are placed =
    let here : CanStand fetch.path spots = subst (λ path. CanStand path spots) (sym paths.0) can.0 in
    let now_is : now ≡ with_spot file.0 (Some (placed_file file.1)) spots =
    placed file.1 (ap bytes_of bytes.0) here ∙ ap (λ path. with_spot path (Some (placed_file file.1)) spots) paths.0
    in
    record {
      files = files;
      paths = paths.1;
      bytes = bytes.1;
      can = subst (λ those. CanPlace those files) (sym now_is) can.1;
      spots_are = ap (λ those. those ++ map file_spot files) now_is ∙ append_assoc spots (file_spot file ∷ []) (map file_spot files) ∙ are;
    }

places-next : {IsFolder NowFolder : List (List ℕ) → Type 0} {IsFile NowFile : List (List ℕ) → List ℕ → Type 0} (batch fetches : List Fetching) (came outcomes : List Outcome) (fetch : Fetching)
    (outcome : Outcome) (fetched : Option (List ℕ)) (before now after : Option (List LocalStep)) → fetched ≡ bytes_of outcome
    → PlacesLeft batch (fetch ∷ fetches) came (outcome ∷ outcomes) before now → Makes IsFolder IsFile before now → Makes NowFolder NowFile now after → PlacesFetched fetch fetched now after
    → PlacesLeft batch fetches came outcomes before after
places-next batch fetches came outcomes fetch outcome fetched before now after is so_far first second next = record {
  all = λ files old part told grown alone paths bytes can.
      let two = in-two before now after old part first second told grown alone in
      let one = so_far.all files old two.first told two.now_is two.alone_first paths bytes can in
      let whole : List Spot = (local_of old).spots ++ map file_spot files in
      subst (λ steps. FilesLeft fetches outcomes (local_of steps).spots whole) two.whole
      (left-after fetch fetches outcome outcomes one.files (local_of (old ++ two.first)).spots (local_of ((old ++ two.first) ++ two.second)).spots whole one.paths one.bytes one.can one.spots_are
      (λ these came_so here. next.one these (old ++ two.first) two.second (is ∙ came_so) two.now_is two.after_is two.alone_second here));
}

first-left : {X : Type 0} (xs : List X) (i : ℕ) (x : X) → i < length xs → x ≡ get_or xs i x → drop i xs ≡ x ∷ drop (i + 1) xs
first-left xs i x inside is = drop-cons xs i x inside ∙ (ap (λ y. y ∷ drop (suc i) xs) (sym is) ∙ ap (λ j. x ∷ drop j xs) (sym (add-one i)))

pub places-more : {IsFolder NowFolder : List (List ℕ) → Type 0} {IsFile NowFile : List (List ℕ) → List ℕ → Type 0} (batch : List Fetching) (came : List Outcome) (i : ℕ) (fetch : Fetching) (outcome : Outcome)
    (fetched : Option (List ℕ)) (before now after : Option (List LocalStep)) → i < length batch → fetch ≡ get_or batch i fetch → i < length came → outcome ≡ get_or came i outcome → fetched ≡ bytes_of outcome
    → PlacesLeft batch (drop i batch) came (drop i came) before now → Makes IsFolder IsFile before now → Makes NowFolder NowFile now after → PlacesFetched fetch fetched now after
    → PlacesLeft batch (drop (i + 1) batch) came (drop (i + 1) came) before after
places-more batch came i fetch outcome fetched before now after inside is inside_came is_came same so_far first second next =
    places-next batch (drop (i + 1) batch) came (drop (i + 1) came) fetch outcome fetched before now after same
    (subst (λ left. PlacesLeft batch left came (outcome ∷ drop (i + 1) came) before now) (first-left batch i fetch inside is)
    (subst (λ left. PlacesLeft batch (drop i batch) came left before now) (first-left came i outcome inside_came is_came) so_far))
    first second next

-- the bytes that come for the next path are among those that came
file-here : (fetch : Fetching) (fetches : List Fetching) (outcome : Outcome) (outcomes : List Outcome) (at : List (List ℕ)) (bytes : List ℕ) → IsFileAt fetch.path (bytes_of outcome) at bytes
    → IsBroughtTo (fetch ∷ fetches) (outcome ∷ outcomes) at bytes
file-here fetch fetches (Fetched these) outcomes at bytes is = inl (is.0, ap Fetched (cc is.1))
file-here fetch fetches Changed outcomes at bytes is = absurd (cc is.1)
file-here fetch fetches (Refused code) outcomes at bytes is = absurd (cc is.1)
file-here fetch fetches Lost outcomes at bytes is = absurd (cc is.1)

brought-none : (fetches : List Fetching) (at : List (List ℕ)) (bytes : List ℕ) → IsBroughtTo fetches [] at bytes → ⊥
brought-none [] at bytes brought = brought
brought-none (fetch ∷ fetches) at bytes brought = brought

brought-later : (i : ℕ) (fetches : List Fetching) (outcomes : List Outcome) (at : List (List ℕ)) (bytes : List ℕ) → IsBroughtTo (drop i fetches) (drop i outcomes) at bytes → IsBroughtTo fetches outcomes at bytes
brought-later zero fetches outcomes at bytes brought = brought
brought-later (suc i) [] outcomes at bytes brought = brought
brought-later (suc i) (fetch ∷ fetches) [] at bytes brought = absurd (brought-none (drop i fetches) at bytes brought)
brought-later (suc i) (fetch ∷ fetches) (outcome ∷ outcomes) at bytes brought = inr (brought-later i fetches outcomes at bytes brought)

file-among : (batch : List Fetching) (came : List Outcome) (i : ℕ) (fetch : Fetching) (outcome : Outcome) (at : List (List ℕ)) (bytes : List ℕ)
    → i < length batch → fetch ≡ get_or batch i fetch → i < length came → outcome ≡ get_or came i outcome → IsFileAt fetch.path (bytes_of outcome) at bytes → IsBroughtTo batch came at bytes
file-among batch came i fetch outcome at bytes inside is inside_came is_came here =
    brought-later i batch came at bytes
    (subst (λ fetches. IsBroughtTo fetches (drop i came) at bytes) (sym (first-left batch i fetch inside is))
    (subst (λ outcomes. IsBroughtTo (fetch ∷ drop (i + 1) batch) outcomes at bytes) (sym (first-left came i outcome inside_came is_came))
    (file-here fetch (drop (i + 1) batch) outcome (drop (i + 1) came) at bytes here)))

pub file-then : (batch : List Fetching) (came : List Outcome) (i : ℕ) (fetch : Fetching) (outcome : Outcome) (fetched : Option (List ℕ)) (before now after : Option (List LocalStep))
    → i < length batch → fetch ≡ get_or batch i fetch → i < length came → outcome ≡ get_or came i outcome → fetched ≡ bytes_of outcome
    → Makes NoFolder (IsBroughtTo batch came) before now → Makes NoFolder (IsFileAt fetch.path fetched) now after → Makes NoFolder (IsBroughtTo batch came) before after
file-then batch came i fetch outcome fetched before now after inside is inside_came is_came same first second =
    makes-then before now after first
    (makes-so now after (λ at none. none)
    (λ at bytes here. file-among batch came i fetch outcome at bytes inside is inside_came is_came (here.0, sym same ∙ here.1)) second)

none-left : (fetches : List Fetching) (files : List (List (List ℕ) × List ℕ)) → fetches ≡ [] → AllZip IsPathOf fetches files → files ≡ []
none-left [] [] none zip = refl
none-left [] (file ∷ files) none zip = absurd zip
none-left (fetch ∷ fetches) files none zip = absurd (cc none)

pub places-last : (batch fetches : List Fetching) (came outcomes : List Outcome) (before now : Option (List LocalStep)) → fetches ≡ [] → PlacesLeft batch fetches came outcomes before now → PlacesAll batch came before now
places-last batch fetches came outcomes before now none so_far = record {
  all = λ files old part told grown alone paths bytes can.
      let one = so_far.all files old part told grown alone paths bytes can in
      sym (append-nil (local_of (old ++ part)).spots)
      ∙ (ap (λ (those : List (List (List ℕ) × List ℕ)). (local_of (old ++ part)).spots ++ map file_spot those) (sym (none-left fetches one.files none one.paths)) ∙ one.spots_are);
}

-- ---- the files that steps placed
pub placed-append : (a b : List LocalStep) → placed_files (a ++ b) ≡ placed_files a ++ placed_files b
placed-append [] b = refl
placed-append (step ∷ a) b = ap (λ files. placed_in step ++ files) (placed-append a b) ∙ sym (append_assoc (placed_in step) (placed_files a) (placed_files b))

folder-places : (IsFolder : List (List ℕ) → Type 0) (step : LocalStep) → IsMakingOf IsFolder NoFile step → placed_in step ≡ []
folder-places IsFolder (User edit) makes = refl
folder-places IsFolder (Op (op.List at)) makes = refl
folder-places IsFolder (Op (op.Read at)) makes = refl
folder-places IsFolder (Op (op.MakeDir at)) makes = refl
folder-places IsFolder (Op (op.RemoveDir at)) makes = refl
folder-places IsFolder (Op (op.Place at bytes)) makes = absurd makes
folder-places IsFolder (Op (op.Rename from to)) makes = refl
folder-places IsFolder (Op (op.SetAside at)) makes = refl
folder-places IsFolder (Op (op.ReadAside aside)) makes = refl
folder-places IsFolder (Op (op.PutBack aside to)) makes = refl
folder-places IsFolder (Op (op.Discard aside)) makes = refl
folder-places IsFolder (Op op.Asides) makes = refl

pub places-none : (IsFolder : List (List ℕ) → Type 0) (part : List LocalStep) → AllByRecursion (IsMakingOf IsFolder NoFile) part → placed_files part ≡ []
places-none IsFolder [] makes = refl
places-none IsFolder (step ∷ part) makes = ap (λ files. files ++ placed_files part) (folder-places IsFolder step makes.0) ∙ places-none IsFolder part makes.1

edits-place : (edits : List UserEdit) → placed_files (map (λ (edit : UserEdit). User edit) edits) ≡ []
edits-place [] = refl
edits-place (edit ∷ edits) = edits-place edits

pub these-one : {T : Type 0} (path : List (List ℕ)) (bytes : List ℕ) (Value : Local → T → Type 0) (before after : Option (List LocalStep)) (x : T) → Calls (op.Place path bytes) Value before after (Ok x)
    → PlacesThese ((path, bytes) ∷ []) before after
these-one path bytes Value before after x calls = record {
  told = λ old told.
      let done = calls.ok old told in
      let steps : List LocalStep = map (λ (edit : UserEdit). User edit) done.0 in
      record {
        part = steps ++ Op (op.Place path bytes) ∷ [];
        grown = done.1 ∙ ap (λ log. Some log) (append_assoc old steps (Op (op.Place path bytes) ∷ []));
        placed = placed-append steps (Op (op.Place path bytes) ∷ []) ∙ ap (λ files. files ++ (path, bytes) ∷ []) (edits-place done.0);
      };
}

pub these-none : (call : TreeOp) (before after : Option (List LocalStep)) (fault : TreeFault) → Refuses call before after fault → PlacesThese [] before after
these-none call before after fault refuses = record {
  told = λ old told.
      let done = refuses old told in
      record { part = map (λ (edit : UserEdit). User edit) done.0; grown = done.1; placed = edits-place done.0 };
}

-- ---- the rows of what was placed
given-these : (rows : List BaseRow) (files : List (List (List ℕ) × List ℕ)) (before after : Option (List LocalStep)) → rows ≡ map row_of_file files → PlacesThese files before after → GivesRows rows before after
given-these rows files before after are these = record {
  told = λ old told.
      let placed = these.told old told in
      record { part = placed.part; grown = placed.grown; rows_are = are ∙ ap (map row_of_file) (sym placed.placed) };
}

pub given-one : (fetch : Fetching) (bytes : List ℕ) (row : BaseRow) (before after : Option (List LocalStep)) (placed : Bool) → placed ≡ true → row ≡ placed_row fetch → digest_record bytes ≡ fetch.digest
    → PlacesThese (cond placed ((fetch.path, bytes) ∷ []) []) before after → GivesRows (row ∷ []) before after
given-one fetch bytes row before after placed is row_is fit these =
    given-these (row ∷ []) ((fetch.path, bytes) ∷ []) before after
    (ap (λ (r : BaseRow). r ∷ []) (row_is ∙ ap (λ digest. record { path = fetch.path; what = agreed.File digest; flight = None }) (sym fit)))
    (subst (λ p. PlacesThese (cond p ((fetch.path, bytes) ∷ []) []) before after) is these)

pub given-refused : (files : List (List (List ℕ) × List ℕ)) (before after : Option (List LocalStep)) (placed : Bool) → placed ≡ false → PlacesThese (cond placed files []) before after → GivesRows [] before after
given-refused files before after placed is these = given-these [] [] before after refl (subst (λ p. PlacesThese (cond p files []) before after) is these)

given-then : (rows more : List BaseRow) (before now after : Option (List LocalStep)) → GivesRows rows before now → GivesRows more now after → GivesRows (rows ++ more) before after
given-then rows more before now after first second = record {
  told = λ old told.
      let one = first.told old told in
      let two = second.told (old ++ one.part) one.grown in
      record {
        part = one.part ++ two.part;
        grown = two.grown ∙ ap (λ log. Some log) (append_assoc old one.part two.part);
        rows_are =
            ap (λ those. those ++ more) one.rows_are
            ∙ (ap (λ those. map row_of_file (placed_files one.part) ++ those) two.rows_are
            ∙ (sym (map-append row_of_file (placed_files one.part) (placed_files two.part)) ∙ ap (map row_of_file) (sym (placed-append one.part two.part))));
      };
}

pub given-more : (rows now : List BaseRow) (row : Option BaseRow) (before middle after : Option (List LocalStep)) → now ≡ rows ++ option_to_list row → GivesRows rows before middle
    → GivesRows (option_to_list row) middle after → GivesRows now before after
given-more rows now row before middle after is first second =
    subst (λ those. GivesRows those before after) (sym is) (given-then rows (option_to_list row) before middle after first second)

-- ---- what came of a fetch has its digest
bytes-fit : (fetch : Fetching) (outcome : Outcome) (bytes : List ℕ) → IsFetchFit fetch outcome → bytes_of outcome ≡ Some bytes → digest_record bytes ≡ fetch.digest
bytes-fit fetch (Fetched these) bytes fit is = subst (λ b. digest_record b ≡ fetch.digest) (cc is) fit
bytes-fit fetch Changed bytes fit is = absurd (cc is)
bytes-fit fetch (Refused code) bytes fit is = absurd (cc is)
bytes-fit fetch Lost bytes fit is = absurd (cc is)

fits-left : (i : ℕ) (batch : List Fetching) (came : List Outcome) → AllZip IsFetchFit batch came → AllZip IsFetchFit (drop i batch) (drop i came)
fits-left zero batch came fits = fits
fits-left (suc i) [] [] fits = tt
fits-left (suc i) [] (outcome ∷ came) fits = absurd fits
fits-left (suc i) (fetch ∷ batch) [] fits = absurd fits
fits-left (suc i) (fetch ∷ batch) (outcome ∷ came) fits = fits-left i batch came fits.1

pub fit-here : (batch : List Fetching) (came : List Outcome) (i : ℕ) (fetch : Fetching) (outcome : Outcome) (fetched : Option (List ℕ)) (bytes : List ℕ) → i < length batch → fetch ≡ get_or batch i fetch
    → i < length came → outcome ≡ get_or came i outcome → fetched ≡ bytes_of outcome → AllZip IsFetchFit batch came → fetched ≡ Some bytes → digest_record bytes ≡ fetch.digest
fit-here batch came i fetch outcome fetched bytes inside is inside_came is_came same fits came_so =
    let here : AllZip IsFetchFit (fetch ∷ drop (i + 1) batch) (outcome ∷ drop (i + 1) came) =
    subst (λ left. AllZip IsFetchFit left (outcome ∷ drop (i + 1) came)) (first-left batch i fetch inside is)
    (subst (λ left. AllZip IsFetchFit (drop i batch) left) (first-left came i outcome inside_came is_came) (fits-left i batch came fits))
    in
    bytes-fit fetch outcome bytes here.0 (sym same ∙ came_so)

-- ---- the rows are those of accepted bytes
pub all-front : {X : Type 0} (P : X → Type 0) (xs ys : List X) → All P (xs ++ ys) → All P xs
all-front P xs ys all = subst (λ zs. All P zs) (take_at xs ys (length xs) refl) (All-take P (length xs) (xs ++ ys) all)

pub all-back : {X : Type 0} (P : X → Type 0) (xs ys : List X) → All P (xs ++ ys) → All P ys
all-back P xs ys all = subst (λ zs. All P zs) (drop_at xs ys (length xs) refl) (All-drop P (length xs) (xs ++ ys) all)

pub rows-then : (fetches more : List Fetching) (rows others : List BaseRow) → AreRowsOf fetches rows → AreRowsOf more others → AreRowsOf (fetches ++ more) (rows ++ others)
rows-then fetches more rows others first second = λ versions accepted.
    All-append (λ (row : BaseRow). IsAccepted versions row.what) rows others
    (first versions (all-front (λ (fetch : Fetching). IsAccepted versions (agreed.File fetch.digest)) fetches more accepted))
    (second versions (all-back (λ (fetch : Fetching). IsAccepted versions (agreed.File fetch.digest)) fetches more accepted))

pub rows-more : (batch : List Fetching) (i : ℕ) (fetch : Fetching) (rows now : List BaseRow) (row : Option BaseRow) → i < length batch → fetch ≡ get_or batch i fetch → now ≡ rows ++ option_to_list row
    → AreRowsOf (take i batch) rows → AreRowsOf (fetch ∷ []) (option_to_list row) → AreRowsOf (take (i + 1) batch) now
rows-more batch i fetch rows now row inside is is_now so_far one =
    let here : take (i + 1) batch ≡ take i batch ++ fetch ∷ [] = take_more batch i fetch inside ∙ ap (λ f. take i batch ++ f ∷ []) (sym is) in
    subst (λ those. AreRowsOf (take (i + 1) batch) those) (sym is_now)
    (subst (λ fetches. AreRowsOf fetches (rows ++ option_to_list row)) (sym here) (rows-then (take i batch) (fetch ∷ []) rows (option_to_list row) so_far one))
