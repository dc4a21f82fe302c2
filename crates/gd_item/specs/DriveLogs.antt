-- Some short logs of drives, and what of a reply tells it from others.
use Rattle.std.specs.Prelude.{ℕ, zero, suc, true, false, List, [], ◌∷◌, ◌++◌, length, map, replicate, codes, Option, Some, None}
use Rattle.gd_names.specs.declared.conflict.Conflict.TheVariants.{Fail, Replace}
use Rattle.std.specs.Fmt.{decimal}
use Rattle.gd_item.specs.Ids.{item_id}
use Rattle.gd_item.specs.Inventory.{Effect, PutNew}
use Rattle.gd_item.specs.Sessions.{State, new_state}
use Rattle.gd_item.specs.declared.condition.Condition.{Condition}
use Rattle.gd_item.specs.declared.condition.Condition.TheVariants.{Free}
use Rattle.gd_item.specs.declared.item.Item.{Item}
use Rattle.gd_item.specs.declared.reply.PageLink.{PageLink}
use Rattle.gd_item.specs.declared.reply.Reply.{Reply}
use Rattle.gd_item.specs.declared.reply.Reply.TheVariants as reply
use Rattle.gd_item.specs.declared.request.Address.TheVariants.{ByPath}
use Rattle.gd_item.specs.declared.request.Request.{Request}
use Rattle.gd_item.specs.declared.request.Request.TheVariants.{MakeFolder, Put, Patch, Delete, OpenSession, Fragment, CancelSession, Finish}
use Rattle.gd_item.specs.declared.step.DriveEvent.TheVariants.{Expire, Restore, Plain}
use Rattle.gd_item.specs.declared.step.Step.{Step}
use Rattle.gd_item.specs.declared.step.Step.TheVariants.{Ask, Event}
use Rattle.gd_item.specs.declared.step.Who.TheVariants.{Own, Other}

-- another client's request, which is served and heard
abbrev pub other : Request → Step
other request = Ask Other request true true

-- the request that puts a file at a path, and that makes a folder in another one
abbrev pub put_at : List (List ℕ) → List ℕ → Request
put_at path bytes = Put (ByPath path) bytes Replace Free

abbrev pub folder_at : List (List ℕ) → List ℕ → Request
folder_at path name = MakeFolder (ByPath path) name Fail

-- the request that moves what is at a path to a folder and a name, that gives it another name, and that removes it
abbrev pub move_to : List (List ℕ) → ℕ → List ℕ → Request
move_to path parent name = Patch (ByPath path) (Some name) (Some (item_id parent)) Free

abbrev pub rename_at : List (List ℕ) → List ℕ → Request
rename_at path name = Patch (ByPath path) (Some name) None Free

abbrev pub remove_at : List (List ℕ) → Request
remove_at path = Delete (ByPath path) Free

-- the request that puts a file where none is yet, and that begins to send one
abbrev pub put_new : List (List ℕ) → List ℕ → Condition → Request
put_new path bytes condition = Put (ByPath path) bytes Fail condition

abbrev pub send_new : List (List ℕ) → Request
send_new path = OpenSession (ByPath path) None Fail Free false

-- the same where the file is made by a request of its own
abbrev pub defer_new : List (List ℕ) → Request
defer_new path = OpenSession (ByPath path) None Fail Free true

-- a folder `a` and a folder `b` in it
abbrev pub moved_folder_log : List Step
moved_folder_log = other (folder_at [] (codes "a")) ∷ other (folder_at (codes "a" ∷ []) (codes "b")) ∷ []

-- two files in the root
abbrev pub two_files_log : List Step
two_files_log = other (put_at (codes "a" ∷ []) (codes "x")) ∷ other (put_at (codes "b" ∷ []) (codes "y")) ∷ []

-- one of the two files got two other names, one after the other
abbrev pub renamed_log : List Step
renamed_log = two_files_log ++ other (move_to (codes "a" ∷ []) 1 (codes "c")) ∷ other (move_to (codes "c" ∷ []) 1 (codes "d")) ∷ []

-- three files in the root
abbrev pub three_files_log : List Step
three_files_log = two_files_log ++ other (put_at (codes "c" ∷ []) (codes "z")) ∷ []

-- a file was removed, and the tokens of before no longer serve
abbrev pub expired_log : List Step
expired_log = two_files_log ++ other (remove_at (codes "a" ∷ [])) ∷ Event (Expire 4) ∷ []

-- two files were put, one of them twice more, and tokens below 4 do not serve
abbrev pub floor_log : List Step
floor_log =
    two_files_log ++ other (put_at (codes "a" ∷ []) (codes "z")) ∷ other (put_at (codes "a" ∷ []) (codes "y")) ∷ Event (Expire 4) ∷ []

-- a folder `d` and a file `f` in it
abbrev pub folder_log : List Step
folder_log = other (folder_at [] (codes "d")) ∷ other (put_at (codes "d" ∷ codes "f" ∷ []) (codes "x")) ∷ []

-- a folder with one below it is moved into another folder
abbrev pub nested_log : List Step
nested_log =
    other (folder_at [] (codes "a")) ∷ other (folder_at (codes "a" ∷ []) (codes "f")) ∷ other (folder_at [] (codes "b")) ∷ other (move_to (codes "a" ∷ []) 4 (codes "a")) ∷ []

-- a folder is moved below itself, which is refused, gets its name in upper case, and is removed by its old name
abbrev pub one_folder_log : List Step
one_folder_log =
    other (folder_at [] (codes "a")) ∷ other (move_to (codes "a" ∷ []) 2 (codes "x")) ∷ other (move_to (codes "a" ∷ []) 1 (codes "A")) ∷ other (remove_at (codes "a" ∷ [])) ∷ []

-- one of the two files was removed, and after it the drive was restored
abbrev pub removed_file_log : List Step
removed_file_log = two_files_log ++ other (remove_at (codes "a" ∷ [])) ∷ []

abbrev pub restored_log : List Step
restored_log = removed_file_log ++ Event Restore ∷ []

-- three files whose order by name is another one than that of their numbers
abbrev pub letters_log : List Step
letters_log = other (put_at (codes "c" ∷ []) (codes "x")) ∷ other (put_at (codes "B" ∷ []) (codes "y")) ∷ other (put_at (codes "a" ∷ []) (codes "z")) ∷ []

-- a put that lacked memory, and one whose reply was lost
abbrev pub unlucky_log : List Step
unlucky_log = Ask Other (put_at (codes "a" ∷ []) (codes "x")) false true ∷ Ask Other (put_at (codes "b" ∷ []) (codes "y")) true false ∷ []

-- a file that is put so many times
abbrev pub putting_log : ℕ → List ℕ → List Step
putting_log times bytes = replicate times (other (put_at (codes "f" ∷ []) bytes))

-- a session for a file `s` in the root
abbrev pub opened_log : List Step
opened_log = other (send_new (codes "s" ∷ [])) ∷ []

-- and another client's put of the name
abbrev pub overtaken_log : List Step
overtaken_log = opened_log ++ other (put_at (codes "s" ∷ []) (codes "x")) ∷ []

-- a session that this client opens, and a request of another client's that names it
abbrev pub meddled_log : List Step
meddled_log = Ask Own (send_new (codes "s" ∷ [])) true true ∷ other (CancelSession 1) ∷ []

-- the ten bytes of the session's file at once
abbrev pub ten_bytes : Request
ten_bytes = Fragment 1 0 9 10 (codes "0123456789")

-- a deferred session for a file `s` in the root, and then its ten bytes, and then the request that makes the file
abbrev pub deferred_log : List Step
deferred_log = other (defer_new (codes "s" ∷ [])) ∷ []

abbrev pub filled_log : List Step
filled_log = deferred_log ++ other ten_bytes ∷ []

abbrev pub finished_log : List Step
finished_log = filled_log ++ other (Finish 1) ∷ []

-- a file in the root of a drive that became plain
abbrev pub plain_log : List Step
plain_log = Event Plain ∷ other (put_at (codes "a" ∷ []) (codes "x")) ∷ []

-- the three fragments of a file of 655,361 bytes
abbrev pub first_part : List ℕ → Request
first_part bytes = Fragment 1 0 327679 655361 bytes

abbrev pub second_part : List ℕ → Request
second_part bytes = Fragment 1 327680 655359 655361 bytes

abbrev pub third_part : List ℕ → Request
third_part bytes = Fragment 1 655360 655360 655361 bytes

-- one, two and three of them were sent, the second one twice
abbrev pub begun_log : List ℕ → List Step
begun_log a = opened_log ++ other (first_part a) ∷ []

abbrev pub two_parts_log : List ℕ → List ℕ → List Step
two_parts_log a b = begun_log a ++ other (second_part b) ∷ []

abbrev pub sent_log : List ℕ → List ℕ → List ℕ → List Step
sent_log a b c = two_parts_log a b ++ other (second_part b) ∷ other (third_part c) ∷ []

-- the number and the name of each item that a reply names
abbrev pub number_and_name : Item → ℕ × List ℕ
number_and_name item = (item.id.0, item.name)

abbrev pub named_by : Reply → List (ℕ × List ℕ)
named_by (reply.Made item) = number_and_name item ∷ []
named_by (reply.Is item) = number_and_name item ∷ []
named_by (reply.Listed items next) = map number_and_name items
named_by (reply.Page page) = map number_and_name page.items
named_by other = []

-- the name after which the next list begins
abbrev pub next_of : Reply → Option (List ℕ)
next_of (reply.Listed items next) = next
next_of other = None

-- the link at the end of a page
abbrev pub link_of : Reply → Option PageLink
link_of (reply.Page page) = Some page.link
link_of other = None

-- what a drive has come to that has so many files in its root
abbrev pub files_put : ℕ → List Effect
files_put zero = []
files_put (suc n) = PutNew 1 (decimal n) [] ∷ files_put n

abbrev pub many_files : ℕ → State
many_files n = record new_state { effects = files_put n }

-- how many records a page has
abbrev pub records_in : Reply → ℕ
records_in (reply.Page page) = length page.items
records_in r = 0
