-- The generated script, line by line. Each of these texts is whole lines, with LF at the end of each.
use Rattle.std.specs.Prelude.{ℕ, zero, suc, ◌+◌, ◌/◌, ◌%◌, if◌then◌else◌, List, [], ◌∷◌, ◌++◌, codes, nat_eq}
use Rattle.std.specs.List.{flat_map}
use Rattle.std.specs.Fmt.{decimal}

-- the numbers from 0 to the one before n
abbrev pub up_to : ℕ → List ℕ
up_to zero = []
up_to (suc n) = up_to n ++ n ∷ []

-- a number below 100 in two digits
abbrev pub two_digits : ℕ → List ℕ
two_digits k = decimal (k / 10) ++ decimal (k % 10)

abbrev pub rule_text : ℕ → List ℕ
rule_text i = codes "rule /d" ++ decimal i ++ codes "*\n"

abbrev pub folder_text : ℕ → List ℕ
folder_text j = codes "other mkdir /d" ++ two_digits j ++ codes "\n"

-- every tenth file has a name that the rules skip
abbrev pub ending : ℕ → List ℕ
ending i = if nat_eq (i % 10) 9 then codes ".tmp" else codes ".txt"

abbrev pub name_and_content : ℕ → List ℕ
name_and_content i = codes "f" ++ decimal i ++ ending i ++ codes " \"" ++ decimal i ++ codes "\"\n"

-- the file of a number stands in the folder of its remainder by 90, and holds the number
abbrev pub file_text : ℕ → List ℕ
file_text i = codes "other put /d" ++ two_digits (i % 90) ++ codes "/" ++ name_and_content i

-- a file of the user, and one of another client, in the folder of a number
abbrev pub user_text : ℕ → List ℕ
user_text k = codes "user write /d" ++ two_digits k ++ codes "/u.txt \"u\"\n"

abbrev pub other_text : ℕ → List ℕ
other_text k = codes "other put /d" ++ two_digits k ++ codes "/o.txt \"o\"\n"

-- both of them, in the folder after that of a number
abbrev pub edits_text : ℕ → List ℕ
edits_text i = user_text (i + 1) ++ other_text (i + 1)

-- the script for n files
abbrev pub generated : ℕ → List ℕ
generated n = codes "workers 4\nrule !*.tmp\n" ++ flat_map rule_text (up_to 9)
    ++ flat_map folder_text (up_to 90)
    ++ flat_map file_text (up_to n)
    ++ codes "sync\nuser write /d00/f0.txt \"mine\"\nother put /d00/f0.txt \"theirs\"\n"
    ++ flat_map edits_text (up_to 11)
    ++ codes "sync\ncount\nrequests\n"
