-- The lines of a script that were read, before those that follow.
use Rattle.std.proofs.Common.{◌≡◌, ℕ, ◌+◌, ◌<◌, Bool, true, false, ◌&&◌, cond, List, [], ◌∷◌, ◌++◌, length, drop, get_or, Option, Some, None, Result, Ok, Err, sym, refl, ap, ◌∙◌, subst}
use Rattle.std.specs.Option.{option_map}
use Rattle.std.specs.Str.{is_utf8}
use Rattle.std.proofs.lemmas.List.{append_assoc, drop_more}
use Rattle.od_cli.specs.declared.line.Line.{Line}
use Rattle.od_cli.specs.Following.{are_allowed, can_follow, is_allowed}
use Rattle.od_cli.specs.Script.{allowed, command, following, is_silent, line_of, lines_of, joined, script, script_from, still_followed}

-- the lines that were read, before the others
abbrev pub after_lines : List Line → Result (List Line) ℕ → Result (List Line) ℕ
after_lines lines (Ok others) = Ok (lines ++ others)
after_lines lines (Err bad) = Err bad

after_joined : (lines found : List Line) (number : ℕ) (others : Result (List Line) ℕ) → after_lines lines (joined number (Some found) others) ≡ after_lines (lines ++ found) others
after_joined lines found number (Ok others) = ap (λ xs. Ok xs) (sym (append_assoc lines found others))
after_joined lines found number (Err bad) = refl

-- one more line was read
pub line_read : (whole : Result (List Line) ℕ) (lines found next : List Line) (number index : ℕ) (followed after : Bool) (texts : List (List ℕ)) (item text : List ℕ)
    → index < length texts → item ≡ get_or texts index item → text ≡ item → line_of followed text ≡ Some found → after ≡ still_followed followed found → next ≡ lines ++ found
    → whole ≡ after_lines lines (script_from number followed (drop index texts)) → whole ≡ after_lines next (script_from (number + 1) after (drop (index + 1) texts))
line_read whole lines found next number index followed after texts item text inside is same read follows more before =
    let rest : Bool → Result (List Line) ℕ = λ f. script_from (number + 1) f (drop (index + 1) texts) in
    let cut : drop index texts ≡ text ∷ drop (index + 1) texts = drop_more texts index item inside ∙ ap (λ (x : List ℕ). x ∷ drop (index + 1) texts) (sym is ∙ sym same) in
    before
    ∙ (ap (λ (xs : List (List ℕ)). after_lines lines (script_from number followed xs)) cut
    ∙ (ap (λ (line : Option (List Line)). after_lines lines (joined number line (following followed line rest))) read
    ∙ (after_joined lines found number (rest (still_followed followed found)) ∙ ap (λ (xs : List Line). after_lines xs (rest (still_followed followed found))) (sym more)
    ∙ ap (λ f. after_lines next (rest f)) (sym follows))))

-- ---- each line of a script is allowed where it stands
allowed-line : (followed may : Bool) (line : Line) (found others : List Line) → is_allowed followed line ≡ may → option_map (λ (l : Line). l ∷ []) (cond may (Some line) None) ≡ Some found
    → are_allowed (still_followed followed found) others ≡ true → are_allowed followed (found ++ others) ≡ true
allowed-line followed true line found others is read rest =
    let one : line ∷ [] ≡ found = cc read in
    let P : List Line → Type 0 = λ ls. are_allowed (still_followed followed ls) others ≡ true → are_allowed followed (ls ++ others) ≡ true in
    subst P one (λ after. ap (λ b. b && are_allowed (can_follow line && followed) others) is ∙ after) rest
allowed-line followed false line found others is read rest = absurd (cc read)

allowed-found : (followed utf8 silent : Bool) (read : Option Line) (found others : List Line) → cond utf8 (cond silent (Some []) (option_map (λ (l : Line). l ∷ []) (allowed followed read))) None ≡ Some found
    → are_allowed (still_followed followed found) others ≡ true → are_allowed followed (found ++ others) ≡ true
allowed-found followed false silent read found others is rest = absurd (cc is)
allowed-found followed true true read found others is rest =
    let none : [] ≡ found = cc is in
    let P : List Line → Type 0 = λ ls. are_allowed (still_followed followed ls) others ≡ true → are_allowed followed (ls ++ others) ≡ true in
    subst P none (λ after. after) rest
allowed-found followed true false None found others is rest = absurd (cc is)
allowed-found followed true false (Some line) found others is rest = allowed-line followed (is_allowed followed line) line found others refl is rest

allowed-rest : (number : ℕ) (followed : Bool) (text : List ℕ) (found : List Line) (after : Result (List Line) ℕ) (lines : List Line)
    → ((rest : List Line) → after ≡ Ok rest → are_allowed (still_followed followed found) rest ≡ true) → line_of followed text ≡ Some found → joined number (Some found) after ≡ Ok lines → are_allowed followed lines ≡ true
allowed-rest number followed text found (Ok rest) lines so read is =
    let all : found ++ rest ≡ lines = cc is in
    subst (λ (ls : List Line). are_allowed followed ls ≡ true) all (allowed-found followed (is_utf8 text) (is_silent text) (command text) found rest read (so rest refl))
allowed-rest number followed text found (Err bad) lines so read is = absurd (cc is)

allowed-joined : (number : ℕ) (followed : Bool) (text : List ℕ) (found : Option (List Line)) (others : Bool → Result (List Line) ℕ) (lines : List Line)
    → ((after : Bool) (rest : List Line) → others after ≡ Ok rest → are_allowed after rest ≡ true) → line_of followed text ≡ found → joined number found (following followed found others) ≡ Ok lines
    → are_allowed followed lines ≡ true
allowed-joined number followed text None others lines so read is = absurd (cc is)
allowed-joined number followed text (Some found) others lines so read is =
    allowed-rest number followed text found (others (still_followed followed found)) lines (λ rest e. so (still_followed followed found) rest e) read is

allowed-from : (number : ℕ) (followed : Bool) (texts : List (List ℕ)) (lines : List Line) → script_from number followed texts ≡ Ok lines → are_allowed followed lines ≡ true
allowed-from number followed [] lines is = let none : [] ≡ lines = cc is in subst (λ (ls : List Line). are_allowed followed ls ≡ true) none refl
allowed-from number followed (text ∷ texts) lines is =
    allowed-joined number followed text (line_of followed text) (λ after. script_from (number + 1) after texts) lines (λ after rest e. allowed-from (number + 1) after texts rest e) refl is

pub script-allowed : (text : List ℕ) (lines given : List Line) → script text ≡ Ok lines → given ≡ lines → are_allowed true given ≡ true
script-allowed text lines given is same =
    ap (λ (ls : List Line). are_allowed true ls) same ∙ allowed-from 1 true (lines_of text) lines is
