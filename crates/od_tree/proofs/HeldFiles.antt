-- What comes of the entries and of the held files where a held file is put back.
use Rattle.std.proofs.Common.{◌≡◌, ℕ, Bool, true, false, cond, nat_eq, List, [], ◌∷◌, ◌++◌, Option, Some, None, refl, ap, sym, ◌∙◌}
use Rattle.od_tree.specs.Local.{Local, held_at, with_spot, without_held, put_back}
use Rattle.od_tree.specs.declared.local.HeldFile.{HeldFile}
use Rattle.od_tree.specs.declared.local.Spot.{Spot}
use Rattle.od_tree.proofs.Staying.{found_number}

pub back_one : (to path : List (List ℕ)) (spots room now : List Spot) (held left : List HeldFile) (aside : ℕ) (file : HeldFile) → path ≡ to → Some file ≡ held_at aside held → left ≡ without_held aside held
    → room ≡ spots → now ≡ room ++ record { path = path; file = Some file.file } ∷ [] → put_back to (record { spots = spots; held = held }) (held_at aside held) ≡ record { spots = now; held = left }
back_one to path spots room now held left aside file same found is_left same_room is =
    let before : Local = record { spots = spots; held = held } in
    let number : file.number ≡ aside = found_number aside held file (sym found) in
    ap (λ (f : Option HeldFile). put_back to before f) (sym found)
    ∙ ap (λ (h : List HeldFile). record { spots = with_spot to (Some file.file) spots; held = h }) (ap (λ n. without_held n held) number ∙ sym is_left)
    ∙ ap (λ (s : List Spot). record { spots = s; held = left }) (sym (is ∙ ap (λ (s : List Spot). s ++ record { path = path; file = Some file.file } ∷ []) same_room ∙ ap (λ (p : List (List ℕ)). spots ++ record { path = p; file = Some file.file } ∷ []) same))

without-none : (b : Bool) (file : HeldFile) (held rest : List HeldFile) (found : Option HeldFile) → cond b (Some file) found ≡ None → (found ≡ None → rest ≡ held) → cond b held (file ∷ rest) ≡ file ∷ held
without-none true file held rest found none later = absurd (cc none)
without-none false file held rest found none later = ap (λ files. file ∷ files) (later none)

without-missing : (aside : ℕ) (held : List HeldFile) → held_at aside held ≡ None → without_held aside held ≡ held
without-missing aside [] none = refl
without-missing aside (file ∷ held) none = without-none (nat_eq file.number aside) file held (without_held aside held) (held_at aside held) none (without-missing aside held)

pub back_none : (to : List (List ℕ)) (spots now : List Spot) (held left : List HeldFile) (aside : ℕ) → now ≡ spots → None ≡ held_at aside held → left ≡ without_held aside held
    → put_back to (record { spots = spots; held = held }) (held_at aside held) ≡ record { spots = now; held = left }
back_none to spots now held left aside same none is_left =
    let before : Local = record { spots = spots; held = held } in
    ap (λ (f : Option HeldFile). put_back to before f) (sym none)
    ∙ ap (λ (s : List Spot). record { spots = s; held = held }) (sym same)
    ∙ ap (λ (h : List HeldFile). record { spots = now; held = h }) (sym (is_left ∙ without-missing aside held (sym none)))
