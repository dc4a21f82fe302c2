-- What the three kinds of step make of a path on a side, by what stands there and what is to stand there.
use Rattle.std.proofs.Common.{◌≡◌, ℕ, Bool, true, false, not, ◌&&◌, ◌||◌, cond, is_none, is_some, List, Option, Some, None, refl, ap, sym}
use Rattle.std.proofs.lemmas.Bool.{false≢true}
use Rattle.std.specs.Cmp.Lexicographic.{same_text}
use Rattle.od_merge.specs.declared.content.Content.{Content}
use Rattle.od_merge.specs.declared.content.Content.TheVariants.{Folder, File}
use Rattle.od_merge.specs.Sides.{same, is_folder, is_file, is_other_kind}

pub same-nodes : (a b : Option Content) → same a b ≡ true → a ≡ b
same-nodes None None is = refl
same-nodes None (Some b) is = absurd (false≢true is)
same-nodes (Some a) None is = absurd (false≢true is)
same-nodes (Some Folder) (Some Folder) is = refl
same-nodes (Some Folder) (Some (File d)) is = absurd (false≢true is)
same-nodes (Some (File d)) (Some Folder) is = absurd (false≢true is)
same-nodes (Some (File None)) (Some (File other)) is = absurd (false≢true is)
same-nodes (Some (File (Some d))) (Some (File None)) is = absurd (false≢true is)
same-nodes (Some (File (Some d))) (Some (File (Some e))) is = ap (λ (bytes : List ℕ). Some (File (Some (record { 0 = bytes })))) (same_text d.0 e.0 (sym is))

-- what is known of a path of a side, with what stands there, whether it is kept and whether it goes
pub record Going (x t : Option Content) (kept going : Bool) : Type 0 where
  pub goes : going ≡ true → (kept ≡ true) × ((is_none t || is_other_kind x t) ≡ true)
  pub file_goes : is_file x ≡ true → kept ≡ true → (is_none t || is_other_kind x t) ≡ true → going ≡ true
  pub file_kept : is_file x ≡ true → is_some t ≡ true → kept ≡ true
  pub folder_goes : is_folder x ≡ true → is_file t ≡ true → (kept ≡ true) × (going ≡ true)

-- a file that is to stand there is put there exactly where it does not stand there yet
pub made : (x t : Option Content) (kept going put : Bool) → Going x t kept going
    → (is_file t ≡ false → put ≡ false) → (is_file t ≡ true → put ≡ false → t ≡ x)
    → cond put t (cond (is_folder t && not (is_folder x)) (Some Folder) (cond going None x)) ≡ cond (is_some x && not kept || is_folder x && not going) x t
made None None kept true put is no_put stays = rw (no_put refl) refl
made None None kept false put is no_put stays = rw (no_put refl) refl
made (Some Folder) None kept true put is no_put stays = rw (no_put refl, (is.goes refl).0) refl
made (Some Folder) None true false put is no_put stays = rw (no_put refl) refl
made (Some Folder) None false false put is no_put stays = rw (no_put refl) refl
made (Some (File d)) None kept true put is no_put stays = rw (no_put refl, (is.goes refl).0) refl
made (Some (File d)) None true false put is no_put stays = absurd (false≢true (is.file_goes refl refl refl))
made (Some (File d)) None false false put is no_put stays = rw (no_put refl) refl
made None (Some Folder) kept going put is no_put stays = rw (no_put refl) refl
made (Some Folder) (Some Folder) kept true put is no_put stays = absurd (false≢true (is.goes refl).1)
made (Some Folder) (Some Folder) true false put is no_put stays = rw (no_put refl) refl
made (Some Folder) (Some Folder) false false put is no_put stays = rw (no_put refl) refl
made (Some (File d)) (Some Folder) kept going put is no_put stays = rw (no_put refl, is.file_kept refl refl) refl
made None (Some (File e)) kept going true is no_put stays = refl
made None (Some (File e)) kept going false is no_put stays = absurd (cc (stays refl refl))
made (Some Folder) (Some (File e)) kept going true is no_put stays = rw ((is.folder_goes refl refl).0, (is.folder_goes refl refl).1) refl
made (Some Folder) (Some (File e)) kept going false is no_put stays = absurd (cc (stays refl refl))
made (Some (File d)) (Some (File e)) kept true put is no_put stays = absurd (false≢true (is.goes refl).1)
made (Some (File d)) (Some (File e)) kept false true is no_put stays = rw (is.file_kept refl refl) refl
made (Some (File d)) (Some (File e)) kept false false is no_put stays = rw (is.file_kept refl refl) (sym (stays refl refl))
